-- What is said is what was told with the list and the marks of the place. Assumes nothing.
use Rattle.std.proofs.Common.{◌≡◌, length, take, drop, ◌++◌, ap, sym, ◌∙◌}
use Rattle.std.proofs.lemmas.List.{take_at}
use Rattle.runs.specs.Plates.{state}
use Rattle.runs.specs.Replies.{told, told_of}
use Rattle.runs.specs.Said.{said}
use Rattle.runs.proofs.Replied.{said_alike}
use Rattle.runs.proofs.running.answer_one.Goals as goal

pub returns : goal.returns
returns g c =
    let made = c.carry_out-after in
    let reply = made.result.1 in
    let list = c.emptied-list.result.0 in
    let marks = c.emptied-list.result.1 in
    let start = state c.args.plate c.args.cells.now c.args.groups.now c.args.first.now
    c.args.second.now c.args.entries.now in
    let end = state made.result.0 made.new.cells made.new.groups made.new.first made.new.second
    made.new.entries in
    let cells_back : take list.len (made.new.list ++ drop (length made.new.list) list.items)
    ≡ made.new.list =
    take_at made.new.list (drop (length made.new.list) list.items) list.len
    (made.auto.list ∙ c.deref_mut.ensures.len) in
    let marks_back : take marks.len (made.new.marks ++ drop (length made.new.marks) marks.items)
    ≡ made.new.marks =
    take_at made.new.marks (drop (length made.new.marks) marks.items) marks.len
    (made.auto.marks ∙ c.deref_mut-2.ensures.len) in
    let says : said c.answer_of.result ≡ told_of c.args.plate reply made.new.list made.new.marks =
    c.answer_of.ensures ∙ λ k. told reply (cells_back k)
    (take (c.area-area.ensures k) (marks_back k)) in
    said_alike (g.C.Caller.measurer c.args.caller.now) start end
    (g.C.Call.RunCall.as_call c.args.call)
    (told_of c.args.plate reply made.new.list made.new.marks) (said c.answer_of.result)
    (length c.deref_mut.result.now) _ (length c.deref_mut-2.result.now) _ says
    (sym (ap length c.emptied-list.ensures.list) ∙ sym (ap length c.deref_mut.ensures.value))
    (sym (ap length c.emptied-list.ensures.marks)
    ∙ sym (ap length c.deref_mut-2.ensures.value)) made.ensures.step
