-- The plate is opened over the lent tables, and the answers stand in the places of the space.
-- Assumes nothing.
use Rattle.std.proofs.Common.{◌≡◌, ◌++◌, drop, length, map, take, ap, subst, sym, ◌∙◌}
use Rattle.std.proofs.lemmas.List.{length-map, take_at}
use Rattle.board.specs.Sizes.{area}
use Rattle.runs.specs.Places.{PlacesFor}
use Rattle.runs.specs.Runs.{Leaves, holding}
use Rattle.runs.specs.Said.{said}
use Rattle.runs.proofs.Openings.{good_size, leaves, opened_area}
use Rattle.runs.proofs.running.run_in_space.Goals as goal

pub answer_all-requires : goal.answer_all-requires
answer_all-requires g c =
    let space = c.args.space in
    let opens = c.in_ok-draft.ensures in
    let as_call = g.C.Call.RunCall.as_call in
    let n = area c.in_ok-draft.draft.header.size in
    subst (λ places. PlacesFor as_call n space.calls.now places) (sym c.deref_mut.ensures.value)
    (subst (λ n. PlacesFor as_call n space.calls.now space.places.items) (sym (opened_area opens))
    (space.fit.fit (good_size opens)))

pub returns : goal.returns
returns g c =
    let space = c.args.space in
    let opens = c.in_ok-draft.ensures in
    let made = c.answer_all in
    let by = g.C.Caller.measurer c.args.caller.now in
    let as_call = g.C.Call.RunCall.as_call in
    let calls = map as_call space.calls.now in
    let held = holding c.args.cells.now c.args.groups.now c.args.first.now c.args.second.now
    c.args.entries.now in
    let left = holding made.new.cells made.new.groups made.new.first made.new.second
    made.new.entries in
    let places = made.new.places in
    let behind = drop (length places) space.places.items in
    let back : take space.places.len (places ++ behind) ≡ places =
    take_at places behind space.places.len (made.auto.places ∙ c.deref_mut.ensures.len) in
    let kept : length places ≡ length space.places.items = made.auto.places
    ∙ ap length c.deref_mut.ensures.value in
    let all : length (map said places) ≡ length calls =
    length-map places said ∙ kept ∙ (space.fit.fit (good_size opens)).long
    ∙ sym (length-map space.calls.now as_call) in
    subst (λ answers. (length (map said answers) ≡ length calls) × Leaves space.dimensions by calls
    (map said answers) held left) (sym back) (
      all,
      leaves opens c.args.first.now c.args.second.now c.args.entries.now {left = left}
          made.ensures,
    )
