-- Each call leads one step on. Assumes nothing.
use Rattle.std.proofs.Common.{◌≡◌, ℕ, ◌+◌, ◌<◌, ◌≤◌, [], ◌∷◌, ◌++◌, length, take, set, get_or, ap, sym, subst, ◌∙◌, arith}
use Rattle.std.proofs.lemmas.List.{length-take-le, length-set, take_more_set, take-set, take_all, get_or-set_other}
use Rattle.board.specs.Sizes.{area}
use Rattle.runs.specs.Places.{PlaceFor}
use Rattle.runs.specs.Plates.{state}
use Rattle.runs.specs.Said.{said}
use Rattle.runs.specs.declared.answer.Answer.{Answer}
use Rattle.runs.proofs.Enough.{enough_room}
use Rattle.runs.proofs.Happenings.{so_far}
use Rattle.runs.proofs.Leading.{Led, leads_to, led_on, led_start}
use Rattle.runs.proofs.Unmoved.{stays}
use Rattle.runs.proofs.running.answer_all.Goals as goal

pub loop-i-init : goal.loop-i-init
loop-i-init g c =
    let start = state c.args.plate c.args.cells.now c.args.groups.now c.args.first.now
    c.args.second.now c.args.entries.now in (
      c.requires.long,
      c.requires.fit,
      led_start
          (g.C.Caller.measurer c.args.caller.now) start g.C.Call.RunCall.as_call c.args.calls.now,
    )

pub loop-i-preserved : goal.loop-i-preserved
loop-i-preserved g c =
    let old = c.loop-i in
    let by = g.C.Caller.measurer c.args.caller.now in
    let as_call = g.C.Call.RunCall.as_call in
    let calls = c.args.calls.now in
    let start = state c.args.plate c.args.cells.now c.args.groups.now c.args.first.now
    c.args.second.now c.args.entries.now in
    let mid = state old.plate old.cells old.groups old.first old.second old.entries in
    let made = c.answer_one-after in
    let end = state made.result.0 made.new.cells made.new.groups made.new.first made.new.second
    made.new.entries in
    let taken = c.replace-place.new.dest in
    let answer = made.result.1 in
    let places = set (set old.places old.i taken) old.i answer in
    let long : length places ≡ length calls = length-set (set old.places old.i taken) old.i answer
    ∙ length-set old.places old.i taken ∙ old.invariant.0 in
    let within : old.i < length (set old.places old.i taken) =
    omega (arith, length-set old.places old.i taken, old.invariant.0, c.loop-i-test.true) in
    let grown : take (old.i + 1) places ≡ take old.i old.places ++ answer ∷ [] =
    take_more_set (set old.places old.i taken) old.i answer within
    ∙ ap (λ l. l ++ answer ∷ []) (take-set old.places old.i taken) in
    let size : mid.plate.size ≡ start.plate.size =
    (stays by start (so_far as_call calls (take old.i old.places)) mid old.invariant.2).size in
    let behind : (j : ℕ) → old.i + 1 ≤ j → (d : Answer g.row.C-Length.Denot) →
    get_or places j d ≡ get_or old.places j d =
    λ j more d. get_or-set_other (set old.places old.i taken) old.i j answer d (omega arith)
    ∙ get_or-set_other old.places old.i j taken d (omega arith) in
    let call = c.index-calls-i.result in
    let place = c.replace-place.result in
    let found : place ≡ get_or old.places old.i c.index-places-i.result =
    c.replace-place.ensures.value in
    let fit : PlaceFor (area mid.plate.size) (as_call call) place =
    subst (λ z. PlaceFor (area z) (as_call call) place) (sym size)
    (subst (λ p. PlaceFor (area start.plate.size) (as_call call) p) (sym found)
    (subst (λ k. PlaceFor (area start.plate.size) (as_call k)
    (get_or old.places old.i c.index-places-i.result)) (sym c.index-calls-i.is)
    (old.invariant.1 old.i call c.index-places-i.result (omega arith) c.loop-i-test.true))) in
    let answered : length (take old.i old.places) ≡ old.i =
    length-take-le old.i old.places (omega (arith, old.invariant.0, c.loop-i-test.true)) in (
      long,
      (λ j call place more less. subst
          (λ p. PlaceFor (area start.plate.size) (as_call (get_or calls j call)) p)
          (sym (behind j more place)) (old.invariant.1 j call place (omega arith) less)),
      subst (λ l. Led by start as_call calls l end) (sym grown)
          (led_on by start as_call calls (take old.i old.places) mid end call answer
          (subst (λ i. i < length calls) (sym answered) c.loop-i-test.true)
          (subst (λ i. call ≡ get_or calls i call) (sym answered) c.index-calls-i.is)
          old.invariant.2 (enough_room by mid (said answer) end
          (as_call call) place fit made.ensures)),
    )

pub returns : goal.returns
returns g c =
    let old = c.loop-i in
    let by = g.C.Caller.measurer c.args.caller.now in
    let start = state c.args.plate c.args.cells.now c.args.groups.now c.args.first.now
    c.args.second.now c.args.entries.now in
    let end = state old.plate old.cells old.groups old.first old.second old.entries in
    let all : take old.i old.places ≡ old.places =
    take_all old.i old.places (omega (arith, old.invariant.0, c.loop-i-test.false)) in
    leads_to by start g.C.Call.RunCall.as_call c.args.calls.now old.places end
    (subst (λ l. Led by start g.C.Call.RunCall.as_call c.args.calls.now l end) all old.invariant.2)
