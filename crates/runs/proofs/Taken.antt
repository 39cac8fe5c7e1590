-- A place more. Assumes nothing.
use Rattle.std.proofs.Common.{◌≡◌, ℕ, ◌+◌, ◌<◌, ltb, List, [], ◌∷◌, ◌++◌, length, get_or, sym, subst, ⊎_elim, ap, ◌∙◌, arith}
use Rattle.std.proofs.lemmas.Bool.{cases_Bool}
use Rattle.std.proofs.lemmas.Bool.Decides.{nat_tests}
use Rattle.std.proofs.lemmas.List.{get_or_append_left, get_or_default}
use Rattle.std.proofs.Math.Seq.{get_or-append_seam}
use Rattle.runs.specs.Places.{PlaceFor, PlacesFrom}
use Rattle.runs.specs.declared.answer.Answer.{Answer}
use Rattle.runs.specs.declared.call.RulerCall.{RulerCall}

pub place_on : {L C : Type 0} (as_call : C → RulerCall) (n : ℕ) (calls : List C)
    (places : List (Answer L)) (place : Answer L) (i : ℕ) (call : C) → length places ≡ i →
    i < length calls → PlaceFor n (as_call (get_or calls i call)) place →
    PlacesFrom as_call 0 i n calls places →
    PlacesFrom as_call 0 (i + 1) n calls (places ++ place ∷ [])
place_on as_call n calls places place i call long less fit before j c p from below =
    ⊎_elim
    (λ earlier. subst (λ q. PlaceFor n (as_call (get_or calls j c)) q)
    (sym (get_or_append_left places (place ∷ []) p j (grind (arith, nat_tests))))
    (before j c p from (grind (arith, nat_tests))))
    (λ last.
    let same : j ≡ length places = grind (arith, nat_tests) in
    let at : get_or (places ++ place ∷ []) j p ≡ place =
    ap (λ k. get_or (places ++ place ∷ []) k p) same ∙ get_or-append_seam places place [] p in
    let asks : get_or calls i call ≡ get_or calls j c = get_or_default calls i call c less
    ∙ ap (λ k. get_or calls k c) (sym (same ∙ long)) in
    subst (λ q. PlaceFor n (as_call (get_or calls j c)) q) (sym at)
    (subst (λ k. PlaceFor n (as_call k) place) asks fit))
    (cases_Bool (ltb j i))
