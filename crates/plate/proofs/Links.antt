-- Ways along links, one cell after the other. Assumes nothing.
use Rattle.std.proofs.Common.{◌≡◌, ℕ, zero, suc, ◌<◌, true, false, eqb, ◌⊎◌, List, [], ◌∷◌, ◌++◌, length, Some, None, Option, sym, refl, ap, ◌∙◌, inl, inr, ⊎_elim, arith}
use Rattle.std.proofs.lemmas.List.{append_assoc, get_or_past}
use Rattle.std.proofs.lemmas.Bool.{both_ways, cases_Bool, cases_lt, cond-true, cond-false, eq-eqb, ne_eqb}
use Rattle.board.specs.declared.record.MapRecord.{MapRecord}
use Rattle.board.specs.Records.{unreached_record}
use Rattle.measuring.specs.Ways.{at, then, way_within}

-- these cells, and then a way
abbrev pub following : List ℕ → Option (List ℕ) → Option (List ℕ)
following front None = None
following front (Some cells) = Some (front ++ cells)

pub following_then : (front : List ℕ) (j : ℕ) (way : Option (List ℕ)) → following front (then j way) ≡ following (front ++ j ∷ []) way
following_then front j None = refl
following_then front j (Some cells) = ap Some (sym (append_assoc front (j ∷ []) cells))

pub following_none : (way : Option (List ℕ)) → way ≡ following [] way
following_none None = refl
following_none (Some cells) = refl

none_is_some : (cells : List ℕ) → None ≡ Some cells → ⊥
none_is_some cells e = let z : ◌≡◌ {A = ℕ} 0 1 = cc in omega arith

first_of : (j : ℕ) (way : Option (List ℕ)) (cells : List ℕ) → then j way ≡ Some cells → (rest : List ℕ) × (cells ≡ j ∷ rest) × (way ≡ Some rest)
first_of j None cells e = absurd (none_is_some cells e)
first_of j (Some rest) cells e = (rest, cc, refl)

-- cells that follow the links from one on; none behind a cell that is linked to itself
abbrev pub Goes : {R : Type 0} → R → List (MapRecord R) → ℕ → List ℕ → Type 0
Goes row map j cells = (cells ≡ []) ⊎ ((n : ℕ) × (way_within row map n j ≡ Some cells))

module _ {R : Type 0} (row : R) (map : List (MapRecord R)) where
  pub reached_within : (j : ℕ) → (at row map j).reached ≡ true → j < length map
  reached_within j reached =
      ⊎_elim (λ lt. lt)
      (λ past. absurd (both_ways _ (ap (λ r. r.reached) (get_or_past map j (unreached_record row) past)) reached))
      (cases_lt j (length map))

  pub way_unreached : (n j : ℕ) → (at row map j).reached ≡ false → way_within row map n j ≡ None
  unfolding way_within
  way_unreached zero j unreached = refl
  way_unreached (suc n) j unreached = cond-false _ _ _ unreached

  pub way_ends : (n j : ℕ) → (at row map j).reached ≡ true → (at row map j).link ≡ j → way_within row map (suc n) j ≡ Some (j ∷ [])
  unfolding way_within
  way_ends n j reached itself = cond-true _ _ _ reached ∙ cond-true _ _ _ (eq-eqb _ j itself)

  pub way_goes : (n j i : ℕ) → (at row map j).reached ≡ true → (at row map j).link ≡ i → (i ≡ j → ⊥) → way_within row map (suc n) j ≡ then j (way_within row map n i)
  unfolding way_within
  way_goes n j i reached link other =
      cond-true _ _ _ reached
      ∙ cond-false _ _ _ (ne_eqb _ j (λ itself. other (sym link ∙ itself)))
      ∙ ap (λ k. then j (way_within row map n k)) link

  -- a way begins with its own cell, and goes on from the link
  pub way_first : (n j : ℕ) (cells : List ℕ) → way_within row map n j ≡ Some cells → (rest : List ℕ) × (cells ≡ j ∷ rest) × ((at row map j).reached ≡ true) × Goes row map (at row map j).link rest
  unfolding way_within
  way_first zero j cells e = absurd (none_is_some cells e)
  way_first (suc n) j cells e =
      let here = at row map j in
      ⊎_elim
      (λ reached.
      let on = sym (cond-true _ _ _ reached) ∙ e in
      ⊎_elim
      (λ itself. let ends = sym (cond-true _ _ _ itself) ∙ on in ([], cc, reached, inl refl))
      (λ other. let goes = first_of j _ cells (sym (cond-false _ _ _ other) ∙ on) in (goes.0, goes.1, reached, inr (n, goes.2)))
      (cases_Bool (eqb here.link j)))
      (λ unreached. absurd (none_is_some cells (sym (cond-false _ _ _ unreached) ∙ e)))
      (cases_Bool here.reached)

  -- so do cells that follow the links, if there are any
  pub goes_first : (j : ℕ) (cells : List ℕ) → Goes row map j cells → 0 < length cells → (rest : List ℕ) × (cells ≡ j ∷ rest) × ((at row map j).reached ≡ true) × Goes row map (at row map j).link rest
  goes_first j cells goes some =
      ⊎_elim (λ none. absurd (omega (arith, ap length none))) (λ way. way_first way.0 j cells way.1) goes

  pub goes_within : (j : ℕ) (cells : List ℕ) → Goes row map j cells → 0 < length cells → j < length map
  goes_within j cells goes some = reached_within j (goes_first j cells goes some).2
