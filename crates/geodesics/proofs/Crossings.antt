-- Unbarred steps between the cells of a board, and what is offered across them. Assumes nothing.
use Rattle.std.proofs.Common.{◌≡◌, ℕ, ◌<◌, true, false, ltb, List, ◌∷◌, Some, sym, refl, ap, ◌∙◌, ⊎_elim, arith}
use Rattle.std.proofs.lemmas.Bool.{cases_lt, cond-true, cond-false, le-ltb}
use Rattle.board.specs.Sizes.{area}
use Rattle.board.specs.Tables.{source_pad}
use Rattle.measuring.specs.Boards.{Board, cell, open_neighbour, source_of, step}
use Rattle.measuring.specs.Paths.{Measuring, onward, path_length, Path}
use Rattle.measuring.specs.Rankings.{Bid, offer}
use Rattle.measuring.proofs.Ranked.{option_cases, some_or_none, same_some, cond_some, offered_is}

pub source_within : (b : Board) (group j : ℕ) → 0 < source_of b group j → j < area b.size
source_within b group j some =
    ⊎_elim
    (λ lt. lt)
    (λ past. absurd (omega (arith, cond-false (ltb j (area b.size)) (source_pad (cell b j) b.groups group) 0 (le-ltb j (area b.size) past))))
    (cases_lt j (area b.size))

-- j is an open neighbour of i across an unbarred step
pub record Crosses {L R : Type 0} (m : Measuring L R) (i j : ℕ) : Type 0 where
  pub near : open_neighbour m.board i j ≡ true
  pub unbarred : m.gauge.barred (step m.board i j) ≡ false

-- the length that is carried across
abbrev pub carried : {L R : Type 0} → Measuring L R → ℕ → ℕ → L → L
carried m i j a = m.gauge.carried (step m.board i j) a

module _ {L R : Type 0} (m : Measuring L R) where
  pub onward_crosses : (i j : ℕ) (a : L) {b : L} → onward m i j (Some a) ≡ Some b →
      Crosses m i j × (b ≡ carried m i j a)
  onward_crosses i j a e =
      ⊎_elim
      (λ w. ⊎_elim
      (λ v. some_or_none v.1 refl)
      (λ v. (record { near = w.0; unbarred = v.0 }, same_some v.1 refl))
      (cond_some (m.gauge.barred (step m.board i j)) _ _ w.1))
      (λ w. some_or_none w.1 refl)
      (cond_some (open_neighbour m.board i j) _ _ e)

  pub crosses_onward : (i j : ℕ) (a : L) → Crosses m i j →
      onward m i j (Some a) ≡ Some (carried m i j a)
  crosses_onward i j a crosses =
      cond-true (open_neighbour m.board i j) _ _ crosses.near ∙ cond-false (m.gauge.barred (step m.board i j)) _ _ crosses.unbarred

  -- a path to j by way of i is a path to i, carried across the step
  pub path_parts : (i j : ℕ) (cells : List ℕ) (a : L) → Path m j (i ∷ cells) a →
      (x : L) × Path m i cells x × Crosses m i j × (a ≡ carried m i j x)
  path_parts i j cells a path =
      ⊎_elim
      (λ none. some_or_none path (ap (onward m i j) none))
      (λ some.
      let across = onward_crosses i j some.0 (sym (ap (onward m i j) some.1) ∙ path) in
      (some.0, some.1, across.0, across.1))
      (option_cases (path_length m (i ∷ cells)))

  pub offer_crosses : (r : Bid L) (j : ℕ) {x : Bid L} → offer m r j ≡ Some x →
      Crosses m r.cell j × (x ≡ record { cell = j; length = carried m r.cell j r.length; pad = r.pad; link = r.cell })
  offer_crosses r j e =
      let made = offered_is m r j _ e in
      let across = onward_crosses r.cell j r.length made.1 in
      (across.0, made.2 ∙ ap (λ a. record { cell = j; length = a; pad = r.pad; link = r.cell }) across.1)
