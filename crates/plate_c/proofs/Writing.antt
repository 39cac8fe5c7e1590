-- A loop that writes into the front of a table what it makes of another list's elements. Assumes nothing.
use Rattle.std.proofs.Common.{◌≡◌, ℕ, ◌+◌, ◌<◌, ◌≤◌, List, [], ◌∷◌, ◌++◌, map, length, take, drop, get_or, set, sym, ap, ◌∙◌, arith}
use Rattle.std.proofs.lemmas.List.{append-nil, append_assoc, drop_all, drop_more, length-map, length-take, map_more, set_at, take_all}

module _ {A B : Type 0} (f : A → B) (xs : List A) (old : List B) where
  -- the table once so many elements are written
  abbrev pub written : ℕ → List B
  written i = map f (take i xs) ++ drop i old

  pub written_more : (new : List B) (i : ℕ) (d : A) →
      i < length xs → length xs ≤ length old → new ≡ written i →
      set new i (f (get_or xs i d)) ≡ written (i + 1)
  written_more new i d lt room before =
      let x = get_or xs i d in
      let front = map f (take i xs) in
      let long : length front ≡ i = length-map (take i xs) f ∙ omega (arith, length-take i xs) in
      ap (λ l. set l i (f x)) (before ∙ ap (λ l. front ++ l) (drop_more old i (f x) (omega arith)))
      ∙ set_at front _ _ (f x) i long
      ∙ sym (append_assoc front (f x ∷ []) _)
      ∙ ap (λ l. l ++ drop (i + 1) old) (sym (map_more f xs i d lt))

  pub written_all : (i : ℕ) → i ≡ length xs → written i ≡ map f xs ++ drop (length xs) old
  written_all i all =
      ap written all
      ∙ ap (λ l. map f l ++ drop (length xs) old) (take_all (length xs) xs (omega arith))

  pub written_over : (i : ℕ) → i ≡ length xs → length old ≡ length xs → written i ≡ map f xs
  written_over i all same =
      written_all i all
      ∙ ap (λ l. map f xs ++ l) (drop_all (length xs) old (omega arith))
      ∙ append-nil (map f xs)
