-- A queue's part of its slice before and after sifting. Assumes nothing.
use Rattle.std.proofs.Common.{◌≡◌, ℕ, ◌+◌, ◌<◌, ◌≤◌, Bool, true, ◌≢◌, List, [], ◌∷◌, ◌++◌, length, get_or, take, set, sym, ap, ◌∙◌, subst, arith}
use Rattle.std.specs.List.{All}
use Rattle.std.specs.List.Sorted.{IsPermutation}
use Rattle.std.proofs.lemmas.List.Elements.{All-from_get_or}
use Rattle.std.proofs.lemmas.List.{get_or-take, length-take-le, take_more, set_at}
use Rattle.std.proofs.lemmas.List.Sorted.{IsPermutation-refl, IsPermutation-cons, IsPermutation-sym, IsPermutation-to_front, IsPermutation-trans}
use Rattle.queue.specs.Orders.{OrderLaws}
use Rattle.queue.specs.Heaps.{Heap, Holed}
use Rattle.queue.proofs.Sifting.{first_least}

module _ {E : Type 0} {le : E → E → Bool} where
  -- of a heap so many entries, with a hole at one place, which is the first or the last
  pub holed_part : (xs : List E) (n m h : ℕ) → m ≤ length xs → n ≤ length xs → ((i : ℕ) → i < m → i ≢ h → i < n) → (0 < h → m ≤ h + 1) → Heap le (take n xs) → Holed le (take m xs) h
  holed_part xs n m h within longer kept last heap =
      let part : length (take m xs) ≡ m = length-take-le m xs within in
      record {
        apart = λ i d some in-part isnt other.
            let at : i < n = kept i (omega arith) isnt in
            let order = heap i d some (omega (arith, length-take-le n xs longer)) in
            grind (arith, get_or-take);
        across = λ i d some behind in-part is. let end = last some in absurd (omega arith);
      }

-- an entry more at the end, and then the sifting
pub pushed_on : {E : Type 0} (xs ys : List E) (n m : ℕ) (x : E) → m ≡ n + 1 → n < length xs → IsPermutation (set (take m xs) n x) ys → IsPermutation (x ∷ take n xs) ys
pushed_on xs ys n m x one lt sifted =
    let end : set (take m xs) n x ≡ take n xs ++ x ∷ [] =
    ap (λ j. set (take j xs) n x) one
    ∙ ap (λ l. set l n x) (take_more xs n x lt)
    ∙ set_at (take n xs) (get_or xs n x) [] x n (length-take-le n xs (omega arith)) in
    IsPermutation-trans _ _ _ (IsPermutation-sym _ _ (IsPermutation-to_front (take n xs) x)) (subst (λ l. IsPermutation l ys) end sifted)

-- the first entry out, the last in its place, and then the sifting
popped : {E : Type 0} (zs ys : List E) (first last : E) → 0 < length zs → first ≡ get_or zs 0 first → IsPermutation (set zs 0 last) ys → IsPermutation (zs ++ last ∷ []) (first ∷ ys)
popped [] ys first last some is sifted = absurd (omega arith)
popped (z ∷ zs) ys first last some is sifted =
    subst (λ y. IsPermutation (z ∷ (zs ++ last ∷ [])) (y ∷ ys)) (sym is)
    (IsPermutation-cons z _ _ (IsPermutation-trans _ _ _ (IsPermutation-to_front zs last) sifted))

module _ {E : Type 0} (xs ys : List E) (n m : ℕ) (first : E) (one : n ≡ m + 1) (within : n ≤ length xs) (is : first ≡ get_or xs 0 first) where
  ends : (last : E) → last ≡ get_or xs m last → take n xs ≡ take m xs ++ last ∷ []
  ends last at = ap (λ j. take j xs) one ∙ take_more xs m last (omega arith) ∙ ap (λ y. take m xs ++ y ∷ []) (sym at)

  pub popped_off : (last : E) → last ≡ get_or xs m last → 0 < m → IsPermutation (set (take m xs) 0 last) ys → IsPermutation (take n xs) (first ∷ ys)
  popped_off last at some sifted =
      subst (λ l. IsPermutation l (first ∷ ys)) (sym (ends last at))
      (popped (take m xs) ys first last (omega (arith, length-take-le m xs (omega arith))) (is ∙ sym (get_or-take m xs 0 first some)) sifted)

  pub last_off : m ≡ 0 → IsPermutation (take n xs) (first ∷ take m xs)
  last_off none =
      let at : first ≡ get_or xs m first = is ∙ ap (λ j. get_or xs j first) (sym none) in
      let empty : take m xs ≡ [] = ap (λ j. take j xs) none in
      subst (λ l. IsPermutation (take n xs) (first ∷ l)) (sym empty)
      (subst (λ l. IsPermutation l (first ∷ [])) (sym (ends first at ∙ ap (λ l. l ++ first ∷ []) empty)) (IsPermutation-refl (first ∷ [])))

  pub least_of : {le : E → E → Bool} → OrderLaws le → Heap le (take n xs) → All (λ y. le first y ≡ true) (take n xs)
  least_of {le} laws heap =
      All-from_get_or (λ y. le first y ≡ true) (take n xs) first
      (λ i lt. let least = first_least laws (take n xs) heap i first lt in grind (arith, get_or-take))
