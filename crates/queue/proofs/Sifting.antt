-- How a hole moves through a heap, by the laws of the order alone. Assumes nothing.
use Rattle.std.proofs.Common.{◌≡◌, ℕ, zero, suc, ◌+◌, ◌*◌, ◌<◌, ◌≤◌, Bool, true, false, ◌≢◌, List, length, get_or, set, sym, ap, ◌∙◌, ⊎_elim, arith}
use Rattle.std.specs.List.Sorted.{IsPermutation}
use Rattle.std.proofs.lemmas.List.Edits.{swap_is}
use Rattle.std.proofs.lemmas.List.{get_or-set_same, get_or-set_other, length-set, set-set}
use Rattle.std.proofs.lemmas.List.Sorted.{IsPermutation-swap, IsPermutation-trans}
use Rattle.std.proofs.lemmas.Bool.{cases_eq}
use Rattle.std.proofs.lemmas.Grind.{get_or-set_at}
use Rattle.queue.specs.Orders.{OrderLaws}
use Rattle.queue.specs.Heaps.{parent, Heap, Holed, Above, BelowAll}

-- what is read of a list with one entry written
ruleset written = (length-set, get_or-set_at, get_or-set_other)

module _ {E : Type 0} (xs : List E) (h : ℕ) (v : E) where
  -- the hole moves from h to k, whose entry goes to h: as if the two were exchanged
  pub shuffled_moved : (ys : List E) (k : ℕ) (x : E) → h < length xs → k < length xs → k ≢ h → ((d : E) → v ≡ get_or xs k d) → IsPermutation ys (set xs h x) → IsPermutation ys (set (set xs h v) k x)
  shuffled_moved ys k x h-in k-in apart value so_far =
      let old = set xs h x in
      let same : length old ≡ length xs = length-set xs h x in
      let first : set old h (get_or old k x) ≡ set xs h v =
      ap (λ y. set old h y) (get_or-set_other xs h k x x apart ∙ sym (value x)) ∙ set-set xs h x v in
      let moved : set (set xs h v) k x ≡ set (set old h (get_or old k x)) k (get_or old h x) =
      sym (λ i. set (first i) k (get_or-set_same xs h x x h-in i)) in
      IsPermutation-trans ys old (set (set xs h v) k x) so_far
      (IsPermutation-swap old (set (set xs h v) k x) h k (omega arith) (omega arith) (moved ∙ swap_is old h k x (omega arith) (omega arith)))

module _ {E : Type 0} {le : E → E → Bool} (laws : OrderLaws le) where
  pub not_before : (a b : E) → false ≡ le a b → le b a ≡ true
  not_before a b isnt = let either = laws.total a b in grind arith

  -- what is at most both children is at most each
  pub each_child : (xs : List E) (h k : ℕ) → ((d : E) → le (get_or xs k d) (get_or xs (2 * h + 1) d) ≡ true) → ((d : E) → 2 * h + 1 + 1 < length xs → le (get_or xs k d) (get_or xs (2 * h + 1 + 1) d) ≡ true) → (i : ℕ) (d : E) → h < i → i < length xs → parent i ≡ h → le (get_or xs k d) (get_or xs i d) ≡ true
  each_child xs h k left right i d lt n is =
      ⊎_elim
      (λ at. let least = left d in grind arith)
      (λ other.
      let at : i ≡ 2 * h + 1 + 1 = omega arith in
      let least = right d (omega arith) in
      grind arith)
      (cases_eq i (2 * h + 1))

  pub itself : (a : E) → le a a ≡ true
  itself a = let either = laws.total a a in grind arith

  -- the hole is filled
  pub filled : (xs : List E) (h : ℕ) (x : E) → h < length xs → Holed le xs h → Above le xs h x → BelowAll le xs h x → Heap le (set xs h x)
  filled xs h x within holed above below i d some lt =
      let n : i < length xs = omega (arith, length-set xs h x) in
      ⊎_elim
      (λ is.
      let up = above d (omega arith) in
      grind (arith, written))
      (λ isnt. ⊎_elim
      (λ child. let down = below i d (omega arith) n child in grind (arith, written))
      (λ other. let apart = holed.apart i d some n isnt other in grind (arith, written))
      (cases_eq (parent i) h))
      (cases_eq i h)

  -- the hole moves up: its parent k has moved down
  module _ (xs : List E) (h k : ℕ) (v : E) (within : h < length xs) (some : 0 < h) (up : parent h ≡ k) (value : (d : E) → v ≡ get_or xs k d) (holed : Holed le xs h) where
    child-of-k : (i : ℕ) (d : E) → k < i → i < length xs → parent i ≡ k → i ≢ h → le v (get_or xs i d) ≡ true
    child-of-k i d lt n is isnt =
        let here = value d in
        let apart = holed.apart i d (omega arith) n isnt (omega arith) in
        grind (arith, written)

    pub below_up : (x : E) → le x v ≡ true → BelowAll le (set xs h v) k x
    below_up x less i d lt-i lt is =
        let n : i < length xs = omega (arith, length-set xs h v) in
        ⊎_elim
        (λ at. grind (arith, written))
        (λ isnt. let through = laws.transitive _ _ _ less (child-of-k i d lt-i n is isnt) in grind (arith, written))
        (cases_eq i h)

    pub moved_up : Holed le (set xs h v) k
    moved_up = record {
      apart = λ i d pos lt isnt other.
          let n : i < length xs = omega (arith, length-set xs h v) in
          let is = value d in
          ⊎_elim
          (λ child. let across = holed.across i d some (omega arith) n child in grind (arith, written))
          (λ no-child. let apart = holed.apart i d pos n (omega arith) no-child in grind (arith, written))
          (cases_eq (parent i) h);
      across = λ i d pos lt-i lt is.
          let to-v : le (get_or xs (parent k) d) v ≡ true = let here = value d in let above-k = holed.apart k d pos (omega arith) (omega arith) (omega arith) in grind (arith, written) in
          let least = below_up (get_or xs (parent k) d) to-v i d lt-i lt is in
          grind (arith, written);
    }

  -- the hole moves down: its lesser child k has moved up
  module _ (xs : List E) (h k : ℕ) (v : E) (within : h < k) (in-part : k < length xs) (down : parent k ≡ h) (value : (d : E) → v ≡ get_or xs k d) (lesser : (i : ℕ) (d : E) → h < i → i < length xs → parent i ≡ h → le (get_or xs k d) (get_or xs i d) ≡ true) (holed : Holed le xs h) where
    pub moved_down : Holed le (set xs h v) k
    moved_down = record {
      apart = λ i d pos lt isnt other.
          let n : i < length xs = omega (arith, length-set xs h v) in
          let is = value d in
          ⊎_elim
          (λ at. let across = holed.across k d (omega arith) within in-part down in grind (arith, written))
          (λ away. ⊎_elim
          (λ child. let least = lesser i d (omega arith) n child in grind (arith, written))
          (λ no-child. let apart = holed.apart i d pos n away no-child in grind (arith, written))
          (cases_eq (parent i) h))
          (cases_eq i h);
      across = λ i d pos lt-i lt is.
          let n : i < length xs = omega (arith, length-set xs h v) in
          let here = value d in
          let apart = holed.apart i d (omega arith) n (omega arith) (omega arith) in
          grind (arith, written);
    }

    -- what comes after the child that moved up may fill the hole below it
    pub above_down : (x : E) → le v x ≡ true → Above le (set xs h v) k x
    above_down x less d pos = grind (arith, written)

  -- the first of a heap is at most every entry
  root_least : (xs : List E) → Heap le xs → (bound i : ℕ) (d : E) → i ≤ bound → i < length xs → le (get_or xs 0 d) (get_or xs i d) ≡ true
  root_least xs heap zero i d small lt =
      let at : i ≡ 0 = omega arith in
      let least = itself (get_or xs 0 d) in
      grind arith
  root_least xs heap (suc bound) i d small lt =
      ⊎_elim
      (λ is. let least = itself (get_or xs 0 d) in grind arith)
      (λ isnt. laws.transitive _ _ _ (root_least xs heap bound (parent i) d (omega arith) (omega arith)) (heap i d (omega arith) lt))
      (cases_eq i 0)

  pub first_least : (xs : List E) → Heap le xs → (i : ℕ) (d : E) → i < length xs → le (get_or xs 0 d) (get_or xs i d) ≡ true
  first_least xs heap i d lt = root_least xs heap (length xs) i d (omega arith) lt
