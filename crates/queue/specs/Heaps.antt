-- Heaps, and a heap with a hole as sifting moves it. Assumes nothing.
use Rattle.std.specs.Prelude.{◌≡◌, ℕ, ◌-◌, ◌/◌, ◌<◌, Bool, true, List, length, ◌≢◌, slice_index_or}

abbrev pub parent : ℕ → ℕ
parent i = (i - 1) / 2

-- no entry comes before its parent
abbrev pub Heap : {E : Type 0} → (E → E → Bool) → List E → Type 0
Heap {E} le xs =
    (i : ℕ) (d : E) → 0 < i → i < length xs →
    le (slice_index_or xs (parent i) d) (slice_index_or xs i d) ≡ true

-- what stands in the hole does not count: the other entries are in order, across the hole too
pub record Holed {E : Type 0} (le : E → E → Bool) (xs : List E) (h : ℕ) : Type 0 where
  pub apart : (i : ℕ) (d : E) → 0 < i → i < length xs → (i ≢ h) → (parent i ≢ h) →
      le (slice_index_or xs (parent i) d) (slice_index_or xs i d) ≡ true
  pub across : (i : ℕ) (d : E) → 0 < h → h < i → i < length xs → parent i ≡ h →
      le (slice_index_or xs (parent h) d) (slice_index_or xs i d) ≡ true

-- the entry comes before no parent of the hole
abbrev pub Above : {E : Type 0} → (E → E → Bool) → List E → ℕ → E → Type 0
Above {E} le xs h x = (d : E) → 0 < h → le (slice_index_or xs (parent h) d) x ≡ true

-- the entry comes after no child of the hole
abbrev pub BelowAll : {E : Type 0} → (E → E → Bool) → List E → ℕ → E → Type 0
BelowAll {E} le xs h x =
    (i : ℕ) (d : E) → h < i → i < length xs → parent i ≡ h → le x (slice_index_or xs i d) ≡ true
