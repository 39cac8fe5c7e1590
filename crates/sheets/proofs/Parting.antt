-- A text parted at the places of a byte.
use Rattle.std.proofs.Common.{◌≡◌, ℕ, zero, suc, ◌+◌, ◌<◌, ◌≤◌, Bool, true, false, cond, not, ◌||◌, ◌==◌, List, [], ◌∷◌, length, get_or, take, drop, Some, None, refl, arith, position, count_by, add-one, length-append, length-take, nat_lt}
use Rattle.std.proofs.lemmas.Bool.Decides.{nat_tests}
use Rattle.std.proofs.lemmas.List.Quantifiers.{position-Some}
use Rattle.std.proofs.lemmas.List.Recursion.{is_count_by}
use Rattle.std.proofs.lemmas.Bool.{true≢false}
use Rattle.std.specs.List.{list_any, position_or_len}
use Rattle.sheets.specs.Lines.{ended, fields_of, left_over, with_first}
use Rattle.sheets.specs.Readers.{Parts, Unended}

-- a byte that stands somewhere is among the list's
any_at : (end : ℕ) (bs : List ℕ) (at : ℕ) → at < length bs → (get_or bs at 0 == end) ≡ true → list_any (λ c. c == end) bs ≡ true
any_at end [] at lt hit = absurd (omega arith)
any_at end (b ∷ bs) zero lt hit = rw hit
any_at end (b ∷ bs) (suc at) lt hit =
    let rest = any_at end bs at (omega arith) hit in
    elim (b == end) as (λ t. ◌||◌ t (list_any (λ c. c == end) bs) ≡ true) [ true ↦ refl | false ↦ rest ]

ended_at : (end : ℕ) (bs : List ℕ) (at : ℕ) → at < length bs → (get_or bs at 0 == end) ≡ true → ((k : ℕ) → k < at → (get_or bs k 0 == end) ≡ false) → ended end bs ≡ take at bs ∷ ended end (drop (suc at) bs)
ended_at end [] at lt hit miss = absurd (omega arith)
ended_at end (b ∷ bs) zero lt hit miss = rw hit
ended_at end (b ∷ bs) (suc at) lt hit miss =
    let no : (b == end) ≡ false = miss 0 (omega arith) in
    rw (no, ended_at end bs at (omega arith) hit (λ k below. miss (suc k) (omega arith)))

left_over_at : (end : ℕ) (bs : List ℕ) (at : ℕ) → at < length bs → (get_or bs at 0 == end) ≡ true → left_over end bs ≡ left_over end (drop (suc at) bs)
left_over_at end [] at lt hit = absurd (omega arith)
left_over_at end (b ∷ bs) zero lt hit = rw (any_at end (b ∷ bs) zero lt hit)
left_over_at end (b ∷ bs) (suc at) lt hit = rw (any_at end (b ∷ bs) (suc at) lt hit, left_over_at end bs at (omega arith) hit)

pub parts_at : (end : ℕ) (bs : List ℕ) (at : ℕ) → position (λ c. c == end) bs ≡ Some at → Parts end bs (take at bs) (drop (at + 1) bs)
parts_at end bs at e =
    let found = position-Some (λ c. c == end) bs at 0 e in
    let length_front : length (take at bs) ≡ at = omega (arith, length-take at bs, found.0) in
    record {
      ended = rw add-one (ended_at end bs at found.0 found.1 found.2);
      left_over = rw add-one (left_over_at end bs at found.0 found.1);
      rest = rw length_front;
      within = rw length_front (omega (arith, found.0));
    }

or_false : (a b : Bool) → (a || b) ≡ false → (a ≡ false) × (b ≡ false)
or_false true b e = absurd (true≢false e)
or_false false b e = (refl, e)

ended_none : (end : ℕ) (bs : List ℕ) → list_any (λ c. c == end) bs ≡ false → ended end bs ≡ []
ended_none end [] none = refl
ended_none end (b ∷ bs) none =
    let parts = or_false (b == end) (list_any (λ c. c == end) bs) none in
    let no : (b == end) ≡ false = parts.0 in
    rw (no, ended_none end bs parts.1)

left_over_none : (end : ℕ) (bs : List ℕ) → list_any (λ c. c == end) bs ≡ false → left_over end bs ≡ bs
left_over_none end [] none = refl
left_over_none end (b ∷ bs) none = rw none

beyond : (m n : ℕ) → cond (nat_lt m n) (Some m) None ≡ None → n ≤ m
beyond m n e = grind (arith, nat_tests)

first_none : (b : ℕ) (parts : List (List ℕ)) → with_first b parts ≡ [] → parts ≡ []
first_none b [] e = refl
first_none b (p ∷ ps) e = cc

none_any : (end : ℕ) (bs : List ℕ) → ended end bs ≡ [] → list_any (λ c. c == end) bs ≡ false
none_any end [] none = refl
none_any end (b ∷ bs) none =
    elim (b == end) as (λ t. cond t ([] ∷ ended end bs) (with_first b (ended end bs)) ≡ [] → ◌||◌ t (list_any (λ c. c == end) bs) ≡ false)
    [ true ↦ λ e. cc | false ↦ λ e. none_any end bs (first_none b (ended end bs) e) ] none

-- a text of which no part is ended is left over whole
pub left_all : (end : ℕ) (bs : List ℕ) → ended end bs ≡ [] → left_over end bs ≡ bs
left_all end bs none = left_over_none end bs (none_any end bs none)

none_within : (end : ℕ) (bs : List ℕ) → length bs ≤ position_or_len (λ c. c == end) bs → list_any (λ c. c == end) bs ≡ false
none_within end [] far = refl
none_within end (b ∷ bs) far =
    elim (b == end) as (λ t. suc (length bs) ≤ cond (not t) (1 + position_or_len (λ c. c == end) bs) 0 → ◌||◌ t (list_any (λ c. c == end) bs) ≡ false)
    [ true ↦ λ h. absurd (omega arith) | false ↦ λ h. none_within end bs (omega arith) ] far

none_found : (end : ℕ) (bs : List ℕ) → position (λ c. c == end) bs ≡ None → list_any (λ c. c == end) bs ≡ false
none_found end bs e =
    let far : length bs ≤ position_or_len (λ c. c == end) bs = beyond (position_or_len (λ c. c == end) bs) (length bs) e in
    none_within end bs far

pub unended : (end : ℕ) (bs : List ℕ) → position (λ c. c == end) bs ≡ None → Unended end bs
unended end bs e = record { ended = ended_none end bs (none_found end bs e); left_over = left_over_none end bs (none_found end bs e) }

length-with_first : (b : ℕ) (parts : List (List ℕ)) → length (with_first b parts) ≡ length parts
length-with_first b [] = refl
length-with_first b (p ∷ ps) = refl

ended_step : (b : ℕ) (bs : List ℕ) → length (ended 9 (b ∷ bs)) ≡ cond (b == 9) (1 + length (ended 9 bs)) (length (ended 9 bs))
ended_step b bs =
    elim (b == 9) as (λ t. length (cond t ([] ∷ ended 9 bs) (with_first b (ended 9 bs))) ≡ cond t (1 + length (ended 9 bs)) (length (ended 9 bs)))
    [ true ↦ omega arith | false ↦ length-with_first b (ended 9 bs) ]

-- a line has one field more than it has tabs
pub field_count : (bs : List ℕ) → length (fields_of bs) ≡ count_by (λ c. c == 9) bs + 1
field_count bs =
    omega (arith, length-append (ended 9 bs) (left_over 9 bs ∷ []), is_count_by (λ xs. length (ended 9 xs)) (λ c. c == 9) refl ended_step bs)
