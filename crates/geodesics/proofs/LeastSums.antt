-- The least sum of the first n cells is the sum of one of them, and no sum is shorter. Assumes nothing.
use Rattle.std.proofs.Common.{◌≡◌, ℕ, zero, suc, ◌<◌, true, ◌⊎◌, List, Some, None, Option, sym, refl, ap, ◌∙◌, subst, inl, inr, ⊎_elim, arith, MatchOption}
use Rattle.std.proofs.lemmas.Option.{MatchOption-at_some, MatchOption-at_none}
use Rattle.std.proofs.lemmas.Bool.{cases_eq, cond_both}
use Rattle.board.specs.declared.record.MapRecord.{MapRecord}
use Rattle.lengths.specs.Kinds.{Kind, KindLaws}
use Rattle.measuring.specs.MapReadings.{sum_at, least, least_sum}
use Rattle.measuring.proofs.Ranked.{option_cases, some_or_none, same_some, le_same, le_since_not}

pub some_cases : {A : Type 0} (o : Option A) (P : Type 0) (Q : A → Type 0) → (o ≡ None → P) →
    ((a : A) → o ≡ Some a → Q a) → MatchOption o P Q
some_cases None P Q none some = none refl
some_cases (Some a) P Q none some = some a refl

-- a is one of the two, and at most as long as each
record LeastOf {L R : Type 0} (kind : Kind L R) (x y : Option L) (a : L) : Type 0 where
  either : (x ≡ Some a) ⊎ (y ≡ Some a)
  first : (b : L) → x ≡ Some b → kind.le a b ≡ true
  second : (b : L) → y ≡ Some b → kind.le a b ≡ true

-- none of the first n is there
abbrev pub NoneBelow : {L : Type 0} → (ℕ → Option L) → ℕ → Type 0
NoneBelow f n = (j : ℕ) → j < n → f j ≡ None

-- a is one of the first n, and at most as long as each
pub record LeastBelow {L R : Type 0} (kind : Kind L R) (f : ℕ → Option L) (n : ℕ) (a : L) : Type 0 where
  pub cell : ℕ
  pub within : cell < n
  pub is : f cell ≡ Some a
  pub least : (j : ℕ) (b : L) → j < n → f j ≡ Some b → kind.le a b ≡ true

module _ {L R : Type 0} {kind : Kind L R} (laws : KindLaws kind) where
  least_cases : (x y : Option L) → MatchOption (least kind x y) ((x ≡ None) × (y ≡ None))
      (LeastOf kind x y)
  least_cases None None = (refl, refl)
  least_cases (Some a) None = record { either = inl refl; first = λ c e. le_same laws (same_some refl e); second = λ c e. some_or_none e refl }
  least_cases None (Some b) = record { either = inr refl; first = λ c e. some_or_none e refl; second = λ c e. le_same laws (same_some refl e) }
  least_cases (Some a) (Some b) =
      cond_both (kind.le a b) (Some a) (Some b) (λ o. MatchOption o ((Some a ≡ None) × (Some b ≡ None)) (LeastOf kind (Some a) (Some b)))
      (λ le. record {
        either = inl refl;
        first = λ c e. le_same laws (same_some refl e);
        second = λ c e. subst (λ x. kind.le a x ≡ true) (same_some refl e) le;
      })
      (λ isnt. record {
        either = inr refl;
        first = λ c e. subst (λ x. kind.le b x ≡ true) (same_some refl e) (le_since_not laws a b isnt);
        second = λ c e. le_same laws (same_some refl e);
      })

  module _ (sum : L → L → L) (first second : List (MapRecord R)) where
    pub least_below : (n : ℕ) → MatchOption (least_sum kind sum first second n)
        (NoneBelow (sum_at kind sum first second) n)
        (LeastBelow kind (sum_at kind sum first second) n)
    unfolding least_sum
    least_below zero = λ j lt. absurd (omega arith)
    least_below (suc n) =
        let f = sum_at kind sum first second in
        let before = least_sum kind sum first second n in
        some_cases (least kind before (f n)) _ _
        (λ none.
        let both = MatchOption-at_none _ _ none (least_cases before (f n)) in
        λ j lt. ⊎_elim
        (λ last. ap f last ∙ both.1)
        (λ other. MatchOption-at_none (NoneBelow f n) _ both.0 (least_below n) j (omega arith))
        (cases_eq j n))
        (λ a some.
        let found = MatchOption-at_some _ _ a some (least_cases before (f n)) in
        let no_longer : (j : ℕ) (b : L) → j < suc n → f j ≡ Some b → kind.le a b ≡ true =
        λ j b lt is. ⊎_elim
        (λ last. found.second b (ap f (sym last) ∙ is))
        (λ other. ⊎_elim
        (λ none. some_or_none is (MatchOption-at_none (NoneBelow f n) _ none (least_below n) j (omega arith)))
        (λ so_far. laws.transitive _ _ _ (found.first so_far.0 so_far.1) ((MatchOption-at_some _ (LeastBelow kind f n) so_far.0 so_far.1 (least_below n)).least j b (omega arith) is))
        (option_cases before))
        (cases_eq j n) in
        ⊎_elim
        (λ earlier.
        let low = MatchOption-at_some _ (LeastBelow kind f n) a earlier (least_below n) in
        record { cell = low.cell; within = omega (arith, low.within); is = low.is; least = no_longer })
        (λ last. record { cell = n; within = omega arith; is = last; least = no_longer })
        found.either)
