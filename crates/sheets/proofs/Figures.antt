-- Figures, digit by digit.
use Rattle.std.proofs.Common.{◌≡◌, ℕ, ◌+◌, ◌-◌, ◌*◌, ◌<◌, ◌≤◌, Bool, true, false, cond, ◌&&◌, List, [], ◌∷◌, length, get_or, drop, Some, None, Option, refl, ap, ◌∙◌, arith, nat_le, fold}
use Rattle.std.specs.Prelude.{option_and_then}
use Rattle.std.specs.Char.{is_ascii_digit}
use Rattle.std.specs.List.{list_all}
use Rattle.std.proofs.lemmas.List.{at_drop_more}
use Rattle.std.proofs.lemmas.Bool.Decides.{nat_tests}
use Rattle.sheets.specs.Lines.{figure_on, number_in}

-- what the digits from here on make of a number
abbrev pub figures_on : ℕ → List ℕ → Option ℕ
figures_on value [] = Some value
figures_on value (d ∷ ds) = option_and_then (λ more. figures_on more ds) (figure_on value d)

abbrev step : ℕ → ℕ → ℕ
step value digit = value * 10 + (digit - 48)

grows : (value : ℕ) (ds : List ℕ) → value ≤ fold step value ds
grows value [] = omega arith
grows value (d ∷ ds) = let more = grows (step value d) ds in omega arith

and_false : {X : Type 0} (a : Bool) (x : X) → None ≡ cond (a && false) (Some x) None
and_false true x = refl
and_false false x = refl

-- one digit, and the digits behind it
more_is : (digit fit : Bool) (value : ℕ) (ds : List ℕ) → nat_le value 65535 ≡ fit → (value ≤ 65535 → figures_on value ds ≡ cond (list_all is_ascii_digit ds && nat_le (fold step value ds) 65535) (Some (fold step value ds)) None) → option_and_then (λ more. figures_on more ds) (cond (digit && fit) (Some value) None) ≡ cond ((digit && list_all is_ascii_digit ds) && nat_le (fold step value ds) 65535) (Some (fold step value ds)) None
more_is false fit value ds is rest = refl
more_is true true value ds is rest = rest (grind (arith, nat_tests))
more_is true false value ds is rest =
    let more = grows value ds in
    let great : nat_le (fold step value ds) 65535 ≡ false = grind (arith, nat_tests) in
    rw great (and_false (list_all is_ascii_digit ds) (fold step value ds))

figures_on_is : (value : ℕ) (ds : List ℕ) → value ≤ 65535 → figures_on value ds ≡ cond (list_all is_ascii_digit ds && nat_le (fold step value ds) 65535) (Some (fold step value ds)) None
figures_on_is value [] small = let e : nat_le value 65535 ≡ true = grind (arith, nat_tests) in rw e
figures_on_is value (d ∷ ds) small =
    more_is (is_ascii_digit d) (nat_le (step value d) 65535) (step value d) ds refl (figures_on_is (step value d) ds)

pub number_is : (ds : List ℕ) → figures_on 0 ds ≡ number_in ds
number_is ds = figures_on_is 0 ds (omega arith)

-- one digit that is none, or makes the number too great
pub broken_off : (value : ℕ) (ds : List ℕ) (i d : ℕ) → i < length ds → get_or ds i 0 ≡ d → figure_on value d ≡ None → figures_on value (drop i ds) ≡ None
broken_off value ds i d lt is none =
    at_drop_more (figures_on value) ds i 0 lt ∙ ap (λ x. option_and_then (λ more. figures_on more (drop (i + 1) ds)) (figure_on value x)) is ∙ ap (option_and_then (λ more. figures_on more (drop (i + 1) ds))) none
