-- The gap of a sheet is the least plain sum between the groups of its board, and the line says so.
use Rattle.std.proofs.Common.{◌≡◌, ℕ, ◌^◌, ◌<◌, List, ◌++◌, [], ◌∷◌, IsOkAnd, codes, drop, get_or, Some, None, Option, Ok, Result, refl, sym, ap, ◌∙◌, subst, arith}
use Rattle.std.proofs.lemmas.Fmt.{decimal_injective, decimal_nonempty, digits_decimal}
use Rattle.std.proofs.lemmas.List.{append_cancel_right, get_or_append_left}
use Rattle.std.proofs.lemmas.Str.Parse.{digit_at, numerals_by_value, tells_digits}
use Rattle.std.specs.Fmt.{decimal}
use Rattle.std.specs.List.{All}
use Rattle.std.specs.Str.Parse.{AllDigits}
use Rattle.board.specs.declared.size.Size.{Size}
use Rattle.console.specs.GapSums.{GivesLeastGap, IsLeastGap, PrintsLeastGap, TellsLeastGap}
use Rattle.console.specs.Gaps.{board_gap, gap_or_fault, gap_text, sheet_gap, sheet_read}
use Rattle.console.proofs.Heights.{Low, fitting_low, sheet_low}
use Rattle.gauges.specs.Rulers.{chessboard_units}
use Rattle.geodesics.specs.GapSums.{LeastSumBetween}
use Rattle.geodesics.proofs.GapSums.{published_gap}
use Rattle.lengths.specs.Wholes.{whole}
use Rattle.lengths.specs.declared.whole.Whole.{Whole}
use Rattle.measuring.specs.Boards.{Board, on}
use Rattle.sheets.specs.declared.fault.Fault.{Fault}

-- a number's digits are not the word `none`: the first byte is a digit
not_none : (n : ℕ) → n < 2 ^ 64 → decimal n ++ 10 ∷ [] ≡ codes "none" ++ 10 ∷ [] → ⊥
not_none n small e =
    let some = decimal_nonempty n small in
    let first = digit_at (decimal n) 0 (digits_decimal (numerals_by_value (AllDigits 10) tells_digits) n small) some in
    let kept = get_or_append_left (decimal n) (10 ∷ []) 0 0 some in
    let byte : get_or (decimal n) 0 0 ≡ 110 = sym kept ∙ ap (λ bs. get_or bs 0 0) e in
    omega (arith, first)

number_not_none : (gap : Whole) → gap.units < 2 ^ 64 → gap_text (Ok (Some gap)) ≡ gap_text (Ok None) → ⊥
number_not_none gap small e = not_none gap.units small (ap (drop 4) e)

same_number : (gap : Whole) (n : ℕ) → gap.units < 2 ^ 64 → n < 2 ^ 64 → gap_text (Ok (Some gap)) ≡ gap_text (Ok (Some (whole n))) → gap.units ≡ n
same_number gap n small small' e =
    let kept : (whole n).units ≡ n = omega arith in
    let digits = append_cancel_right (decimal gap.units) (decimal (whole n).units) (10 ∷ []) (ap (drop 4) e) in
    decimal_injective gap.units (whole n).units small (omega arith) digits ∙ kept

prints : (b : Board) (gap : Option Whole) → IsLeastGap b gap → PrintsLeastGap b (gap_text (Ok gap))
prints b None none = record {
  gap = None;
  text = refl;
  least = none;
  number = λ n small e. absurd (number_not_none (whole n) (omega arith) (sym e));
  none = (λ _. none, λ _. refl);
}
prints b (Some gap) least =
    let small : gap.units < 2 ^ 64 = omega (arith, least.small) in
    record {
      gap = Some gap;
      text = refl;
      least = least;
      number = λ n small' e. subst (LeastSumBetween chessboard_units b) (same_number gap n small small' e) least;
      none = (λ e. absurd (number_not_none gap small e), λ none. absurd (none least.end least.cells gap.units least.sum));
    }

least_gap : (b : Board) → All Low b.cells → IsLeastGap b (board_gap b)
least_gap b low = published_gap.chessboard b (fitting_low b low)

-- whatever is the gap of a sheet is least, and whatever is its line says so
pub gap_given : (sheet : List ℕ) (given : Result (Option Whole) Fault) → given ≡ sheet_gap sheet → GivesLeastGap sheet given
gap_given sheet given is =
    let r = sheet_read sheet in
    let told = λ (answer : Result Size Fault). gap_or_fault answer r.cells r.groups in record {
      plate = λ size e.
          let b = on size r.cells r.groups in
          subst (λ given. IsOkAnd given (IsLeastGap b)) (sym (is ∙ ap told e)) (least_gap b (sheet_low sheet));
      at_fault = λ fault e. is ∙ ap told e;
    }

pub gap_told : (sheet line : List ℕ) → line ≡ gap_text (sheet_gap sheet) → TellsLeastGap sheet line
gap_told sheet line is =
    let r = sheet_read sheet in
    let told = λ (answer : Result Size Fault). gap_text (gap_or_fault answer r.cells r.groups) in record {
      plate = λ size e.
          let b = on size r.cells r.groups in
          subst (PrintsLeastGap b) (sym (is ∙ ap told e)) (prints b _ (least_gap b (sheet_low sheet)));
      at_fault = λ fault e. is ∙ ap told e;
    }
