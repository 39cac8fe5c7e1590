-- What opening a plate comes to, and that no map of it is current until one is measured.
use Rattle.std.proofs.Common.{◌≡◌, ℕ, Bool, true, false, cond, List, length, Some, None, Ok, Err, Option, Result, refl, sym, ap, ◌∙◌, MatchResult, ◌≤◌, IfOk}
use Rattle.std.specs.Prelude.{option_map}
use Rattle.std.specs.Result.{IsErrAnd}
use Rattle.std.proofs.lemmas.Option.{same_Some}
use Rattle.std.proofs.lemmas.Bool.{true≢false}
use Rattle.std.proofs.Math.Bridge.{le_prop}
use mathlib.Core.HLevel.{is_prop→PathP}
use Rattle.board.specs.Outcomes.{after}
use Rattle.board.specs.Sizes.{Sized, bad_size}
use Rattle.board.specs.declared.cell.Cell.{Cell}
use Rattle.board.specs.declared.size.Dimensions.{Dimensions}
use Rattle.board.specs.declared.size.Size.{Size}
use Rattle.plate.specs.Edits.{Fresh, OpensOver, opened_cells, opened_groups}
use Rattle.plate.specs.Headers.{outdated, standing}
use Rattle.plate.specs.Refusals.{open_refusal}
use Rattle.plate.specs.declared.header.Draft.{Draft}
use Rattle.plate.specs.declared.refusal.Refusal.{Refusal}
use Rattle.plate.specs.declared.refusal.Refusal.TheVariants as refusal
use Rattle.sheets.specs.Sizes.{size_if, size_of}
use Rattle.sheets.specs.Reading.{IsUnmeasured, Reading, come_to, not_opened_at, opening, size_or_fault, unless_at_fault}
use Rattle.sheets.specs.declared.fault.Fault.{Fault}

-- two sizes are equal once their rows and columns are
same_size : (a b : Size) → a.rows ≡ b.rows → a.columns ≡ b.columns → a ≡ b
same_size a b r c = λ i. record {
  rows = r i;
  columns = c i;
  some_rows = is_prop→PathP (λ j. 1 ≤ r j) (λ j. le_prop) a.some_rows b.some_rows i;
  few_rows = is_prop→PathP (λ j. r j ≤ 256) (λ j. le_prop) a.few_rows b.few_rows i;
  some_columns = is_prop→PathP (λ j. 1 ≤ c j) (λ j. le_prop) a.some_columns b.some_columns i;
  few_columns = is_prop→PathP (λ j. c j ≤ 256) (λ j. le_prop) a.few_columns b.few_columns i;
}

size_given : (bad : Bool) (asked : Dimensions) (is : bad_size asked ≡ bad) → bad ≡ false → Sized (size_if bad asked is) asked
size_given true asked is good = absurd (true≢false good)
size_given false asked is good = record { rows = refl; columns = refl }

-- a fresh draft is of the size of what was asked
fresh_size : (asked : Dimensions) (d : Draft) → bad_size asked ≡ false → Fresh asked d → d.header.size ≡ size_of asked
fresh_size asked d good fresh =
    let given = size_given (bad_size asked) asked refl good in
    same_size d.header.size (size_of asked) (fresh.size.rows ∙ sym given.rows) (fresh.size.columns ∙ sym given.columns)

not_refused : (bad : Bool) (rest : Option Refusal) → cond bad (Some refusal.Size) rest ≡ None → bad ≡ false
not_refused true rest e = cc
not_refused false rest e = refl

good_size : (asked : Dimensions) (cells groups : ℕ) → open_refusal asked cells groups ≡ None → bad_size asked ≡ false
good_size asked cells groups none = not_refused (bad_size asked) _ none

-- what opening comes to, by its refusal
by_refusal : Option Refusal → Dimensions → Size → List Cell → List Cell → List ℕ → List ℕ → Reading
by_refusal refused asked size cells cells' groups groups' =
    unless_at_fault (option_map (not_opened_at asked) refused) cells groups (come_to (Ok size) cells' groups')

module _ (asked : Dimensions) (size : Size) (cells cells' written : List Cell) (groups groups' written' : List ℕ) (out : Result Size Fault) where
  opened_ok : (refused : Option Refusal) → refused ≡ None → out ≡ Ok size → cells' ≡ after refused cells written → groups' ≡ after refused groups written' → come_to out cells' groups' ≡ by_refusal refused asked size cells written groups written'
  unfolding by_refusal
  opened_ok None none is c g = λ i. come_to (is i) (c i) (g i)
  opened_ok (Some e) none is c g = cc

  opened_err : (refused : Option Refusal) (e : Refusal) → refused ≡ Some e → out ≡ Err (not_opened_at asked e) → cells' ≡ after refused cells written → groups' ≡ after refused groups written' → come_to out cells' groups' ≡ by_refusal refused asked size cells written groups written'
  unfolding by_refusal
  opened_err None e some is c g = cc
  opened_err (Some r) e some is c g =
      let fault = is ∙ sym (ap (λ x. Err (not_opened_at asked x)) (same_Some r e some)) in
      λ i. come_to (fault i) (c i) (g i)

pub told_opening : {P : Refusal → Fault → Type 0} (asked : Dimensions) (cells cells' : List Cell) (groups groups' : List ℕ) (r : Result Draft Refusal) (out : Result Draft Fault) →
    OpensOver asked cells cells' groups groups' r →
    MatchResult r (λ d. out ≡ Ok d) (λ e. IsErrAnd out (P e)) →
    ((e : Refusal) (f : Fault) → P e f → f ≡ not_opened_at asked e) →
    come_to (size_or_fault out) cells' groups' ≡ opening asked cells groups
unfolding by_refusal
told_opening asked cells cells' groups groups' (Ok d) out opens is at =
    let none = opens.answer.0 in
    let size = fresh_size asked d (good_size asked (length cells) (length groups) none) opens.answer.1 in
    opened_ok asked (size_of asked) cells cells' (opened_cells asked cells) groups groups' (opened_groups groups) (size_or_fault out) (open_refusal asked (length cells) (length groups)) none (ap size_or_fault is ∙ ap Ok size) opens.all_bare opens.no_groups
told_opening asked cells cells' groups groups' (Err e) (Ok d) opens is at = absurd is
told_opening asked cells cells' groups groups' (Err e) (Err f) opens is at =
    opened_err asked (size_of asked) cells cells' (opened_cells asked cells) groups groups' (opened_groups groups) (Err f) (open_refusal asked (length cells) (length groups)) e opens.answer (ap Err (at e f is)) opens.all_bare opens.no_groups

-- no map of a plate just opened is current
pub opened_unmeasured : (P : Refusal → Fault → Type 0) (asked : Dimensions) (cells cells' : List Cell) (groups groups' : List ℕ) (r : Result Draft Refusal) (out : Result Draft Fault) →
    OpensOver asked cells cells' groups groups' r → MatchResult r (λ d. out ≡ Ok d) (λ e. IsErrAnd out (P e)) → IfOk out IsUnmeasured
opened_unmeasured P asked cells cells' groups groups' (Ok d) (Ok d') opens is =
    let same : d' ≡ d = cc in
    let fresh = opens.answer.1 in
    record { first = ap (λ x. x.header.first) same ∙ fresh.first; second = ap (λ x. x.header.second) same ∙ fresh.second }
opened_unmeasured P asked cells cells' groups groups' (Ok d) (Err f) opens is = cc
opened_unmeasured P asked cells cells' groups groups' (Err e) (Ok d) opens is = absurd is
opened_unmeasured P asked cells cells' groups groups' (Err e) (Err f) opens is = tt

-- and none after an edit, accepted or not
pub stays_unmeasured : (refused : Option Refusal) (d d' : Draft) → standing d'.header ≡ after refused (standing d.header) (outdated (standing d.header)) → IsUnmeasured d → IsUnmeasured d'
stays_unmeasured None d d' is before = record { first = ap (λ p. p.first) is; second = ap (λ p. p.second) is }
stays_unmeasured (Some e) d d' is before = record {
  first = ap (λ p. p.first) is ∙ before.first;
  second = ap (λ p. p.second) is ∙ before.second;
}
