-- What a line asks for, by figures one after another.
use Rattle.std.proofs.Common.{◌≡◌, ℕ, ◌+◌, List, drop, Ok, Err, Result, sym, ap, ◌∙◌, zero-add}
use Rattle.std.proofs.Math.Nat.{add_assoc}
use Rattle.std.proofs.lemmas.List.{drop-drop}
use Rattle.plate.specs.declared.edit.Edit.TheVariants as edit
use Rattle.sheets.specs.Lines.{edit_in, keyword_in, pair_in}
use Rattle.sheets.specs.Readers.{Reads}
use Rattle.sheets.specs.Tokens.{fields_left}
use Rattle.sheets.specs.declared.fault.Fault.{Fault}
use Rattle.sheets.specs.declared.line.Line.{Line}
use Rattle.sheets.specs.declared.token.Keyword.TheVariants.{Cell, Bar, Enrol}

-- some fields are read, and then some more
pub reads_on : (m n : ℕ) (a b c : Line) → Reads m a b → Reads n b c → Reads (m + n) a c
reads_on m n a b c first then = record {
  line = then.line ∙ first.line;
  field = then.field ∙ ap (λ k. k + n) first.field ∙ add_assoc a.place.field m n;
  rest = then.rest ∙ ap (drop n) first.rest ∙ drop-drop n m (fields_left a.rest);
}

-- two figures that are read where so many fields of a line were read before
pub pair_told : (n : ℕ) (a b : Line) (r : Result (ℕ × ℕ) Fault) → a.place.field ≡ 0 → Reads n a b →
    ((fields : List (List ℕ)) → fields_left b.rest ≡ drop b.place.field fields → r ≡ pair_in b.place.line fields b.place.field) →
    pair_in a.place.line (fields_left a.rest) n ≡ r
pair_told n a b r begun reads told =
    let fields = fields_left a.rest in
    let field = reads.field ∙ ap (λ j. j + n) begun ∙ zero-add n in
    sym (told fields (reads.rest ∙ ap (λ j. drop j fields) (sym field)) ∙ (λ i. pair_in (reads.line i) fields (field i)))

module _ (line : ℕ) (fields : List (List ℕ)) (fault : Fault) where
  pub bar_err : Ok Bar ≡ keyword_in line fields → pair_in line fields 1 ≡ Err fault → edit_in line fields ≡ Err fault
  bar_err k p = rw (sym k, p)

  pub enrol_err : Ok Enrol ≡ keyword_in line fields → pair_in line fields 1 ≡ Err fault → edit_in line fields ≡ Err fault
  enrol_err k p = rw (sym k, p)

  pub cell_err : (a : ℕ × ℕ) → Ok Cell ≡ keyword_in line fields → pair_in line fields 1 ≡ Ok a → pair_in line fields 3 ≡ Err fault → edit_in line fields ≡ Err fault
  cell_err a k p q = rw (sym k, p, q)

pub cell_ok : (line : ℕ) (fields : List (List ℕ)) (a b : ℕ × ℕ) → Ok Cell ≡ keyword_in line fields → pair_in line fields 1 ≡ Ok a → pair_in line fields 3 ≡ Ok b → edit_in line fields ≡ Ok (edit.Set a.0 a.1 b.0 b.1)
cell_ok line fields a b k p q = rw (sym k, p, q)
