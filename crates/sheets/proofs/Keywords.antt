-- What reading a word comes to.
use Rattle.std.proofs.Common.{◌≡◌, ◌≢◌, ℕ, true, false, List, Some, None, Ok, Err, Result, refl, sym, ap, ◌∙◌, MatchResult}
use Rattle.std.specs.Result.{IsErrAnd}
use Rattle.std.specs.Str.{bytes_eq}
use Rattle.std.proofs.lemmas.Slice.Eq.{bytes_eq-Decides}
use Rattle.sheets.specs.Lines.{fault_at, keyword_of, keyword_or_fault}
use Rattle.sheets.specs.Words.{ReadsWord, word_of}
use Rattle.sheets.specs.declared.fault.Fault.{Fault}
use Rattle.sheets.specs.declared.refusal.Refusal.{Refusal}
use Rattle.sheets.specs.declared.token.Keyword.{Keyword}
use Rattle.sheets.specs.declared.token.Keyword.TheVariants.{Plate, Cell, Bar, Enrol}

own_word : (k : Keyword) → keyword_of (word_of k) ≡ Some k
own_word Plate = refl
own_word Cell = refl
own_word Bar = refl
own_word Enrol = refl

unlike : (xs ys : List ℕ) → xs ≢ ys → bytes_eq xs ys ≡ false
unlike xs ys other = elim (bytes_eq xs ys) as (λ t. (t ≡ true → xs ≡ ys) → t ≡ false) [ true ↦ λ same. absurd (other (same refl)) | false ↦ λ same. refl ] (bytes_eq-Decides xs ys).0

no_word : (word : List ℕ) → ((k : Keyword) → word ≢ word_of k) → keyword_of word ≡ None
no_word word none =
    let a = unlike word (word_of Plate) (none Plate) in
    let b = unlike word (word_of Cell) (none Cell) in
    let c = unlike word (word_of Bar) (none Bar) in
    let d = unlike word (word_of Enrol) (none Enrol) in
    rw (a, b, c, d)

-- a word's keyword, or the fault of its field
pub keyword_told : {P : Refusal → Fault → Type 0} (line field : ℕ) (word : List ℕ) (r : Result Keyword Refusal) (out : Result Keyword Fault) → ReadsWord word r → MatchResult r (λ k. out ≡ Ok k) (λ e. IsErrAnd out (P e)) → ((e : Refusal) (f : Fault) → P e f → f ≡ fault_at line field e) → out ≡ keyword_or_fault line field (keyword_of word)
keyword_told line field word (Ok k) out reads is at = is ∙ sym (ap (keyword_or_fault line field) (ap keyword_of reads ∙ own_word k))
keyword_told line field word (Err e) (Ok k) reads is at = absurd is
keyword_told line field word (Err e) (Err f) reads is at =
    ap Err (at e f is) ∙ ap (λ e. Err (fault_at line field e)) reads.0 ∙ sym (ap (keyword_or_fault line field) (no_word word reads.1))
