-- A list, or marks, of which the front part was lent. Assumes nothing.
use Rattle.std.proofs.Common.{◌≡◌, ℕ, ◌≤◌, ltb, false, List, ◌++◌, length, take, drop, None, Some, Ok, Err, Option, Result, sym, subst, refl, ap, ◌∙◌, arith}
use Rattle.std.proofs.Math.Seq.{drop-append_seam}
use Rattle.std.proofs.lemmas.Bool.Decides.{nat_tests}
use Rattle.std.proofs.lemmas.List.{drop-append-le, length-append, length-take-le, take-append-drop}
use Rattle.board.specs.Outcomes.{after, answering}
use Rattle.board.specs.Sizes.{area}
use Rattle.board.specs.declared.record.MapRecord.{MapRecord}
use Rattle.lengths.specs.Kinds.{Kind}
use Rattle.measuring.specs.MapReadings.{marked, route_marks}
use Rattle.plate.specs.Readings.{Routes, Walks, how_many_of, written}
use Rattle.plate.specs.Refusals.{Standing, gap_refusal, route_refusal}
use Rattle.plate.specs.declared.refusal.Refusal.{Refusal}
use Rattle.plate.specs.declared.refusal.Refusal.TheVariants.{Tables}
use Rattle.runs.specs.Replies.{ListLeft, in_front}
use Rattle.runs.specs.declared.reply.Reply.TheVariants as reply
use Rattle.runs.proofs.Looks.{marks_length}
use Rattle.runs.proofs.Moves.{refuse_none}

-- what is written in front of a part stands in front of the whole, and the rest is as it was
pub whole_kept : (k n : ℕ) (table part : List ℕ) → k ≤ length part →
    length part ≡ length (take n table) → drop k part ≡ drop k (take n table) →
    part ++ drop n table ≡ in_front (take k (part ++ drop n table)) table
whole_kept k n table part within long behind =
    let whole = part ++ drop n table in
    let front : length (take k whole) ≡ k =
    length-take-le k whole (omega (arith, length-append part (drop n table))) in
    let rest : drop k whole ≡ drop k table =
    drop-append-le k part (drop n table) within
    ∙ ap (λ l. l ++ drop n table) behind
    ∙ sym (drop-append-le k (take n table) (drop n table) (omega arith))
    ∙ ap (drop k) (take-append-drop n table) in
    sym (take-append-drop k whole) ∙ ap (λ l. take k whole ++ l) rest
    ∙ ap (λ i. take k whole ++ drop i table) (sym front)

-- a part that is as it was
pub whole_same : (n : ℕ) (table part : List ℕ) → part ≡ take n table → part ++ drop n table ≡ table
whole_same n table part same = ap (λ l. l ++ drop n table) same ∙ take-append-drop n table

-- the cells of a way that is answered stand in its list
way_counted : (cells : Result (List ℕ) Refusal) (list : List ℕ) (n : ℕ) → how_many_of cells ≡ Ok n →
    n ≤ length (written cells list)
way_counted (Ok cells) list n is =
    let count : length cells ≡ n = cc in
    omega (arith, length-append cells (drop (length cells) list))
way_counted (Err e) list n is = absurd (grind arith)

way_behind : (cells : Result (List ℕ) Refusal) (list : List ℕ) (n : ℕ) → how_many_of cells ≡ Ok n →
    drop n (written cells list) ≡ drop n list
way_behind (Ok cells) list n is =
    let count : length cells ≡ n = cc in
    subst (λ k. drop k (cells ++ drop (length cells) list) ≡ drop k list) count
    (drop-append_seam cells (drop (length cells) list))
way_behind (Err e) list n is = absurd (grind arith)

way_unwritten : (cells : Result (List ℕ) Refusal) (list : List ℕ) (e : Refusal) →
    how_many_of cells ≡ Err e → written cells list ≡ list
way_unwritten (Ok cells) list e is = absurd (grind arith)
way_unwritten (Err e') list e is = refl

module _ {L : Type 0} (cells : Result (List ℕ) Refusal) (part part' : List ℕ) (r : Result ℕ Refusal)
    (walks : Walks cells part part' r) (n : ℕ) (table : List ℕ) (lent : part ≡ take n table) where
  -- a way that is answered leaves the list behind it, and as many cells are told as are counted
  pub walked_list : (k : ℕ) → length part' ≡ length part → r ≡ Ok k →
      ListLeft {L = L} (reply.Way k) table (part' ++ drop n table)
  walked_list k long is =
      let counted : k ≤ length part' =
      subst (λ l. k ≤ length l) (sym walks.table)
      (way_counted cells part k (sym walks.answer ∙ is)) in
      record {
        cells = whole_kept k n table part' counted (long ∙ ap length lent)
            (ap (drop k) walks.table ∙ way_behind cells part k (sym walks.answer ∙ is)
            ∙ ap (drop k) lent);
        count = sym (length-take-le k (part' ++ drop n table)
            (omega (arith, counted, length-append part' (drop n table))));
      }

  -- and one that is sent back leaves all of it
  pub unwalked_list : (e : Refusal) → r ≡ Err e →
      ListLeft {L = L} (reply.Refused e) table (part' ++ drop n table)
  unwalked_list e is = record {
    cells = whole_same n table part'
        (walks.table ∙ way_unwritten cells part e (sym walks.answer ∙ is) ∙ lent);
    count = refl;
  }

-- the same of a route and its marks
not_refused : {X : Type 0} (back : Option Refusal) (x n : X) → answering back x ≡ Ok n → back ≡ None
not_refused None x n is = refl
not_refused (Some e) x n is = absurd (grind arith)

unwritten : {X Y : Type 0} (back : Option Refusal) (x : X) (e : Refusal) (y y' : Y) →
    answering back x ≡ Err e → after back y y' ≡ y
unwritten None x e y y' is = absurd (grind arith)
unwritten (Some e') x e y y' is = refl

module _ {L R : Type 0} (kind : Kind L R) (sum : L → L → L) (p : Standing)
    (first second : List (MapRecord R)) (part part' : List ℕ) (r : Result ℕ Refusal)
    (routes : Routes kind sum p first second part part' r) (n : ℕ) (table : List ℕ)
    (lent : part ≡ take n table) where
  abbrev back : Option Refusal
  back = route_refusal p (length first) (length second) (length part)

  abbrev on : List ℕ
  on = route_marks kind sum first second (area p.size)

  enough_marks : back ≡ None → area p.size ≤ length part
  enough_marks accepted =
      let short : ltb (length part) (area p.size) ≡ false =
      (refuse_none (ltb (length part) (area p.size)) Tables
      (gap_refusal p (length first) (length second)) accepted).0 in
      grind (arith, nat_tests, short)

  -- the marks of a route that is answered stand in front, and the rest is as it was
  pub marked_marks : (k : ℕ) → length part' ≡ length part → r ≡ Ok k →
      part' ++ drop n table ≡ in_front (take (area p.size) (part' ++ drop n table)) table
  marked_marks k same is =
      let accepted : back ≡ None =
      not_refused back (marked kind sum first second (area p.size)) k
      (sym routes.answer ∙ is) in
      let behind : drop (area p.size) part' ≡ drop (area p.size) part =
      ap (λ l. drop (area p.size) l)
      (routes.table ∙ ap (λ b. after b part (on ++ drop (area p.size) part)) accepted)
      ∙ subst (λ k. drop k (on ++ drop (area p.size) part) ≡ drop (area p.size) part)
      (marks_length kind sum first second (area p.size))
      (drop-append_seam on (drop (area p.size) part)) in
      whole_kept (area p.size) n table part'
      (subst (λ l. area p.size ≤ l) (sym same) (enough_marks accepted)) (same ∙ ap length lent)
      (behind ∙ ap (drop (area p.size)) lent)

  pub unmarked_marks : (e : Refusal) → r ≡ Err e → part' ++ drop n table ≡ table
  unmarked_marks e is = whole_same n table part'
      (routes.table ∙ unwritten back _ e part _ (sym routes.answer ∙ is) ∙ lent)
