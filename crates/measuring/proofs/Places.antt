-- Which offers a walk over the rows around a cell can leave out. Assumes nothing.
use Rattle.std.proofs.Common.{◌≡◌, ℕ, ◌+◌, ◌-◌, ◌*◌, ◌/◌, ◌%◌, ◌<◌, min, Bool, true, false, cond, not, ◌&&◌, ◌||◌, eqb, ◌⊎◌, List, None, Option, sym, refl, ap, ◌∙◌, inl, inr, ⊎_elim, arith}
use Rattle.std.proofs.lemmas.Nat.{div-add-mod', div_below, div-mul-add, mod_below, mod-mul-add}
use Rattle.std.proofs.lemmas.Bool.{cases_eq, cases_lt, cond_both, cond-false, cond-true}
use Rattle.std.proofs.lemmas.Bool.Decides.{nat_tests}
use Rattle.board.specs.Sizes.{area, cell_at}
use Rattle.board.specs.declared.cell.Cell.{Cell}
use Rattle.board.specs.declared.record.MapRecord.{MapRecord}
use Rattle.lengths.specs.Kinds.{Kind}
use Rattle.queue.specs.declared.offer.Offer.{Offer}
use Rattle.gauges.specs.Meanings.{Crossing, crossed}
use Rattle.gauges.specs.declared.step.Point.{Point}
use Rattle.measuring.specs.Boards.{Board, cell, open_neighbour, open_neighbours, point}
use Rattle.measuring.specs.Paths.{Measuring, measuring}
use Rattle.measuring.specs.Rankings.{Bid, offer, offered}
use Rattle.measuring.specs.Sums.{before}
use Rattle.measuring.specs.Tracking.{Beside, Tracks, View, Walked, across, raised, counted_before, offered_before, offerer, updated}
use Rattle.measuring.specs.declared.offers.Offerer.{Offerer}
use Rattle.measuring.proofs.Before.{before_all, before_none, before_not_here, before_other, before_then, sum_before_all, sum_before_more, sum_before_none, sum_before_skips}
use Rattle.measuring.proofs.Tracks.{tracks_same}

-- from one place to a later one there is no open neighbour of the cell
abbrev pub Skips : Board → ℕ → ℕ → ℕ → ℕ → ℕ → Type 0
Skips b i row column row' column' =
    (j : ℕ) → j < area b.size →
    (before b.size row column j ≡ before b.size row' column' j) ⊎ (open_neighbour b i j ≡ false)

pub counted_skips : (b : Board) (i row column row' column' : ℕ) → Skips b i row column row' column' →
    counted_before b i row column ≡ counted_before b i row' column'
counted_skips b i row column row' column' skips =
    sum_before_skips (λ j. cond (open_neighbour b i j) 1 0) b.size row column row' column'
    (λ j lt. ⊎_elim inl (λ isnt. inr (ap (λ t. cond t 1 0) isnt)) (skips j lt))

module _ {L R : Type 0} (m : Measuring L R) (x : Bid L) (view : ℕ → View L) where
  pub no_offer : (j : ℕ) → open_neighbour m.board x.cell j ≡ false → offer m x j ≡ None
  no_offer j isnt = ap (offered x j) (cond-false _ _ _ isnt)

  pub offered_skips : (row column row' column' : ℕ) → Skips m.board x.cell row column row' column' →
      (j : ℕ) → j < area m.board.size →
      offered_before m x view row column j ≡ offered_before m x view row' column' j
  offered_skips row column row' column' skips j lt =
      ⊎_elim
      (λ e. ap (λ t. cond t (raised m.kind (view j) (offer m x j)) (view j)) e)
      (λ isnt.
      let same : raised m.kind (view j) (offer m x j) ≡ view j = ap (raised m.kind (view j)) (no_offer j isnt) in
      let stays : (t : Bool) → cond t (raised m.kind (view j) (offer m x j)) (view j) ≡ view j = λ t. cond_both t _ _ (λ v. v ≡ view j) (λ _. same) (λ _. refl) in
      stays _ ∙ sym (stays _))
      (skips j lt)

pub skipped_tracked : {L R : Type 0} {kind : Kind L R} {map : List (MapRecord R)} {es : List (Offer R)}
    (g : Crossing L) (b : Board) (group : ℕ) (x : Bid L) (view : ℕ → View L)
    (row column row' column' : ℕ) → Skips b x.cell row column row' column' →
    Tracks kind (area b.size) (offered_before (measuring kind g b group) x view row column) map es →
    Tracks kind (area b.size) (offered_before (measuring kind g b group) x view row' column') map es
skipped_tracked {kind = kind} g b group x view row column row' column' skips t =
    tracks_same (offered_skips (measuring kind g b group) x view row column row' column' skips) t

module _ {L R : Type 0} {m : Measuring L R} {from : Offerer L} {row column : ℕ}
    {map : List (MapRecord R)} {es : List (Offer R)} where
  pub stood : Walked m from row column row column 0 map es map es
  stood = record { counts = omega arith; tracks = λ view pad t. t }

  pub skipped : {row' column' row'' column'' steps : ℕ} {map' : List (MapRecord R)}
      {es' : List (Offer R)} → Walked m from row column row' column' steps map es map' es' →
      Skips m.board from.number row' column' row'' column'' →
      Walked m from row column row'' column'' steps map es map' es'
  skipped walked skips = record {
    counts = walked.counts ∙ counted_skips m.board from.number _ _ _ _ skips;
    tracks = λ view pad t. tracks_same (offered_skips m (offerer from) view _ _ _ _ skips) (walked.tracks view pad t);
  }

  pub walked_on : {row' column' row'' column'' steps more : ℕ} {map' map'' : List (MapRecord R)}
      {es' es'' : List (Offer R)} → Walked m from row column row' column' steps map es map' es' →
      Walked m from row' column' row'' column'' more map' es' map'' es'' →
      Walked m from row column row'' column'' (steps + more) map es map'' es''
  walked_on walked then = record {
    counts = omega (arith, walked.counts, then.counts);
    tracks = λ view pad t. then.tracks view pad (walked.tracks view pad t);
  }

module _ (b : Board) (i : ℕ) where
  abbrev columns : ℕ
  columns = b.size.columns

  pub skips_left : (row first : ℕ) → first ≡ i % columns - 1 → Skips b i row 0 row first
  skips_left row first is j lt =
      ⊎_elim (λ left. inr (grind (arith, nat_tests))) (λ right. inl (grind (arith, nat_tests))) (cases_lt (j % columns) first)

  pub skips_right : (row end : ℕ) → end ≡ min (i % columns + 2) columns → Skips b i row end (row + 1) 0
  skips_right row end is j lt =
      let within = mod_below j columns b.size.some_columns in
      ⊎_elim (λ left. inl (grind (arith, nat_tests))) (λ right. inr (grind (arith, nat_tests))) (cases_lt (j % columns) end)

  pub skips_above : (first : ℕ) → first ≡ i / columns - 1 → Skips b i 0 0 first 0
  skips_above first is j lt =
      ⊎_elim (λ above. inr (grind (arith, nat_tests))) (λ below. inl (grind (arith, nat_tests))) (cases_lt (j / columns) first)

  pub skips_below : (end : ℕ) → end ≡ min (i / columns + 2) b.size.rows → Skips b i end 0 b.size.rows 0
  skips_below end is j lt =
      let within = div_below j columns b.size.rows b.size.some_columns lt in
      ⊎_elim (λ above. inl (grind (arith, nat_tests))) (λ below. inr (grind (arith, nat_tests))) (cases_lt (j / columns) end)

  -- the place itself, where it is no open neighbour
  pub skips_one : (row column : ℕ) → column < columns →
      open_neighbour b i (cell_at b.size row column) ≡ false → Skips b i row column row (column + 1)
  skips_one row column within isnt j lt =
      ⊎_elim
      (λ is. inr (ap (open_neighbour b i) is ∙ isnt))
      (λ other. inl (sym (before_other b.size row column j within other)))
      (cases_eq j (cell_at b.size row column))

  pub counted_one : (row column : ℕ) → column < columns → cell_at b.size row column < area b.size →
      open_neighbour b i (cell_at b.size row column) ≡ true →
      counted_before b i row column + 1 ≡ counted_before b i row (column + 1)
  counted_one row column within lt is =
      sym (
      sum_before_more (λ j. cond (open_neighbour b i j) 1 0) b.size row column within lt ∙
      ap (λ t. counted_before b i row column + cond t 1 0) is)

-- after an offer to the place, all before the next place are made
pub offered_one : {L R : Type 0} (m : Measuring L R) (x : Bid L) (view : ℕ → View L) (row column : ℕ)
    (o : Option (Bid L)) → column < m.board.size.columns →
    o ≡ offer m x (cell_at m.board.size row column) → (j : ℕ) →
    updated (offered_before m x view row column) (cell_at m.board.size row column)
    (raised m.kind (offered_before m x view row column (cell_at m.board.size row column)) o) j ≡ offered_before m x view row (column + 1) j
offered_one m x view row column o within made j =
    let size = m.board.size in
    ⊎_elim
    (λ is.
    let not-yet = before_not_here size row column within in
    let then = before_then size row column within in
    grind (arith, nat_tests))
    (λ other. let same = before_other size row column j within other in grind (arith, nat_tests))
    (cases_eq j (cell_at size row column))

-- the place beside a cell: it is an open neighbour unless it is the cell itself or barred
module _ (b : Board) (i row column : ℕ) (within : column < b.size.columns) where
  abbrev beside : ℕ
  beside = cell_at b.size row column

  -- the place has the cell's number exactly where it is the cell's
  pub numbered : (at : Point) → at ≡ point b i → eqb beside i ≡ (eqb row at.row && eqb column at.column)
  numbered at placed =
      let q = div-mul-add row b.size.columns column within in
      let r = mod-mul-add row b.size.columns column within in
      let whole = div-add-mod' i b.size.columns in
      let row_is = ap (λ p. p.row) placed in
      let column_is = ap (λ p. p.column) placed in
      let apart : (i / b.size.columns ≡ row) → (i % b.size.columns ≡ column) → i ≡ beside = λ q r. sym whole ∙ (λ k. q k * b.size.columns + r k) in
      ⊎_elim
      (λ is. grind (arith, nat_tests))
      (λ other.
      ⊎_elim
      (λ p. ⊎_elim (λ s. absurd (other (sym (apart p s)))) (λ s. grind (arith, nat_tests)) (cases_eq (i % b.size.columns) column))
      (λ p. grind (arith, nat_tests))
      (cases_eq (i / b.size.columns) row))
      (cases_eq beside i)

  pub itself_closed : row ≡ i / b.size.columns → column ≡ i % b.size.columns →
      open_neighbour b i beside ≡ false
  itself_closed same_row same-column =
      let q = div-mul-add row b.size.columns column within in
      let r = mod-mul-add row b.size.columns column within in
      grind (arith, nat_tests)

  pub barred_closed : (cell b beside).barred ≡ true → open_neighbour b i beside ≡ false
  barred_closed barred = grind (arith, nat_tests)

  pub beside_is : (at : Point) (x : Cell) (passed : Bool) → at ≡ point b i → cell b beside ≡ x →
      Beside at row column → beside < area b.size → passed ≡ (eqb beside i || x.barred) →
      open_neighbour b i beside ≡ not passed
  beside_is at x passed placed read near on-board told =
      let q = div-mul-add row b.size.columns column within in
      let r = mod-mul-add row b.size.columns column within in
      let row_is = ap (λ p. p.row) placed in
      let column_is = ap (λ p. p.column) placed in
      let same = numbered at placed in
      let barred_is = ap (λ y. y.barred) read in
      let above = near.above in
      let below = near.below in
      let left = near.left in
      let right = near.right in
      grind (arith, nat_tests)

  pub across_is : {L R : Type 0} (kind : Kind L R) (g : Crossing L) (group : ℕ) (from : Offerer L)
      (height : ℕ) → from.number ≡ i → from.at ≡ point b i → height ≡ (cell b beside).height →
      open_neighbour b i beside ≡ true →
      across g from (record { row = row; column = column; height = height }) beside ≡ offer (measuring kind g b group)
      (offerer from) beside
  across_is kind g group from height number at high opens =
      let q = sym (div-mul-add row b.size.columns column within) in
      let r = sym (mod-mul-add row b.size.columns column within) in
      ap (offered (offerer from) beside) (
      (λ k. crossed g (record { from = (at ∙ ap (point b) (sym number)) k; to = record { row = q k; column = r k; height = high k } }) from.length) ∙
      sym (cond-true (open_neighbour b from.number beside) _ None (ap (λ n. open_neighbour b n beside) number ∙ opens))
      )

pub counted_none : (b : Board) (i : ℕ) → counted_before b i 0 0 ≡ 0
counted_none b i = sum_before_none _ b.size

pub counted_all : (b : Board) (i : ℕ) → counted_before b i b.size.rows 0 ≡ open_neighbours b i
counted_all b i = sum_before_all _ b.size

module _ {L R : Type 0} (m : Measuring L R) (x : Bid L) (view : ℕ → View L) where
  pub offered_none : (j : ℕ) → view j ≡ offered_before m x view 0 0 j
  offered_none j = sym (cond-false _ _ _ (before_none m.board.size j))

  pub offered_all : (j : ℕ) → j < area m.board.size →
      offered_before m x view m.board.size.rows 0 j ≡ raised m.kind (view j) (offer m x j)
  offered_all j lt = cond-true _ _ _ (before_all m.board.size j lt)
