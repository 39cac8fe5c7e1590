-- The board in the needed parts of the tables. Assumes nothing.
use Rattle.std.proofs.Common.{◌≡◌, ℕ, ◌-◌, ◌<◌, cond, not, ◌||◌, ◌==◌, nat_lt, List, take, sym, refl, ap, ◌∙◌, ⊎_elim, arith}
use Rattle.std.proofs.lemmas.Bool.{cases_Bool, cond-true, cond-false}
use Rattle.std.proofs.lemmas.Bool.Decides.{nat_tests}
use Rattle.std.proofs.lemmas.List.{get_or-take}
use Rattle.board.specs.Sizes.{area}
use Rattle.board.specs.Tables.{barred_cell, group_of, known_group, known_pad, no_pad, pads, source_pad}
use Rattle.board.specs.declared.cell.Cell.{Cell}
use Rattle.board.specs.declared.size.Size.{Size}
use Rattle.measuring.specs.Boards.{Board, cell, on, source_of}
use Rattle.geodesics.specs.Unique.{SameBoard}

-- the board that the needed parts of the tables hold
abbrev pub trimmed : Size → List Cell → List ℕ → Board
trimmed size cells groups = on size (take (area size) cells) (take pads groups)

group_trimmed : (groups : List ℕ) (p : ℕ) → group_of (take pads groups) p ≡ group_of groups p
group_trimmed groups p =
    ⊎_elim
    (λ none. cond-true (no_pad p) 0 _ none ∙ sym (cond-true (no_pad p) 0 _ none))
    (λ some.
    cond-false (no_pad p) 0 _ some
    ∙ ap known_group (get_or-take pads groups (p - 1) 0 (grind (arith, nat_tests)))
    ∙ sym (cond-false (no_pad p) 0 _ some))
    (cases_Bool (no_pad p))

module _ (size : Size) (cells : List Cell) (groups : List ℕ) where
  cell_trimmed : (i : ℕ) → i < area size →
      cell (trimmed size cells groups) i ≡ cell (on size cells groups) i
  cell_trimmed i lt = get_or-take (area size) cells i barred_cell lt

  source_trimmed : (group i : ℕ) → i < area size →
      source_of (trimmed size cells groups) group i ≡ source_of (on size cells groups) group i
  source_trimmed group i lt =
      let c = cell (on size cells groups) i in
      let pad = known_pad c.pad in
      let within = nat_lt i (area size) in
      ap (λ c. cond within (source_pad c (take pads groups) group) 0) (cell_trimmed i lt)
      ∙ ap (λ own. cond within (cond (c.barred || not (own == group)) 0 pad) 0)
      (group_trimmed groups pad)

  pub same_board : (group : ℕ) → SameBoard group (trimmed size cells groups) (on size cells groups)
  same_board group = record {
    rows = refl;
    columns = refl;
    heights = λ i lt. ap (λ c. c.height) (cell_trimmed i lt);
    barred = λ i lt. ap (λ c. c.barred) (cell_trimmed i lt);
    sources = source_trimmed group;
  }
