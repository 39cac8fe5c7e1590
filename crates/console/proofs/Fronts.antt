-- What is read off the front parts of two maps.
use Rattle.std.proofs.Common.{◌≡◌, ◌∙◌, ℕ, zero, suc, ◌≤◌, ◌<◌, List, ◌++◌, length, Some, None, Ok, Option, refl, ap, arith}
use Rattle.std.proofs.lemmas.List.{get_or_append_left}
use Rattle.board.specs.Outcomes.{answering}
use Rattle.board.specs.Sizes.{area}
use Rattle.board.specs.declared.cell.Cell.{Cell}
use Rattle.board.specs.declared.record.MapRecord.{MapRecord}
use Rattle.board.specs.declared.size.Size.{Size}
use Rattle.console.specs.Gaps.{board_gap}
use Rattle.lengths.specs.Kinds.{Kind}
use Rattle.lengths.specs.Wholes.{whole_kind, whole_sum}
use Rattle.lengths.specs.declared.whole.Whole.{Whole}
use Rattle.measuring.proofs.Maps.{map_length}
use Rattle.measuring.specs.Boards.{on}
use Rattle.measuring.specs.ByChessboard.{by_chessboard}
use Rattle.measuring.specs.MapReadings.{distance_at, least, least_sum, length_of, summed}
use Rattle.measuring.specs.Maps.{filled}

module _ {L R : Type 0} (kind : Kind L R) (sum : L → L → L) where
  at_front : (map rest : List (MapRecord R)) (j : ℕ) → j < length map → distance_at kind (map ++ rest) j ≡ distance_at kind map j
  at_front map rest j lt = ap (length_of kind) (get_or_append_left map rest _ j lt)

  least_front : (first rest second more : List (MapRecord R)) (n : ℕ) → n ≤ length first → n ≤ length second → least_sum kind sum (first ++ rest) (second ++ more) n ≡ least_sum kind sum first second n
  unfolding least_sum
  least_front first rest second more zero a b = refl
  least_front first rest second more (suc n) a b =
      let before = least_front first rest second more n (omega arith) (omega arith) in
      let one = at_front first rest n (omega arith) in
      let two = at_front second more n (omega arith) in
      λ i. least kind (before i) (summed sum (one i) (two i))

-- what a call answers that is not sent back
pub answer_is : {E X : Type 0} (refused : Option E) (x y : X) → answering refused x ≡ Ok y → y ≡ x
answer_is None x y e = cc
answer_is (Some f) x y e = cc

-- the least sum of two tables whose front parts are the maps of a board
pub gap_told : (size size' size'' : Size) (cells : List Cell) (groups : List ℕ) (old old' first second : List (MapRecord ℕ)) (r : Option Whole) →
    size' ≡ size → size'' ≡ size →
    first ≡ filled (by_chessboard (on size cells groups) 1) old →
    second ≡ filled (by_chessboard (on size' cells groups) 2) old' →
    r ≡ least_sum whole_kind whole_sum first second (area size'') →
    r ≡ board_gap (on size cells groups)
gap_told size size' size'' cells groups old old' first second r s s' one two is =
    let second_map = two ∙ ap (λ x. filled (by_chessboard (on x cells groups) 2) old') s in
    let first_length = map_length (by_chessboard (on size cells groups) 1) in
    let second_length = map_length (by_chessboard (on size cells groups) 2) in
    is ∙ (λ i. least_sum whole_kind whole_sum (one i) (second_map i) (area (s' i)))
    ∙ least_front whole_kind whole_sum _ _ _ _ (area size) (omega arith) (omega arith)
