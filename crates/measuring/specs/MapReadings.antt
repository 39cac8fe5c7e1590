-- What is read off one map or two, of any content. Assumes nothing.
use Rattle.std.specs.Prelude.{ℕ, zero, suc, Bool, false, cond, ◌&&◌, List, map, take, Some, None, Option}
use Rattle.std.specs.List.{range_with_len}
use Rattle.board.specs.Tables.{known_pad}
use Rattle.board.specs.declared.record.MapRecord.{MapRecord}
use Rattle.lengths.specs.Kinds.{Kind}
use Rattle.measuring.specs.Sums.{how_many}
use Rattle.measuring.specs.Ways.{at, way_within}

-- the sum of two lengths, where there are both
abbrev pub summed : {L : Type 0} → (L → L → L) → Option L → Option L → Option L
summed sum None b = None
summed sum (Some a) None = None
summed sum (Some a) (Some b) = Some (sum a b)

module _ {L R : Type 0} (kind : Kind L R) where
  -- the length of a reached record
  abbrev pub length_of : MapRecord R → Option L
  length_of r = cond r.reached (Some (kind.decode r.length)) None

  -- a cell's distance; none where it is unreached
  abbrev pub distance_at : List (MapRecord R) → ℕ → Option L
  distance_at map j = length_of (at (kind.encode kind.zero) map j)

  -- the pad of a reached record; one above 64 counts as 0
  abbrev pub nearest_at : List (MapRecord R) → ℕ → Option ℕ
  nearest_at map j =
      let here = at (kind.encode kind.zero) map j in
      cond here.reached (Some (known_pad here.pad)) None

  -- the way from a cell along the links of a map of n records; none where the links are torn
  abbrev pub way_from : ℕ → List (MapRecord R) → ℕ → Option (List ℕ)
  way_from n map j = way_within (kind.encode kind.zero) (take n map) n j

  -- the shorter of two lengths, where there are any
  abbrev pub least : Option L → Option L → Option L
  least a None = a
  least None (Some b) = Some b
  least (Some a) (Some b) = cond (kind.le a b) (Some a) (Some b)

  -- whether there are two lengths, and they are the same
  abbrev pub same_length : Option L → Option L → Bool
  same_length None b = false
  same_length (Some a) None = false
  same_length (Some a) (Some b) = kind.le a b && kind.le b a

  module _ (sum : L → L → L) (first second : List (MapRecord R)) where
    -- the sum of a cell's distances in two maps
    abbrev pub sum_at : ℕ → Option L
    sum_at j = summed sum (distance_at first j) (distance_at second j)

    -- the least sum of the first n cells; none where no cell has both distances
    unfoldable pub least_sum : ℕ → Option L
    least_sum zero = None
    least_sum (suc n) = least (least_sum n) (sum_at n)

    -- whether a cell of a plate of n cells is on the route: its sum is the gap
    abbrev pub on_route : ℕ → ℕ → Bool
    on_route n j = same_length (sum_at j) (least_sum n)

    -- the marks of n cells, and how many are 1
    unfoldable pub route_marks : ℕ → List ℕ
    route_marks n = map (λ j. cond (on_route n j) 1 0) (range_with_len 0 n)

    unfoldable pub marked : ℕ → ℕ
    marked n = how_many (on_route n) n
