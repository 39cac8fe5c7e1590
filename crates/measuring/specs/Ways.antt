-- Ways along the links of a map, of any content. Assumes nothing.
use Rattle.std.specs.Prelude.{ℕ, zero, suc, cond, List, [], ◌∷◌, Some, None, Option, ◌==◌, slice_index_or}
use Rattle.board.specs.Records.{unreached_record}
use Rattle.board.specs.declared.record.MapRecord.{MapRecord}

-- the record of a cell; beyond the map no cell is reached, and there stands the row given
abbrev pub at : {R : Type 0} → R → List (MapRecord R) → ℕ → MapRecord R
at row map j = slice_index_or map j (unreached_record row)

abbrev pub then : ℕ → Option (List ℕ) → Option (List ℕ)
then j None = None
then j (Some cells) = Some (j ∷ cells)

-- the cells from j on along the links, up to the first that is linked to itself: reached cells, at
-- most n of them; none where there is no such way
unfoldable pub way_within : {R : Type 0} → R → List (MapRecord R) → ℕ → ℕ → Option (List ℕ)
way_within row map zero j = None
way_within row map (suc n) j =
    let here = at row map j in
    cond here.reached
    (cond (here.link == j) (Some (j ∷ [])) (then j (way_within row map n here.link)))
    None
