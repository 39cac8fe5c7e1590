-- The sheets of the worked examples, and what is printed of them. Assumes nothing.
use Rattle.std.specs.Prelude.{ℕ, List, [], ◌∷◌, ◌++◌}
use lib.Chars.{codes}

-- fields, each behind a tab, and the line's end
abbrev pub figures : List (List ℕ) → List ℕ
figures [] = 10 ∷ []
figures (field ∷ fields) = (9 ∷ field) ++ figures fields

abbrev pub plate_line : List ℕ
plate_line = codes "plate" ++ figures (codes "2" ∷ codes "3" ∷ [])

-- a plate of 2 × 3 with a hill between its two pads
abbrev pub board_lines : List ℕ
board_lines =
    codes "cell" ++ figures (codes "0" ∷ codes "0" ∷ codes "0" ∷ codes "1" ∷ [])
    ++ codes "cell" ++ figures (codes "0" ∷ codes "1" ∷ codes "9" ∷ codes "0" ∷ [])
    ++ codes "cell" ++ figures (codes "0" ∷ codes "2" ∷ codes "0" ∷ codes "2" ∷ [])
    ++ codes "enrol" ++ figures (codes "1" ∷ codes "1" ∷ [])
    ++ codes "enrol" ++ figures (codes "2" ∷ codes "2" ∷ [])

abbrev pub sheet : List ℕ
sheet = plate_line ++ board_lines

-- the same with a cell off the plate in its second line
abbrev pub sheet_at_fault : List ℕ
sheet_at_fault =
    plate_line ++ codes "cell" ++ figures (codes "0" ∷ codes "3" ∷ codes "0" ∷ codes "1" ∷ []) ++ board_lines

-- pad 65 on a cell in its third line
abbrev pub sheet_of_pad_65 : List ℕ
sheet_of_pad_65 =
    plate_line
    ++ codes "bar" ++ figures (codes "1" ∷ codes "2" ∷ [])
    ++ codes "cell" ++ figures (codes "0" ∷ codes "1" ∷ codes "0" ∷ codes "65" ∷ [])

abbrev pub gap_printed : List ℕ
gap_printed = codes "gap" ++ figures (codes "2" ∷ [])

abbrev pub none_printed : List ℕ
none_printed = codes "gap" ++ figures (codes "none" ∷ [])

abbrev pub fault_printed : List ℕ
fault_printed =
    codes "fault" ++ (9 ∷ codes "plate") ++ figures (codes "2" ∷ codes "2" ∷ codes "3" ∷ [])

abbrev pub pad_printed : List ℕ
pad_printed = codes "fault" ++ (9 ∷ codes "plate") ++ figures (codes "3" ∷ codes "4" ∷ codes "4" ∷ [])
