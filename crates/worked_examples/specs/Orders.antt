-- Each number of each call, and of several that apply the smallest: by the plate's rule, and as whole runs go by it. Assumes nothing.
use Rattle.std.specs.Prelude.{◌≡◌, ℕ, ◌-◌, Bool, true, false, List, [], ◌∷◌, replicate, take, Some, None, Ok, Err, Option, Result, refl}
use Rattle.std.proofs.Common.{lit≤}
use Rattle.board.specs.declared.record.MapRecord.{MapRecord}
use Rattle.gauges.specs.Layers.{rectangle_refusal}
use Rattle.gauges.specs.declared.rectangle.Rectangle.{Rectangle}
use Rattle.gauges.specs.declared.rectangles.Rectangles.{Rectangles}
use Rattle.gauges.specs.declared.refusal.Refusal.TheVariants.{Setting, Fence}
use Rattle.lengths.specs.Wholes.{whole_kind, whole_sum}
use Rattle.plate.specs.Readings.{distance_answer, gap_answer, nearest_answer, way_cells}
use Rattle.plate.specs.Refusals.{Standing, bar_refusal, enrol_refusal, measure_refusal, open_refusal, route_refusal, seal_refusal, set_refusal}
use Rattle.plate.specs.declared.edit.Edit.TheVariants.{Set, Bar, Enrol}
use Rattle.plate.specs.declared.refusal.Refusal.{Refusal}
use Rattle.plate.specs.declared.refusal.Refusal.TheVariants.{Size, Tables, Off, Pad, Group, Outdated, Short, Torn}
use Rattle.runs.specs.Truths.{Rooms, sent_back}
use Rattle.runs.specs.declared.call.Call.TheVariants.{Edit, Measure, Distance, Nearest, Way, Seal, Break}
use Rattle.runs.specs.declared.call.RulerCall.TheVariants.{Plain, Gap, Route}
use Rattle.worked_examples.specs.Boards.{ranked, size_2_3}

-- how many entries a table lacks
abbrev pub full : ℕ
full = 0

abbrev pub lacking : ℕ
lacking = 1

-- arguments of calls on a plate of 2 × 3, fine ones and such as are sent back
abbrev pub within : ℕ
within = 0

abbrev pub off_rows : ℕ
off_rows = 2

abbrev pub off_columns : ℕ
off_columns = 3

abbrev pub right_pad : ℕ
right_pad = 64

abbrev pub wrong_pad : ℕ
wrong_pad = 65

abbrev pub right_group : ℕ
right_group = 1

abbrev pub wrong_group : ℕ
wrong_group = 3

-- whether a map is current
abbrev pub current : Bool
current = true

abbrev pub outdated : Bool
outdated = false

-- a plate of which these maps are current
abbrev pub plate : Bool → Bool → Standing
plate first second = record { size = size_2_3; first = first; second = second }

abbrev pub sound_plate : Standing
sound_plate = plate current current

-- the tables of a run, which lack so many
abbrev pub rooms : (cells groups first second queue : ℕ) → Rooms
rooms cells groups first second queue = record {
  cells = 6 - cells;
  groups = 64 - groups;
  first = 6 - first;
  second = 6 - second;
  queue = 54 - queue;
}

abbrev pub full_rooms : Rooms
full_rooms = rooms 0 0 0 0 0

-- maps of sound links and of torn ones, and what is left of a map that lacks so many
abbrev pub sound : List (MapRecord ℕ)
sound =
    ranked 0 1 0 0 ∷ ranked 1 1 0 1 ∷ ranked 2 1 1 2 ∷ ranked 3 1 1 3 ∷ ranked 3 1 1 4 ∷ ranked 3 1 1 5 ∷ []

abbrev pub torn : List (MapRecord ℕ)
torn = replicate 6 (ranked 1 1 9 0)

abbrev pub left : ℕ → List (MapRecord ℕ) → List (MapRecord ℕ)
left lacks map = take (6 - lacks) map

-- the number by which an answer sends back
abbrev pub back : {X : Type 0} → Result X Refusal → Option Refusal
back (Ok x) = None
back (Err e) = Some e

-- the plate and a run say this, or neither sends back
abbrev pub twice : Refusal → List (Option Refusal)
twice e = replicate 2 (Some e)

abbrev pub fine : List (Option Refusal)
fine = replicate 2 None

-- each call, by the plate and by a run
abbrev pub open_with : (rows columns cells groups : ℕ) → Option Refusal
open_with rows columns cells groups =
    open_refusal (record { rows = rows; columns = columns }) cells groups

abbrev pub set_with : (cells row column pad : ℕ) → List (Option Refusal)
set_with cells row column pad =
    set_refusal size_2_3 (6 - cells) row column pad
    ∷ sent_back (rooms cells 0 0 0 0) sound_plate (Plain (Edit (Set row column 0 pad)))
    ∷ []

abbrev pub bar_with : (cells row column : ℕ) → List (Option Refusal)
bar_with cells row column =
    bar_refusal size_2_3 (6 - cells) row column
    ∷ sent_back (rooms cells 0 0 0 0) sound_plate (Plain (Edit (Bar row column)))
    ∷ []

abbrev pub enrol_with : (groups pad group : ℕ) → List (Option Refusal)
enrol_with groups pad group =
    enrol_refusal (64 - groups) pad group
    ∷ sent_back (rooms 0 groups 0 0 0) sound_plate (Plain (Edit (Enrol pad group)))
    ∷ []

-- group 1 measures into the first map, and any other into the second
abbrev pub measure_with : (cells groups map queue group : ℕ) → List (Option Refusal)
measure_with cells groups map queue group =
    measure_refusal size_2_3 (6 - cells) (64 - groups) (6 - map) (54 - queue) group
    ∷ sent_back (rooms cells groups map map queue) (plate outdated outdated) (Plain (Measure group))
    ∷ []

-- distance, nearest and way over a map that lacks so many, of which all groups' are current or none
abbrev pub readings_with : (map row column group : ℕ) → Bool → List (Option Refusal)
readings_with map row column group now =
    back (distance_answer whole_kind (plate now now) (left map sound) row column group)
    ∷ back (nearest_answer whole_kind (plate now now) (left map sound) row column group)
    ∷ back (way_cells whole_kind (plate now now) (left map sound) row column group 6)
    ∷ sent_back (rooms 0 0 map map 0) (plate now now) (Plain (Distance row column group))
    ∷ sent_back (rooms 0 0 map map 0) (plate now now) (Plain (Nearest row column group))
    ∷ sent_back (rooms 0 0 map map 0) (plate now now) (Plain (Way row column group 6))
    ∷ []

abbrev pub six_times : Refusal → List (Option Refusal)
six_times e = replicate 6 (Some e)

-- measuring and readings of a run, of which the maps lack so many and are current or not: measuring, distance, nearest and way
abbrev pub of_group_with : (group first second : ℕ) → Bool → Bool → List (Option Refusal)
of_group_with group first second first_now second_now =
    let lent = rooms 0 0 first second 0 in
    let p = plate first_now second_now in
    sent_back lent p (Plain (Measure group))
    ∷ sent_back lent p (Plain (Distance 0 0 group))
    ∷ sent_back lent p (Plain (Nearest 0 0 group))
    ∷ sent_back lent p (Plain (Way 0 0 group 6))
    ∷ []

-- a way along these links into a list of no cell, which is too short for any
abbrev pub way_with : List (MapRecord ℕ) → (map column group : ℕ) → Bool → List (Option Refusal)
way_with links map column group now =
    back (way_cells whole_kind (plate now now) (left map links) 0 column group 0)
    ∷ sent_back (rooms 0 0 map map 0) (plate now now) (Plain (Way 0 column group 0))
    ∷ []

-- the same of torn links: that these go before the list's length no run says, since its maps are measured
abbrev pub torn_way : ℕ → Option Refusal
torn_way room = back (way_cells whole_kind sound_plate torn 0 0 1 room)

abbrev pub gap_with : (first second : ℕ) → Bool → Bool → List (Option Refusal)
gap_with first second first_now second_now =
    back (gap_answer whole_kind whole_sum (plate first_now second_now) (left first sound) (left second sound))
    ∷ sent_back (rooms 0 0 first second 0) (plate first_now second_now) Gap
    ∷ []

abbrev pub route_with : (first second marks : ℕ) → Bool → Bool → List (Option Refusal)
route_with first second marks first_now second_now =
    route_refusal (plate first_now second_now) (6 - first) (6 - second) (6 - marks)
    ∷ sent_back (rooms 0 0 first second 0) (plate first_now second_now) (Route (6 - marks))
    ∷ []

abbrev pub seal_with : Bool → Bool → List (Option Refusal)
seal_with first_now second_now =
    seal_refusal (plate first_now second_now)
    ∷ sent_back full_rooms (plate first_now second_now) (Plain Seal)
    ∷ []

-- a rectangle by its first row and column and its last, beside so many
abbrev pub rectangle : (first_row first_column last_row last_column : ℕ) → Rectangle
rectangle a b c d = record { first_row = a; first_column = b; last_row = c; last_column = d }

abbrev pub rectangles_15 : Rectangles
rectangles_15 =
    record { list = replicate 16 (rectangle 0 0 0 0); count = 15; few = lit≤ tt; long = refl }

abbrev pub rectangles_16 : Rectangles
rectangles_16 =
    record { list = replicate 16 (rectangle 0 0 0 0); count = 16; few = lit≤ tt; long = refl }

-- each clause is named after its call and the numbers that apply
pub record Orders : Type 0 where
  pub open_no_rows : open_with 0 1 256 64 ≡ Some Size
  pub open_many_rows : open_with 257 1 257 64 ≡ Some Size
  pub open_no_columns : open_with 1 0 256 64 ≡ Some Size
  pub open_many_columns : open_with 1 257 257 64 ≡ Some Size
  pub open_size_cells : open_with 257 1 256 64 ≡ Some Size
  pub open_size_groups : open_with 0 1 0 63 ≡ Some Size
  pub open_cells : open_with 2 3 5 64 ≡ Some Tables
  pub open_groups : open_with 2 3 6 63 ≡ Some Tables
  pub open_fine : open_with 2 3 6 64 ≡ None
  pub set_tables : set_with lacking within within right_pad ≡ twice Tables
  pub set_off_row : set_with full off_rows within right_pad ≡ twice Off
  pub set_off_column : set_with full within off_columns right_pad ≡ twice Off
  pub set_pad : set_with full within within wrong_pad ≡ twice Pad
  pub set_tables_off : set_with lacking off_rows within right_pad ≡ twice Tables
  pub set_tables_pad : set_with lacking within within wrong_pad ≡ twice Tables
  pub set_off_pad : set_with full off_rows within wrong_pad ≡ twice Off
  pub set_tables_off_pad : set_with lacking off_rows within wrong_pad ≡ twice Tables
  pub set_fine : set_with full 1 2 right_pad ≡ fine
  pub set_bare : set_with full 1 2 0 ≡ fine
  pub bar_tables : bar_with lacking within within ≡ twice Tables
  pub bar_off_row : bar_with full off_rows within ≡ twice Off
  pub bar_off_column : bar_with full within off_columns ≡ twice Off
  pub bar_tables_off : bar_with lacking off_rows within ≡ twice Tables
  pub bar_fine : bar_with full 1 2 ≡ fine
  pub enrol_tables : enrol_with lacking right_pad right_group ≡ twice Tables
  pub enrol_pad : enrol_with full wrong_pad right_group ≡ twice Pad
  pub enrol_no_pad : enrol_with full 0 right_group ≡ twice Pad
  pub enrol_group : enrol_with full right_pad wrong_group ≡ twice Group
  pub enrol_tables_pad : enrol_with lacking wrong_pad right_group ≡ twice Tables
  pub enrol_tables_no_pad : enrol_with lacking 0 right_group ≡ twice Tables
  pub enrol_tables_group : enrol_with lacking right_pad wrong_group ≡ twice Tables
  pub enrol_pad_group : enrol_with full wrong_pad wrong_group ≡ twice Pad
  pub enrol_no_pad_group : enrol_with full 0 wrong_group ≡ twice Pad
  pub enrol_fine : enrol_with full right_pad 2 ≡ fine
  pub enrol_in_none : enrol_with full 1 0 ≡ fine
  pub measure_cells : measure_with lacking full full full right_group ≡ twice Tables
  pub measure_groups : measure_with full lacking full full right_group ≡ twice Tables
  pub measure_map : measure_with full full lacking full right_group ≡ twice Tables
  pub measure_queue : measure_with full full full lacking right_group ≡ twice Tables
  pub measure_cells_group : measure_with lacking full full full wrong_group ≡ twice Tables
  pub measure_groups_group : measure_with full lacking full full wrong_group ≡ twice Tables
  pub measure_map_group : measure_with full full lacking full wrong_group ≡ twice Tables
  pub measure_queue_group : measure_with full full full lacking wrong_group ≡ twice Tables
  pub measure_tables_no_group : measure_with lacking full full full 0 ≡ twice Tables
  pub measure_group : measure_with full full full full wrong_group ≡ twice Group
  pub measure_no_group : measure_with full full full full 0 ≡ twice Group
  pub measure_fine : measure_with full full full full right_group ≡ fine
  pub readings_tables : readings_with lacking within within right_group current ≡ six_times Tables
  pub readings_off_row : readings_with full off_rows within right_group current ≡ six_times Off
  pub readings_off_column : readings_with full within off_columns right_group current ≡ six_times Off
  pub readings_group : readings_with full within within wrong_group current ≡ six_times Group
  pub readings_no_group : readings_with full within within 0 current ≡ six_times Group
  pub readings_outdated : readings_with full within within right_group outdated ≡ six_times Outdated
  pub readings_tables_off : readings_with lacking within off_columns right_group current ≡ six_times Tables
  pub readings_tables_group : readings_with lacking within within wrong_group current ≡ six_times Tables
  pub readings_tables_outdated : readings_with lacking within within right_group outdated ≡ six_times Tables
  pub readings_off_group : readings_with full within off_columns wrong_group current ≡ six_times Off
  pub readings_tables_no_group : readings_with lacking within within 0 current ≡ six_times Tables
  pub readings_off_no_group : readings_with full off_rows within 0 current ≡ six_times Off
  pub readings_off_outdated : readings_with full off_rows within right_group outdated ≡ six_times Off
  pub readings_group_outdated : readings_with full within within wrong_group outdated ≡ six_times Group
  pub readings_no_group_outdated : readings_with full within within 0 outdated ≡ six_times Group
  pub readings_fine : readings_with full 1 2 right_group current ≡ replicate 6 None
  pub first_lacks : of_group_with 1 lacking full current current ≡ replicate 4 (Some Tables)
  pub first_of_lacking_second : of_group_with 1 full lacking current current ≡ replicate 4 None
  pub second_lacks : of_group_with 2 full lacking current current ≡ replicate 4 (Some Tables)
  pub second_of_lacking_first : of_group_with 2 lacking full current current ≡ replicate 4 None
  pub first_outdated : of_group_with 1 full full outdated current ≡ None ∷ replicate 3 (Some Outdated)
  pub first_of_outdated_second : of_group_with 1 full full current outdated ≡ replicate 4 None
  pub second_outdated : of_group_with 2 full full current outdated ≡ None ∷ replicate 3 (Some Outdated)
  pub second_of_outdated_first : of_group_with 2 full full outdated current ≡ replicate 4 None
  pub way_tables_short : way_with sound lacking within right_group current ≡ twice Tables
  pub way_off_short : way_with sound full off_columns right_group current ≡ twice Off
  pub way_group_short : way_with sound full within wrong_group current ≡ twice Group
  pub way_outdated_short : way_with sound full within right_group outdated ≡ twice Outdated
  pub way_tables_torn : way_with torn lacking within right_group current ≡ twice Tables
  pub way_off_torn : way_with torn full off_columns right_group current ≡ twice Off
  pub way_group_torn : way_with torn full within wrong_group current ≡ twice Group
  pub way_outdated_torn : way_with torn full within right_group outdated ≡ twice Outdated
  pub way_torn : torn_way 6 ≡ Some Torn
  pub way_torn_short : torn_way 0 ≡ Some Torn
  pub way_short : way_with sound full within right_group current ≡ Some Short ∷ None ∷ []
  pub gap_first : gap_with lacking full current current ≡ twice Tables
  pub gap_second : gap_with full lacking current current ≡ twice Tables
  pub gap_outdated_first : gap_with full full outdated current ≡ twice Outdated
  pub gap_outdated_second : gap_with full full current outdated ≡ twice Outdated
  pub gap_first_outdated : gap_with lacking full outdated current ≡ twice Tables
  pub gap_second_outdated : gap_with full lacking current outdated ≡ twice Tables
  pub gap_outdated_both : gap_with full full outdated outdated ≡ twice Outdated
  pub gap_fine : gap_with full full current current ≡ fine
  pub route_first : route_with lacking full full current current ≡ twice Tables
  pub route_second : route_with full lacking full current current ≡ twice Tables
  pub route_marks : route_with full full lacking current current ≡ twice Tables
  pub route_outdated_first : route_with full full full outdated current ≡ twice Outdated
  pub route_outdated_second : route_with full full full current outdated ≡ twice Outdated
  pub route_first_outdated : route_with lacking full full outdated current ≡ twice Tables
  pub route_second_outdated : route_with full lacking full current outdated ≡ twice Tables
  pub route_marks_outdated : route_with full full lacking outdated outdated ≡ twice Tables
  pub route_outdated_both : route_with full full full outdated outdated ≡ twice Outdated
  pub route_fine : route_with full full full current current ≡ fine
  pub seal_first : seal_with outdated current ≡ twice Outdated
  pub seal_second : seal_with current outdated ≡ twice Outdated
  pub seal_neither : seal_with outdated outdated ≡ twice Outdated
  pub seal_fine : seal_with current current ≡ fine
  pub break_fine : sent_back (rooms 6 64 6 6 54) (plate outdated outdated) (Plain Break) ≡ None
  pub rectangle_row_setting : rectangle_refusal rectangles_15 (rectangle 1 0 0 0) ≡ Some Setting
  pub rectangle_column_setting : rectangle_refusal rectangles_15 (rectangle 0 1 0 0) ≡ Some Setting
  pub rectangle_row_figure : rectangle_refusal rectangles_15 (rectangle 0 0 256 0) ≡ Some Setting
  pub rectangle_column_figure : rectangle_refusal rectangles_15 (rectangle 0 0 0 256) ≡ Some Setting
  pub rectangle_both_setting : rectangle_refusal rectangles_15 (rectangle 1 1 0 0) ≡ Some Setting
  pub rectangle_both_figures : rectangle_refusal rectangles_15 (rectangle 0 0 256 256) ≡ Some Setting
  pub rectangle_all_figures : rectangle_refusal rectangles_15 (rectangle 256 256 256 256) ≡ Some Setting
  pub rectangle_column_fence : rectangle_refusal rectangles_16 (rectangle 0 1 0 0) ≡ Some Setting
  pub rectangle_setting_fence : rectangle_refusal rectangles_16 (rectangle 1 0 0 0) ≡ Some Setting
  pub rectangle_figure_fence : rectangle_refusal rectangles_16 (rectangle 0 0 256 0) ≡ Some Setting
  pub rectangle_fence : rectangle_refusal rectangles_16 (rectangle 0 0 255 0) ≡ Some Fence
  pub rectangle_fine : rectangle_refusal rectangles_15 (rectangle 0 0 255 255) ≡ None
