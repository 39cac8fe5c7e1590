-- Each example comes out by computing. Assumes nothing.
use Rattle.std.proofs.Common.{refl}
use Rattle.std.specs.Fmt.{digits}
use Rattle.gauges.specs.Rulers.{root, root_from}
use Rattle.measuring.specs.Maps.{measured_map, reached_count, record_at, step_count}
use Rattle.measuring.specs.Rankings.{best, first_ranked, is_ranked, next_below}
use Rattle.measuring.specs.MapReadings.{least_sum, route_marks}
use Rattle.measuring.specs.Ways.{way_within}
use Rattle.sheets.specs.Reading.{edits_read}
use Rattle.worked_examples.proofs.worked_examples_hold.Goals as goal

pub returns-clause-rules : goal.returns-clause-rules
unfolding edits_read measured_map reached_count step_count record_at best first_ranked is_ranked next_below least_sum route_marks digits root root_from
returns-clause-rules c = record {
  one_cell_counts = refl;
  one_cell_distance = refl;
  strip_gap = refl;
  strip_three_four = refl;
  strip_euclid = refl;
  strip_counted = refl;
  strip_counts = refl;
  strip_marks = refl;
  parted_counts = refl;
  parted_map = refl;
  parted_gap = refl;
  parted_marks = refl;
  diagonal_gap = refl;
  two_rows_counts = refl;
  two_rows_map = refl;
  two_rows_gap = refl;
  two_rows_marks = refl;
  three_rows_counts = refl;
  three_rows_gap = refl;
  three_rows_marks = refl;
  three_rows_counted = refl;
  three_rows_counted_marks = refl;
  shared_nearest = refl;
  flat_row = refl;
  flat_column = refl;
  flat_corner = refl;
  steep_corner = refl;
  three_four_row = refl;
  three_four_column = refl;
  three_four_corner = refl;
  refusal_numbers = refl;
  refusal_numbers_in_sheets = refl;
  layers_by_plate = refl;
  layers_by_sheet = refl;
  refusal_printed = refl;
  setting_printed = refl;
  second_plate = refl;
  edit_too_soon = refl;
  long_before_order = refl;
  sheet_none_printed = refl;
  sheet_gap_printed = refl;
  pad_fault_printed = refl;
  sheet_fault_printed = refl;
}

pub returns-clause-limits : goal.returns-clause-limits
unfolding measured_map record_at best first_ranked is_ranked next_below way_within
returns-clause-limits c = record {
  sides_256 = refl;
  sides_1 = refl;
  rows_257 = refl;
  columns_257 = refl;
  rows_0 = refl;
  columns_0 = refl;
  pad_64 = refl;
  pad_65 = refl;
  entries_of_6 = refl;
  weight_0 = refl;
  weight_64 = refl;
  weight_65 = refl;
  factor_0 = refl;
  factor_1 = refl;
  factor_16 = refl;
  factor_17 = refl;
  long_enough = refl;
  one_shorter = refl;
}

pub returns-clause-parts : goal.returns-clause-parts
returns-clause-parts c = record {
  last_cell = refl;
  six_cells = refl;
  six_asked = refl;
  cell_set = refl;
  cell_barred = refl;
  wall_opened = refl;
  enrolled_cells = refl;
  second_pad = refl;
  pad_taken_out = refl;
  set_groups = refl;
  barred_groups = refl;
  outdated_both = refl;
  renewed_first = refl;
  renewed_second = refl;
  renewed_beside = refl;
  renewed_again = refl;
  standing_of_first = refl;
  current_first = refl;
  current_second = refl;
  sum_of_four = refl;
  sum_of_none = refl;
  count_of_four = refl;
  sum_before_second_row = refl;
  sum_before_last = refl;
  byte_of_3 = refl;
  pad_65 = refl;
  bad_row = refl;
  weighted_span = refl;
  weighted_carry = refl;
  second_rectangle = refl;
  beside_both = refl;
  zero_first = refl;
  zero_alone = refl;
  greatest = refl;
  above = refl;
}

pub returns-clause-tampered : goal.returns-clause-tampered
unfolding measured_map reached_count step_count record_at best first_ranked is_ranked next_below least_sum way_within
returns-clause-tampered c = record {
  link_leaves = refl;
  link_meets_unreached = refl;
  goes_round_two = refl;
  goes_round_three = refl;
  all_cells = refl;
  torn_before_short = refl;
  leaving_before_short = refl;
  unreached_before_short = refl;
  sound_is_short = refl;
  source_is_short = refl;
  unreached_into_none = refl;
  no_source_ends = refl;
  no_neighbour_next = refl;
  way_counted = refl;
  torn_counted = refl;
  way_written = refl;
  torn_writes_nothing = refl;
  short_writes_nothing = refl;
  pad_64 = refl;
  pad_65 = refl;
  pad_255 = refl;
  unreached_pad = refl;
  unreached_distance = refl;
  fair_row = refl;
  bad_row = refl;
  unreached_in_second = refl;
  unreached_in_first = refl;
  greatest_gap = refl;
  sum_beyond = refl;
  wall_put = refl;
  bare_put = refl;
  tall_wall_map = refl;
  tall_wall_gap = refl;
  tall_wall_source = refl;
  open_source = refl;
  source_64 = refl;
  no_source_65 = refl;
  no_source_0 = refl;
  byte_3_first = refl;
  byte_3_second = refl;
  map_of_pad_65 = refl;
  map_of_byte_3 = refl;
}

pub returns-clause-fields : goal.returns-clause-fields
returns-clause-fields c = record {
  cell_column_on = refl;
  cell_column_wrong_column = refl;
  cell_column_wrong_row = refl;
  cell_column_both_wrong = refl;
  bar_column_on = refl;
  bar_column_wrong_column = refl;
  bar_column_wrong_row = refl;
  bar_column_both_wrong = refl;
  cell_row_on = refl;
  cell_row_wrong_column = refl;
  cell_row_wrong_row = refl;
  cell_row_both_wrong = refl;
  bar_row_on = refl;
  bar_row_wrong_column = refl;
  bar_row_wrong_row = refl;
  bar_row_both_wrong = refl;
  cell_pad = refl;
  enrol_pad = refl;
  enrol_group = refl;
  open_rows = refl;
  open_columns = refl;
  open_both = refl;
  open_tables = refl;
}

pub returns-clause-orders : goal.returns-clause-orders
unfolding way_within least_sum
returns-clause-orders c = record {
  open_no_rows = refl;
  open_many_rows = refl;
  open_no_columns = refl;
  open_many_columns = refl;
  open_size_cells = refl;
  open_size_groups = refl;
  open_cells = refl;
  open_groups = refl;
  open_fine = refl;
  set_tables = refl;
  set_off_row = refl;
  set_off_column = refl;
  set_pad = refl;
  set_tables_off = refl;
  set_tables_pad = refl;
  set_off_pad = refl;
  set_tables_off_pad = refl;
  set_fine = refl;
  set_bare = refl;
  bar_tables = refl;
  bar_off_row = refl;
  bar_off_column = refl;
  bar_tables_off = refl;
  bar_fine = refl;
  enrol_tables = refl;
  enrol_pad = refl;
  enrol_no_pad = refl;
  enrol_group = refl;
  enrol_tables_pad = refl;
  enrol_tables_no_pad = refl;
  enrol_tables_group = refl;
  enrol_pad_group = refl;
  enrol_no_pad_group = refl;
  enrol_fine = refl;
  enrol_in_none = refl;
  measure_cells = refl;
  measure_groups = refl;
  measure_map = refl;
  measure_queue = refl;
  measure_cells_group = refl;
  measure_groups_group = refl;
  measure_map_group = refl;
  measure_queue_group = refl;
  measure_tables_no_group = refl;
  measure_group = refl;
  measure_no_group = refl;
  measure_fine = refl;
  readings_tables = refl;
  readings_off_row = refl;
  readings_off_column = refl;
  readings_group = refl;
  readings_no_group = refl;
  readings_outdated = refl;
  readings_tables_off = refl;
  readings_tables_group = refl;
  readings_tables_outdated = refl;
  readings_off_group = refl;
  readings_tables_no_group = refl;
  readings_off_no_group = refl;
  readings_off_outdated = refl;
  readings_group_outdated = refl;
  readings_no_group_outdated = refl;
  readings_fine = refl;
  first_lacks = refl;
  first_of_lacking_second = refl;
  second_lacks = refl;
  second_of_lacking_first = refl;
  first_outdated = refl;
  first_of_outdated_second = refl;
  second_outdated = refl;
  second_of_outdated_first = refl;
  way_tables_short = refl;
  way_off_short = refl;
  way_group_short = refl;
  way_outdated_short = refl;
  way_tables_torn = refl;
  way_off_torn = refl;
  way_group_torn = refl;
  way_outdated_torn = refl;
  way_torn = refl;
  way_torn_short = refl;
  way_short = refl;
  gap_first = refl;
  gap_second = refl;
  gap_outdated_first = refl;
  gap_outdated_second = refl;
  gap_first_outdated = refl;
  gap_second_outdated = refl;
  gap_outdated_both = refl;
  gap_fine = refl;
  route_first = refl;
  route_second = refl;
  route_marks = refl;
  route_outdated_first = refl;
  route_outdated_second = refl;
  route_first_outdated = refl;
  route_second_outdated = refl;
  route_marks_outdated = refl;
  route_outdated_both = refl;
  route_fine = refl;
  seal_first = refl;
  seal_second = refl;
  seal_neither = refl;
  seal_fine = refl;
  break_fine = refl;
  rectangle_row_setting = refl;
  rectangle_column_setting = refl;
  rectangle_row_figure = refl;
  rectangle_column_figure = refl;
  rectangle_both_setting = refl;
  rectangle_both_figures = refl;
  rectangle_all_figures = refl;
  rectangle_column_fence = refl;
  rectangle_setting_fence = refl;
  rectangle_figure_fence = refl;
  rectangle_fence = refl;
  rectangle_fine = refl;
}

pub returns-clause-sheet_orders : goal.returns-clause-sheet_orders
unfolding edits_read
returns-clause-sheet_orders c = record {
  long_and_line = refl;
  long_and_order = refl;
  long_and_figure = refl;
  long_and_second_plate = refl;
  long_and_too_soon = refl;
  not_too_long = refl;
  asked_again = refl;
  asked_too_soon = refl;
  empty_sheet = refl;
  empty_first_line = refl;
  first_word_and_order = refl;
  first_fields_and_order = refl;
  first_no_end_and_order = refl;
  first_order_and_figure = refl;
  first_cell_and_figure = refl;
  first_enrol_and_figure = refl;
  first_line_and_figure = refl;
  first_two_figures = refl;
  first_figure_and_size = refl;
  first_size_and_tables = refl;
  first_both_sizes = refl;
  first_tables_and_later_line = refl;
  first_size_and_later_line = refl;
  second_plate_and_fields = refl;
  second_plate_and_no_end = refl;
  second_plate_and_figures = refl;
  second_plate_and_size = refl;
  fields_and_figure = refl;
  no_end_and_figure = refl;
  empty_field_is_a_field = refl;
  four_figures = refl;
  last_two_figures = refl;
  two_bar_figures = refl;
  two_enrol_figures = refl;
  figure_and_off = refl;
  figure_and_bar_off = refl;
  figure_and_pad = refl;
  figure_and_group = refl;
  row_off_and_pad = refl;
  column_off_and_pad = refl;
  both_off = refl;
  pad_and_group = refl;
  no_pad_and_group = refl;
  group_alone = refl;
  earlier_line_goes_first = refl;
  earlier_figure_goes_first = refl;
  earlier_line_before_no_end = refl;
  third_line = refl;
}

pub returns-clause-line_fields : goal.returns-clause-line_fields
returns-clause-line_fields c = record {
  word = refl;
  figure = refl;
  empty = refl;
  none = refl;
  of_no_byte = refl;
  behind_none = refl;
  three = refl;
  place_254 = refl;
  place_255 = refl;
}

pub returns-clause-sums : goal.returns-clause-sums
unfolding root root_from
returns-clause-sums c = record {
  source_alone = refl;
  to_the_hill = refl;
  from_no_source = refl;
  of_no_cell = refl;
  across = refl;
  across_by_three_four = refl;
  across_by_euclid = refl;
  turned_back = refl;
  ends_at_no_source = refl;
  ends_in_group_1 = refl;
  begins_in_group_2 = refl;
  over_two_cells = refl;
  through_a_wall = refl;
  between_walls = refl;
  round_the_hill = refl;
  over_the_hill = refl;
}
