-- Where a call is sent back, the tables are as they were. Assumes nothing.
use Rattle.std.proofs.Common.{None, Option, Some, IfSome, length, ◌∙◌}
use Rattle.plate_c.specs.Answers.{asked, by_sides, plate_refusal}
use Rattle.plate_c.specs.Loans.{with_cells, with_entries, with_map}
use Rattle.plate_c.specs.Tables.{room_of}
use Rattle.plate_c.proofs.plate_measured.Goals as goal

if_some : {A P : Type 0} (o : Option A) → P → IfSome o (λ _. P)
if_some None p = tt
if_some (Some a) p = p

pub returns-in-Err-clause-refused : goal.returns-in-Err-clause-refused
returns-in-Err-clause-refused c =
    let t = c.args.tables.now in
    let plate = asked (by_sides c.args.rows c.args.columns) c.args.spots.now in
    let refused = plate_refusal plate (room_of t (length c.args.out.now)) in
    let sent_back = c.in-Err.ensures in
    let cells = sent_back.refused_cells ∙ c.slice-cells.ensures.value in
    let map = sent_back.refused_map ∙ c.slice-map.ensures.value in
    let entries = sent_back.refused_entries ∙ c.slice-entries.ensures.value in
    if_some refused (λ i. record {
      cells = with_cells t.cells (cells i);
      map = with_map t.map (map i);
      entries = with_entries t.entries (entries i);
    })
