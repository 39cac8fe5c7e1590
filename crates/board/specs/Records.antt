-- Map records. Assumes nothing.
use Rattle.std.specs.Prelude.{ℕ, false}
use Rattle.board.specs.declared.record.MapRecord.{MapRecord}

-- an unreached cell: the row of zero, and zeros
abbrev pub unreached_record : {R : Type 0} → R → MapRecord R
unreached_record zero = record { length = zero; reached = false; pad = 0; link = 0; rank = 0 }

-- a cell that has an offer and is not ranked yet
abbrev pub offered_record : {R : Type 0} → R → ℕ → ℕ → MapRecord R
offered_record length pad link =
    record { length = length; reached = false; pad = pad; link = link; rank = 0 }
