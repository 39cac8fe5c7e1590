-- The calls so far are answered in their places, and the places behind them are as they were taken.
-- Assumes nothing.
use Rattle.std.proofs.Common.{◌≡◌, length, take}
use Rattle.board.specs.Sizes.{area}
use Rattle.runs.specs.Places.{PlacesFrom}
use Rattle.runs.specs.Plates.{header_of, state}
use Rattle.runs.proofs.Leading.{Led}
use Rattle.runs.proofs.running.answer_all.Given as goal

abbrev pub invariant-loop-i : goal.invariant-loop-i
invariant-loop-i g l =
    let start = state l.fn.plate l.fn.cells l.fn.groups l.fn.first l.fn.second l.fn.entries in
    let now = state l.plate l.cells l.groups l.first l.second l.entries in
    (length l.places ≡ length l.calls) ×
    PlacesFrom g.C.Call.RunCall.as_call l.i (length l.calls)
    (area (header_of l.fn.plate).size) l.calls l.places ×
    Led (g.C.Caller.measurer l.caller) start g.C.Call.RunCall.as_call l.calls
    (take l.i l.places) now
