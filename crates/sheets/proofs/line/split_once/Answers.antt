use Rattle.std.proofs.Common.{◌≡◌, ◌-◌, ◌+◌, length, drop, take, arith, sym, length-drop}
use Rattle.std.proofs.lemmas.List.{take_all}
use Rattle.sheets.proofs.Parting.{parts_at, unended}
use Rattle.sheets.proofs.line.split_once.Goals as goal

pub returns-in_err-at : goal.returns-in_err-at
returns-in_err-at c =
    let none = unended c.args.byte c.args.bytes.now (sym c.in_err-at.ensures) in
    rw c.from_residual.ensures none

pub returns : goal.returns
returns c =
    let bytes = c.args.bytes.now in
    let next = c.in_ok-at.at + 1 in
    let rest : take (length bytes - next) (drop next bytes) ≡ drop next bytes = take_all (length bytes - next) (drop next bytes) (omega (arith, length-drop next bytes)) in
    rw rest (parts_at c.args.byte bytes c.in_ok-at.at (sym c.in_ok-at.ensures))
