use Rattle.std.proofs.Common.{arith}
use Rattle.std.proofs.lemmas.Nat.{mul-add-lt}
use Rattle.std.proofs.lemmas.Bool.Decides.{nat_tests}
use Rattle.board.proofs.size.Size.cell.Goals as goal

pub returns : goal.returns
returns c =
    let size = c.args.self in
    record {
      number = grind (arith, nat_tests);
      within = omega (arith, mul-add-lt c.args.row size.columns c.args.column size.rows c.if-row-self.false c.if-column-self.false);
    }
