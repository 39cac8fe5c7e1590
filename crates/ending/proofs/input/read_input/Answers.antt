use Rattle.std.proofs.Common.{ap}
use Rattle.ending.proofs.Taking.{read_and_cut}
use Rattle.ending.proofs.input.read_input.Goals as goal

-- The bytes read are the first 32,769 that the reader says, and cutting them there again changes nothing.
pub returns-clause-bytes : goal.returns-clause-bytes
returns-clause-bytes g c =
    let whole = ap g.R.Read.remaining c.take.ensures.inner in
    let empty = c.new-bytes.ensures.items in
    read_and_cut 32769 _ _ _ _ _ _ c.take.ensures.limit whole empty c.truncate.ensures.items c.in_ok-read_to_end.ensures.bytes
