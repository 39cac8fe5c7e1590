use Rattle.std.proofs.Common.{rules}
use Rattle.sheets.proofs.Keywords.{keyword_told}
use Rattle.sheets.proofs.token.Token.keyword.Goals as goal

pub returns-in-Word : goal.returns-in-Word
returns-in-Word c =
    let place = c.in-Word.place in
    rw c.in-Word.is (keyword_told place.line place.field c.in-Word.bytes.now c.try_from.result c.map_err.result c.try_from.ensures c.map_err.ensures.cases (λ e f h. search rules))
