-- What a call answers and leaves, by the first refusal that applies. Assumes nothing.
use Rattle.std.specs.Prelude.{Bool, cond, Some, None, Ok, Err, Option, Result}

-- one test of a call: the refusal where it holds, else what the tests after it say
abbrev pub refuse : {E : Type 0} → Bool → E → Option E → Option E
refuse bad e rest = cond bad (Some e) rest

-- what a call answers: its refusal, or this
abbrev pub answering : {E X : Type 0} → Option E → X → Result X E
answering None x = Ok x
answering (Some e) x = Err e

-- what a table or a header is after a call: as it was where the call was sent back
abbrev pub after : {E X : Type 0} → Option E → X → X → X
after None old new = new
after (Some e) old new = old
