-- What C lends by a pointer and a length. Assumes nothing.
use Rattle.std.specs.Prelude.{ℕ, ◌*◌, ◌^◌, List}
use Rattle.std.specs.Borrow.{full_share}
use Rattle.std.specs.Mem.{type_size}
use Rattle.std.specs.Ptr.{lies_at}
use base.Fml.{Fml, fsep, flt}
use denote.Array.{Array}
use denote.RattleType.{RattleType}
use denote.RawPtr.{Ptr}

-- so many values lie side by side at the pointer, these, in fewer than 2 ^ 63 bytes
abbrev pub lent : (R : RattleType) → Ptr → ℕ → List R.Denot → Fml
lent R p n xs = fsep (flt (n * type_size R) (2 ^ 63)) (lies_at (Array R n) full_share p xs)
