-- How the map and the queue hold the offers while cells are ranked. Assumes nothing.
use Rattle.std.specs.Prelude.{◌≡◌, ℕ, ◌+◌, ◌<◌, ◌≤◌, Bool, true, cond, not, ◌&&◌, ◌||◌, List, [], ◌∷◌, length, Some, None, sum_by, Option, MatchOption, ◌==◌, slice_index_or}
use Rattle.std.specs.List.{All, Contains}
use Rattle.board.specs.Records.{offered_record, unreached_record}
use Rattle.board.specs.Sizes.{area}
use Rattle.board.specs.Tables.{source_pad}
use Rattle.board.specs.declared.record.MapRecord.{MapRecord}
use Rattle.lengths.specs.Kinds.{Kind}
use Rattle.gauges.specs.Meanings.{Crossing, crossed}
use Rattle.gauges.specs.declared.step.Point.{Point}
use Rattle.queue.specs.Orders.{offer_le}
use Rattle.queue.specs.declared.offer.Offer.{Offer}
use Rattle.measuring.specs.Sums.{before, sum_before}
use Rattle.measuring.specs.Boards.{Board, cell, open_neighbour, open_neighbours}
use Rattle.measuring.specs.Paths.{Measuring}
use Rattle.measuring.specs.Rankings.{Bid, first_ranked, start, offer, offered}
use Rattle.measuring.specs.Maps.{ranked_record}
use Rattle.measuring.specs.declared.offers.Offerer.{Offerer}

-- what is known of a cell: nothing, its best offer, or its rank and the offer by which it was ranked
pub data View (L : Type 0) : Type 0 where
  unknown : View L
  waiting : Bid L → View L
  placed : ℕ → Bid L → View L

abbrev pub view_of : {L : Type 0} → Option (Bid L) → View L
view_of None = unknown
view_of (Some x) = waiting x

-- one offer more: a ranked cell and an offer as short stay
abbrev pub raised : {L R : Type 0} → Kind L R → View L → Option (Bid L) → View L
raised kind v None = v
raised kind unknown (Some x) = waiting x
raised kind (waiting y) (Some x) = cond (kind.le y.length x.length) (waiting y) (waiting x)
raised kind (placed k y) (Some x) = placed k y

-- what is known of a cell once these are ranked, the last one first
unfoldable pub known_of : {L R : Type 0} → Measuring L R → List (Bid L) → ℕ → View L
known_of m [] j = view_of (start m j)
known_of m (r ∷ rs) j =
    cond (r.cell == j) (placed (length rs) r) (raised m.kind (known_of m rs j) (offer m r j))

-- the record that holds it
abbrev pub shown : {L R : Type 0} → Kind L R → View L → MapRecord R
shown kind unknown = unreached_record (kind.encode kind.zero)
shown kind (waiting x) = offered_record (kind.encode x.length) x.pad x.link
shown kind (placed k x) = ranked_record kind k x

-- whether a record is kept where a length is offered: its cell is ranked, or has an offer as short
abbrev pub keeps : {L R : Type 0} → Kind L R → MapRecord R → L → Bool
keeps kind r a = r.reached || (not (r.pad == 0) && kind.le (kind.decode r.length) a)

abbrev pub entry : {L R : Type 0} → Kind L R → Bid L → Offer R
entry kind x = record { length = kind.encode x.length; cell = x.cell }

-- an entry of the queue is at least the best offer to its cell, if that is not ranked
abbrev pub Owed : {L R : Type 0} → Kind L R → View L → Offer R → Type 0
Owed kind unknown e = ⊥
Owed kind (waiting x) e = kind.le x.length (kind.decode e.length) ≡ true
Owed kind (placed k x) e = Unit {0}

-- an entry of the queue is of one of the first n cells, and owed
abbrev pub Due : {L R : Type 0} → Kind L R → ℕ → (ℕ → View L) → Offer R → Type 0
Due kind n view e = (e.cell < n) × Owed kind (view e.cell) e

-- what is so of the map and the queue's entries before, and of those after
abbrev pub Change : Type 0 → Type 1
Change R = List (MapRecord R) → List (Offer R) → List (MapRecord R) → List (Offer R) → Type 0

-- the records of the first n cells show what is known of them, and each best offer is queued
pub record Tracks {L R : Type 0} (kind : Kind L R) (n : ℕ) (view : ℕ → View L)
    (map : List (MapRecord R)) (entries : List (Offer R)) : Type 0 where
  pub records : (j : ℕ) (d : MapRecord R) → j < n → slice_index_or map j d ≡ shown kind (view j)
  pub named : (j : ℕ) (x : Bid L) → j < n → view j ≡ waiting x → (x.cell ≡ j) × (0 < x.pad)
  pub queues : (j : ℕ) (x : Bid L) → j < n → view j ≡ waiting x → Contains entries (entry kind x)
  pub owed : All (Due kind n view) entries

-- one cell known anew
abbrev pub updated : {L : Type 0} → (ℕ → View L) → ℕ → View L → ℕ → View L
updated view i v j = cond (j == i) v (view j)

-- what is known of a cell at the start: a source has the offer zero
abbrev pub begun : {L R : Type 0} → Kind L R → ℕ → ℕ → View L
begun kind j pad =
    cond (pad == 0) unknown (waiting (record { cell = j; length = kind.zero; pad = pad; link = j }))

abbrev pub starting : {L R : Type 0} → Measuring L R → ℕ → View L
starting m j = begun m.kind j (source_pad (cell m.board j) m.board.groups m.group)

-- one cell more is started, with this pad or none
abbrev pub StartsOne : {L R : Type 0} → Kind L R → ℕ → ℕ → Change R
StartsOne {L} kind j pad map entries map' entries' =
    (view : ℕ → View L) → view j ≡ begun kind j pad →
    Tracks kind j view map entries → Tracks kind (j + 1) view map' entries'

-- all cells are started
abbrev pub Started : {L R : Type 0} → Measuring L R → List (MapRecord R) → List (Offer R) → Type 0
Started m map entries = Tracks m.kind (area m.board.size) (starting m) map entries

-- the offerer as a ranked cell; its link does not matter to its offers
abbrev pub offerer : {L : Type 0} → Offerer L → Bid L
offerer from = record { cell = from.number; length = from.length; pad = from.pad; link = from.number }

-- 1 at the offerer's own place, to which it makes no offer
abbrev pub itself : {L : Type 0} → Offerer L → ℕ → ℕ → ℕ
itself from row column = cond (row == from.at.row && column == from.at.column) 1 0

-- a place at most one row and one column from a point
pub record Beside (at : Point) (row column : ℕ) : Type 0 where
  pub above : row ≤ at.row + 1
  pub below : at.row ≤ row + 1
  pub left : column ≤ at.column + 1
  pub right : at.column ≤ column + 1

-- the offer across one step
abbrev pub across : {L : Type 0} → Crossing L → Offerer L → Point → ℕ → Option (Bid L)
across g from to j =
    offered (offerer from) j (crossed g (record { from = from.at; to = to }) from.length)

-- the offer across one step is made
abbrev pub OffersAcross : {L R : Type 0} → Kind L R → Crossing L → Offerer L → Point → ℕ → Change R
OffersAcross {L} kind g from to j map entries map' entries' =
    (n : ℕ) (view : ℕ → View L) → j < n → 0 < from.pad → Tracks kind n view map entries →
    Tracks kind n (updated view j (raised kind (view j) (across g from to j))) map' entries'

-- once a cell has made its offers to the cells before a place
abbrev pub offered_before : {L R : Type 0} → Measuring L R → Bid L → (ℕ → View L) → ℕ → ℕ → ℕ → View L
offered_before m x view row column j =
    cond (before m.board.size row column j) (raised m.kind (view j) (offer m x j)) (view j)

-- how many open neighbours a cell has before a place
abbrev pub counted_before : Board → ℕ → ℕ → ℕ → ℕ
counted_before b i = sum_before (λ j. cond (open_neighbour b i j) 1 0) b.size

-- from one place to another a cell has made its offers: so many steps are counted, and the map and
-- the queue hold the offers
pub record Walked {L R : Type 0} (m : Measuring L R) (from : Offerer L)
    (row column row' column' steps : ℕ)
    (map : List (MapRecord R)) (entries : List (Offer R))
    (map' : List (MapRecord R)) (entries' : List (Offer R)) : Type 0 where
  pub counts :
      counted_before m.board from.number row column + steps ≡
      counted_before m.board from.number row' column'
  pub tracks : (view : ℕ → View L) → 0 < from.pad →
      let known = offered_before m (offerer from) view in
      Tracks m.kind (area m.board.size) (known row column) map entries →
      Tracks m.kind (area m.board.size) (known row' column') map' entries'

-- a ranked cell has made all its offers
abbrev pub OffersAround : {L R : Type 0} → Measuring L R → Bid L → Change R
OffersAround {L} m x map entries map' entries' =
    (view : ℕ → View L) → 0 < x.pad → Tracks m.kind (area m.board.size) view map entries →
    Tracks m.kind (area m.board.size) (λ j. raised m.kind (view j) (offer m x j)) map' entries'

-- a waiting cell is ranked, by an entry as long as its best offer, which is taken out, and makes
-- its offers
abbrev pub RanksOne : {L R : Type 0} → Measuring L R → ℕ → Offer R → Change R
RanksOne {L} m rank e map entries map' entries' =
    (view : ℕ → View L) (x : Bid L) → view e.cell ≡ waiting x → m.kind.decode e.length ≡ x.length →
    Tracks m.kind (area m.board.size) view map (e ∷ entries) →
    let known = updated view e.cell (placed rank x) in
    Tracks m.kind (area m.board.size) (λ j. raised m.kind (known j) (offer m x j)) map' entries'

-- after so many cells are ranked and steps counted: the map and the queue hold what the ranking
-- says so far
pub record Ranks {L R : Type 0} (m : Measuring L R) (reached steps : ℕ) (map : List (MapRecord R))
    (entries : List (Offer R)) : Type 0 where
  pub many : length (first_ranked m reached) ≡ reached
  pub counts : steps ≡ sum_by (λ r. open_neighbours m.board r.cell) (first_ranked m reached)
  pub tracks : Tracks m.kind (area m.board.size) (known_of m (first_ranked m reached)) map entries

-- one turn with the least of all entries, which is taken out: its cell is the next to be ranked, or
-- is ranked already
abbrev pub Turns : {L R : Type 0} → Measuring L R → ℕ → ℕ → Offer R → Option ℕ → Change R
Turns m rank steps e r map entries map' entries' =
    All (λ f. offer_le m.kind e f ≡ true) (e ∷ entries) →
    Ranks m rank steps map (e ∷ entries) →
    MatchOption r
    (Ranks m rank steps map' entries')
    (λ more. Ranks m (rank + 1) (steps + more) map' entries')
