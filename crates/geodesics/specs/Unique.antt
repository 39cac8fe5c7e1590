-- There is one ranking, and boards that say the same have one map. Assumes nothing.
use Rattle.std.specs.Prelude.{◌≡◌, ℕ, ◌<◌, true, false, List, [], ◌∷◌, ◌++◌, Some, None, Option, MatchOption}
use Rattle.std.specs.List.{All}
use Rattle.board.specs.Sizes.{area}
use Rattle.lengths.specs.Kinds.{Kind}
use Rattle.measuring.specs.Boards.{Board, cell, source_of}
use Rattle.measuring.specs.Paths.{Measuring, measuring}
use Rattle.measuring.specs.Rankings.{Bid, best, is_ranked, offer, ranking, start}
use Rattle.measuring.specs.Rules.{RanksNext}
use Rattle.measuring.specs.Maps.{measured_map}

abbrev pub listed : {X : Type 0} → Option X → List X
listed None = []
listed (Some x) = x ∷ []

-- the offers to a cell in the order in which they are made: a source's own, then those of the
-- ranked cells by rank
abbrev pub offers_to : {L R : Type 0} → Measuring L R → List (Bid L) → ℕ → List (Bid L)
offers_to m [] j = listed (start m j)
offers_to m (r ∷ rs) j = offers_to m rs j ++ listed (offer m r j)

-- no offer is shorter, and those before it are longer
pub record FirstShortest {L R : Type 0} (kind : Kind L R) (offers : List (Bid L)) (x : Bid L)
    : Type 0 where
  pub before : List (Bid L)
  pub behind : List (Bid L)
  pub is : offers ≡ before ++ (x ∷ behind)
  pub longer : All (λ y. kind.le y.length x.length ≡ false) before
  pub as_long : All (λ y. kind.le x.length y.length ≡ true) behind

-- what a cell is ranked by is the first of its shortest offers: with it come the pad and the link
abbrev pub FirstOffers : {L R : Type 0} → Measuring L R → Type 0
FirstOffers {L} m =
    (rs : List (Bid L)) (j : ℕ) →
    MatchOption (best m rs j) (offers_to m rs j ≡ []) (FirstShortest m.kind (offers_to m rs j))

-- ranked by the rule, the last one first
abbrev pub ByRule : {L R : Type 0} → Measuring L R → List (Bid L) → Type 0
ByRule m [] = Unit {0}
ByRule m (r ∷ rs) = ByRule m rs × RanksNext m rs r

-- ranked by the rule, until no unranked cell has an offer
pub record RankingOf {L R : Type 0} (m : Measuring L R) (rs : List (Bid L)) : Type 0 where
  pub ranked : ByRule m rs
  pub ended : (j : ℕ) → j < area m.board.size → is_ranked rs j ≡ false → best m rs j ≡ None

-- the rule has a result, and no other
pub record OneRanking {L R : Type 0} (m : Measuring L R) : Type 0 where
  pub one : RankingOf m (ranking m)
  pub only : (rs : List (Bid L)) → RankingOf m rs → rs ≡ ranking m

-- two boards that say the same of each cell, so far as it matters to the group
pub record SameBoard (group : ℕ) (b c : Board) : Type 0 where
  pub rows : b.size.rows ≡ c.size.rows
  pub columns : b.size.columns ≡ c.size.columns
  pub heights : (i : ℕ) → i < area b.size → (cell b i).height ≡ (cell c i).height
  pub barred : (i : ℕ) → i < area b.size → (cell b i).barred ≡ (cell c i).barred
  pub sources : (i : ℕ) → i < area b.size → source_of b group i ≡ source_of c group i

abbrev pub OneMap : {L R : Type 0} → Measuring L R → Type 0
OneMap m =
    FirstOffers m ×
    OneRanking m ×
    ((c : Board) → SameBoard m.group m.board c →
    measured_map (measuring m.kind m.gauge c m.group) ≡ measured_map m)
