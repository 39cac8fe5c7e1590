-- One turn of the ranking: what the entry that comes out of the queue says. Assumes nothing.
use Rattle.std.proofs.Common.{◌≡◌, ℕ, suc, ◌+◌, ◌<◌, ◌≤◌, Bool, true, false, cond, eqb, ltb, List, [], ◌∷◌, length, get_or, Some, None, sum_by, Option, sym, refl, ap, ◌∙◌, subst, ⊎_elim, add_comm, add-one, arith}
use Rattle.std.specs.List.{All, Contains}
use Rattle.std.specs.List.Sorted.{IsPermutation}
use Rattle.std.proofs.lemmas.List.FromFn.{fill_by_all}
use Rattle.std.proofs.lemmas.List.Elements.{All-contains, All-head}
use Rattle.std.proofs.lemmas.List.Sorted.{All-permutation}
use Rattle.std.proofs.lemmas.List.Sums.{sum_by-cons}
use Rattle.std.proofs.lemmas.Bool.{and_parts, both_ways, cases_Bool, cases_eq, cond-true, lt-ltb, or_parts}
use Rattle.std.proofs.lemmas.Bool.Decides.{nat_tests}
use Rattle.board.specs.Records.{unreached_record}
use Rattle.board.specs.Sizes.{area}
use Rattle.board.specs.declared.record.MapRecord.{MapRecord}
use Rattle.lengths.specs.Kinds.{Kind, KindLaws}
use Rattle.queue.specs.Orders.{offer_le}
use Rattle.queue.specs.declared.offer.Offer.{Offer}
use Rattle.measuring.specs.Paths.{Measuring}
use Rattle.measuring.specs.Boards.{open_neighbours}
use Rattle.measuring.specs.Rankings.{Bid, best, first_ranked, is_ranked, next, offer, ranking, shorter}
use Rattle.measuring.specs.Maps.{measured_map, reached_count, record_at, step_count}
use Rattle.measuring.specs.Tracking.{View, unknown, waiting, placed, begun, Started, view_of, raised, known_of, shown, entry, Due, Owed, Ranks, Tracks, updated}
use Rattle.measuring.proofs.Ranked.{all_ranked, first_ranked_more, first_ranked_sound, first_ranked_stops, is_next, none_next, option_cases, le_same}
use Rattle.measuring.proofs.Tracks.{drop_first, tracks_same, tracks_shuffled}

raised_placed : {L R : Type 0} (kind : Kind L R) (k : ℕ) (x : Bid L) (o : Option (Bid L)) →
    raised kind (placed k x) o ≡ placed k x
raised_placed kind k x None = refl
raised_placed kind k x (Some y) = refl

view_either : {L : Type 0} (t : Bool) (a b : Option (Bid L)) → cond t (view_of a)
    (view_of b) ≡ view_of (cond t a b)
view_either true a b = refl
view_either false a b = refl

raised_view : {L R : Type 0} (kind : Kind L R) (a o : Option (Bid L)) →
    raised kind (view_of a) o ≡ view_of (shorter kind a o)
raised_view kind None None = refl
raised_view kind (Some y) None = refl
raised_view kind None (Some x) = refl
raised_view kind (Some y) (Some x) = view_either (kind.le y.length x.length) (Some y) (Some x)

module _ {L R : Type 0} (m : Measuring L R) where
  -- an offer depends on its cell, length and pad
  pub offer_alike : (x y : Bid L) (j : ℕ) → x.cell ≡ y.cell → x.length ≡ y.length → x.pad ≡ y.pad →
      offer m x j ≡ offer m y j
  offer_alike x y j cell length pad = λ k. offer m (record { cell = cell k; length = length k; pad = pad k; link = 0 }) j

  -- of an unranked cell the best offer is known
  pub standing_unranked : (rs : List (Bid L)) (j : ℕ) → is_ranked rs j ≡ false →
      known_of m rs j ≡ view_of (best m rs j)
  unfolding known_of is_ranked best
  standing_unranked [] j unranked = refl
  standing_unranked (r ∷ rs) j unranked =
      let parts = or_parts (eqb r.cell j) (is_ranked rs j) unranked in
      let before = standing_unranked rs j parts.1 in
      let view = raised_view m.kind (best m rs j) (offer m r j) in
      grind (arith, nat_tests)

  -- a ranked cell is placed, and its record is the map's
  pub standing_ranked : (rs : List (Bid L)) (j : ℕ) → is_ranked rs j ≡ true →
      (k : ℕ) × (x : Bid L) × (known_of m rs j ≡ placed k x) × (record_at m.kind rs j ≡ shown m.kind (placed k x))
  unfolding known_of is_ranked record_at
  standing_ranked [] j ranked = absurd (both_ways false refl ranked)
  standing_ranked (r ∷ rs) j ranked =
      ⊎_elim
      (λ here. (length rs, r, grind (arith, nat_tests), grind (arith, nat_tests)))
      (λ other.
      let before = standing_ranked rs j (grind (arith, nat_tests)) in
      let is = before.2 in
      let record_is = before.3 in
      let stays = raised_placed m.kind before.0 before.1 (offer m r j) in
      (before.0, before.1, grind (arith, nat_tests), grind (arith, nat_tests)))
      (cases_Bool (eqb r.cell j))

  record_unranked : (rs : List (Bid L)) (j : ℕ) → is_ranked rs j ≡ false →
      record_at m.kind rs j ≡ shown m.kind unknown
  unfolding is_ranked record_at
  record_unranked [] j isnt = refl
  record_unranked (r ∷ rs) j isnt =
      let before = record_unranked rs j (or_parts (eqb r.cell j) (is_ranked rs j) isnt).1 in
      grind (arith, nat_tests)

  -- where no offer is left, the records are the map's
  pub shown_record : (rs : List (Bid L)) (j : ℕ) → (is_ranked rs j ≡ false → best m rs j ≡ None) →
      shown m.kind (known_of m rs j) ≡ record_at m.kind rs j
  shown_record rs j ended =
      ⊎_elim
      (λ is. let ranked = standing_ranked rs j is in ap (shown m.kind) ranked.2 ∙ sym ranked.3)
      (λ isnt. ap (shown m.kind) (standing_unranked rs j isnt ∙ ap view_of (ended isnt)) ∙ sym (record_unranked rs j isnt))
      (cases_Bool (is_ranked rs j))

  -- what is known once one more is ranked and has made its offers
  pub standing_more : (rs : List (Bid L)) (x : Bid L) (i k : ℕ) → x.cell ≡ i → length rs ≡ k →
      (j : ℕ) → raised m.kind (updated (known_of m rs) i (placed k x) j)
      (offer m x j) ≡ known_of m (x ∷ rs) j
  unfolding known_of
  standing_more rs x i k named many j =
      let stays = raised_placed m.kind k x (offer m x j) in
      ⊎_elim (λ is. grind (arith, nat_tests)) (λ other. grind (arith, nat_tests)) (cases_eq j i)

module _ {L R : Type 0} (m : Measuring L R) (laws : KindLaws m.kind) where
  -- the least entry of an unranked cell is its best offer, and that cell is the next
  pub least_is_next : (rs : List (Bid L)) (map : List (MapRecord R)) (es : List (Offer R))
      (e : Offer R) (x : Bid L) → Tracks m.kind (area m.board.size) (known_of m rs) map es →
      Contains es e → All (λ f. offer_le m.kind e f ≡ true) es → known_of m rs e.cell ≡ waiting x →
      (m.kind.decode e.length ≡ x.length) × (next m rs ≡ Some x)
  least_is_next rs map es e x t had least waits =
      let mine = All-contains (Due m.kind (area m.board.size) (known_of m rs)) es e t.owed had in
      let named = t.named e.cell x mine.0 waits in
      let above : (j : ℕ) (y : Bid L) → j < area m.board.size → known_of m rs j ≡ waiting y → offer_le m.kind e (entry m.kind y) ≡ true = λ j y lt is. All-contains (λ f. offer_le m.kind e f ≡ true) es (entry m.kind y) least (t.queues j y lt is) in
      let shorter-than : (y : Bid L) → offer_le m.kind e (entry m.kind y) ≡ true → m.kind.le (m.kind.decode e.length) y.length ≡ true = λ y is. ap (λ a. m.kind.le (m.kind.decode e.length) a) (sym (laws.same y.length)) ∙ (and_parts _ _ is).0 in
      let level : m.kind.decode e.length ≡ x.length = laws.equal _ _ (shorter-than x (above e.cell x mine.0 waits)) (subst (λ v. Owed m.kind v e) waits mine.1) in
      let unranked : is_ranked rs e.cell ≡ false = ⊎_elim (λ is. let place_is = (standing_ranked m rs e.cell is).2 in grind arith) (λ isnt. isnt) (cases_Bool (is_ranked rs e.cell)) in
      let made : best m rs e.cell ≡ Some x = ⊎_elim
      (λ none. let view-is = standing_unranked m rs e.cell unranked ∙ ap view_of none in grind arith)
      (λ some. let view-is = standing_unranked m rs e.cell unranked ∙ ap view_of some.1 in some.1 ∙ ap Some cc)
      (option_cases (best m rs e.cell)) in
      let known : (j : ℕ) (y : Bid L) → is_ranked rs j ≡ false → best m rs j ≡ Some y → known_of m rs j ≡ waiting y = λ j y isnt is. standing_unranked m rs j isnt ∙ ap view_of is in (
        level,
        is_next m laws rs (record {
          within = omega (arith, mine.0, named.0);
          unranked = ap (is_ranked rs) named.0 ∙ unranked;
          made = ap (best m rs) named.0 ∙ made;
          shortest = λ j y lt isnt is. ap (λ a. m.kind.le a y.length) (sym level) ∙ shorter-than y (above j y lt (known j y isnt is));
          lowest = λ j y lt isnt is same.
              let told = above j y lt (known j y isnt is) in
              let cell = (t.named j y lt (known j y isnt is)).0 in
              let here = named.0 in
              let back = le_same laws (laws.same y.length ∙ same ∙ sym level) in
              grind (arith, nat_tests);
        }),
      )

  -- an empty queue: no offer is left
  pub none_left : (rs : List (Bid L)) (map : List (MapRecord R)) → Tracks m.kind (area m.board.size)
      (known_of m rs) map [] → (j : ℕ) → j < area m.board.size → is_ranked rs j ≡ false →
      best m rs j ≡ None
  none_left rs map t j lt isnt =
      ⊎_elim
      (λ none. none)
      (λ some. let had = t.queues j some.0 lt (standing_unranked m rs j isnt ∙ ap view_of some.1) in absurd (omega (arith, had.1)))
      (option_cases (best m rs j))

  -- a ranked cell is marked, and no other
  marked : (rs : List (Bid L)) (map : List (MapRecord R)) (es : List (Offer R)) (e : Offer R)
      (r : MapRecord R) → Tracks m.kind (area m.board.size) (known_of m rs) map (e ∷ es) →
      r ≡ get_or map e.cell r → (v : View L) → known_of m rs e.cell ≡ v → r ≡ shown m.kind v
  marked rs map es e r t read v is = read ∙ t.records e.cell r (All-head (Due m.kind (area m.board.size) (known_of m rs)) e es t.owed).0 ∙ ap (shown m.kind) is

  -- the entry that comes out is of a cell of the board, and owed
  pub due : (k steps : ℕ) (map : List (MapRecord R)) (es : List (Offer R)) (e : Offer R) →
      Ranks m k steps map (e ∷ es) → Due m.kind (area m.board.size) (known_of m (first_ranked m k)) e
  due k steps map es e ranks = All-head (Due m.kind (area m.board.size) (known_of m (first_ranked m k))) e es ranks.tracks.owed

  pub dropped : (k steps : ℕ) (map : List (MapRecord R)) (es : List (Offer R)) (e : Offer R)
      (r : MapRecord R) → Ranks m k steps map (e ∷ es) → r ≡ get_or map e.cell r → r.reached ≡ true →
      Ranks m k steps map es
  dropped k steps map es e r ranks read reached =
      let rs = first_ranked m k in
      record {
        many = ranks.many;
        counts = ranks.counts;
        tracks = go (known_of m rs e.cell) refl;
      }
    where
      go : (v : View L) → known_of m (first_ranked m k) e.cell ≡ v →
          Tracks m.kind (area m.board.size) (known_of m (first_ranked m k)) map es
      go unknown is = absurd (subst (λ v. Owed m.kind v e) is (due k steps map es e ranks).1)
      go (waiting x) is = absurd (both_ways _ (ap (λ a. a.reached) (marked (first_ranked m k) map es e r ranks.tracks read (waiting x) is)) reached)
      go (placed n x) is = drop_first e n x ranks.tracks is

  -- the cell of an offer that is taken up waits, and is the next
  pub taken : (k steps : ℕ) (map : List (MapRecord R)) (es : List (Offer R)) (e : Offer R)
      (r : MapRecord R) → Ranks m k steps map (e ∷ es) → All (λ f. offer_le m.kind e f ≡ true)
      (e ∷ es) → r ≡ get_or map e.cell r → r.reached ≡ false →
      (x : Bid L) × (known_of m (first_ranked m k) e.cell ≡ waiting x) × (m.kind.decode e.length ≡ x.length) × (next m (first_ranked m k) ≡ Some x)
  taken k steps map es e r ranks least read unreached = go (known_of m (first_ranked m k) e.cell) refl
    where
      go : (v : View L) → known_of m (first_ranked m k) e.cell ≡ v →
          (x : Bid L) × (known_of m (first_ranked m k) e.cell ≡ waiting x) × (m.kind.decode e.length ≡ x.length) × (next m (first_ranked m k) ≡ Some x)
      go unknown is = absurd (subst (λ v. Owed m.kind v e) is (due k steps map es e ranks).1)
      go (waiting x) is =
          let found = least_is_next (first_ranked m k) map (e ∷ es) e x ranks.tracks (0, omega arith, refl) least is in
          (x, is, found.0, found.1)
      go (placed n x) is = absurd (both_ways _ unreached (ap (λ a. a.reached) (marked (first_ranked m k) map es e r ranks.tracks read (placed n x) is)))

  pub ranked_one : (k steps more : ℕ) (map map' : List (MapRecord R)) (es es' : List (Offer R))
      (e : Offer R) (x : Bid L) → Ranks m k steps map (e ∷ es) →
      known_of m (first_ranked m k) e.cell ≡ waiting x → next m (first_ranked m k) ≡ Some x →
      more ≡ open_neighbours m.board e.cell → Tracks m.kind (area m.board.size)
      (λ j. raised m.kind (updated (known_of m (first_ranked m k)) e.cell (placed k x) j) (offer m x j)) map' es' →
      Ranks m (k + 1) (steps + more) map' es'
  ranked_one k steps more map map' es es' e x ranks waits follows counted t =
      let rs = first_ranked m k in
      let grown : first_ranked m (k + 1) ≡ x ∷ rs = ap (first_ranked m) (add-one k) ∙ first_ranked_more m k follows in
      let named = (ranks.tracks.named e.cell x (due k steps map es e ranks).0 waits).0 in
      let each : Bid L → ℕ = λ r. open_neighbours m.board r.cell in
      let here : more ≡ each x = counted ∙ ap (open_neighbours m.board) (sym named) in
      let sum : sum_by each (first_ranked m (k + 1)) ≡ each x + sum_by each rs = ap (sum_by each) grown ∙ sum_by-cons each x rs in
      record {
        many = ap length grown ∙ ap suc ranks.many ∙ sym (add-one k);
        counts = (λ i. ranks.counts i + here i) ∙ add_comm (sum_by each rs) (each x) ∙ sym sum;
        tracks = subst (λ l. Tracks m.kind (area m.board.size) (known_of m l) map' es') (sym grown) (tracks_same (λ j lt. standing_more m rs x e.cell k named ranks.many j) t);
      }

-- where the ranking begins
pub started : {L R : Type 0} (m : Measuring L R) (map : List (MapRecord R)) (es : List (Offer R)) →
    Started m map es → Ranks m 0 0 map es
unfolding first_ranked known_of
started m map es t = record {
  many = refl;
  counts = refl;
  tracks = tracks_same (λ j lt. ap (begun m.kind j) (sym (cond-true (ltb j (area m.board.size)) _ _ (lt-ltb j _ lt))) ∙ view_either _ None (Some _)) t;
}

pub ranks_shuffled : {L R : Type 0} {m : Measuring L R} {k steps : ℕ} {map : List (MapRecord R)}
    {es es' : List (Offer R)} → IsPermutation es es' → Ranks m k steps map es →
    Ranks m k steps map es'
ranks_shuffled shuffled ranks = record { many = ranks.many; counts = ranks.counts; tracks = tracks_shuffled shuffled ranks.tracks }

-- a turn with the least entry, which is taken out
pub turned : {L R : Type 0} {m : Measuring L R} {k steps : ℕ} {e : Offer R}
    {map : List (MapRecord R)} {es es' : List (Offer R)} {T : Type 0} → IsPermutation es (e ∷ es') →
    All (λ f. offer_le m.kind e f ≡ true) es → Ranks m k steps map es →
    (All (λ f. offer_le m.kind e f ≡ true) (e ∷ es') → Ranks m k steps map (e ∷ es') → T) → T
turned {m = m} {e = e} shuffled least ranks turn = turn (All-permutation (λ f. offer_le m.kind e f ≡ true) _ _ shuffled least) (ranks_shuffled shuffled ranks)

-- where it ends
pub record Finished {L R : Type 0} (m : Measuring L R) (reached steps : ℕ)
    (map : List (MapRecord R)) : Type 0 where
  pub map_is : map ≡ measured_map m
  pub reached_is : reached ≡ reached_count m
  pub steps_is : steps ≡ step_count m

module _ {L R : Type 0} (m : Measuring L R) (laws : KindLaws m.kind) (k steps : ℕ)
    (map : List (MapRecord R)) (es : List (Offer R)) (ranks : Ranks m k steps map es)
    (full : length map ≡ area m.board.size) where
  finished : first_ranked m k ≡ ranking m →
      ((j : ℕ) → j < area m.board.size → is_ranked (first_ranked m k) j ≡ false → best m (first_ranked m k) j ≡ None) →
      Finished m k steps map
  unfolding measured_map reached_count step_count
  finished all ended = record {
    map_is =
        fill_by_all _ map _ (unreached_record (m.kind.encode m.kind.zero)) full
        (λ j lt. ranks.tracks.records j _ lt ∙ shown_record m (first_ranked m k) j (ended j lt) ∙ ap (λ rs. record_at m.kind rs j) all);
    reached_is = sym ranks.many ∙ ap length all;
    steps_is = ranks.counts ∙ ap (sum_by (λ r. open_neighbours m.board r.cell)) all;
  }

  -- every cell is ranked
  pub finished_all : k ≡ area m.board.size → Finished m k steps map
  finished_all is =
      finished (ap (first_ranked m) is) (λ j lt isnt. absurd (both_ways _ isnt (all_ranked (first_ranked_sound m laws k) (ranks.many ∙ is) j lt)))

  -- no offer is left
  pub finished_empty : es ≡ [] → k ≤ area m.board.size → Finished m k steps map
  finished_empty none le =
      let ended = none_left m laws (first_ranked m k) map (subst (Tracks m.kind (area m.board.size) (known_of m (first_ranked m k)) map) none ranks.tracks) in
      finished (sym (first_ranked_stops m k (area m.board.size) (none_next m (first_ranked m k) ended) le)) ended
