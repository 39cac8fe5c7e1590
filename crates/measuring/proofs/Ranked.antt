-- What the ranked cells keep, and how the next one is found. Assumes nothing.
use Rattle.std.proofs.Common.{◌≡◌, ℕ, zero, suc, ◌<◌, ◌≤◌, Bool, true, false, cond, ◌⊎◌, List, [], ◌∷◌, length, sum_by, Some, None, Option, sym, refl, ap, ◌∙◌, subst, inl, inr, ⊎_elim, arith}
use mathlib.Core.List.Memᴰ.{head as first}
use mathlib.Core.List.Memᴰ.{tail as later}
use mathlib.Core.List.{Memᴰ as Among}
use Rattle.std.specs.List.{All}
use Rattle.std.proofs.lemmas.Bool.{cases_Bool, cases_eq, both_ways, cond-false, cond_both}
use Rattle.std.proofs.lemmas.Bool.Decides.{nat_tests}
use Rattle.std.proofs.lemmas.List.Elements.{All-cons, All-head, All-nil, All-tail, All-weaker}
use Rattle.std.proofs.lemmas.List.Sums.{sum_by-cons}
use Rattle.board.specs.Sizes.{area}
use Rattle.lengths.specs.Kinds.{Kind, KindLaws}
use Rattle.measuring.specs.Sums.{how_many, sum_below}
use Rattle.measuring.specs.Boards.{source_of}
use Rattle.measuring.specs.Paths.{Measuring}
use Rattle.measuring.specs.Rankings.{Bid, start, offered, offer, shorter, best, is_ranked, next_below, next, and_one, first_ranked, ranking}
use Rattle.measuring.specs.Rules.{RanksNext}
use Rattle.measuring.proofs.Sums.{how_many_at_most, passed_once, sum_less, sum_more, sum_none, sum_ones}

pub option_cases : {A : Type 0} (o : Option A) → (o ≡ None) ⊎ ((x : A) × (o ≡ Some x))
option_cases None = inl refl
option_cases (Some x) = inr (x, refl)

pub some_or_none : {A B : Type 0} {o : Option A} {x : A} → o ≡ Some x → o ≡ None → B
some_or_none p q = absurd (grind arith)

pub same_some : {A : Type 0} {o : Option A} {x y : A} → o ≡ Some x → o ≡ Some y → x ≡ y
same_some p q = cc

pub all_among : {X : Type 0} (P : X → Type 0) (xs : List X) → ((x : X) → Among x xs → P x) → All P xs
all_among P [] each = All-nil P
all_among P (x ∷ xs) each = All-cons P x xs (each x (first refl)) (all_among P xs (λ y there. each y (later there)))

-- a value of a cond comes by one of its ways
pub cond_some : {A : Type 0} (b : Bool) (x y : Option A) {a : A} → cond b x y ≡ Some a →
    ((b ≡ true) × (x ≡ Some a)) ⊎ ((b ≡ false) × (y ≡ Some a))
cond_some true x y e = inl (refl, e)
cond_some false x y e = inr (refl, e)

-- the shorter of two offers is one of them
pub shorter_either : {L R : Type 0} (kind : Kind L R) (x y : Option (Bid L)) {r : Bid L} →
    shorter kind x y ≡ Some r → (x ≡ Some r) ⊎ (y ≡ Some r)
shorter_either kind x None e = inl e
shorter_either kind None (Some b) e = inr e
shorter_either kind (Some a) (Some b) e = ⊎_elim (λ w. inl w.1) (λ w. inr w.1) (cond_some _ _ _ e)

pub shorter_none : {L R : Type 0} (kind : Kind L R) (x y : Option (Bid L)) →
    shorter kind x y ≡ None → (x ≡ None) × (y ≡ None)
shorter_none kind x None e = (e, refl)
shorter_none kind None (Some b) e = some_or_none refl e
shorter_none kind (Some a) (Some b) e = absurd (grind (arith, nat_tests))

module _ {L R : Type 0} {kind : Kind L R} (laws : KindLaws kind) where
  pub le_itself : (a : L) → kind.le a a ≡ true
  le_itself a = let either = laws.total a a in grind arith

  pub le_since_not : (a b : L) → kind.le a b ≡ false → kind.le b a ≡ true
  le_since_not a b isnt = let either = laws.total a b in grind arith

  pub le_same : {a b : L} → a ≡ b → kind.le a b ≡ true
  le_same {a} is = ap (λ b. kind.le a b) (sym is) ∙ le_itself a

  pub shorter_of_first : (x y : Option (Bid L)) {a r : Bid L} → shorter kind x y ≡ Some r →
      x ≡ Some a → kind.le r.length a.length ≡ true
  shorter_of_first x None e is = le_same (ap (λ b. b.length) (same_some e is))
  shorter_of_first None (Some b) e is = some_or_none is refl
  shorter_of_first (Some c) (Some b) {a} {r} e is =
      let itself = le_itself c.length in
      let either = laws.total c.length b.length in
      grind (arith, nat_tests)

  pub shorter_of_second : (x y : Option (Bid L)) {b r : Bid L} → shorter kind x y ≡ Some r →
      y ≡ Some b → kind.le r.length b.length ≡ true
  shorter_of_second x None e is = some_or_none is refl
  shorter_of_second None (Some d) e is = le_same (ap (λ b. b.length) (same_some e is))
  shorter_of_second (Some a) (Some d) {b} {r} e is =
      let itself = le_itself d.length in
      grind (arith, nat_tests)

  -- of equals the first
  shorter_of_equals : (x y : Option (Bid L)) {a r : Bid L} → shorter kind x y ≡ Some r → x ≡ Some a →
      a.length ≡ r.length → r ≡ a
  shorter_of_equals x None e is same = same_some e is
  shorter_of_equals None (Some b) e is same = some_or_none is refl
  shorter_of_equals (Some c) (Some b) e is same =
      let itself = le_itself c.length in
      grind (arith, nat_tests)

module _ {L R : Type 0} (m : Measuring L R) where
  pub start_is : (j : ℕ) {x : Bid L} → start m j ≡ Some x →
      (0 < source_of m.board m.group j) × (x ≡ record { cell = j; length = m.kind.zero; pad = source_of m.board m.group j; link = j })
  start_is j e = (grind (arith, nat_tests), grind (arith, nat_tests))

  pub offered_is : (r : Bid L) (j : ℕ) (o : Option L) {x : Bid L} → offered r j o ≡ Some x →
      (a : L) × (o ≡ Some a) × (x ≡ record { cell = j; length = a; pad = r.pad; link = r.cell })
  offered_is r j None e = some_or_none e refl
  offered_is r j (Some a) e = (a, refl, same_some e refl)

  -- the shortest offer is the start or one of the offers, so what holds of these holds of it
  pub best_by : (P : Bid L → Type 0) (rs : List (Bid L)) (j : ℕ) {x : Bid L} →
      ((y : Bid L) → start m j ≡ Some y → P y) →
      All (λ r. (y : Bid L) → offer m r j ≡ Some y → P y) rs → best m rs j ≡ Some x → P x
  unfolding best
  best_by P [] j starts offers e = starts _ e
  best_by P (r ∷ rs) j starts offers e =
      let each : Bid L → Type 0 = λ r. (y : Bid L) → offer m r j ≡ Some y → P y in
      ⊎_elim (best_by P rs j starts (All-tail each r rs offers)) (All-head each r rs offers _) (shorter_either m.kind _ _ e)

  pub best_comes : (rs : List (Bid L)) (j : ℕ) {x : Bid L} → best m rs j ≡ Some x →
      (start m j ≡ Some x) ⊎ ((s : Bid L) × Among s rs × (offer m s j ≡ Some x))
  best_comes rs j =
      let Comes : Bid L → Type 0 = λ x. (start m j ≡ Some x) ⊎ ((s : Bid L) × Among s rs × (offer m s j ≡ Some x)) in
      best_by Comes rs j
      (λ y e. inl e)
      (all_among (λ r. (y : Bid L) → offer m r j ≡ Some y → Comes y) rs (λ s there y e. inr (s, there, e)))

  pub best_cell : (rs : List (Bid L)) (j : ℕ) {x : Bid L} → best m rs j ≡ Some x → x.cell ≡ j
  best_cell rs j =
      best_by (λ x. x.cell ≡ j) rs j
      (λ y e. ap (λ x. x.cell) (start_is j e).1)
      (all_among (λ r. (y : Bid L) → offer m r j ≡ Some y → y.cell ≡ j) rs (λ r _ y e. ap (λ x. x.cell) (offered_is r j _ e).2))

  pub best_pad : (rs : List (Bid L)) (j : ℕ) {x : Bid L} → All (λ r. 0 < r.pad) rs →
      best m rs j ≡ Some x → 0 < x.pad
  best_pad rs j pads =
      best_by (λ x. 0 < x.pad) rs j
      (λ y e. omega (arith, start_is j e, ap (λ x. x.pad) (start_is j e).1))
      (All-weaker (λ r. 0 < r.pad) (λ r. (y : Bid L) → offer m r j ≡ Some y → 0 < y.pad)
      (λ r some y e. omega (arith, ap (λ x. x.pad) (offered_is r j _ e).2)) rs pads)

  -- what an unranked cell offers to be ranked by
  abbrev candidate : List (Bid L) → ℕ → Option (Bid L)
  candidate rs j = cond (is_ranked rs j) None (best m rs j)

  candidate_is : (rs : List (Bid L)) (j : ℕ) {x : Bid L} → candidate rs j ≡ Some x →
      (is_ranked rs j ≡ false) × (best m rs j ≡ Some x)
  candidate_is rs j e = (grind (arith, nat_tests), grind (arith, nat_tests))

  made_below : (rs : List (Bid L)) (n : ℕ) {r : Bid L} → next_below m rs n ≡ Some r →
      (r.cell < n) × (candidate rs r.cell ≡ Some r)
  unfolding next_below
  made_below rs zero e = some_or_none e refl
  made_below rs (suc n) {r} e =
      ⊎_elim
      (λ w. let made = made_below rs n w in (omega arith, made.1))
      (λ w.
      let cell = best_cell rs n (candidate_is rs n w).1 in
      (omega arith, ap (candidate rs) cell ∙ w))
      (shorter_either m.kind _ _ e)

  none_below : (rs : List (Bid L)) (n : ℕ) → next_below m rs n ≡ None → (j : ℕ) → j < n →
      candidate rs j ≡ None
  unfolding next_below
  none_below rs zero e j lt = absurd (omega arith)
  none_below rs (suc n) e j lt =
      let both = shorter_none m.kind _ _ e in
      ⊎_elim
      (λ is. ap (candidate rs) is ∙ both.1)
      (λ isnt. none_below rs n both.0 j (omega arith))
      (cases_eq j n)

  below_none : (rs : List (Bid L)) (n : ℕ) → ((j : ℕ) → j < n → candidate rs j ≡ None) →
      next_below m rs n ≡ None
  unfolding next_below
  below_none rs zero none = refl
  below_none rs (suc n) none =
      (λ i. shorter m.kind (below_none rs n (λ j lt. none j (omega arith)) i) (none n (omega arith) i))

  pub next_none : (rs : List (Bid L)) → next m rs ≡ None → (j : ℕ) → j < area m.board.size →
      is_ranked rs j ≡ false → best m rs j ≡ None
  next_none rs e j lt unranked = sym (cond-false (is_ranked rs j) None _ unranked) ∙ none_below rs _ e j lt

  pub none_next : (rs : List (Bid L)) →
      ((j : ℕ) → j < area m.board.size → is_ranked rs j ≡ false → best m rs j ≡ None) →
      next m rs ≡ None
  none_next rs none =
      below_none rs _ (λ j lt. cond_both (is_ranked rs j) None _ (λ o. o ≡ None) (λ _. refl) (none j lt))

module _ {L R : Type 0} (m : Measuring L R) (laws : KindLaws m.kind) where
  least_below : (rs : List (Bid L)) (n : ℕ) {r : Bid L} → next_below m rs n ≡ Some r → (j : ℕ)
      {x : Bid L} → j < n → candidate m rs j ≡ Some x → m.kind.le r.length x.length ≡ true
  unfolding next_below
  least_below rs zero e j lt is = absurd (omega arith)
  least_below rs (suc n) e j lt is =
      ⊎_elim
      (λ last. shorter_of_second laws (next_below m rs n) _ e (ap (candidate m rs) (sym last) ∙ is))
      (λ other.
      ⊎_elim
      (λ none. some_or_none is (none_below m rs n none j (omega arith)))
      (λ some. laws.transitive _ _ _ (shorter_of_first laws _ (candidate m rs n) e some.1) (least_below rs n some.1 j (omega arith) is))
      (option_cases (next_below m rs n)))
      (cases_eq j n)

  lowest_below : (rs : List (Bid L)) (n : ℕ) {r : Bid L} → next_below m rs n ≡ Some r → (j : ℕ)
      {x : Bid L} → j < n → candidate m rs j ≡ Some x → x.length ≡ r.length → r.cell ≤ j
  unfolding next_below
  lowest_below rs zero e j lt is same = absurd (omega arith)
  lowest_below rs (suc n) e j lt is same =
      ⊎_elim
      (λ last. omega (arith, (made_below m rs (suc n) e).0))
      (λ other.
      ⊎_elim
      (λ none. some_or_none is (none_below m rs n none j (omega arith)))
      (λ some.
      let lt' : j < n = omega arith in
      let level = laws.equal _ _ (ap (λ a. m.kind.le some.0.length a) (sym same) ∙ least_below rs n some.1 j lt' is) (shorter_of_first laws _ (candidate m rs n) e some.1) in
      let first = shorter_of_equals laws _ (candidate m rs n) e some.1 level in
      omega (arith, ap (λ b. b.cell) first, lowest_below rs n some.1 j lt' is (same ∙ sym level)))
      (option_cases (next_below m rs n)))
      (cases_eq j n)

  pub next_is : (rs : List (Bid L)) {r : Bid L} → next m rs ≡ Some r → RanksNext m rs r
  next_is rs {r} e =
      let made = made_below m rs _ e in
      let best-is = candidate_is m rs r.cell made.1 in
      record {
        within = made.0;
        unranked = best-is.0;
        made = best-is.1;
        shortest = λ j x lt unranked is. least_below rs _ e j lt (cond-false (is_ranked rs j) None _ unranked ∙ is);
        lowest = λ j x lt unranked is. lowest_below rs _ e j lt (cond-false (is_ranked rs j) None _ unranked ∙ is);
      }

  pub is_next : (rs : List (Bid L)) {r : Bid L} → RanksNext m rs r → next m rs ≡ Some r
  is_next rs {r} rule =
      ⊎_elim
      (λ none. some_or_none rule.made (next_none m rs none _ rule.within rule.unranked))
      (λ some.
      let other = next_is rs some.1 in
      let s = some.0 in
      let level : r.length ≡ s.length = laws.equal _ _ (rule.shortest _ _ other.within other.unranked other.made) (other.shortest _ _ rule.within rule.unranked rule.made) in
      let cell : r.cell ≡ s.cell = omega (arith, rule.lowest _ _ other.within other.unranked other.made (sym level), other.lowest _ _ rule.within rule.unranked rule.made level) in
      some.1 ∙ ap Some (same_some other.made (ap (best m rs) (sym cell) ∙ rule.made)))
      (option_cases (next m rs))

-- no cell is ranked twice
abbrev pub Apart : {L : Type 0} → List (Bid L) → Type 0
Apart [] = Unit {0}
Apart (r ∷ rs) = (is_ranked rs r.cell ≡ false) × Apart rs

pub record SoundRanking {L R : Type 0} (m : Measuring L R) (rs : List (Bid L)) : Type 0 where
  pub pads : All (λ r. 0 < r.pad) rs
  pub within : All (λ r. r.cell < area m.board.size) rs
  pub apart : Apart rs

-- a sum over ranked cells is one over all numbers in which the others add nothing
pub ranked_sum : {L : Type 0} (weight : ℕ → ℕ) (rs : List (Bid L)) (n : ℕ) →
    All (λ r. r.cell < n) rs → Apart rs →
    sum_by (λ r. weight r.cell) rs ≡ sum_below (λ j. cond (is_ranked rs j) (weight j) 0) n
unfolding is_ranked
ranked_sum {L} weight [] n within apart = sym (sum_none (λ j. cond (is_ranked {L = L} [] j) (weight j) 0) n (λ j lt. refl))
ranked_sum weight (r ∷ rs) n within apart =
    let unranked = apart.0 in
    let more = sum_more (λ j. cond (is_ranked (r ∷ rs) j) (weight j) 0) (λ j. cond (is_ranked rs j) (weight j) 0) n r.cell (weight r.cell)
    (All-head (λ r. r.cell < n) r rs within)
    (grind (arith, nat_tests))
    (λ j lt isnt. grind (arith, nat_tests)) in
    let before = ranked_sum weight rs n (All-tail (λ r. r.cell < n) r rs within) apart.1 in
    omega (arith, before, more, sum_by-cons (λ r. weight r.cell) r rs)

length_is_sum : {X : Type 0} (xs : List X) → sum_by (λ _. 1) xs ≡ length xs
length_is_sum [] = refl
length_is_sum (x ∷ xs) = omega (arith, sum_by-cons (λ _. 1) x xs, length_is_sum xs)

module _ {L R : Type 0} {m : Measuring L R} where
  pub none_sound : SoundRanking m []
  none_sound = record { pads = All-nil (λ r. 0 < r.pad); within = All-nil (λ r. r.cell < area m.board.size); apart = tt }

  pub rule_sound : {rs : List (Bid L)} {r : Bid L} → SoundRanking m rs → RanksNext m rs r →
      SoundRanking m (r ∷ rs)
  rule_sound {rs} {r} sound rule = record {
    pads = All-cons (λ r. 0 < r.pad) r rs (best_pad m rs _ sound.pads rule.made) sound.pads;
    within = All-cons (λ r. r.cell < area m.board.size) r rs rule.within sound.within;
    apart = (rule.unranked, sound.apart);
  }

  pub ranked_count : {rs : List (Bid L)} → SoundRanking m rs → how_many (is_ranked rs)
      (area m.board.size) ≡ length rs
  ranked_count {rs} sound = sym (ranked_sum (λ _. 1) rs _ sound.within sound.apart) ∙ length_is_sum rs

  pub room_for_one : {rs : List (Bid L)} → SoundRanking m rs → (j : ℕ) → j < area m.board.size →
      is_ranked rs j ≡ false → length rs < area m.board.size
  room_for_one {rs} sound j lt unranked =
      omega (
        arith,
        ranked_count sound,
        sum_ones (area m.board.size),
        sum_less (λ k. cond (is_ranked rs k) 1 0) (λ _. 1) _ j lt
            (grind (arith, nat_tests))
            (λ k _. passed_once (is_ranked rs k)),
      )

  pub at_most_area : {rs : List (Bid L)} → SoundRanking m rs → length rs ≤ area m.board.size
  at_most_area {rs} sound =
      omega (arith, ranked_count sound, how_many_at_most (is_ranked rs) (area m.board.size))

  pub all_ranked : {rs : List (Bid L)} → SoundRanking m rs → length rs ≡ area m.board.size →
      (j : ℕ) → j < area m.board.size → is_ranked rs j ≡ true
  all_ranked {rs} sound full j lt =
      ⊎_elim (λ is. is) (λ isnt. absurd (omega (arith, room_for_one sound j lt isnt))) (cases_Bool (is_ranked rs j))

module _ {L R : Type 0} (m : Measuring L R) where
  pub first_ranked_more : (n : ℕ) {r : Bid L} → next m (first_ranked m n) ≡ Some r →
      first_ranked m (suc n) ≡ r ∷ first_ranked m n
  unfolding first_ranked
  first_ranked_more n e = ap (and_one (first_ranked m n)) e

  pub first_ranked_ended : (n : ℕ) → next m (first_ranked m n) ≡ None →
      first_ranked m (suc n) ≡ first_ranked m n
  unfolding first_ranked
  first_ranked_ended n e = ap (and_one (first_ranked m n)) e

  pub first_ranked_stops : (k n : ℕ) → next m (first_ranked m k) ≡ None → k ≤ n →
      first_ranked m n ≡ first_ranked m k
  first_ranked_stops k zero e le = ap (first_ranked m) (omega arith)
  first_ranked_stops k (suc n) e le =
      ⊎_elim
      (λ is. ap (first_ranked m) (sym is))
      (λ isnt.
      let before = first_ranked_stops k n e (omega arith) in
      first_ranked_ended n (ap (next m) before ∙ e) ∙ before)
      (cases_eq k (suc n))

  -- either n are ranked, or there is no next
  first_ranked_many : (n : ℕ) → (length (first_ranked m n) ≡ n) ⊎ (next m (first_ranked m n) ≡ None)
  unfolding first_ranked
  first_ranked_many zero = inl refl
  first_ranked_many (suc n) =
      ⊎_elim
      (λ none. inr (ap (next m) (first_ranked_ended n none) ∙ none))
      (λ some.
      ⊎_elim
      (λ many. inl (ap length (first_ranked_more n some.1) ∙ ap suc many))
      (λ none. some_or_none some.1 none)
      (first_ranked_many n))
      (option_cases (next m (first_ranked m n)))

module _ {L R : Type 0} (m : Measuring L R) (laws : KindLaws m.kind) where
  pub next_sound : {rs : List (Bid L)} {r : Bid L} → SoundRanking m rs → next m rs ≡ Some r →
      SoundRanking m (r ∷ rs)
  next_sound sound e = rule_sound sound (next_is m laws _ e)

  pub first_ranked_sound : (n : ℕ) → SoundRanking m (first_ranked m n)
  unfolding first_ranked
  first_ranked_sound zero = none_sound
  first_ranked_sound (suc n) =
      ⊎_elim
      (λ none. subst (SoundRanking m) (sym (first_ranked_ended m n none)) (first_ranked_sound n))
      (λ some. subst (SoundRanking m) (sym (first_ranked_more m n some.1)) (next_sound (first_ranked_sound n) some.1))
      (option_cases (next m (first_ranked m n)))

  pub ranking_sound : SoundRanking m (ranking m)
  ranking_sound = first_ranked_sound _

  pub ranking_ended : next m (ranking m) ≡ None
  ranking_ended =
      ⊎_elim
      (λ full. none_next m _ (λ j lt unranked. absurd (both_ways _ unranked (all_ranked ranking_sound full j lt))))
      (λ none. none)
      (first_ranked_many m _)
