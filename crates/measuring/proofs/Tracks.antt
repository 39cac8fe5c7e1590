-- What an offer, a rank and a dropped entry do to the map and the queue as they are tracked.
-- Assumes nothing.
use Rattle.std.proofs.Common.{◌≡◌, ℕ, zero, suc, ◌+◌, ◌<◌, ◌≤◌, Bool, true, false, eqb, ◌⊎◌, List, [], ◌∷◌, length, get_or, set, Some, None, Option, sym, refl, ap, ◌∙◌, subst, inl, inr, ⊎_elim, arith}
use Rattle.std.specs.List.{All, Contains}
use Rattle.std.specs.List.Sorted.{IsPermutation}
use Rattle.std.proofs.lemmas.List.Elements.{All-cons, All-tail, All-weaker, Contains-append_right}
use Rattle.std.proofs.lemmas.List.Sorted.{All-permutation, Contains-permutation}
use Rattle.std.proofs.lemmas.List.{get_or-set_other}
use Rattle.std.proofs.lemmas.Grind.{get_or-set_at}
use Rattle.std.proofs.lemmas.Bool.{cases_eq, both_ways, cond-true, cond-false, eq-eqb, lt-ltb, ne_eqb}
use Rattle.std.proofs.lemmas.Bool.Decides.{nat_tests, when_true}
use Rattle.board.specs.declared.record.MapRecord.{MapRecord}
use Rattle.lengths.specs.Kinds.{Kind, KindLaws}
use Rattle.queue.specs.Queues.{Pushes, queued}
use Rattle.queue.specs.declared.Order.{Ghosts}
use Rattle.queue.specs.declared.offer.Offer.{Offer}
use Rattle.queue.specs.declared.queues.Queue.{Queue}
use Rattle.measuring.specs.Maps.{ranked_record}
use Rattle.measuring.specs.Rankings.{Bid}
use Rattle.measuring.specs.Tracking.{View, unknown, waiting, placed, raised, shown, entry, Due, Owed, Tracks, updated, keeps}
use Rattle.measuring.proofs.Ranked.{le_same, le_since_not}

pub has_cases : {X : Type 0} {x : X} (y : X) (xs : List X) → Contains (y ∷ xs) x →
    (y ≡ x) ⊎ Contains xs x
has_cases y xs (zero, lt, is) = inl is
has_cases y xs (suc k, lt, is) = inr (k, omega arith, is)

-- a push onto a queue with room
pub pushed : {E O : Type 0} {g : Ghosts O E} {q q' : Queue E O g} {x : E} {r : Bool} →
    Pushes q x q' r → q.len < length q.entries.now → IsPermutation (x ∷ queued q) (queued q')
pushed {q = q} p room = when_true _ _ (p.answer ∙ lt-ltb q.len _ room) p.added

pub updated_here : {L : Type 0} (view : ℕ → View L) (i : ℕ) (v : View L) → updated view i v i ≡ v
updated_here view i v = cond-true (eqb i i) _ _ (eq-eqb i i refl)

pub updated_other : {L : Type 0} (view : ℕ → View L) (i : ℕ) (v : View L) (j : ℕ) → (j ≡ i → ⊥) →
    view j ≡ updated view i v j
updated_other view i v j other = sym (cond-false (eqb j i) _ _ (ne_eqb j i other))

module _ {L R : Type 0} {kind : Kind L R} where
  pub tracks_same : {n : ℕ} {view view' : ℕ → View L} {map : List (MapRecord R)}
      {es : List (Offer R)} → ((j : ℕ) → j < n → view j ≡ view' j) → Tracks kind n view map es →
      Tracks kind n view' map es
  tracks_same {n} {view} {view'} {es = es} same t = record {
    records = λ j d lt. t.records j d lt ∙ ap (shown kind) (same j lt);
    named = λ j x lt is. t.named j x lt (same j lt ∙ is);
    queues = λ j x lt is. t.queues j x lt (same j lt ∙ is);
    owed = All-weaker (Due kind n view) (Due kind n view') (λ e w. (w.0, subst (λ v. Owed kind v e) (same e.cell w.0) w.1)) es t.owed;
  }

  pub tracks_shuffled : {n : ℕ} {view : ℕ → View L} {map : List (MapRecord R)}
      {es es' : List (Offer R)} → IsPermutation es es' → Tracks kind n view map es →
      Tracks kind n view map es'
  tracks_shuffled {n} {view} {es = es} {es' = es'} shuffled t = record {
    records = t.records;
    named = t.named;
    queues = λ j x lt is. Contains-permutation es es' _ shuffled (t.queues j x lt is);
    owed = All-permutation (Due kind n view) es es' shuffled t.owed;
  }

  -- one cell is known anew: the others' records and entries stay
  put : {n n' : ℕ} {view view' : ℕ → View L} {map : List (MapRecord R)} {es es' : List (Offer R)}
      (i : ℕ) → Tracks kind n view map es → i < length map →
      ((j : ℕ) → j < n' → (j ≡ i → ⊥) → (j < n) × (view j ≡ view' j)) →
      ((x : Bid L) → view' i ≡ waiting x → (x.cell ≡ i) × (0 < x.pad) × Contains es' (entry kind x)) →
      ((e : Offer R) → (e.cell ≡ i → ⊥) → Contains es e → Contains es' e) →
      All (Due kind n' view') es' → Tracks kind n' view' (set map i (shown kind (view' i))) es'
  put {view = view} {view' = view'} {map = map} i t within elsewhere here kept owed = record {
    records = λ j d lt.
        ⊎_elim
        (λ is. grind (arith, get_or-set_at))
        (λ other.
        let old = elsewhere j lt other in
        get_or-set_other map i j _ d other ∙ t.records j d old.0 ∙ ap (shown kind) old.1)
        (cases_eq j i);
    named = λ j x lt is.
        ⊎_elim
        (λ e. let new = here x (ap view' (sym e) ∙ is) in (new.0 ∙ sym e, new.1))
        (λ other. let old = elsewhere j lt other in t.named j x old.0 (old.1 ∙ is))
        (cases_eq j i);
    queues = λ j x lt is.
        ⊎_elim
        (λ e. (here x (ap view' (sym e) ∙ is)).2)
        (λ other.
        let old = elsewhere j lt other in
        kept (entry kind x) (λ e. other (sym (t.named j x old.0 (old.1 ∙ is)).0 ∙ e)) (t.queues j x old.0 (old.1 ∙ is)))
        (cases_eq j i);
    owed = owed;
  }

  -- the first entry is taken out and its cell ranked
  pub place : {n : ℕ} {view : ℕ → View L} {map : List (MapRecord R)} {es : List (Offer R)}
      (e : Offer R) (k : ℕ) (x : Bid L) → Tracks kind n view map (e ∷ es) → e.cell < length map →
      Tracks kind n (updated view e.cell (placed k x)) (set map e.cell (ranked_record kind k x)) es
  place {n} {view} {map} {es} e k x t within =
      let here = updated_here view e.cell (placed k x) in
      subst
      (λ v. Tracks kind n (updated view e.cell (placed k x)) (set map e.cell (shown kind v)) es)
      here
      (put e.cell t within
      (λ j lt other. (lt, updated_other view e.cell (placed k x) j other))
      (λ y is. grind arith)
      (λ f other had. ⊎_elim (λ same. absurd (other (ap (λ a. a.cell) (sym same)))) (λ kept. kept) (has_cases e es had))
      (All-weaker (Due kind n view) (Due kind n (updated view e.cell (placed k x))) (λ f w. (
        w.0,
        ⊎_elim
            (λ same. subst (λ v. Owed kind v f) (sym (ap (updated view e.cell (placed k x)) same ∙ here)) tt)
            (λ other. subst (λ v. Owed kind v f) (updated_other view e.cell (placed k x) f.cell other) w.1)
            (cases_eq f.cell e.cell),
      )) es (All-tail (Due kind n view) e es t.owed)))

  -- the first entry is dropped, whose cell is ranked already
  pub drop_first : {n : ℕ} {view : ℕ → View L} {map : List (MapRecord R)} {es : List (Offer R)}
      (e : Offer R) (k : ℕ) (x : Bid L) → Tracks kind n view map (e ∷ es) →
      view e.cell ≡ placed k x → Tracks kind n view map es
  drop_first {n} {view} {es = es} e k x t ranked = record {
    records = t.records;
    named = t.named;
    queues = λ j y lt is.
        ⊎_elim
        (λ same.
        let cell : e.cell ≡ j = ap (λ a. a.cell) same ∙ (t.named j y lt is).0 in
        let waits : view e.cell ≡ waiting y = ap view cell ∙ is in
        grind arith)
        (λ kept. kept)
        (has_cases e es (t.queues j y lt is));
    owed = All-tail (Due kind n view) e es t.owed;
  }

module _ {L R : Type 0} {kind : Kind L R} (laws : KindLaws kind) where
  -- an offer to a cell that is put into its record and queued
  pub put_offer : {n n' : ℕ} {view view' : ℕ → View L} {map : List (MapRecord R)}
      {es es' : List (Offer R)} (i : ℕ) (x : Bid L) → Tracks kind n view map es → i < length map →
      n ≤ n' → i < n' → ((j : ℕ) → j < n' → (j ≡ i → ⊥) → (j < n) × (view j ≡ view' j)) →
      view' i ≡ waiting x → x.cell ≡ i → 0 < x.pad →
      ((e : Offer R) → e.cell < n → e.cell ≡ i → Owed kind (view i) e → Owed kind (waiting x) e) →
      IsPermutation (entry kind x ∷ es) es' →
      Tracks kind n' view' (set map i (shown kind (waiting x))) es'
  put_offer {n} {n'} {view} {view'} {map} {es} i x t within wider below elsewhere is named pad worse shuffled =
      let owed-still : (e : Offer R) → Due kind n view e → Due kind n' view' e =
      λ e w. (
        omega (arith, w.0),
        ⊎_elim
            (λ same. subst (λ v. Owed kind v e) (sym (ap view' same ∙ is)) (worse e w.0 same (subst (λ k. Owed kind (view k) e) same w.1)))
            (λ other. subst (λ v. Owed kind v e) (elsewhere e.cell (omega (arith, w.0)) other).1 w.1)
            (cases_eq e.cell i),
      ) in
      tracks_shuffled shuffled (
      subst
      (λ v. Tracks kind n' view' (set map i (shown kind v)) (entry kind x ∷ es))
      is
      (put i t within elsewhere
      (λ y e. let waits = sym is ∙ e in let same : x ≡ y = cc in subst (λ z. (z.cell ≡ i) × (0 < z.pad) × Contains (entry kind x ∷ es) (entry kind z)) same (named, pad, (0, omega arith, refl)))
      (λ e _ had. Contains-append_right (entry kind x ∷ []) es e had)
      (All-cons (Due kind n' view') (entry kind x) es (omega arith, subst (λ v. Owed kind v (entry kind x)) (sym (ap view' named ∙ is)) (le_same laws (sym (laws.same x.length)))) (All-weaker (Due kind n view) (Due kind n' view') owed-still es t.owed)))
      )

  -- where the record is kept, the offer changes nothing
  pub offer_stays : (v : View L) (x : Bid L) → keeps kind (shown kind v) x.length ≡ true →
      raised kind v (Some x) ≡ v
  offer_stays unknown x kept = absurd (both_ways false refl kept)
  offer_stays (waiting y) x kept =
      let same = laws.same y.length in
      grind (arith, nat_tests)
  offer_stays (placed k y) x kept = refl

  -- where it is not, the offer is better
  pub offer_better : (v : View L) (x : Bid L) → ((y : Bid L) → v ≡ waiting y → 0 < y.pad) →
      keeps kind (shown kind v) x.length ≡ false →
      (raised kind v (Some x) ≡ waiting x) × ((e : Offer R) → Owed kind v e → Owed kind (waiting x) e)
  offer_better unknown x pads gone = (refl, λ e none. absurd none)
  offer_better (waiting y) x pads gone =
      let pad = pads y refl in
      let same = laws.same y.length in
      let longer : kind.le y.length x.length ≡ false = grind (arith, nat_tests) in
      (cond-false (kind.le y.length x.length) _ _ longer, λ e le. laws.transitive _ _ _ (le_since_not laws _ _ longer) le)
  offer_better (placed k y) x pads gone = absurd (both_ways true gone refl)

  unraised : {n : ℕ} {view : ℕ → View L} {map : List (MapRecord R)} {es : List (Offer R)} (i : ℕ)
      (v : View L) → Tracks kind n view map es → v ≡ view i → Tracks kind n (updated view i v) map es
  unraised {view = view} i v t same =
      tracks_same (λ j lt. ⊎_elim (λ is. grind (arith, nat_tests)) (updated_other view i v j) (cases_eq j i)) t

  -- an offer across a barred step, one that is not put down, and one that is
  pub offer_none : {n : ℕ} {view : ℕ → View L} {map : List (MapRecord R)} {es : List (Offer R)}
      (i : ℕ) (o : Option (Bid L)) → Tracks kind n view map es → o ≡ None →
      Tracks kind n (updated view i (raised kind (view i) o)) map es
  offer_none {view = view} i o t none = unraised i _ t (ap (raised kind (view i)) none)

  pub offer_kept : {n : ℕ} {view : ℕ → View L} {map : List (MapRecord R)} {es : List (Offer R)}
      (i : ℕ) (o : Option (Bid L)) (x : Bid L) (r : MapRecord R) → Tracks kind n view map es →
      i < n → r ≡ get_or map i r → o ≡ Some x → keeps kind r x.length ≡ true →
      Tracks kind n (updated view i (raised kind (view i) o)) map es
  offer_kept {view = view} i o x r t lt read some kept =
      let known : r ≡ shown kind (view i) = read ∙ t.records i r lt in
      unraised i _ t (ap (raised kind (view i)) some ∙ offer_stays (view i) x (ap (λ k. keeps kind k x.length) (sym known) ∙ kept))

  pub offer_put : {n : ℕ} {view : ℕ → View L} {map : List (MapRecord R)} {es es' : List (Offer R)}
      (i : ℕ) (o : Option (Bid L)) (x : Bid L) (r : MapRecord R) → Tracks kind n view map es →
      i < n → i < length map → r ≡ get_or map i r → o ≡ Some x → x.cell ≡ i → 0 < x.pad →
      keeps kind r x.length ≡ false → IsPermutation (entry kind x ∷ es) es' →
      Tracks kind n (updated view i (raised kind (view i) o))
      (set map i (shown kind (waiting x))) es'
  offer_put {view = view} i o x r t lt within read some named pad gone shuffled =
      let known : r ≡ shown kind (view i) = read ∙ t.records i r lt in
      let better = offer_better (view i) x (λ y is. (t.named i y lt is).1) (ap (λ k. keeps kind k x.length) (sym known) ∙ gone) in
      put_offer i x t within (omega arith) lt
      (λ j below other. (below, updated_other view i _ j other))
      (updated_here view i _ ∙ ap (raised kind (view i)) some ∙ better.0)
      named pad (λ e _ _ owed. better.1 e owed) shuffled

  -- one cell more at the start: one with no offer, and a source
  pub start_none : {i : ℕ} {view : ℕ → View L} {map : List (MapRecord R)} {es : List (Offer R)} →
      Tracks kind i view map es → i < length map → view i ≡ unknown →
      Tracks kind (i + 1) view (set map i (shown kind unknown)) es
  start_none {i} {view} {map} {es} t within none =
      subst
      (λ v. Tracks kind (i + 1) view (set map i (shown kind v)) es)
      none
      (put i t within
      (λ j lt other. (omega arith, refl))
      (λ x is. grind arith)
      (λ e _ had. had)
      (All-weaker (Due kind i view) (Due kind (i + 1) view) (λ e w. (omega (arith, w.0), w.1)) es t.owed))

  pub start_put : {i : ℕ} {view : ℕ → View L} {map : List (MapRecord R)} {es es' : List (Offer R)}
      (x : Bid L) → Tracks kind i view map es → i < length map → view i ≡ waiting x → x.cell ≡ i →
      0 < x.pad → IsPermutation (entry kind x ∷ es) es' →
      Tracks kind (i + 1) view (set map i (shown kind (waiting x))) es'
  start_put {i} x t within is named pad shuffled =
      put_offer i x t within (omega arith) (omega arith) (λ j lt other. (omega arith, refl)) is named pad (λ e below here. absurd (omega arith)) shuffled
