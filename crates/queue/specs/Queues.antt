-- What a queue holds, and what push and pop do. Assumes nothing.
use Rattle.std.specs.Prelude.{◌≡◌, ◌+◌, ◌-◌, ◌<◌, Bool, true, cond, List, ◌∷◌, length, take, drop, MatchBool, Option, MatchOption, nat_lt}
use Rattle.std.specs.List.{All}
use Rattle.std.specs.List.Sorted.{IsPermutation}
use Rattle.queue.specs.declared.Order.{Ghosts}
use Rattle.queue.specs.declared.queues.Queue.{Queue}

-- the entries in the queue
abbrev pub queued : {E O : Type 0} {g : Ghosts O E} → Queue E O g → List E
queued q = take q.len q.entries.now

-- a push adds exactly the entry, or is refused where the slice is full and changes nothing
pub record Pushes {E O : Type 0} {g : Ghosts O E} (q : Queue E O g) (x : E) (q' : Queue E O g)
    (r : Bool) : Type 0 where
  pub answer : r ≡ nat_lt q.len (length q.entries.now)
  pub len : q'.len ≡ q.len + cond r 1 0
  pub added : MatchBool r (IsPermutation (x ∷ queued q) (queued q')) (q'.entries.now ≡ q.entries.now)
  pub beyond : drop q'.len q'.entries.now ≡ drop q'.len q.entries.now
  pub room : length q'.entries.now ≡ length q.entries.now

-- a pop takes out exactly one entry, which is at most every other, or answers none where there is none
pub record Pops {E O : Type 0} {g : Ghosts O E} (le : E → E → Bool) (q q' : Queue E O g)
    (r : Option E) : Type 0 where
  pub len : q'.len ≡ q.len - 1
  pub taken : MatchOption r
      ((q.len ≡ 0) × (q'.entries.now ≡ q.entries.now))
      (λ x.
      (0 < q.len) ×
      IsPermutation (queued q) (x ∷ queued q') ×
      All (λ y. le x y ≡ true) (queued q))
  pub beyond : drop q'.len q'.entries.now ≡ drop q'.len q.entries.now
  pub room : length q'.entries.now ≡ length q.entries.now
