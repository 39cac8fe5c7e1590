-- Orders on queue entries, and that of offers. Assumes nothing.
use Rattle.std.specs.Prelude.{◌≡◌, Bool, true, not, ◌&&◌, ◌||◌, ◌⊎◌, nat_le}
use Rattle.lengths.specs.Kinds.{Kind}
use Rattle.queue.specs.declared.offer.Offer.{Offer}

pub record OrderLaws {E : Type 0} (le : E → E → Bool) : Type 0 where
  pub total : (a b : E) → (le a b ≡ true) ⊎ (le b a ≡ true)
  pub transitive : (a b c : E) → le a b ≡ true → le b c ≡ true → le a c ≡ true

-- shorter, or as long with a cell number that is no higher
abbrev pub offer_le : {L R : Type 0} → Kind L R → Offer R → Offer R → Bool
offer_le kind a b =
    let first = kind.decode a.length in
    let second = kind.decode b.length in
    kind.le first second && (nat_le a.cell b.cell || not (kind.le second first))
