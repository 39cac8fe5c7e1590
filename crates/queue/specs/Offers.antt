-- The order of offers is total and transitive, over any kind of length. Assumes nothing.
use Rattle.std.specs.Prelude.{◌≡◌, true, ◌⊎◌}
use Rattle.std.proofs.Common.{inl, inr, ⊎_elim, arith}
use Rattle.std.proofs.lemmas.Bool.{cases_Bool, and_parts}
use Rattle.std.proofs.lemmas.Bool.Decides.{nat_tests}
use Rattle.lengths.specs.Kinds.{Kind, KindLaws}
use Rattle.queue.specs.Orders.{OrderLaws, offer_le}
use Rattle.queue.specs.declared.offer.Offer.{Offer}

module _ {L R : Type 0} {kind : Kind L R} (laws : KindLaws kind) where
  total : (a b : Offer R) → (offer_le kind a b ≡ true) ⊎ (offer_le kind b a ≡ true)
  total a b =
      let either = laws.total (kind.decode a.length) (kind.decode b.length) in
      ⊎_elim (λ is. inl is) (λ isnt. inr (grind (arith, nat_tests))) (cases_Bool (offer_le kind a b))

  transitive : (a b c : Offer R) → offer_le kind a b ≡ true → offer_le kind b c ≡ true →
      offer_le kind a c ≡ true
  transitive a b c p q =
      let ac = laws.transitive _ _ _ (and_parts _ _ p).0 (and_parts _ _ q).0 in
      ⊎_elim
      (λ back.
      let ba = laws.transitive _ _ _ (and_parts _ _ q).0 back in
      let cb = laws.transitive _ _ _ back (and_parts _ _ p).0 in
      grind (arith, nat_tests))
      (λ none. grind (arith, nat_tests))
      (cases_Bool (kind.le (kind.decode c.length) (kind.decode a.length)))

  pub offer_laws : OrderLaws (offer_le kind)
  offer_laws = record { total = total; transitive = transitive }
