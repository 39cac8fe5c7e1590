-- What a kind of length is, and the laws that it keeps. Assumes nothing.
use Rattle.std.specs.Prelude.{◌≡◌, Bool, true, ◌⊎◌}

-- a zero, the test that one length is at most as long as another, and the row in which tables hold a length
pub record Kind (L R : Type 0) : Type 0 where
  pub zero : L
  pub le : L → L → Bool
  pub encode : L → R
  pub decode : R → L

pub record KindLaws {L R : Type 0} (kind : Kind L R) : Type 0 where
  pub total : (a b : L) → (kind.le a b ≡ true) ⊎ (kind.le b a ≡ true)
  pub transitive : (a b c : L) → kind.le a b ≡ true → kind.le b c ≡ true → kind.le a c ≡ true
  pub equal : (a b : L) → kind.le a b ≡ true → kind.le b a ≡ true → a ≡ b
  pub least : (a : L) → kind.le kind.zero a ≡ true
  pub same : (a : L) → kind.decode (kind.encode a) ≡ a
