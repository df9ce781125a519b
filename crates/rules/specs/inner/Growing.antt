-- A closing that adds one forced pair after the other to a relation that stays closed, in whatever order.
--
--   SettledAt f C L      == rules 6 and 7 give nothing for the load L that C lacks
--   Complete f K P C     == C has round 0's edges, and what rules 6 and 7 give from C
--   Growing f K P C      == C is closed under chains and has forced pairs only: what every turn keeps
--   GrownTo f K P C R D  == D is what C has grown to when the pairs of R are in
--   GrownOrStopped f K P C R D ok == either C has grown to D without a circle, or a forced pair closed a circle: what a function that may stop early answers
use Rattle.std.specs.Prelude.{◌≡◌, ◌≢◌, ◌⊎◌, Bool, false, ℕ}
use Rattle.std.proofs.Math.Bool.{So}
use Rattle.laws.specs.Relation.{Rel, Table, ◌⊆◌, Transitive}
use Rattle.laws.specs.inner.Joined.{SelfLed}
use Rattle.rules.specs.Frame.{Frame, Writer, Source}
use Rattle.rules.specs.Rules.{Gives, Edge, Held, Contradicted}

-- S is L's source and z another writer of the address: before the load is before the source, after the source is after the load
unfoldable pub SettledAt : Frame → Rel → ℕ → Type 0
SettledAt f C L = (S : ℕ) → Source f S L → (z : ℕ) → Writer f z L → z ≢ S → (C z L → C z S) × (C S z → C L z)

pub record Complete (f : Frame) (K P : Table) (C : Rel) : Type 0 where
  pub begun : Edge f K P 0 ⊆ C
  pub settled : (x y : ℕ) → Gives f K P C x y 6 ⊎ Gives f K P C x y 7 → C x y

pub record Growing (f : Frame) (K P : Table) (C : Rel) : Type 0 where
  pub joins : Transitive C
  pub forced : C ⊆ Held f K P

pub record GrownTo (f : Frame) (K P : Table) (C R D : Rel) : Type 0 where
  pub growing : Growing f K P D
  pub keeps : C ⊆ D
  pub has : R ⊆ D

pub record GrownOrStopped (f : Frame) (K P : Table) (C R D : Rel) (ok : Bool) : Type 0 where
  pub grown : So ok → GrownTo f K P C R D
  pub clear : So ok → (SelfLed C → ⊥) → SelfLed D → ⊥
  pub stopped : ok ≡ false → Contradicted f K P
