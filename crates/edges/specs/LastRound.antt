-- The round at which the rounds end: the first that has a circle, or after which nothing is added.
--
--   GoesOn f K P k            == round k has no circle, and the next one adds something
--   Full rows                 == the rows have all their words
--   Ends f K P k c b e h      == the rounds end at round k: c tells whether it has a circle, b has the chains before it, e its edges, h its chains
use Rattle.std.specs.Prelude.{◌≡◌, ◌↔◌, Bool, List, ℕ, suc, ◌<◌, length}
use Rattle.std.proofs.Math.Bool.{So}
use Rattle.laws.specs.Relation.{Table}
use Rattle.rules.specs.Frame.{Frame}
use Rattle.rows.specs.Bounds.{CELLS}
use Rattle.rows.specs.Rows.{bit, Words}
use Rattle.rules.specs.Rules.{Chains, Edge, Last}

pub record GoesOn (f : Frame) (K P : Table) (k : ℕ) : Type 0 where
  pub clear : (x : ℕ) → Chains f K P (suc k) x x → ⊥
  pub adds : Last f K P k → ⊥

pub record Full (rows : List ℕ) : Type 0 where
  pub long : length rows ≡ CELLS
  pub words : Words rows

pub record Ends (f : Frame) (K P : Table) (k : ℕ) (circle : Bool) (before edges chains : List ℕ) : Type 0 where
  pub earlier : (j : ℕ) → j < k → GoesOn f K P j
  pub before-full : Full before
  pub before-has : (x y : ℕ) → So (bit before x y) ↔ Chains f K P k x y
  pub edges-full : Full edges
  pub edges-has : (x y : ℕ) → So (bit edges x y) ↔ Edge f K P k x y
  pub chains-full : Full chains
  pub chains-has : (x y : ℕ) → So (bit chains x y) ↔ Chains f K P (suc k) x y
  pub circle-is : So circle ↔ ((x : ℕ) × Chains f K P (suc k) x x)
  pub last : (So circle → ⊥) → Last f K P k
