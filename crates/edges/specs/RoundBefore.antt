-- The round before an edge comes.
--
--   PriorTo f K P k x y j e h  == round j is the first that is followed by round k or by one that has the edge x, y: e has its edges, h its chains
--   PriorRound t m rows k x y r == r is that round, from the supposed pairs of the rows; with nothing to answer, round 0 and no pairs
use Rattle.std.specs.Prelude.{◌≡◌, ◌↔◌, ◌⊎◌, false, List, ℕ, suc, ◌<◌, ◌≤◌}
use Rattle.std.proofs.Math.Bool.{So}
use Rattle.laws.specs.Relation.{Table}
use Rattle.rules.specs.Frame.{Frame}
use Rattle.rules.specs.Rules.{Chains, Edge}
use Rattle.trace.specs.Meaning.{frame_of}
use Rattle.trace.specs.declared.Trace.{Trace}
use Rattle.rows.specs.Bounds.{CELLS}
use Rattle.rows.specs.Rows.{bit}
use Rattle.rows.specs.Empty.{empty_of}
use Rattle.pairs.specs.Kept.{kept_of}
use Rattle.edges.specs.Supposed.{supposed_of}
use Rattle.edges.specs.LastRound.{Full}
use Rattle.edges.specs.ForcedPairs.{answered}
use Rattle.edges.specs.declared.force.Prior.{Prior}

pub record PriorTo (f : Frame) (K P : Table) (k x y j : ℕ) (edges chains : List ℕ) : Type 0 where
  pub earlier : (i : ℕ) → i < j → (suc i < k) × (Edge f K P (suc i) x y → ⊥)
  pub comes : (k ≤ suc j) ⊎ Edge f K P (suc j) x y
  pub edges-full : Full edges
  pub edges-has : (a b : ℕ) → So (bit edges a b) ↔ Edge f K P j a b
  pub chains-full : Full chains
  pub chains-has : (a b : ℕ) → So (bit chains a b) ↔ Chains f K P (suc j) a b

pub record PriorRound (t : Trace) (m : ℕ) (rows : List ℕ) (k x y : ℕ) (r : Prior) : Type 0 where
  pub prior : So (answered m t) → PriorTo (frame_of t) (kept_of m t) (supposed_of t rows) k x y r.number r.edges r.chains
  pub none : answered m t ≡ false → (r.number ≡ 0) × (r.edges ≡ empty_of CELLS) × (r.chains ≡ empty_of CELLS)
