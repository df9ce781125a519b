-- The circle shown for a trace under a model, with its rules.
--
--   ruled_of n os rs == the first n operations and rules, or no circle where n is 0
--   CircleOf t m r   == r begins with the circle shown and its rules and is 0 past them; with nothing to answer there is none
--   CircleBy t K r   == the same from any kept pairs K; of a trace that is not well formed there is none
use Rattle.std.specs.Prelude.{◌≡◌, false, List, ℕ, zero, suc, ◌≤◌, length, get_or, take}
use Rattle.std.proofs.Math.Bool.{So}
use Rattle.std.proofs.Math.Option.{Option, none, some}
use Rattle.laws.specs.Relation.{Table}
use Rattle.trace.specs.Bounds.{RECORDS}
use Rattle.trace.specs.Meaning.{frame_of}
use Rattle.trace.specs.WellFormed.{well_formed}
use Rattle.trace.specs.declared.Trace.{Trace}
use Rattle.pairs.specs.Kept.{kept_of}
use Rattle.edges.specs.ForcedPairs.{answered}
use Rattle.rules.specs.ShownCircle.{Circled}
use Rattle.circle.specs.declared.show.Circle.{Circle}

unfoldable pub ruled_of : ℕ → List ℕ → List ℕ → Option (List ℕ × List ℕ)
ruled_of zero os rs = none
ruled_of (suc n) os rs = some (take (suc n) os, take (suc n) rs)

pub record CircleOf (t : Trace) (m : ℕ) (r : Circle) : Type 0 where
  pub fits : r.len ≤ RECORDS
  pub long : (length r.operations ≡ RECORDS) × (length r.rules ≡ RECORDS)
  pub rest : (i : ℕ) → r.len ≤ i → (get_or r.operations i 0 ≡ 0) × (get_or r.rules i 0 ≡ 0)
  pub circle : So (answered m t) → Circled (frame_of t) (kept_of m t) (ruled_of r.len r.operations r.rules)
  pub nothing : answered m t ≡ false → r.len ≡ 0

pub record CircleBy (t : Trace) (K : Table) (r : Circle) : Type 0 where
  pub fits : r.len ≤ RECORDS
  pub long : (length r.operations ≡ RECORDS) × (length r.rules ≡ RECORDS)
  pub rest : (i : ℕ) → r.len ≤ i → (get_or r.operations i 0 ≡ 0) × (get_or r.rules i 0 ≡ 0)
  pub circle : So (well_formed t) → Circled (frame_of t) K (ruled_of r.len r.operations r.rules)
  pub nothing : well_formed t ≡ false → r.len ≡ 0
