-- What the entries answer.
--
--   answered m t          == the trace is well formed and the model exists: there is something to answer
--   Rounded t m rows r    == r is the round at which the rounds end, from the supposed pairs of the rows; with nothing to answer, round 0, no circle and no pairs
--   Forces t m rows r     == r is what the rules force, likewise; with nothing to answer, nothing is contradicted and nothing held
--   RoundedBy t K rows r  == the same round from any kept pairs K; of a trace that is not well formed, round 0, no circle and no pairs
--   ForcesBy t K rows r   == what the rules force from any kept pairs K, likewise
use Rattle.std.specs.Prelude.{◌≡◌, Bool, false, ◌&&◌, List, ℕ}
use Rattle.std.proofs.Math.Bool.{So}
use Rattle.laws.specs.Relation.{Table}
use Rattle.trace.specs.WellFormed.{well_formed}
use Rattle.trace.specs.Meaning.{frame_of}
use Rattle.trace.specs.declared.Trace.{Trace}
use Rattle.rows.specs.Bounds.{CELLS}
use Rattle.rows.specs.Rows.{bit}
use Rattle.rows.specs.Empty.{empty_of}
use Rattle.pairs.specs.Kept.{modelled, kept_of}
use Rattle.edges.specs.Supposed.{supposed_of}
use Rattle.rules.specs.Closing.{Closing}
use Rattle.edges.specs.LastRound.{Full, Ends}
use Rattle.edges.specs.declared.Forced.{Forced}
use Rattle.edges.specs.declared.force.Round.{Round}

abbrev pub answered : ℕ → Trace → Bool
answered m t = well_formed t && modelled m

pub record Rounded (t : Trace) (m : ℕ) (rows : List ℕ) (r : Round) : Type 0 where
  pub ended : So (answered m t) → Ends (frame_of t) (kept_of m t) (supposed_of t rows) r.number r.circle r.before r.edges r.chains
  pub none : answered m t ≡ false → (r.number ≡ 0) × (r.circle ≡ false) × (r.before ≡ empty_of CELLS) × (r.edges ≡ empty_of CELLS) × (r.chains ≡ empty_of CELLS)

pub record Forces (t : Trace) (m : ℕ) (rows : List ℕ) (r : Forced) : Type 0 where
  pub full : Full r.held
  pub closing : So (answered m t) → Closing (frame_of t) (kept_of m t) (supposed_of t rows) r.contradicted (bit r.held)
  pub none : answered m t ≡ false → (r.contradicted ≡ false) × (r.held ≡ empty_of CELLS)

pub record RoundedBy (t : Trace) (K : Table) (rows : List ℕ) (r : Round) : Type 0 where
  pub ended : So (well_formed t) → Ends (frame_of t) K (supposed_of t rows) r.number r.circle r.before r.edges r.chains
  pub none : well_formed t ≡ false → (r.number ≡ 0) × (r.circle ≡ false) × (r.before ≡ empty_of CELLS) × (r.edges ≡ empty_of CELLS) × (r.chains ≡ empty_of CELLS)

pub record ForcesBy (t : Trace) (K : Table) (rows : List ℕ) (r : Forced) : Type 0 where
  pub full : Full r.held
  pub closing : So (well_formed t) → Closing (frame_of t) K (supposed_of t rows) r.contradicted (bit r.held)
  pub none : well_formed t ≡ false → (r.contradicted ≡ false) × (r.held ≡ empty_of CELLS)
