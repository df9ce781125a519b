-- What the judge of a proposed order says yes to.
--
--   Accepted t m xs == the trace is well formed, the model exists, and the list is a valid order
use Rattle.std.proofs.Math.Bool.{So}
use Rattle.std.specs.Prelude.{List, ℕ}
use Rattle.trace.specs.WellFormed.{well_formed}
use Rattle.trace.specs.Meaning.{frame_of}
use Rattle.rules.specs.Order.{Valid}
use Rattle.trace.specs.declared.Trace.{Trace}
use Rattle.pairs.specs.Kept.{modelled, kept_of}

pub record Accepted (t : Trace) (m : ℕ) (xs : List ℕ) : Type 0 where
  pub well : So (well_formed t)
  pub model : So (modelled m)
  pub valid : Valid (frame_of t) (kept_of m t) xs
