use mathlib.Core.Bool.{So}
use Prim.Native.Nat.{◌≤◌}
use Rattle.laws.proofs.LowestLoops.{NoneBelow}
use Rattle.trace.specs.Bounds.{RECORDS}
use Rattle.trace.specs.Meaning.{frame_of}
use Rattle.trace.specs.WellFormed.{well_formed}
use Rattle.rules.specs.Missing.{missing?}
use Rattle.edges.proofs.sources.missing.Given as goal

abbrev pub invariant-loop-load : goal.invariant-loop-load
invariant-loop-load l = So (well_formed l.t) × (l.t.len ≤ RECORDS) × NoneBelow (missing? (frame_of l.t)) l.load
