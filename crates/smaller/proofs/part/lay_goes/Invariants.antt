use mathlib.Core.Bool.{So}
use Prim.Native.Nat.{◌≤◌}
use Rattle.trace.specs.Meaning.{frame_of}
use Rattle.trace.specs.WellFormed.{well_formed}
use Rattle.trace.proofs.Good.{good}
use Rattle.smaller.proofs.RecordSets.{Lays}
use Rattle.smaller.proofs.part.lay_goes.Given as goal

abbrev pub invariant-loop-load : goal.invariant-loop-load
invariant-loop-load l = (l.load ≤ l.n) × ((w : So (well_formed l.t)) → Lays (frame_of l.t) (good l.t w) l.load l.goes)
