use Prim.Native.Nat.{◌≤◌}
use Rattle.laws.proofs.LowestLoops.{NoneBelow}
use Rattle.trace.specs.Bounds.{RECORDS}
use Rattle.trace.specs.Meaning.{frame_of}
use Rattle.rows.specs.Rows.{bit}
use Rattle.reasons.proofs.Places.{Reads}
use Rattle.reasons.proofs.paths.load_of.Given as goal

abbrev pub invariant-loop-load : goal.invariant-loop-load
invariant-loop-load l = (l.load ≤ RECORDS) × NoneBelow (Reads (frame_of l.t) (bit l.chains) l.x l.y) l.load
