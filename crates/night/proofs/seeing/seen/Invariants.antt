use Prim.Native.Nat.{◌≤◌}
use Rattle.trace.specs.Bounds.{RECORDS}
use Rattle.night.proofs.FilledReads.{Filled}
use Rattle.night.proofs.seeing.seen.Given as goal

abbrev pub invariant-loop-i : goal.invariant-loop-i
invariant-loop-i l = (l.i ≤ RECORDS) × Filled l.t l.reads l.u l.k l.i
