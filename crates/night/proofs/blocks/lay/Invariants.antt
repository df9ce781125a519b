use Prim.Native.Nat.{◌≤◌}
use Rattle.trace.specs.Bounds.{RECORDS}
use Rattle.night.proofs.Block.{Laid}
use Rattle.night.proofs.blocks.lay.Given as goal

abbrev pub invariant-loop-i : goal.invariant-loop-i
invariant-loop-i l = (l.i ≤ RECORDS) × Laid l.operations l.rules l.out l.i
