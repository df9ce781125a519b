use Prim.Native.Nat.{◌≤◌}
use Rattle.trace.specs.Bounds.{RECORDS}
use Rattle.rows.proofs.Closing.{Stage}
use Rattle.rows.proofs.close_any.Given as goal

abbrev pub invariant-loop-k : goal.invariant-loop-k
invariant-loop-k l = (l.k ≤ RECORDS) × Stage l.initial.rows l.k l.rows
