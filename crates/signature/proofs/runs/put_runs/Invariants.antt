use Prim.Native.Nat.{◌≤◌}
use Rattle.signature.proofs.ManyRuns.{Reading}
use Rattle.signature.proofs.runs.put_runs.Given as goal

abbrev pub invariant-loop-i : goal.invariant-loop-i
invariant-loop-i l = (l.i ≤ l.runs) × Reading l.t l.words l.loads l.out l.runs l.i
