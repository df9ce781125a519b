use Prim.Native.Nat.{◌≤◌}
use Rattle.night.proofs.Many.{Judging}
use Rattle.night.proofs.runs.put_runs.Given as goal

abbrev pub invariant-loop-i : goal.invariant-loop-i
invariant-loop-i l = (l.i ≤ l.runs) × Judging l.t l.model l.loads l.initial.out l.out l.runs l.i
