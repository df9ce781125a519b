use mathlib.Core.Path.{◌≡◌}
use Prim.Native.Nat.{◌≤◌}
use Rattle.machine.specs.Replay.{swept}
use Rattle.machine.proofs.replaying.swept.Given as goal

abbrev pub invariant-loop-k : goal.invariant-loop-k
invariant-loop-k l = (l.k ≤ l.n) × (l.after ≡ swept l.t l.every l.core l.initial.after l.k)
