use mathlib.Core.Path.{◌≡◌}
use Prim.Native.Nat.{◌≤◌}
use Rattle.laws.specs.Latest.{last_of}
use Rattle.trace.specs.Bounds.{RECORDS}
use Rattle.counting.specs.inner.NextTests.{waiting_own}
use Rattle.counting.proofs.walk.last_waiting.Given as goal

abbrev pub invariant-loop-s : goal.invariant-loop-s
invariant-loop-s l = (l.s ≤ l.n) × (l.last ≡ last_of (waiting_own l.own l.placed l.c) (λ S. S) RECORDS l.s)
