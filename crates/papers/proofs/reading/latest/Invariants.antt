use mathlib.Core.Path.{◌≡◌}
use Prim.Native.Nat.{◌≤◌}
use Rattle.papers.specs.inner.ReaderBranch.{latest_of}
use Rattle.papers.proofs.reading.latest.Given as goal

abbrev pub invariant-loop-i : goal.invariant-loop-i
invariant-loop-i l = (latest_of l.other l.count ≡ latest_of l.other l.i) × (l.i ≤ l.count)
