use Prim.Native.Nat.{◌≤◌}
use Rattle.papers.specs.inner.ReaderBranch.{branch_of}
use Rattle.reasons.specs.inner.Choice.{NamedRows}
use Rattle.reasons.proofs.listing.draw.Given as goal

abbrev pub invariant-loop-i : goal.invariant-loop-i
invariant-loop-i l = (l.i ≤ l.n) × NamedRows (branch_of l.from l.to l.i) l.supposed
