use mathlib.Core.Path.{◌≡◌}
use mathlib.Core.List.{◌++◌}
use Prim.Native.Nat.{◌≤◌}
use lib.ListN.{length, take, drop}
use Rattle.papers.specs.inner.ReaderBranch.{branch_of}
use Rattle.reasons.specs.Telling.{numbers}
use Rattle.reasons.proofs.naming.number_all.Given as goal

abbrev pub invariant-loop-i : goal.invariant-loop-i
invariant-loop-i l = (l.i ≤ l.len) × (length l.rests ≡ length l.initial.rests) × (take l.i l.rests ++ numbers (branch_of l.from l.to l.count) l.x (drop l.i (take l.len l.steps)) l.b ≡ numbers (branch_of l.from l.to l.count) l.a (take l.len l.steps) l.b)
