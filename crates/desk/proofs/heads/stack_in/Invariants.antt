use mathlib.Core.Path.{◌≡◌}
use mathlib.Core.List.{◌++◌}
use Prim.Native.Nat.{◌≤◌}
use lib.ListN.{drop, replicate}
use Rattle.laws.specs.ListOf.{row}
use Rattle.session.specs.Bounds.{PAIRS}
use Rattle.session.specs.Stack.{unused}
use Rattle.desk.specs.SessionBytes.{pair_in}
use Rattle.desk.proofs.heads.stack_in.Given as goal

abbrev pub invariant-loop-i : goal.invariant-loop-i
invariant-loop-i l = (l.i ≤ PAIRS) × (l.pairs ≡ row (pair_in l.bytes) 0 l.i ++ drop l.i (replicate PAIRS unused))
