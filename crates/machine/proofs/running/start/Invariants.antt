use mathlib.Core.Path.{◌≡◌}
use mathlib.Core.List.{◌++◌}
use Prim.Native.Nat.{◌≤◌}
use lib.ListN.{drop, replicate}
use Rattle.laws.specs.ListOf.{row}
use Rattle.trace.specs.Bounds.{ADDRESSES}
use Rattle.trace.specs.Trace.{first}
use Rattle.machine.proofs.running.start.Given as goal

abbrev pub invariant-loop-addr : goal.invariant-loop-addr
invariant-loop-addr l = (l.addr ≤ ADDRESSES) × (l.memory ≡ row (first l.t) 0 l.addr ++ drop l.addr (replicate ADDRESSES 0))
