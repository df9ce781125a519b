use mathlib.Core.Path.{◌≡◌}
use mathlib.Core.Bool.{◌&&◌}
use Prim.Native.Nat.{◌≤◌}
use lib.Dec.{eqb}
use lib.ListN.{get_or}
use Rattle.laws.specs.Latest.{last_of}
use Rattle.trace.specs.Op.{thread, address, written}
use Rattle.trace.specs.Trace.{at}
use Rattle.machine.specs.Machine.{waiting}
use Rattle.machine.proofs.cores.got.Given as goal

abbrev pub invariant-loop-i : goal.invariant-loop-i
invariant-loop-i l = (l.i ≤ l.n) × (l.value ≡ last_of (λ j. waiting l.t l.m (thread (at l.t l.x)) j && eqb (address (at l.t j)) (address (at l.t l.x))) (λ j. written (at l.t j)) (get_or l.m.memory (address (at l.t l.x)) 0) l.i)
