use Rattle.laws.proofs.LowestLoops.{NoneBelow}
use Rattle.machine.specs.Machine.{due}
use Rattle.machine.proofs.cores.next.Given as goal

abbrev pub invariant-loop-i : goal.invariant-loop-i
invariant-loop-i l = NoneBelow (due l.t l.m l.core) l.i
