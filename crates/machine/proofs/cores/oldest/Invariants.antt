use Rattle.laws.proofs.LowestLoops.{NoneBelow}
use Rattle.machine.specs.Machine.{waiting}
use Rattle.machine.proofs.cores.oldest.Given as goal

abbrev pub invariant-loop-i : goal.invariant-loop-i
invariant-loop-i l = NoneBelow (waiting l.t l.m l.core) l.i
