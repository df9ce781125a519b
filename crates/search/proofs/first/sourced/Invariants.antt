use Rattle.laws.proofs.LowestLoops.{NoneBelow}
use Rattle.trace.specs.Meaning.{frame_of}
use Rattle.rules.specs.Missing.{missing?}
use Rattle.search.proofs.first.sourced.Given as goal

abbrev pub invariant-loop-load : goal.invariant-loop-load
invariant-loop-load l = NoneBelow (missing? (frame_of l.t)) l.load
