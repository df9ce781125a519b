-- `search::split::note_sources`: a number put leaves the set as long as it was.
use mathlib.Core.Path.{refl, ◌∙◌}
use native.Mathlib.Omega.{arith}
use Rattle.search.proofs.Candidates.{next-on}
use Rattle.search.proofs.split.note_sources.Goals as goal

pub loop-load-init : goal.loop-load-init
loop-load-init c = refl

pub overflow_add-load : goal.overflow_add-load
overflow_add-load c = omega (arith, c.loop-load-test.true, c.requires)

pub loop-load-smaller : goal.loop-load-smaller
loop-load-smaller c = omega (arith, next-on c.args.left.now c.loop-load.load _ c.next-load-in-loop-load.ensures (omega (arith, c.loop-load-test.true, c.requires)))

pub loop-load-preserved : goal.loop-load-preserved
loop-load-preserved c = c.put.auto.rows ∙ c.loop-load.invariant

pub shape_of-read : goal.shape_of-read
shape_of-read c = c.loop-load.invariant

pub returns : goal.returns
returns c = c.loop-load.invariant
