-- `edges::kept::let_off`: what is let off after the kinds below the first is drawn.
use mathlib.Core.Path.{◌≡◌}
use native.Mathlib.Omega.{arith}
use Rattle.edges.specs.inner.LaterRecords.{KINDS}
use Rattle.edges.proofs.PairSets.{union-none, union_more}
use Rattle.edges.proofs.kept.let_off.Goals as goal

pub loop-first-init : goal.loop-first-init
loop-first-init c = (omega arith, union-none _ c.args.off.now)

pub loop-first-preserved : goal.loop-first-preserved
loop-first-preserved c =
    (omega arith, union_more _ c.loop-first.first c.loop-first.invariant.1 c.let_off_from.ensures)

pub returns : goal.returns
returns c =
    let n : c.loop-first.first ≡ KINDS = omega arith in
    rw n at c.loop-first.invariant.1
