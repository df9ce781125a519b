-- `edges::force::note_others`: the numbers below y that are no operations are noted.
use mathlib.Core.Path.{◌≡◌, ◌∙◌}
use native.Mathlib.Omega.{arith}
use Rattle.trace.specs.Bounds.{RECORDS}
use Rattle.edges.proofs.PairSets.{adds-if, adds-only, union-none, union_more}
use Rattle.edges.proofs.LentPairs.{other_at}
use Rattle.edges.proofs.force.note_others.Goals as goal

pub loop-y-init : goal.loop-y-init
loop-y-init c = (omega arith, union-none _ c.args.others.now)

pub loop-y-preserved : goal.loop-y-preserved
loop-y-preserved c =
    let y = c.loop-y.y in (
      omega arith,
      union_more _ y c.loop-y.invariant.1
          (adds-only _ _ (other_at c.args.t y _ c.fence.ensures) (adds-if _ 0 y (c.loop-y.invariant.1.long ∙ c.requires.1) (λ _. (omega arith, omega arith)) c.put_if.ensures)),
    )

pub returns : goal.returns
returns c =
    let n : c.loop-y.y ≡ RECORDS = omega arith in
    rw n at c.loop-y.invariant.1
