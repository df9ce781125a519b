-- `edges::closed::lay_forward`: the rows below x are laid.
use mathlib.Core.Path.{refl, ap, ◌∙◌}
use native.Mathlib.Omega.{arith}
use Rattle.rows.specs.Empty.{empty_of}
use Rattle.edges.proofs.ClosedTables.{forward-none, forward-more, forward-all}
use Rattle.edges.proofs.closed.lay_forward.Goals as goal

pub loop-x-init : goal.loop-x-init
loop-x-init c = (omega arith, λ words. forward-none _ words _ _ refl (c.clear.ensures ∙ ap empty_of c.requires.2))

pub loop-x-preserved : goal.loop-x-preserved
loop-x-preserved c = (
  omega arith,
  λ words. forward-more c.args.edges.now words c.loop-x.x _ _ _ _ _ (omega arith) (c.loop-x.invariant.1 words) c.put.ensures c.rest-row.ensures c.add_row.ensures,
)

pub returns : goal.returns
returns c =
    forward-all c.args.edges.now (λ i. (c.type_inv.edges i).fits) c.args.n c.loop-x.x _ _ c.requires.1 (omega arith) (c.loop-x.invariant.1 _)
