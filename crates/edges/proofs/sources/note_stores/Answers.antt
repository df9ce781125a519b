-- `edges::sources::note_stores`: the writers below x are noted.
use mathlib.Core.Path.{◌≡◌, ◌∙◌}
use native.Mathlib.Omega.{arith}
use Rattle.edges.proofs.PairSets.{adds-if, union-none, union_more}
use Rattle.edges.proofs.DrawnEdges.{stored_at}
use borrow.Author.Rules.{rules}
use Rattle.edges.proofs.sources.note_stores.Goals as goal

pub loop-x-init : goal.loop-x-init
loop-x-init c = (omega arith, union-none _ c.args.stores.now)

pub loop-x-preserved : goal.loop-x-preserved
loop-x-preserved c =
    let x = c.loop-x.x in (
      omega arith,
      union_more _ x c.loop-x.invariant.1
          (stored_at c.args.t x x (search rules) _ _ c.writes.ensures c.address-addr.ensures
          (adds-if _ _ x (c.loop-x.invariant.1.long ∙ c.requires.1) (λ _. (omega (arith, c.address-addr.type_inv), omega arith)) c.put_if.ensures)),
    )

pub returns : goal.returns
returns c =
    let n : c.loop-x.x ≡ c.args.t.len = omega arith in
    rw n at c.loop-x.invariant.1
