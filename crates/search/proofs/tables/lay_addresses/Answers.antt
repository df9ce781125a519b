-- `search::tables::lay_addresses`: the writers of each address below x are laid.
use mathlib.Core.Path.{◌≡◌, sym, ap, ◌∙◌}
use mathlib.Core.Bool.{Bool, ◌||◌}
use native.Mathlib.Omega.{arith}
use Rattle.rows.specs.Empty.{empty_of}
use Rattle.edges.proofs.PairSets.{adds-if}
use Rattle.search.proofs.Rowing.{addressed-none, addressed-more}
use Rattle.search.proofs.tables.lay_addresses.Goals as goal

pub loop-x-init : goal.loop-x-init
loop-x-init c = (omega arith, addressed-none c.args.t c.args.all _ (c.clear.ensures ∙ ap empty_of c.requires.1))

pub loop-x-preserved : goal.loop-x-preserved
loop-x-preserved c = let x = c.loop-x.x in
    let below = c.loop-x-test.true in
    (omega (arith, below), addressed-more c.args.t c.args.all x c.loop-x.by _ c.loop-x.invariant.1 _ _ (ap (λ (b : Bool). b || c.args.all) c.writes.ensures) c.address-addr.ensures (adds-if _ _ x c.loop-x.invariant.1.long (λ _. (omega (arith, c.address-addr.type_inv), omega (arith, below, c.requires.0))) c.put_if.ensures))

pub shape_of-by : goal.shape_of-by
shape_of-by c = c.loop-x.invariant.1.long ∙ sym c.requires.1

pub returns : goal.returns
returns c = let n : c.loop-x.x ≡ c.args.t.len = omega (arith, c.loop-x-test.false, c.loop-x.invariant.0) in
    rw n at c.loop-x.invariant.1
