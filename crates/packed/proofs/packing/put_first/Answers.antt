-- `packed::packing::put_first`: nothing for a 0, else its three bytes.
use Rattle.packed.proofs.FileLaid.{first-still, first-down}
use Rattle.packed.proofs.packing.put_first.Goals as goal

pub returns-then-value-eq0 : goal.returns-then-value-eq0
returns-then-value-eq0 c = first-still c.args.a c.args.value c.args.out.now c.args.at c.if-value-eq0.true c.requires.1

pub returns : goal.returns
returns c =
    first-down c.args.a c.args.value c.args.out.now c.args.at c.if-value-eq0.false c.requires.1 _ _ c.put.ensures.0 c.put.ensures.1
