-- `packed::packing::lay`: head, first values and records, one behind the other.
use native.Mathlib.Omega.{arith}
use Rattle.packed.proofs.FileLaid.{len-fits, many-fits, room-firsts, room-records, laid}
use Rattle.packed.proofs.packing.lay.Goals as goal

pub put_head-requires : goal.put_head-requires
put_head-requires c =
    (omega (arith, c.requires.1, many-fits c.args.t c.requires.0), len-fits c.args.t c.requires.0)

pub put_firsts-at-requires : goal.put_firsts-at-requires
put_firsts-at-requires c =
    room-firsts c.args.t c.requires.0 c.args.firsts c.requires.1 c.args.out.now c.requires.2 _ c.put_head.ensures

pub put_records-requires : goal.put_records-requires
put_records-requires c =
    (len-fits c.args.t c.requires.0, room-records c.args.t c.requires.0 c.args.firsts c.requires.1 c.args.out.now c.requires.2 _ c.put_head.ensures _ _ c.put_firsts-at.ensures.1 c.put_firsts-at.ensures.0)

pub returns : goal.returns
returns c =
    laid c.args.t c.requires.0 c.args.firsts c.requires.1 c.args.out.now c.requires.2 _ c.put_head.ensures _ _ c.put_firsts-at.ensures.1 c.put_firsts-at.ensures.0 _ c.put_records.ensures
