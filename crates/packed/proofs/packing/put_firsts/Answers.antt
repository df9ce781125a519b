-- `packed::packing::put_firsts`: those of the addresses below a are put down.
use mathlib.Core.Path.{◌≡◌, refl}
use native.Mathlib.Omega.{arith}
use lib.ListN.{length}
use Rattle.trace.specs.Bounds.{ADDRESSES}
use Rattle.packed.specs.Layout.{HEAD, firsts_of}
use Rattle.packed.proofs.FileLaid.{put-nothing, firsts-fit, firsts-step}
use Rattle.packed.proofs.packing.put_firsts.Goals.{Start}
use Rattle.packed.proofs.packing.put_firsts.Goals as goal

-- the array has all its places, which is told by owning it
full : (c : Start) → length c.args.t.firsts ≡ ADDRESSES
full c = c.well_formed.0.1.1.1.1.0.1.0.1

pub loop-a-init : goal.loop-a-init
unfolding firsts_of
loop-a-init c = (omega arith, refl, put-nothing c.args.out.now HEAD (omega (arith, c.requires)))

pub put_first-at-requires : goal.put_first-at-requires
put_first-at-requires c =
    (omega arith, firsts-fit c.args.t.firsts c.loop-a.a (omega (arith, full (goal.at.put_first-at-requires c).Start)) c.args.out.now c.loop-a.out c.loop-a.at c.requires c.loop-a.invariant.2 c.loop-a.invariant.1)

pub loop-a-preserved : goal.loop-a-preserved
loop-a-preserved c =
    let r = firsts-step c.args.t.firsts c.loop-a.a (omega (arith, full (goal.at.loop-a-preserved c).Start)) c.args.out.now c.loop-a.out c.loop-a.at c.requires c.loop-a.invariant.2 c.loop-a.invariant.1 _ _ c.put_first-at.ensures.0 c.put_first-at.ensures.1 in
    (omega arith, r.0, r.1)
