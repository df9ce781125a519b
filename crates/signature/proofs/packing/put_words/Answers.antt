-- `signature::packing::put_words`: the first i are put.
use mathlib.Core.Path.{◌≡◌, refl, ◌∙◌}
use native.Mathlib.Omega.{arith}
use lib.ListN.{length, length-set}
use Rattle.trace.specs.Bounds.{RECORDS}
use Rattle.signature.proofs.Putting.{put-start, put_one, put-end}
use Rattle.signature.proofs.packing.put_words.Goals.{Start}
use Rattle.signature.proofs.packing.put_words.Goals as goal

-- the array has all its places, which is told by owning it
full : (c : Start) → length c.args.o.of ≡ RECORDS
full c = c.well_formed.0.1.1.0.1.0.1

pub loop-i-init : goal.loop-i-init
loop-i-init c = (omega arith, refl, put-start c.args.words.now c.args.o.of)

pub loop-i-preserved : goal.loop-i-preserved
loop-i-preserved c =
    let h = c.loop-i-test.true in
    (omega arith, length-set c.loop-i.words c.loop-i.i _ ∙ c.loop-i.invariant.1, put_one c.loop-i.words c.args.o.of c.loop-i.i (omega (arith, c.loop-i.invariant.1, c.requires.0)) (omega (arith, full (goal.at.loop-i-preserved c).Start, c.requires.1)) c.loop-i.invariant.2)

pub shape_of-words : goal.shape_of-words
shape_of-words c = c.loop-i.invariant.1

pub returns : goal.returns
returns c = put-end c.loop-i.words c.args.o c.loop-i.i (omega (arith, c.loop-i.invariant.1, c.requires.0, c.loop-i.invariant.0, c.loop-i-test.false)) (omega (arith, c.loop-i.invariant.0, c.loop-i-test.false)) c.loop-i.invariant.2
