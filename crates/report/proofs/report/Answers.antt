-- `report::report`: the answer is written elsewhere first, and put into the buffer where it fits.
use mathlib.Core.Path.{◌≡◌, sym}
use native.Mathlib.Omega.{arith}
use lib.ListN.{length, take}
use lib.Seq.{length-take-le}
use Rattle.report.proofs.Answered.{reported-put}
use Rattle.report.proofs.report.Goals.{After-written-n}
use Rattle.report.proofs.report.Goals as goal

-- what was written is no longer than the buffer
used : (c : After-written-n) → length (take c.written-n.result c.written-n.new.out) ≡ c.written-n.result
used c = length-take-le _ _ (omega (arith, c.written-n.ensures.within, c.written-n.ensures.wrote.long))

pub slice_bounds-put-end : goal.slice_bounds-put-end
slice_bounds-put-end c = sym (used (goal.at.slice_bounds-put-end c).After-written-n)

pub returns : goal.returns
returns c = reported-put c.args.text.now c.args.out.now _ _ _ c.written-n.ensures _ _ c.put.ensures.0 c.put.ensures.1
