-- `signature::packing::after`: one more, where there is a place.
use Rattle.signature.proofs.Laid.{after-yes, after-no}
use Rattle.signature.proofs.packing.after.Goals as goal

pub returns-then-i-lt-RECORDS : goal.returns-then-i-lt-RECORDS
returns-then-i-lt-RECORDS c = after-yes c.args.i c.if-i-lt-RECORDS.true

pub returns : goal.returns
returns c = after-no c.args.i c.if-i-lt-RECORDS.false
