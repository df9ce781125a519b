-- `desk::signatures::with_place`: the place above the number, where there is one.
use Rattle.desk.proofs.Signing.{place-yes, place-no}
use Rattle.desk.proofs.signatures.with_place.Goals as goal

pub returns-then-place-lt-RECORDS : goal.returns-then-place-lt-RECORDS
returns-then-place-lt-RECORDS c = place-yes c.args.number c.args.place c.if-place-lt-RECORDS.true

pub returns : goal.returns
returns c = place-no c.args.number c.args.place c.if-place-lt-RECORDS.false
