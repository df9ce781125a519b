-- `signature::packing::closed`: a word more, where there is room; past the array nothing is written.
use mathlib.Core.Path.{◌≡◌, sym, ◌∙◌}
use native.Mathlib.Omega.{arith}
use lib.ListN.{length}
use Rattle.trace.specs.Bounds.{RECORDS}
use lib.Seq.{set_out}
use Rattle.signature.proofs.Laid.{closed-told}
use Rattle.signature.proofs.packing.closed.Goals.{Start, else-at-lt-RECORDS, then-at-lt-RECORDS}
use Rattle.signature.proofs.packing.closed.Goals as goal

-- the array has all its places, which is told by owning it
full : (c : Start) → length c.args.o.of ≡ RECORDS
full c = c.well_formed.0.1.1.0.1.0.1

pub returns : goal.returns
returns c =
    let o = c.args.o in
    closed-told o c.if-at-lt-RECORDS.of c.after-count.result ((elim c.if-at-lt-RECORDS.branch [ then-at-lt-RECORDS w ↦ w.of-is | else-at-lt-RECORDS w ↦ w.of-is ∙ sym (set_out o.of o.count o.word (omega (arith, full (goal.at.returns c).Start, w.if-at-lt-RECORDS.false))) ])) c.after-count.ensures
