-- `trace::form::note`: the mark of what is written, where something is.
use mathlib.Core.Path.{◌≡◌, refl, sym, ap₂, ◌∙◌}
use mathlib.Core.Bool.{true, false}
use Rattle.trace.specs.Op.{writes}
use Rattle.trace.specs.inner.Marks.{with_mark, note_of}
use Rattle.trace.proofs.WellFormed.{bounded-iff}
use Rattle.trace.proofs.form.note.Goals as goal

pub mark-requires : goal.mark-requires
mark-requires c = rw c.address.ensures ((bounded-iff _).0 c.requires).address_below

pub returns-then-writes : goal.returns-then-writes
unfolding note_of
returns-then-writes c =
    let does : writes c.args.op ≡ true = sym c.writes.ensures ∙ c.if-writes.true in
    simp does (c.mark.ensures ∙ ap₂ (with_mark c.args.marks.now) c.address.ensures c.written.ensures)

pub returns-else-writes : goal.returns-else-writes
unfolding note_of
returns-else-writes c =
    let does : writes c.args.op ≡ false = sym c.writes.ensures ∙ c.if-writes.false in
    simp does refl
