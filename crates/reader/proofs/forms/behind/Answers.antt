-- `reader::forms::behind`: by the first byte.
use mathlib.Core.Path.{ap, ◌∙◌}
use borrow.Author.Tests.{ne_eqb}
use Rattle.reader.specs.LineForms.{cut_form}
use Rattle.text.proofs.Fits.{begins-at}
use Rattle.reader.proofs.Chosen.{plain-first, swap-first, fence-first, none_first}
use Rattle.reader.proofs.forms.behind.Goals as goal

pub returns-then-b-eq77 : goal.returns-then-b-eq77
returns-then-b-eq77 c =
    let a = c.args in
    c.plain_at.ensures ∙ ap cut_form (plain-first a.thread a.line.now a.at c.if-at-line.true c.if-b-eq77.true)

pub returns-then-b-eq123 : goal.returns-then-b-eq123
returns-then-b-eq123 c =
    let a = c.args in
    c.swap_at.ensures ∙ ap cut_form (swap-first a.thread a.line.now a.at c.if-at-line.true c.if-b-eq123.true)

pub returns-then-at-line : goal.returns-then-at-line
returns-then-at-line c =
    let a = c.args in
    let h = c.if-at-line.true in
    c.fence_at.ensures
    ∙ ap cut_form (fence-first a.thread a.line.now a.at (begins-at 77 a.line.now a.at h ∙ ne_eqb _ 77 c.if-b-eq77.false) (begins-at 123 a.line.now a.at h ∙ ne_eqb _ 123 c.if-b-eq123.false))

pub returns : goal.returns
returns c = let a = c.args in ap cut_form (none_first a.thread a.line.now a.at c.if-at-line.false)
