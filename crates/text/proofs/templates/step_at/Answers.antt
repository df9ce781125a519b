-- `text::templates::step_at`: a hole takes a number, any other byte itself.
use mathlib.Core.Path.{◌∙◌}
use Rattle.text.proofs.Fits.{step-number, step-there, step_other, step_past}
use Rattle.text.proofs.templates.step_at.Goals as goal

pub returns-then-t-eq-HOLE : goal.returns-then-t-eq-HOLE
returns-then-t-eq-HOLE c = let a = c.args in c.number_at.ensures ∙ step-number a.t a.line.now a.at c.if-t-eq-HOLE.true

pub returns-then-line-at : goal.returns-then-line-at
returns-then-line-at c =
    let a = c.args in
    step-there a.t a.line.now a.at c.if-t-eq-HOLE.false c.if-at-line.true c.if-line-at.true

pub returns-else-line-at : goal.returns-else-line-at
returns-else-line-at c =
    let a = c.args in
    step_other a.t a.line.now a.at c.if-t-eq-HOLE.false c.if-at-line.true c.if-line-at.false

pub returns-else-at-line : goal.returns-else-at-line
returns-else-at-line c = let a = c.args in step_past a.t a.line.now a.at c.if-t-eq-HOLE.false c.if-at-line.false
