-- `report::render::put_init`: nothing for 0, else the form with its numbers and the line feed.
use native.Mathlib.Omega.{arith}
use borrow.Author.Tests.{eq-eqb, ne_eqb}
use Rattle.reader.specs.LineForms.{render_init}
use Rattle.report.proofs.Wrote.{wrote_then, wrote_none, wrote_as}
use Rattle.report.proofs.render.put_init.Goals as goal

pub returns-then-value-eq0 : goal.returns-then-value-eq0
returns-then-value-eq0 c = (wrote_as (simp (eq-eqb _ _ c.if-value-eq0.true)) (wrote_none c.args.out.now c.args.at), omega arith)

pub returns : goal.returns
unfolding render_init
returns c = (
  wrote_as (simp (ne_eqb _ _ c.if-value-eq0.false)) (wrote_then c.args.out.now c.args.at _ _ _ _ _ _ c.put_form-end.ensures.0 c.put_word.ensures),
  omega (arith, c.put_form-end.ensures.1, c.put_word.ensures.ends),
)
