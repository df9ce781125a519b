-- `report::render::put_step`: a number for a hole, or the byte.
use native.Mathlib.Omega.{arith}
use borrow.Author.Tests.{eq-eqb, ne_eqb}
use Rattle.report.proofs.Rendering.{decimal-value}
use Rattle.report.proofs.Wrote.{wrote-byte, wrote_as}
use Rattle.report.proofs.render.put_step.Goals as goal

pub put_decimal-requires : goal.put_decimal-requires
put_decimal-requires c = omega (arith, decimal-value c.args.n c.requires.0, c.requires.1)

pub returns-then-b-eq-HOLE : goal.returns-then-b-eq-HOLE
returns-then-b-eq-HOLE c = let d = decimal-value c.args.n c.requires.0 in
    (wrote_as (simp (eq-eqb _ _ c.if-b-eq-HOLE.true)) c.put_decimal.ensures, omega (arith, c.put_decimal.ensures.ends))

pub returns : goal.returns
returns c = (wrote_as (simp (ne_eqb _ _ c.if-b-eq-HOLE.false)) (wrote-byte c.args.out.now c.args.at c.args.b (omega (arith, c.requires.1))), omega arith)
