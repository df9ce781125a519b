-- `report::render::past`: one more where the byte is a hole.
use native.Mathlib.Omega.{arith}
use borrow.Author.Tests.{eq-eqb, ne_eqb}
use Rattle.report.proofs.render.past.Goals as goal

pub returns-then-b-eq-HOLE : goal.returns-then-b-eq-HOLE
returns-then-b-eq-HOLE c = (simp (eq-eqb _ _ c.if-b-eq-HOLE.true), omega arith)

pub returns : goal.returns
returns c = (simp (ne_eqb _ _ c.if-b-eq-HOLE.false), omega arith)
