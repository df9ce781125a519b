-- `verdict::tell::circle_or_none`: each answer by what the part beneath promises.
use mathlib.Core.Path.{sym, subst}
use native.Mathlib.Omega.{arith}
use Rattle.rows.specs.Lent.{lent_of}
use Rattle.verdict.specs.VerdictOf.{ToldBy}
use Rattle.verdict.specs.declared.Verdict.{Verdict}
use Rattle.verdict.proofs.LaidOut.{told-circle, told_none}
use Rattle.verdict.proofs.tell.circle_or_none.Goals as goal

pub returns-then-circle-gt0 : goal.returns-then-circle-gt0
returns-then-circle-gt0 c = told-circle c.args.t (lent_of c.args.t c.args.kept.now) c.requires.0 c.requires.1 c.circle_by-circle.result c.circle_by-circle.ensures c.if-circle-gt0.true

pub returns : goal.returns
returns c = let K = lent_of c.args.t c.args.kept.now in
    subst (λ (r : Verdict). ToldBy c.args.t K r) (sym c.bare.ensures)
    (told_none c.args.t K c.requires.0 c.requires.1 c.circle_by-circle.result c.circle_by-circle.ensures c.requires.2 (omega (arith, c.if-circle-gt0.false)))
