-- `verdict::tell::unordered`: 10, then a missing source, then the rest.
use mathlib.Core.Path.{sym, ◌∙◌, subst}
use Rattle.rows.specs.Lent.{lent_of}
use Rattle.verdict.specs.VerdictOf.{ToldBy}
use Rattle.verdict.specs.declared.Verdict.{Verdict}
use Rattle.verdict.proofs.LaidOut.{told-form, told-source}
use Rattle.verdict.proofs.tell.unordered.Goals as goal

pub returns-then-not-well_formed : goal.returns-then-not-well_formed
returns-then-not-well_formed c = let K = lent_of c.args.t c.args.kept.now in
    subst (λ (r : Verdict). ToldBy c.args.t K r) (sym c.bare.ensures)
    (told-form c.args.t K (sym c.well_formed-2.ensures ∙ c.if-not-well_formed.true))

pub circle_or_none-requires : goal.circle_or_none-requires
circle_or_none-requires c = (sym c.well_formed-2.ensures ∙ c.if-not-well_formed.false, sym c.missing.ensures ∙ c.in-None.is, c.requires)

pub returns-in-Some : goal.returns-in-Some
returns-in-Some c = let K = lent_of c.args.t c.args.kept.now in
    subst (λ (r : Verdict). ToldBy c.args.t K r) (sym c.bare-in-Some.ensures)
    (told-source c.args.t K (sym c.well_formed-2.ensures ∙ c.if-not-well_formed.false) _ (sym c.in-Some.is ∙ c.missing.ensures))
