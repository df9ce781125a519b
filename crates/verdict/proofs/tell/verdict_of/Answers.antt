-- `verdict::tell::verdict_of`: 9, then the verdict by the rows of the model's kept pairs.
use mathlib.Core.Path.{sym, ◌∙◌, subst}
use Rattle.verdict.specs.VerdictOf.{Told}
use Rattle.verdict.specs.declared.Verdict.{Verdict}
use Rattle.verdict.proofs.LaidOut.{told-model, told-kept}
use Rattle.verdict.proofs.tell.verdict_of.Goals as goal

pub returns-then-not-modelled : goal.returns-then-not-modelled
returns-then-not-modelled c = subst (λ (r : Verdict). Told c.args.t c.args.model r) (sym c.bare.ensures) (told-model c.args.t c.args.model (sym c.modelled.ensures ∙ c.if-not-modelled.true))

pub returns : goal.returns
returns c = told-kept c.args.t c.args.model (sym c.modelled.ensures ∙ c.if-not-modelled.false) _ c.kept_rows-kept.ensures _ c.verdict_by.ensures
