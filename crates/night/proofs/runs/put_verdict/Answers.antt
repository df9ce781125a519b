-- `night::runs::put_verdict`: the verdict, laid out.
use mathlib.Core.Path.{sym, ap, ◌∙◌, subst}
use Prim.Native.Nat.{◌≤◌}
use Rattle.trace.specs.Bounds.{RECORDS}
use Rattle.verdict.specs.VerdictOf.{Told}
use Rattle.verdict.specs.declared.Verdict.{Verdict}
use Rattle.verdict.proofs.LaidOut.{told-kept}
use Rattle.night.specs.Block.{block_in}
use Rattle.night.specs.inner.RunsJudged.{JudgedAs}
use Rattle.night.proofs.Block.{spelled-fits, source-below}
use Rattle.night.proofs.Many.{told-judged}
use Rattle.night.proofs.runs.put_verdict.Goals.{After-verdict_by-v}
use Rattle.night.proofs.runs.put_verdict.Goals as goal

-- it is the verdict under the model
told : (c : After-verdict_by-v) → Told c.args.u c.args.model c.verdict_by-v.result
told c = told-kept c.args.u c.args.model c.requires.1 c.args.kept.now c.requires.2 c.verdict_by-v.result c.verdict_by-v.ensures

pub spelled-requires : goal.spelled-requires
spelled-requires c = source-below c.args.model c.args.u c.requires.0 c.verdict_by-v.result (told c)

pub lay-requires : goal.lay-requires
lay-requires c =
    (subst (λ (c : Verdict). c.len ≤ RECORDS) (sym c.spelled.ensures) (spelled-fits c.verdict_by-v.result c.verdict_by-v.ensures.fits), c.requires.3)

pub shape_of-out : goal.shape_of-out
shape_of-out c =
    c.lay.ensures.1 ∙ sym c.requires.3

pub returns : goal.returns
returns c = (
  c.lay.ensures.1,
  subst (JudgedAs c.args.u c.args.model) (sym (c.lay.ensures.0 ∙ ap block_in c.spelled.ensures))
      (told-judged c.args.u c.args.model c.requires.0 c.requires.1 c.verdict_by-v.result (told (goal.at.returns c).After-verdict_by-v)),
)
