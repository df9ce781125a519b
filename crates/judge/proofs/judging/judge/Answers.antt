-- `judge::judging::judge`: each of its three ways out.
use mathlib.Core.Path.{sym, ◌∙◌}
use Rattle.pairs.proofs.ValidOrders.{well-fits}
use Rattle.judge.proofs.JudgeAnswers.{nine-told, ten-told, judged-told}
use Rattle.judge.proofs.judging.judge.Goals as goal

pub returns-then-not-modelled : goal.returns-then-not-modelled
returns-then-not-modelled c =
    let a = c.args in
    nine-told a.t a.model a.list.now (sym c.modelled.ensures ∙ c.if-not-modelled.true)

pub returns-then-not-well_formed : goal.returns-then-not-well_formed
returns-then-not-well_formed c =
    let a = c.args in
    ten-told a.t a.model a.list.now (sym c.modelled.ensures ∙ c.if-not-modelled.false) (sym c.well_formed-2.ensures ∙ c.if-not-well_formed.true)

pub judged-requires : goal.judged-requires
judged-requires c = well-fits _ (sym c.well_formed-2.ensures ∙ c.if-not-well_formed.false)

pub returns : goal.returns
returns c =
    let a = c.args in
    c.judged.ensures
    ∙ judged-told a.t a.model a.list.now (sym c.modelled.ensures ∙ c.if-not-modelled.false) (sym c.well_formed-2.ensures ∙ c.if-not-well_formed.false)
