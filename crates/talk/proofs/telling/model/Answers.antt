-- `talk::telling::model`: the session made afresh under a model that is there.
use mathlib.Core.Path.{◌≡◌, sym, ap, ◌∙◌}
use mathlib.Core.Bool.{true, false}
use native.Mathlib.Omega.{arith}
use Rattle.pairs.specs.Kept.{modelled}
use Rattle.talk.specs.LineAnswers.{said, replied, model_of}
use Rattle.talk.specs.declared.telling.Told.{Told}
use Rattle.talk.proofs.Cutting.{no-model}
use Rattle.talk.proofs.telling.model.Goals as goal

pub returns-then-modelled : goal.returns-then-modelled
unfolding model_of
returns-then-modelled c = λ C.
    let a = c.args in
    let e : modelled a.n ≡ true = sym c.modelled.ensures ∙ c.if-modelled.true in
    rw e (ap (λ (d : Told). said a.talk d c.afresh-reply.result.session) c.told_of.ensures ∙ ap (replied a.talk) (c.afresh-reply.ensures C))

pub returns-then-n-lt256 : goal.returns-then-n-lt256
unfolding model_of
returns-then-n-lt256 c = λ C.
    let e : modelled c.args.n ≡ false = sym c.modelled.ensures ∙ c.if-modelled.false in
    rw e c.refused.ensures

pub returns : goal.returns
unfolding model_of
returns c = λ C. rw (no-model c.args.n (omega arith)) c.refused-2.ensures
