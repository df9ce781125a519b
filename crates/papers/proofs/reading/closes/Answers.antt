use mathlib.Core.Path.{◌≡◌, refl, sym, ap, ◌∙◌}
use mathlib.Core.Bool.{Bool, true, false, ◌&&◌}
use lib.Dec.{eqb}
use Rattle.papers.specs.inner.ReaderBranch.{linked}
use Rattle.papers.proofs.reading.closes.Goals as goal

never : (b : Bool) → (b && false) ≡ false
never true = refl
never false = refl

-- src/reading/mod.rt:105:1
pub returns-in-Some : goal.returns-in-Some
unfolding linked
returns-in-Some c =
    let s = c.args in
    sym (ap (λ l. eqb s.x s.y && linked l s.x s.y) c.in-Some.is)

-- src/reading/mod.rt:105:1
pub returns-in-None : goal.returns-in-None
unfolding linked
returns-in-None c =
    let s = c.args in
    sym (ap (λ l. eqb s.x s.y && linked l s.x s.y) c.in-None.is ∙ never (eqb s.x s.y))
