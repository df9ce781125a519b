-- `session::calls::told`: contradicted, or by the table.
use mathlib.Core.Path.{sym, ap, ◌∙◌}
use mathlib.Core.Bool.{cond}
use Rattle.session.specs.declared.Answer.TheVariants.{Held, NotHeld}
use Rattle.session.proofs.Answering.{told-contradicted, told-bit}
use Rattle.session.proofs.calls.told.Goals as goal

pub returns-then-s : goal.returns-then-s
returns-then-s c = sym (told-contradicted _ _ _ c.if-s.true)

pub returns-then-test : goal.returns-then-test
returns-then-test c = sym (told-bit _ _ _ c.if-s.false ∙ ap (λ b. cond b Held NotHeld) (sym c.test.ensures ∙ c.if-test.true))

pub returns : goal.returns
returns c = sym (told-bit _ _ _ c.if-s.false ∙ ap (λ b. cond b Held NotHeld) (sym c.test.ensures ∙ c.if-test.false))
