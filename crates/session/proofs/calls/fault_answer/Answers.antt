-- `session::calls::fault_answer`: a fault by its name.
use mathlib.Core.Path.{sym, ap, ◌∙◌}
use Rattle.std.specs.Prelude.{Some}
use Rattle.session.specs.Entries.{fault_answer}
use Rattle.session.proofs.calls.fault_answer.Goals as goal

pub returns-in-None : goal.returns-in-None
returns-in-None c = ap fault_answer (sym c.in-None.is)

pub returns-in-PastBound : goal.returns-in-PastBound
returns-in-PastBound c = ap (λ fault. fault_answer (Some fault)) (sym c.in-PastBound.is) ∙ ap fault_answer (sym c.in-Some.is)

pub returns-in-FirstValue : goal.returns-in-FirstValue
returns-in-FirstValue c = ap (λ fault. fault_answer (Some fault)) (sym c.in-FirstValue.is) ∙ ap fault_answer (sym c.in-Some.is)

pub returns-in-TooMany : goal.returns-in-TooMany
returns-in-TooMany c = ap (λ fault. fault_answer (Some fault)) (sym c.in-TooMany.is) ∙ ap fault_answer (sym c.in-Some.is)

pub returns-in-Twice : goal.returns-in-Twice
returns-in-Twice c = ap (λ fault. fault_answer (Some fault)) (sym c.in-Twice.is) ∙ ap fault_answer (sym c.in-Some.is)
