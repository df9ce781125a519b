-- `reader::turns::joined`: a turn for each fault.
use mathlib.Core.Path.{sym, ap, ◌∙◌}
use Rattle.std.specs.Prelude.{Some}
use Rattle.reader.specs.Answer.{joined, turn_of}
use Rattle.reader.proofs.turns.joined.Goals as goal

pub returns-in-None : goal.returns-in-None
unfolding joined
returns-in-None c = ap (turn_of c.args.op) (sym c.in-None.is ∙ c.fault_of.ensures)

pub returns-in-Some-PastBound : goal.returns-in-Some-PastBound
unfolding joined
returns-in-Some-PastBound c =
    ap (λ f. turn_of c.args.op (Some f)) (sym c.in-Some-PastBound.field-0-is) ∙ ap (turn_of c.args.op) (sym c.in-Some-PastBound.is ∙ c.fault_of.ensures)

pub returns-in-Some-FirstValue : goal.returns-in-Some-FirstValue
unfolding joined
returns-in-Some-FirstValue c =
    ap (λ f. turn_of c.args.op (Some f)) (sym c.in-Some-FirstValue.field-0-is) ∙ ap (turn_of c.args.op) (sym c.in-Some-FirstValue.is ∙ c.fault_of.ensures)

pub returns-in-Some-TooMany : goal.returns-in-Some-TooMany
unfolding joined
returns-in-Some-TooMany c =
    ap (λ f. turn_of c.args.op (Some f)) (sym c.in-Some-TooMany.field-0-is) ∙ ap (turn_of c.args.op) (sym c.in-Some-TooMany.is ∙ c.fault_of.ensures)

pub returns-in-Some-Twice : goal.returns-in-Some-Twice
unfolding joined
returns-in-Some-Twice c =
    ap (λ f. turn_of c.args.op (Some f)) (sym c.in-Some-Twice.field-0-is) ∙ ap (turn_of c.args.op) (sym c.in-Some-Twice.is ∙ c.fault_of.ensures)
