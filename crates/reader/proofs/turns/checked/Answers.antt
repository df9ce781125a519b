-- `reader::turns::checked`: bounds, then addresses, then what the trace so far says.
use mathlib.Core.Path.{sym, ap, ◌∙◌}
use Rattle.reader.specs.Answer.{joined, checked}
use Rattle.reader.proofs.turns.checked.Goals as goal

pub op_of-requires : goal.op_of-requires
op_of-requires c = sym c.in_bounds.ensures ∙ c.if-in_bounds.true

pub returns-then-one_address : goal.returns-then-one_address
unfolding checked
returns-then-one_address c =
    rw (sym c.in_bounds.ensures ∙ c.if-in_bounds.true, sym c.one_address.ensures ∙ c.if-one_address.true)
    (c.joined.ensures ∙ ap (joined c.args.t) c.op_of.ensures)

pub returns-then-in_bounds : goal.returns-then-in_bounds
unfolding checked
returns-then-in_bounds c =
    rw (sym c.in_bounds.ensures ∙ c.if-in_bounds.true, sym c.one_address.ensures ∙ c.if-one_address.false)

pub returns : goal.returns
unfolding checked
returns c = rw (sym c.in_bounds.ensures ∙ c.if-in_bounds.false)
