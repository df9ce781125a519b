-- `lowest_rule_by`: the rows have the pair, or not, and then the other rules.
use mathlib.Core.Path.{◌∙◌}
use Rattle.ruling.proofs.Picked.{rule_told}
use Rattle.ruling.proofs.lowest_rule_by.Goals as goal

pub returns : goal.returns
returns c = c.lowest_told.ensures ∙ rule_told _ _ _ _ _ _ _ c.lent-told.ensures
