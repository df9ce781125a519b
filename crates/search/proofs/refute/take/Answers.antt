-- `search::refute::take`: a row takes a set, unless it has it.
use Rattle.search.proofs.Refutation.{took, grown-none}
use Rattle.search.proofs.refute.take.Goals as goal

pub shape_of-led-then-not-within : goal.shape_of-led-then-not-within
shape_of-led-then-not-within c = let a = c.args in
    (took a.ahead.now (λ i. (c.type_inv.ahead i).fits) a.y c.requires.0 a.led.now _ c.requires.1 c.add_row.ensures).long

pub returns-then-not-within : goal.returns-then-not-within
returns-then-not-within c = let a = c.args in
    took a.ahead.now (λ i. (c.type_inv.ahead i).fits) a.y c.requires.0 a.led.now _ c.requires.1 c.add_row.ensures

pub returns-else-not-within : goal.returns-else-not-within
returns-else-not-within c = grown-none _ _
