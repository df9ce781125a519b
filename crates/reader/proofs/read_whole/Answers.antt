-- `reader::read_whole` meets its contract: what `read` answers, and then number 22.
-- Assumes nothing.
use mathlib.Core.Path.{sym, ◌∙◌}
use Rattle.reader.proofs.Whole.{whole-lost, whole-good, whole-refused, whole-other}
use Rattle.reader.proofs.read_whole.Goals as goal

pub returns-then-lost : goal.returns-then-lost
returns-then-lost c =
    whole-lost c.args.text.now _ c.read-reading.ensures c.in-Good.is (sym c.lost.ensures ∙ c.if-lost.true) _ c.empty-none.ensures

pub returns-else-lost : goal.returns-else-lost
returns-else-lost c =
    whole-good c.args.text.now _ c.read-reading.ensures c.in-Good.is (sym c.lost.ensures ∙ c.if-lost.false)

pub returns-in-Refused : goal.returns-in-Refused
returns-in-Refused c = whole-refused c.args.text.now _ c.read-reading.ensures _ _ c.in-Refused.is

pub returns-in-Lost : goal.returns-in-Lost
returns-in-Lost c = whole-other c.args.text.now _ c.read-reading.ensures c.in-Lost.is
