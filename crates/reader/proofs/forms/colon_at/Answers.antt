-- `reader::forms::colon_at`: two bytes, or none.
use native.Mathlib.Omega.{arith}
use Rattle.reader.proofs.Chosen.{colon-there, colon-none}
use Rattle.reader.proofs.forms.colon_at.Goals as goal

pub returns-then-i-line : goal.returns-then-i-line
returns-then-i-line c = let a = c.args in colon-there a.line.now a.at (omega arith)

pub returns-else-i-line : goal.returns-else-i-line
returns-else-i-line c = let a = c.args in colon-none a.line.now a.at (omega arith)

pub returns-else-at-line : goal.returns-else-at-line
returns-else-at-line c = let a = c.args in colon-none a.line.now a.at (omega arith)
