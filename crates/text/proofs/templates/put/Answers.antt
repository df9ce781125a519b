-- `text::templates::put`: past the last place nothing is set.
use mathlib.Core.Path.{sym}
use lib.Seq.{set_out}
use Rattle.text.proofs.templates.put.Goals as goal

pub returns-else-n-numbers : goal.returns-else-n-numbers
returns-else-n-numbers c = sym (set_out _ _ _ c.if-n-numbers.false)
