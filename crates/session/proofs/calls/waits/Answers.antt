-- `session::calls::waits`: the record that was found, or none.
use mathlib.Core.Path.{sym, ap}
use Rattle.session.specs.Entries.{waits_of}
use Rattle.session.proofs.calls.waits.Goals as goal

pub returns-in-Some : goal.returns-in-Some
returns-in-Some c = ap waits_of (sym c.in-Some.is)

pub returns-in-None : goal.returns-in-None
returns-in-None c = ap waits_of (sym c.in-None.is)
