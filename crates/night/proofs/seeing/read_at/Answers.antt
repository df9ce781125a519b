-- `night::seeing::read_at`: past the end there is none.
use mathlib.Core.Path.{sym}
use lib.ListN.{get_or-eq_default}
use Rattle.night.proofs.seeing.read_at.Goals as goal

pub returns : goal.returns
returns c = sym (get_or-eq_default c.args.reads.now 0 c.if-at-reads.false)
