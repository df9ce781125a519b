-- `desk::limits::lay_steps`: four numbers of two bytes.
use Rattle.desk.specs.Limits.{eight}
use Rattle.desk.proofs.limits.lay_steps.Goals as goal

pub returns : goal.returns
unfolding eight
returns c = c.put_wide.ensures
