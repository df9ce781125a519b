-- `machine::replaying::put`.
use borrow.Author.Tests.{lt-ltb, le-ltb}
use Rattle.machine.specs.Replay.{put}
use Rattle.machine.proofs.replaying.put.Goals as goal

pub returns-then-len-lt-STEPS : goal.returns-then-len-lt-STEPS
unfolding put
returns-then-len-lt-STEPS c = simp (lt-ltb _ _ c.if-len-lt-STEPS.true)

pub returns : goal.returns
unfolding put
returns c = simp (le-ltb _ _ c.if-len-lt-STEPS.false)
