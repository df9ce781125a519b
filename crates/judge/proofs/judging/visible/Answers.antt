-- `judge::judging::visible`: the parts of the test, joined.
use Rattle.judge.specs.inner.VisibleBy.{visible_by}
use Rattle.judge.proofs.judging.visible.Goals as goal

pub returns : goal.returns
unfolding visible_by
returns c = cc
