-- `trace::pushed` meets its contract: the two ways are those of the definition. Assumes nothing.
use borrow.Author.Tests.{lt-ltb, le-ltb}
use Rattle.trace.specs.Trace.{pushed}
use Rattle.trace.proofs.pushed.Goals as goal

pub returns-then-at-lt-RECORDS : goal.returns-then-at-lt-RECORDS
unfolding pushed
returns-then-at-lt-RECORDS c = simp (lt-ltb _ _ c.if-at-lt-RECORDS.true)

pub returns : goal.returns
unfolding pushed
returns c = simp (le-ltb _ _ c.if-at-lt-RECORDS.false)
