use Rattle.judge.specs.inner.Positions.{SitedFrom}
use Rattle.judge.proofs.judging.site.Given as goal

abbrev pub invariant-loop-i : goal.invariant-loop-i
invariant-loop-i l = SitedFrom l.list l.i l.sites
