use mathlib.Core.Path.{◌≡◌}
use lib.ListN.{drop}
use Rattle.papers.specs.Paper.{leads}
use Rattle.papers.specs.inner.ReaderBranch.{branch_of, between, link_of}
use Rattle.papers.proofs.reading.lead.Given as goal

abbrev pub invariant-loop-i : goal.invariant-loop-i
invariant-loop-i l = link_of (branch_of l.from l.to l.count) l.rests ≡ between l.start (leads (branch_of l.from l.to l.count) (drop l.i l.rests) l.x)
