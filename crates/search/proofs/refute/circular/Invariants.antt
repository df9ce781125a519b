use mathlib.Core.Path.{◌≡◌}
use lib.ListN.{length}
use Rattle.rows.specs.Bounds.{WORDS}
use Rattle.search.specs.inner.Refutation.{Ranking, Grown}
use Rattle.search.proofs.refute.circular.Given as goal

abbrev pub invariant-loop-round : goal.invariant-loop-round
invariant-loop-round l = Grown (Ranking (length l.sources) l.writers l.sources l.placed) l.initial.led l.led × (length l.changed ≡ WORDS)
