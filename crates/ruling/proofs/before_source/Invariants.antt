use mathlib.Core.Path.{◌≡◌}
use mathlib.Core.Bool.{false}
use Rattle.laws.specs.Tests.{any}
use Rattle.trace.specs.Meaning.{frame_of}
use Rattle.rows.specs.Rows.{bit}
use Rattle.ruling.specs.inner.RuleParts.{before_source}
use Rattle.ruling.proofs.before_source.Given as goal

abbrev pub invariant-loop-load : goal.invariant-loop-load
invariant-loop-load l = any l.load (before_source (frame_of l.t) l.chained (bit l.chains) l.x l.y) ≡ false
