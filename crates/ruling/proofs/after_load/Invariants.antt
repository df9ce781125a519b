use mathlib.Core.Path.{◌≡◌}
use mathlib.Core.Bool.{false}
use Rattle.laws.specs.Tests.{any}
use Rattle.trace.specs.Meaning.{frame_of}
use Rattle.rows.specs.Rows.{bit}
use Rattle.ruling.specs.inner.RuleParts.{after_load}
use Rattle.ruling.proofs.after_load.Given as goal

abbrev pub invariant-loop-from : goal.invariant-loop-from
invariant-loop-from l = any l.from (after_load (frame_of l.t) (bit l.chains) l.x l.y) ≡ false
