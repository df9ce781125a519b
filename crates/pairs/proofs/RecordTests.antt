-- The tests by records are those of the frame.
--
--   earlier-by, writer-by == of two records of a trace
use mathlib.Core.Path.{◌≡◌, refl}
use Prim.Native.Nat.{ℕ}
use Rattle.trace.specs.Trace.{at}
use Rattle.trace.specs.Meaning.{frame_of}
use Rattle.trace.specs.declared.Trace.{Trace}
use Rattle.rules.specs.RuleTests.{writer?}
use Rattle.pairs.specs.RecordTests.{earlier_by, writer_by}

module _ (t : Trace) (x y : ℕ) where
  pub earlier-by : earlier_by (at t x) x (at t y) y ≡ (frame_of t).earlier x y
  unfolding earlier_by frame_of
  earlier-by = refl

  pub writer-by : writer_by t.len (at t x) x (at t y) y ≡ writer? (frame_of t) x y
  unfolding writer_by writer? frame_of
  writer-by = refl
