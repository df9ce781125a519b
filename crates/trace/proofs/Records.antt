-- What the frame of a trace says of a record, as equations that a function's tests can be compared with.
--
--   operation-at, reads_at == a record is an operation where it is no fence; it reads where its kind does
use mathlib.Core.Path.{◌≡◌, ap}
use mathlib.Core.Bool.{not, ◌&&◌}
use Prim.Native.Nat.{ℕ, ◌<◌}
use borrow.Author.Tests.{lt-ltb}
use Rattle.trace.specs.Op.{fence, reads}
use Rattle.trace.specs.Trace.{at}
use Rattle.trace.specs.Meaning.{frame_of}
use Rattle.trace.specs.declared.Trace.{Trace}

module _ (t : Trace) (x : ℕ) (h : x < t.len) where
  pub operation-at : (frame_of t).operation x ≡ not (fence (at t x))
  unfolding frame_of
  operation-at = ap (λ b. b && not (fence (at t x))) (lt-ltb x t.len h)

  pub reads_at : (frame_of t).reads x ≡ reads (at t x)
  unfolding frame_of
  reads_at = ap (λ b. b && reads (at t x)) (lt-ltb x t.len h)
