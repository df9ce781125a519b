-- What the frame of a trace says of a record.
--
--   operation-iff, reads-iff, writes-iff == it is used, and is no fence; reads; writes
--   reads-operation, writes-operation    == what reads or writes is no fence
use mathlib.Core.Path.{refl}
use mathlib.Core.Logic.{◌↔◌}
use mathlib.Core.Bool.{So, not, false≢true}
use Prim.Native.Nat.{ℕ, ◌<◌}
use Rattle.laws.proofs.Tests.{and-iff, same-iff, so-lt}
use Rattle.trace.specs.Op.{reads, writes, fence}
use Rattle.trace.specs.Trace.{at}
use Rattle.trace.specs.Meaning.{frame_of}
use Rattle.trace.specs.declared.Op.{Op}
use Rattle.trace.specs.declared.Op.TheVariants.{Load, Store, Swap, Fence}
use Rattle.trace.specs.declared.Trace.{Trace}

module _ (t : Trace) (x : ℕ) where
  pub operation-iff : So ((frame_of t).operation x) ↔ ((x < t.len) × So (not (fence (at t x))))
  unfolding frame_of
  operation-iff = and-iff so-lt same-iff

  pub reads-iff : So ((frame_of t).reads x) ↔ ((x < t.len) × So (reads (at t x)))
  unfolding frame_of
  reads-iff = and-iff so-lt same-iff

  pub writes-iff : So ((frame_of t).writes x) ↔ ((x < t.len) × So (writes (at t x)))
  unfolding frame_of
  writes-iff = and-iff so-lt same-iff

pub reads-operation : (o : Op) → So (reads o) → So (not (fence o))
reads-operation (Load t a r) s = refl
reads-operation (Store t a w) s = refl
reads-operation (Swap t a r w) s = refl
reads-operation (Fence t) s = absurd (false≢true s)

pub writes-operation : (o : Op) → So (writes o) → So (not (fence o))
writes-operation (Load t a r) s = refl
writes-operation (Store t a w) s = refl
writes-operation (Swap t a r w) s = refl
writes-operation (Fence t) s = absurd (false≢true s)
