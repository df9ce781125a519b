-- The cores of a trace under a model.
--
--   cores_of m t == records by thread, and the operations that reach memory as they run
use mathlib.Core.Bool.{◌&&◌}
use Prim.Native.Nat.{ℕ}
use lib.Dec.{ltb}
use Rattle.trace.specs.Bounds.{THREADS}
use Rattle.trace.specs.Op.{thread}
use Rattle.trace.specs.Trace.{at}
use Rattle.trace.specs.Meaning.{frame_of}
use Rattle.trace.specs.declared.Trace.{Trace}
use Rattle.machine.specs.Machine.{lands}
use Rattle.machine.proofs.History.{Cores}

abbrev pub cores_of : ℕ → Trace → Cores
cores_of m t = record { frame = frame_of t; threads = THREADS; thread = λ x. thread (at t x); lands = λ x. ltb x t.len && lands m (at t x) }
