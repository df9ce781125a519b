use mathlib.Core.Path.{◌≡◌}
use Prim.Native.Nat.{◌≤◌}
use lib.ListN.{length, drop}
use Rattle.machine.specs.Replay.{placing, none_built}
use Rattle.machine.proofs.replaying.built.Given as goal

abbrev pub invariant-loop-i : goal.invariant-loop-i
invariant-loop-i l = (l.i ≤ length l.order) × (placing l.t l.model none_built l.order ≡ placing l.t l.model l.b (drop l.i l.order))
