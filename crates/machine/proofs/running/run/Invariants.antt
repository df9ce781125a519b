use mathlib.Core.Path.{◌≡◌}
use mathlib.Core.Bool.{So}
use Prim.Native.Nat.{◌≤◌}
use lib.ListN.{length, drop}
use Rattle.trace.specs.WellFormed.{well_formed}
use Rattle.machine.specs.Machine.{machined, machine_start, run}
use Rattle.machine.proofs.running.run.Given as goal

abbrev pub invariant-loop-i : goal.invariant-loop-i
invariant-loop-i l = ((So (machined l.model) × So (well_formed l.t)) × (l.i ≤ length l.steps)) × (run l.t l.model (machine_start l.t) l.steps 0 ≡ run l.t l.model l.m (drop l.i l.steps) l.i)
