use Prim.Native.Nat.{◌≤◌, ◌+◌, ◌-◌}
use Rattle.pairs.specs.Kept.{MODELS}
use Rattle.report.specs.Wrote.{WroteLines}
use Rattle.report.proofs.put_models.Given as goal

abbrev pub invariant-loop-model : goal.invariant-loop-model
invariant-loop-model l = (1 ≤ l.model) × (l.model ≤ MODELS + 1) × WroteLines l.t (l.model - 1) l.initial.out l.out l.at
