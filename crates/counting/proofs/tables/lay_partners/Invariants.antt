use mathlib.Core.Path.{◌≡◌}
use Prim.Native.Nat.{◌≤◌}
use Rattle.pairs.specs.Kept.{fenced, kept_of}
use Rattle.edges.specs.inner.PairSets.{Only, Union}
use Rattle.rows.specs.inner.AddedPairs.{Added}
use Rattle.counting.proofs.tables.lay_partners.Given as goal

abbrev pub invariant-loop-y : goal.invariant-loop-y
invariant-loop-y l = (l.y ≤ l.n) × (l.passed ≡ fenced l.t l.x l.y) × Added l.initial.partners (Union l.y (λ z. Only (kept_of l.model l.t l.x z) z l.x)) l.partners
