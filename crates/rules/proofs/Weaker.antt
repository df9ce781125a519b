-- Fewer kept pairs, more valid orders.
--
--   weaker       == an order that is valid under a table is valid under any that lies in it
use mathlib.Core.List.{List}
use Prim.Native.Nat.{ℕ}
use Rattle.laws.specs.Relation.{Table, ◌⊆◌}
use Rattle.laws.specs.inner.Sorted.{On}
use Rattle.rules.specs.Frame.{Frame}
use Rattle.rules.specs.Order.{Valid}

pub weaker : (f : Frame) (K K' : Table) → On K' ⊆ On K → (xs : List ℕ) → Valid f K xs → Valid f K' xs
weaker f K K' less xs v = record { all = v.all; kept = λ x y k. v.kept x y (less x y k); value = v.value }
