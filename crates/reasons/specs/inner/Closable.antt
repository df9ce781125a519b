-- When the writer comes to the end of every branch.
--
--   Closable f K m E == the branch E closes: it is fair and has a circle; or it has none, there is a pair to split on and room for it, and each side closes.
--                       There are at most m splits in a row
use Rattle.std.specs.Prelude.{◌≡◌, false, List, ℕ, suc}
use Rattle.std.proofs.Math.Bool.{So}
use Rattle.std.proofs.Math.Option.{some}
use Rattle.laws.specs.Relation.{Table}
use Rattle.rules.specs.Frame.{Frame}
use Rattle.papers.specs.Paper.{Claim, named, branch_room}
use Rattle.reasons.specs.inner.Fair.{Fair}
use Rattle.reasons.specs.Writing.{fallen, choose}

pub data Closable (f : Frame) (K : Table) : ℕ → List Claim → Type 0 where
  closes : {m : ℕ} {E : List Claim} → Fair f.records E → So (fallen f K E) → Closable f K m E
  parts : {m : ℕ} {E : List Claim} → (x y : ℕ) → So (branch_room E) → fallen f K E ≡ false → choose f K E ≡ some (x, y) → Closable f K m (named E x y) → Closable f K m (named E y x)
      → Closable f K (suc m) E
