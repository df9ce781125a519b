-- When the loop at a prefix may stop: some operations that were ready there have failed, and any valid order could have gone on with one of them.
--
--   Harmless f p c s == c may overtake s after p: where a writer in s would come between c and a reader of c, that reader is placed
--   Stop f H p F     == the operations F are enough to try at p, by one of them
--   Failed f K H p F == F were ready after p, and no valid order goes on with one of them
use Rattle.std.specs.Prelude.{◌≡◌, ◌⊎◌, List, [], ◌∷◌, ◌++◌, ℕ, ◌<◌}
use Rattle.std.proofs.Math.Bool.{So}
use Rattle.std.proofs.Math.Option.{none}
use Rattle.laws.specs.Places.{count}
use Rattle.laws.specs.Relation.{Rel, Table}
use Rattle.laws.specs.Dict.{Answer}
use Rattle.rules.specs.Frame.{Frame, Writer, Source}
use Rattle.rules.specs.Order.{Valid}
use Rattle.rules.specs.Ready.{Ready}

abbrev pub Harmless : Frame → List ℕ → ℕ → List ℕ → Type 0
Harmless f p c s = (L x : ℕ) → Source f c L → Writer f x L → 0 < count x s → 0 < count L p

pub data Stop (f : Frame) (H : Rel) (p : List ℕ) (F : ℕ → Type 0) : Type 0 where
  -- everybody who reads from it is placed
  unread : (y : ℕ) → F y → ((L : ℕ) → Source f y L → 0 < count L p) → Stop f H p F
  -- each unplaced writer of its address is in F, or has another unplaced one before it
  covered : (y : ℕ) → F y → So (f.writes y)
      → ((z : ℕ) → So (f.writes z) → f.address z ≡ f.address y → count z p ≡ 0 → F z ⊎ ((w : ℕ) × Writer f w z × (count w p ≡ 0) × H w z)) → Stop f H p F

pub record Failed (f : Frame) (K : Table) (H : Rel) (p : List ℕ) (F : ℕ → Type 0) : Type 0 where
  pub were : (z : ℕ) → F z → Ready f H p z
  pub failed : (z : ℕ) → F z → Answer (Valid f K) (p ++ (z ∷ [])) none
