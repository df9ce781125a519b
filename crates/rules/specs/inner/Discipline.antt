-- Lists built by placing what is ready, and what may guide a search for them.
--
--   Disciplined f H p == p was built by placing ready operations
--   SourcePlaced f p L == L's source is placed
--   Guide f K H       == H may guide the search: it leads to operations, has the edges of rules 1 to 5, and every valid order keeps it
use Rattle.std.proofs.Math.Bool.{So}
use Rattle.std.specs.Prelude.{List, [], ℕ, ◌<◌}
use Rattle.laws.specs.Places.{count, Before}
use Rattle.laws.specs.Relation.{Rel, Table, ◌⊆◌}
use Rattle.laws.specs.inner.Steps.{Steps}
use Rattle.rules.specs.Frame.{Frame, Source}
use Rattle.rules.specs.Order.{Valid}
use Rattle.rules.specs.Rules.{Edge, nothing}
use Rattle.rules.specs.Ready.{Ready}

abbrev pub Disciplined : Frame → Rel → List ℕ → Type 0
Disciplined f H p = Steps (Ready f H) [] p

abbrev pub SourcePlaced : Frame → List ℕ → ℕ → Type 0
SourcePlaced f p L = (S : ℕ) × Source f S L × (0 < count S p)

pub record Guide (f : Frame) (K : Table) (H : Rel) : Type 0 where
  pub ends : (x y : ℕ) → H x y → So (f.operation y)
  pub base : Edge f K nothing 0 ⊆ H
  pub sound : (xs : List ℕ) → Valid f K xs → H ⊆ Before xs
