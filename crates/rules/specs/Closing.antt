-- What the closing of a trace under kept and supposed pairs answers.
--
--   Closing f K P bad t == bad says whether it is contradicted; t has what is held, and is empty while contradicted
use Rattle.std.specs.Prelude.{Bool, ◌↔◌, ℕ}
use Rattle.std.proofs.Math.Bool.{So}
use Rattle.laws.specs.Relation.{Table}
use Rattle.rules.specs.Frame.{Frame}
use Rattle.rules.specs.Rules.{Held, Contradicted}

pub record Closing (f : Frame) (K P : Table) (bad : Bool) (t : Table) : Type 0 where
  pub contradicted : So bad ↔ Contradicted f K P
  pub held : (x y : ℕ) → So (t x y) ↔ (Held f K P x y × (Contradicted f K P → ⊥))
