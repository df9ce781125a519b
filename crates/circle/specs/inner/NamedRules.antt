-- The rules of a circle's edges, laid into a buffer.
--
--   RulesNamed f K C c n before laid == the first n places have the lowest rules of the first n edges of c; the others are as before
use Rattle.std.specs.Prelude.{◌≡◌, List, ℕ, ◌≤◌, ◌<◌, length, get_or}
use Rattle.laws.specs.Relation.{Table}
use Rattle.rules.specs.Frame.{Frame}
use Rattle.rules.specs.Rules.{nothing}
use Rattle.rules.specs.Circle.{after}
use Rattle.rules.specs.ShownCircle.{rule?}

pub record RulesNamed (f : Frame) (K C : Table) (c : List ℕ) (n : ℕ) (before laid : List ℕ) : Type 0 where
  pub long : length laid ≡ length before
  pub each : (i : ℕ) → i < n → get_or laid i 0 ≡ rule? f K nothing C (get_or c i 0) (after c i)
  pub rest : (i : ℕ) → n ≤ i → get_or laid i 0 ≡ get_or before i 0
