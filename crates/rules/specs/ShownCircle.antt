-- The circle that is shown for a trace, with its rules. No pairs are supposed.
--
--   LowestRule f K P k x y r == r is the lowest rule that gives the edge x, y by round k
--   Ruled f K P k c rs       == rs has the lowest rule of each edge of the circle c, in its order
--   ShownCircle f K k c rs   == round k is the first that has a circle, c is the one shown, and rs are its rules
--   Circled f K a            == a is the circle shown and its rules, or nothing where no round has a circle
--   rule? f K P C x y        == the lowest rule that gives the edge x, y, where C are the chains of the round before; 0 where none does
use Rattle.std.specs.Prelude.{◌≡◌, List, ℕ, ◌<◌, length, get_or}
use Rattle.std.proofs.Math.Option.{Option, none, some}
use Rattle.laws.specs.Relation.{Table}
use Rattle.laws.specs.Lowest.{Lowest, lowest}
use Rattle.rules.specs.Frame.{Frame}
use Rattle.rules.specs.Rules.{Gives, Chains, Edge, nothing}
use Rattle.rules.specs.RuleTests.{gives?}
use Rattle.rules.specs.Circle.{Shown, after}

-- chains only grow, so what a rule gave in an earlier round it gives in round k
abbrev pub LowestRule : Frame → Table → Table → ℕ → ℕ → ℕ → ℕ → Type 0
LowestRule f K P k x y r = Lowest (Gives f K P (Chains f K P k) x y) (some r)

pub record Ruled (f : Frame) (K P : Table) (k : ℕ) (c rs : List ℕ) : Type 0 where
  pub long : length rs ≡ length c
  pub lowest : (i : ℕ) → i < length c → LowestRule f K P k (get_or c i 0) (after c i) (get_or rs i 0)

pub record ShownCircle (f : Frame) (K : Table) (k : ℕ) (c rs : List ℕ) : Type 0 where
  pub earlier : (j : ℕ) → j < k → Shown (Edge f K nothing j) none
  pub shown : Shown (Edge f K nothing k) (some c)
  pub rules : Ruled f K nothing k c rs

abbrev pub Circled : Frame → Table → Option (List ℕ × List ℕ) → Type 0
Circled f K (some c) = (k : ℕ) × ShownCircle f K k c.0 c.1
Circled f K none = (k : ℕ) → Shown (Edge f K nothing k) none

unfoldable pub rule? : Frame → Table → Table → Table → ℕ → ℕ → ℕ
rule? f K P C x y = elim (lowest (gives? f K P C x y) 9 0) [ some r ↦ r | none ↦ 0 ]
