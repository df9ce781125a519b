-- The lowest rule, rule by rule.
--
--   known-cond                            == one of two tests, by a third
--   lowest_from t k i                      == the lowest of i, i + 1, .., k of them, that passes t; 0 where none does
--   lowest-here, lowest-next, lowest-none == the first passes; it does not; none is left
--   rule-from                             == the lowest rule, looked for from 1 on
--   rule_told                             == of the kept pairs it asks for the one pair only
use mathlib.Core.Path.{◌≡◌, refl, ◌∙◌}
use mathlib.Core.Bool.{Bool, true, false, So, not, cond, ◌&&◌, ◌||◌}
use mathlib.Core.Option.{Option, none, some}
use Prim.Native.Nat.{ℕ, suc}
use Rattle.laws.specs.Lowest.{lowest}
use Rattle.laws.specs.Relation.{Table}
use Rattle.rules.specs.Frame.{Frame}
use Rattle.rules.specs.RuleTests.{rules, gives?}
use Rattle.rules.specs.ShownCircle.{rule?}

pub known-cond : (b p q : Bool) → ((b && p) || (not b && q)) ≡ cond b p q
known-cond true true q = refl
known-cond true false q = refl
known-cond false p q = refl

-- a number, or 0 for none
or-zero : Option ℕ → ℕ
or-zero o = elim o [ some r ↦ r | none ↦ 0 ]

pub lowest_from : (ℕ → Bool) → ℕ → ℕ → ℕ
lowest_from t k i = or-zero (lowest t k i)

module _ (t : ℕ → Bool) where
  pub lowest-none : (i : ℕ) → lowest_from t 0 i ≡ 0
  unfolding or-zero lowest_from lowest
  lowest-none i = refl

  module _ (k i : ℕ) where
    more : lowest_from t (suc k) i ≡ cond (t i) i (lowest_from t k (suc i))
    unfolding or-zero lowest_from lowest
    more = go (t i) (lowest t k (suc i))
      where
        go : (b : Bool) (o : Option ℕ) → or-zero (elim b [ true ↦ some i | false ↦ o ]) ≡ cond b i (or-zero o)
        go true o = refl
        go false o = refl

    pub lowest-here : So (t i) → lowest_from t (suc k) i ≡ i
    lowest-here e = more ∙ rw e refl

    pub lowest-next : t i ≡ false → lowest_from t (suc k) i ≡ lowest_from t k (suc i)
    lowest-next e = more ∙ rw e refl

-- no rule is numbered 0
pub rule-from : (f : Frame) (K P C : Table) (x y : ℕ) → rule? f K P C x y ≡ lowest_from (gives? f K P C x y) 8 1
unfolding rule? or-zero lowest_from lowest gives? rules
rule-from f K P C x y = refl

pub rule_told : (f : Frame) (K P C : Table) (x y : ℕ) (b : Bool) → b ≡ K x y → rule? f (λ i j. b) P C x y ≡ rule? f K P C x y
unfolding rule? lowest gives? rules
rule_told f K P C x y b e = rw e refl
