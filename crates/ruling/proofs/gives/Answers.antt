-- `gives`: the test of the rule that is asked for.
use mathlib.Core.Path.{◌≡◌, refl, sym}
use mathlib.Core.Logic.{◌≢◌}
use mathlib.Core.Bool.{false}
use Prim.Native.Nat.{ℕ, zero, suc}
use Rattle.laws.specs.Relation.{Table}
use Rattle.rules.specs.Frame.{Frame}
use Rattle.trace.specs.Meaning.{frame_of}
use Rattle.rows.specs.Rows.{bit}
use Rattle.pairs.specs.Kept.{kept_of}
use Rattle.rules.specs.Rules.{nothing}
use borrow.Author.Rules.{rules as facts}
use Rattle.rules.specs.RuleTests.{rules, gives?}
use Rattle.ruling.proofs.gives.Goals as goal

pub returns-in-1 : goal.returns-in-1
unfolding gives? rules frame_of
returns-in-1 c = rw c.in-1.is c.kept.ensures

pub returns-in-2 : goal.returns-in-2
unfolding gives? rules frame_of
returns-in-2 c = rw c.in-2.is (cc)

pub returns-in-3 : goal.returns-in-3
unfolding gives? rules frame_of
returns-in-3 c = rw c.in-3.is c.before_source.ensures

pub returns-in-4 : goal.returns-in-4
unfolding gives? rules frame_of
returns-in-4 c = rw c.in-4.is c.begins.ensures

pub returns-in-5 : goal.returns-in-5
unfolding gives? rules frame_of
returns-in-5 c = rw c.in-5.is (cc)

pub returns-in-6 : goal.returns-in-6
unfolding gives? rules frame_of
returns-in-6 c = rw c.in-6.is c.before_source-in-6.ensures

pub returns-in-7 : goal.returns-in-7
unfolding gives? rules frame_of
returns-in-7 c = rw c.in-7.is c.after_load.ensures

-- there are seven rules where nothing is supposed
module _ (f : Frame) (K C : Table) (x y : ℕ) where
  other : (r : ℕ) → r ≢ 1 → r ≢ 2 → r ≢ 3 → r ≢ 4 → r ≢ 5 → r ≢ 6 → r ≢ 7 → gives? f K nothing C x y r ≡ false
  unfolding gives? rules
  other zero n₁ n₂ n₃ n₄ n₅ n₆ n₇ = refl
  other (suc zero) n₁ n₂ n₃ n₄ n₅ n₆ n₇ = absurd (n₁ refl)
  other (suc (suc zero)) n₁ n₂ n₃ n₄ n₅ n₆ n₇ = absurd (n₂ refl)
  other (suc (suc (suc zero))) n₁ n₂ n₃ n₄ n₅ n₆ n₇ = absurd (n₃ refl)
  other (suc (suc (suc (suc zero)))) n₁ n₂ n₃ n₄ n₅ n₆ n₇ = absurd (n₄ refl)
  other (suc (suc (suc (suc (suc zero))))) n₁ n₂ n₃ n₄ n₅ n₆ n₇ = absurd (n₅ refl)
  other (suc (suc (suc (suc (suc (suc zero)))))) n₁ n₂ n₃ n₄ n₅ n₆ n₇ = absurd (n₆ refl)
  other (suc (suc (suc (suc (suc (suc (suc zero))))))) n₁ n₂ n₃ n₄ n₅ n₆ n₇ = absurd (n₇ refl)
  other (suc (suc (suc (suc (suc (suc (suc (suc zero)))))))) n₁ n₂ n₃ n₄ n₅ n₆ n₇ = refl
  other (suc (suc (suc (suc (suc (suc (suc (suc (suc r))))))))) n₁ n₂ n₃ n₄ n₅ n₆ n₇ = refl

pub returns-in_default : goal.returns-in_default
returns-in_default c =
    let a = c.args in
    sym (other (frame_of a.t) (kept_of a.model a.t) (bit a.chains.now) a.x a.y a.rule (search facts) (search facts) (search facts) (search facts) (search facts) (search facts) (search facts))
