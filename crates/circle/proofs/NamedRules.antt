-- Rules laid place by place.
--
--   named_none, named_more == before the first place, and one place more
--   after_next, after_last == what follows a place of a circle that a buffer begins with
use mathlib.Core.Path.{◌≡◌, refl, ◌∙◌}
use mathlib.Core.List.{List, [], ◌∷◌}
use Prim.Native.Nat.{ℕ, zero, suc, ◌+◌, ◌≤◌, ◌<◌}
use native.Mathlib.Numerals.{add-one}
use native.Mathlib.Nat.{not-suc-le-zero}
use native.Mathlib.Omega.{arith}
use borrow.Author.Count.{below_more}
use lib.ListN.{length, get_or, set, take, length-set, get_or-eq_default}
use lib.Seq.{length-take-le, get_or-take, get_or-set_same, get_or-set_other}
use Rattle.laws.specs.Relation.{Table}
use Rattle.rules.specs.Frame.{Frame}
use Rattle.rules.specs.Rules.{nothing}
use Rattle.rules.specs.Circle.{after}
use Rattle.rules.specs.ShownCircle.{rule?}
use Rattle.circle.specs.inner.NamedRules.{RulesNamed}

module _ (f : Frame) (K C : Table) (c before : List ℕ) where
  pub named_none : RulesNamed f K C c 0 before before
  named_none = record { long = refl; each = λ i h. absurd (omega arith); rest = λ i _. refl }

  pub named_more : (i r : ℕ) (now : List ℕ) → i < length now → r ≡ rule? f K nothing C (get_or c i 0) (after c i) → RulesNamed f K C c i before now → RulesNamed f K C c (i + 1) before (set now i r)
  named_more i r now l e n = record {
    long = length-set now i r ∙ n.long;
    each = below_more _ i (λ k h. get_or-set_other now i k r 0 (omega arith) ∙ n.each k h) (get_or-set_same now i r 0 l ∙ e);
    rest = λ k h. get_or-set_other now i k r 0 (omega arith) ∙ n.rest k (omega arith);
  }

-- within a list the default does not matter
within : (l : List ℕ) (i d e : ℕ) → i < length l → get_or l i d ≡ get_or l i e
within [] i d e h = absurd (not-suc-le-zero h)
within (x ∷ xs) zero d e h = refl
within (x ∷ xs) (suc i) d e h = within xs i d e (omega arith)

module _ (out : List ℕ) (len i : ℕ) (l : len ≤ length out) where
  pub after_next : i + 1 < len → after (take len out) i ≡ get_or out (i + 1) 0
  after_next h = rw add-one
      (get_or-take len out (suc i) (get_or (take len out) 0 0) (omega arith) ∙ within out (suc i) (get_or (take len out) 0 0) 0 (omega arith))

  pub after_last : i < len → len ≤ i + 1 → after (take len out) i ≡ get_or out 0 0
  after_last h m = get_or-eq_default (take len out) (get_or (take len out) 0 0) {n = suc i} (omega (arith, length-take-le len out l)) ∙ get_or-take len out 0 0 (omega arith)
