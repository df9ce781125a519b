-- The way round, laid place by place.
--
--   Tracing E k s i x out   == the first i places are laid, the last of them is x
--   trace-first, trace-next == the start; and one place more, by the lowest step
--   trace-lowest            == the step that rows of what is reached give is the lowest that leads back in time
--   traced                  == all places are laid
use mathlib.Core.Path.{◌≡◌, ◌∙◌, subst}
use mathlib.Core.Logic.{◌≢◌, inl, inr}
use mathlib.Core.List.{List}
use mathlib.Core.Option.{some}
use Prim.Native.Nat.{ℕ, suc, ◌+◌, ◌-◌, ◌≤◌, ◌<◌}
use native.Mathlib.Omega.{arith}
use lib.ListN.{length, get_or, set, take}
use lib.Seq.{length-take-le, get_or-set_same, get_or-set_other, get_or-take}
use Rattle.laws.specs.Relation.{Rel}
use Rattle.laws.specs.Lowest.{Lowest}
use Rattle.laws.proofs.Tests.{eq?}
use Rattle.trace.specs.Bounds.{RECORDS}
use Rattle.rows.specs.Rows.{Edges}
use Rattle.rows.proofs.Rows.{bit-bounds}
use Rattle.rules.specs.inner.ExactWalks.{Walk, Traced}
use Rattle.circle.specs.inner.LeastWalk.{LowestBelow}
use Rattle.circle.specs.inner.BackSteps.{Reach}
use Rattle.circle.proofs.Lowest.{lowest-some}

-- y is the lowest step from x after which j steps lead to s
abbrev Low : Rel → ℕ → ℕ → ℕ → ℕ → Type 0
Low E s x j y = Lowest (λ y. E x y × Walk E j y s) (some y)

pub record Tracing (E : Rel) (k s i x : ℕ) (out : List ℕ) : Type 0 where
  pub begins : get_or out 0 0 ≡ s
  pub last : (p : ℕ) → suc p ≡ i → get_or out p 0 ≡ x
  pub left : (j : ℕ) → i + j ≡ k → Walk E (suc j) x s
  pub steps : (p j : ℕ) → suc p < i → suc p + suc j ≡ k → Low E s (get_or out p 0) (suc j) (get_or out (suc p) 0)

module _ (E : Rel) (k s : ℕ) where
  pub trace-first : (out : List ℕ) → 0 < length out → Walk E k s s → Tracing E k s 1 s (set out 0 s)
  trace-first out l w = record {
    begins = start;
    last = λ p e. let z : p ≡ 0 = omega arith in rw z start;
    left = λ j e. let z : k ≡ suc j = omega arith in subst (λ (k : ℕ). Walk E k s s) z w;
    steps = λ p j h. absurd (omega arith);
  }
    where
      start : get_or (set out 0 s) 0 0 ≡ s
      start = get_or-set_same out 0 s 0 l

  module _ (i x : ℕ) (out : List ℕ) (t : Tracing E k s i x out) where
    pub trace-next : (y : ℕ) → 0 < i → i < k → i < length out → Low E s x (k - i) y → Tracing E k s (i + 1) y (set out i y)
    trace-next y p l h low = record {
      begins = other 0 (omega arith) ∙ t.begins;
      last = λ q e. let z : q ≡ i = omega arith in rw z same;
      left = λ j e. let z : k - i ≡ suc j = omega arith in subst (λ (j : ℕ). Walk E j y s) z low.0.1;
      steps = steps;
    }
      where
        same : get_or (set out i y) i 0 ≡ y
        same = get_or-set_same out i y 0 h

        other : (q : ℕ) → q ≢ i → get_or (set out i y) q 0 ≡ get_or out q 0
        other q d = get_or-set_other out i q y 0 d

        steps : (q j : ℕ) → suc q < i + 1 → suc q + suc j ≡ k → Low E s (get_or (set out i y) q 0) (suc j) (get_or (set out i y) (suc q) 0)
        steps q j b e = elim (eq? (suc q) i) [
          | inl z ↦ let n : k - i ≡ suc j = omega arith in rw (other q (omega arith), t.last q z, z, same) (subst (λ (j : ℕ). Low E s x j y) n low)
          | inr d ↦ rw (other q (omega arith), other (suc q) d) (t.steps q j (omega arith) e)
        ]

    pub traced : i ≡ k → 0 < k → k ≤ length out → Traced E k s (take k out)
    traced e p l = record {
      long = length-take-le k out l;
      begins = get_or-take k out 0 0 p ∙ t.begins;
      steps = λ q j z. rw (get_or-take k out q 0 (omega arith), get_or-take k out (suc q) 0 (omega arith)) (t.steps q j (omega arith) z);
    }

pub trace-lowest : (edges rows : List ℕ) (k s i x : ℕ) (out : List ℕ) (y : ℕ) → Tracing (Edges edges) k s i x out → Reach (Edges edges) s k rows → 0 < i → i < k
    → LowestBelow RECORDS (λ y. Edges edges x y × Edges rows (k - i) y) y → (y < RECORDS) × Low (Edges edges) s x (k - i) y
trace-lowest edges rows k s i x out y t r p l low =
    let (m, e, w) = t.left (k - i) (omega arith) in
    let (b, (f, g)) = lowest-some RECORDS _ (λ y a. (bit-bounds edges x y a.0).1) y m low (e, (r (k - i) m).1 (omega arith, w)) in
    (b, ((f.0, ((r (k - i) y).0 f.1).1), λ z a. g z (a.0, (r (k - i) z).1 (omega arith, a.1))))
