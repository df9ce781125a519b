-- From where an operation is reached, row by row.
--
--   BackTurn E R j x        == what the turn of x adds to row j + 1: x, where it has an edge to something that row j has
--   back-all                == all turns together
--   back-row                == row j is not changed by what it gives
--   reach-first, reach-next == in no step; and in one step more
use mathlib.Core.Path.{◌≡◌, refl, sym, subst}
use mathlib.Core.Logic.{inl, inr, ◌↔◌}
use mathlib.Core.Bool.{So}
use mathlib.Core.List.{List}
use Prim.Native.Nat.{ℕ, zero, suc, ◌+◌, ◌<◌}
use native.Mathlib.Numerals.{add-one}
use native.Mathlib.Omega.{arith}
use Rattle.laws.specs.Relation.{Rel}
use Rattle.laws.proofs.Tests.{eq?}
use Rattle.trace.specs.Bounds.{RECORDS}
use Rattle.rows.specs.Rows.{bit, Edges}
use Rattle.rows.proofs.Rows.{bit-bounds}
use Rattle.rules.specs.inner.ExactWalks.{Walk}
use Rattle.circle.specs.inner.WalkRows.{Exactly, Widened}
use Rattle.circle.specs.inner.BackSteps.{StepBack, Reach}
use Rattle.circle.proofs.WalkRows.{Some}

abbrev pub BackTurn : Rel → Rel → ℕ → ℕ → Rel
BackTurn E R j x i y = ((i ≡ j + 1) × (y ≡ x)) × ((m : ℕ) × E x m × R j m)

pub back-all : (E : List ℕ) (R : Rel) (j i y : ℕ) → Some RECORDS (BackTurn (Edges E) R j) i y ↔ StepBack (Edges E) R j i y
back-all E R j i y = (
  λ s. (s.2.0.0, subst (λ (x : ℕ). (m : ℕ) × Edges E x m × R j m) (sym s.2.0.1) s.2.1),
  λ b. (y, (bit-bounds E y b.1.0 b.1.1).0, ((b.0, refl), b.1)),
)

pub back-row : (E : Rel) (R now : List ℕ) (j n m : ℕ) → Widened R (Some n (BackTurn E (Edges R) j)) now → So (bit now j m) ↔ Edges R j m
back-row E R now j n m a = (λ t. elim ((a.pairs j m).0 t) [ inl e ↦ e | inr b ↦ absurd (omega (arith, b.2.0.0)) ], λ e. (a.pairs j m).1 (inl e))

module _ (E : Rel) (s : ℕ) where
  pub reach-first : (rows : List ℕ) → Exactly rows (λ i x. (i ≡ 0) × (x ≡ s)) → Reach E s (0 + 1) rows
  reach-first rows q j x = (λ t. forth j ((q j x).0 t), λ r. (q j x).1 (back j r))
    where
      forth : (j : ℕ) → (j ≡ 0) × (x ≡ s) → (j < 0 + 1) × Walk E j x s
      forth zero r = (omega arith, r.1)
      forth (suc j) r = absurd (omega (arith, r.0))

      back : (j : ℕ) → (j < 0 + 1) × Walk E j x s → (j ≡ 0) × (x ≡ s)
      back zero r = (refl, r.1)
      back (suc j) r = absurd (omega (arith, r.0))

  pub reach-next : (j : ℕ) (rows next : List ℕ) → Reach E s (j + 1) rows → Widened rows (StepBack E (Edges rows) j) next → Reach E s (j + 1 + 1) next
  reach-next j rows next r a i x = (forth, back)
    where
      -- what one step before reaches s
      step : (i : ℕ) → i ≡ j + 1 → ((m : ℕ) × E x m × Edges rows j m) ↔ Walk E i x s
      step i e = rw (e, add-one) (
        λ h. (h.0, h.1, ((r j h.0).0 h.2).1),
        λ w. (w.0, w.1, (r j w.0).1 (omega arith, w.2)),
      )

      forth : So (bit next i x) → (i < j + 1 + 1) × Walk E i x s
      forth t = elim ((a.pairs i x).0 t) [
        | inl e ↦ let h = (r i x).0 e in (omega (arith, h.0), h.1)
        | inr (e, h) ↦ (omega (arith, e), (step i e).0 h)
      ]

      back : (i < j + 1 + 1) × Walk E i x s → So (bit next i x)
      back (l, w) = (a.pairs i x).1 (elim (eq? i (j + 1)) [ inl e ↦ inr (e, (step i e).1 w) | inr d ↦ inl ((r i x).1 (omega arith, w)) ])
