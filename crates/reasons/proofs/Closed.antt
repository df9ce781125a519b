-- What the closing of a branch's pairs tells of the branch.
--
--   numbered      == an operation's number is that of a record
--   supposed-more == rows with one pair more suppose what a branch with one edge more names
--   closed_branch == whether the branch falls, and what is held in it
use mathlib.Core.Path.{◌≡◌, sym, subst, subst⁻¹, fun_ext}
use mathlib.Core.Logic.{inl, inr}
use mathlib.Core.Bool.{So}
use mathlib.Core.List.{List, [], ◌∷◌}
use Prim.Native.Nat.{ℕ, ◌<◌}
use native.Mathlib.Omega.{arith}
use lib.ListN.{length}
use Rattle.laws.specs.Relation.{Table}
use Rattle.laws.proofs.Tests.{and-iff, same-iff, test-one}
use Rattle.trace.specs.Bounds.{RECORDS}
use Rattle.trace.specs.WellFormed.{well_formed}
use Rattle.trace.specs.Meaning.{frame_of}
use Rattle.trace.specs.declared.Trace.{Trace}
use Rattle.trace.proofs.WellFormed.{form-iff}
use Rattle.trace.proofs.Good.{good}
use Rattle.trace.proofs.Meaning.{operation-iff}
use Rattle.rows.specs.Bounds.{CELLS}
use Rattle.rows.specs.Rows.{bit}
use Rattle.rows.specs.Put.{put_of}
use Rattle.rows.proofs.Pair.{put-iff}
use Rattle.pairs.specs.Kept.{modelled, kept_of}
use Rattle.pairs.proofs.KeptPairs.{kept-joins}
use Rattle.rules.specs.Rules.{Joins}
use Rattle.rules.specs.Closing.{Closing}
use Rattle.rules.proofs.Closing.{closing-one}
use Rattle.edges.specs.Supposed.{supposed_of}
use Rattle.edges.specs.ForcedPairs.{answered, Forces}
use Rattle.edges.specs.declared.Forced.{Forced}
use Rattle.edges.proofs.Supposed.{supposed-iff, supposed-joins}
use Rattle.papers.specs.Paper.{Claim, named}
use Rattle.reasons.specs.Telling.{inside}
use Rattle.reasons.specs.Writing.{fallen}
use Rattle.reasons.specs.inner.Choice.{SupposedIn, HeldRows}
use Rattle.reasons.proofs.Names.{inside-iff, named-grow, named-last, named-cases}
use Rattle.reasons.proofs.Writing.{branch-closing}

module _ (t : Trace) (w : So (well_formed t)) where
  pub numbered : (x : ℕ) → So ((frame_of t).operation x) → x < RECORDS
  numbered x s = omega (arith, ((operation-iff t x).0 s).0, ((form-iff t).0 w).fits)

  module _ (rows : List ℕ) (E : List Claim) (s : SupposedIn t rows E) where
    pub branch-joins : Joins (frame_of t) (inside E)
    branch-joins = subst (λ (P : Table). Joins (frame_of t) P) s (supposed-joins t rows)

    pub supposed-more : (x y : ℕ) → length rows ≡ CELLS → So ((frame_of t).operation x) → So ((frame_of t).operation y) → SupposedIn t (put_of rows x y) (named E x y)
    supposed-more x y l p q = fun_ext (λ a. fun_ext (λ b. same a b))
      where
        same : (a b : ℕ) → supposed_of t (put_of rows x y) a b ≡ inside (named E x y) a b
        same a b =
            let put = put-iff rows x y (numbered x p) (numbered y q) (omega (arith, l)) a b in
            let i = supposed-iff t (put_of rows x y) a b in
            let j = supposed-iff t rows a b in
            let k = inside-iff (named E x y) a b in
            test-one {A = So (inside (named E x y) a b)} (
              λ u. elim (put.0 (i.0 u).1) [
                | inl v ↦ k.1 (named-grow E (record { from = x; to = y } ∷ []) a b ((inside-iff E a b).0 (subst (λ (P : Table). So (P a b)) s (j.1 ((i.0 u).0, v)))))
                | inr e ↦ rw (e.0, e.1) ((inside-iff (named E x y) x y).1 (named-last E x y))
              ],
              λ u. elim (named-cases E x y a b (k.0 u)) [
                | inl n ↦ let v = j.0 (subst⁻¹ (λ (P : Table). So (P a b)) s ((inside-iff E a b).1 n)) in i.1 (v.0, put.1 (inl v.1))
                | inr e ↦ i.1 ((subst (λ (a : ℕ). So ((frame_of t).operation a)) e.0 p, subst (λ (b : ℕ). So ((frame_of t).operation b)) e.1 q), put.1 (inr (sym e.0, sym e.1)))
              ],
            ) same-iff

    pub closed_branch : (m : ℕ) → So (modelled m) → (r : Forced) → Forces t m rows r → (r.contradicted ≡ fallen (frame_of t) (kept_of m t) E) × HeldRows (frame_of t) (kept_of m t) E r.held
    closed_branch m k r h =
        let a : So (answered m t) = (and-iff (same-iff {a = well_formed t}) (same-iff {a = modelled m})).1 (w, k) in
        let c = subst (λ (P : Table). Closing (frame_of t) (kept_of m t) P r.contradicted (bit r.held)) s (h.closing a) in
        closing-one (frame_of t) (kept_of m t) (inside E) _ _ _ _ c (branch-closing (frame_of t) (good t w) (kept_of m t) (kept-joins m t) E branch-joins)
