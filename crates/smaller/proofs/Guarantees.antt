-- What is owed of the trace that is left of a faulty one: each law speaks of any set that it may be cut down to.
--
--   left-order   == whichever record is removed, with what goes with it, a valid order exists
--   left-verdict == its verdict is a circle, or that none is left
--   cut-exactly  == a trace is cut down exactly where its verdict is a circle or that none is left
use mathlib.Core.Path.{◌≡◌, sym, ap, subst}
use mathlib.Core.Logic.{◌↔◌, ◌⊎◌, inl, inr}
use mathlib.Core.Bool.{So}
use mathlib.Core.List.{List}
use Prim.{Unit, tt}
use Prim.Native.Nat.{ℕ, ◌<◌}
use native.Mathlib.Omega.{arith}
use lib.ListN.{get_or}
use Rattle.rules.specs.Order.{Valid}
use Rattle.trace.specs.Meaning.{frame_of}
use Rattle.trace.specs.WellFormed.{well_formed}
use Rattle.trace.specs.declared.Trace.{Trace}
use Rattle.trace.proofs.Good.{good}
use Rattle.rules.specs.Missing.{Sourced}
use Rattle.pairs.specs.Kept.{modelled, kept_of}
use Rattle.pairs.proofs.KeptPairs.{kept-joins}
use Rattle.rules.specs.Verdict.{Verdict, no_source, circle, order, none_left, Says}
use Rattle.rules.proofs.ComputedVerdict.{verdict?}
use Rattle.rules.proofs.Says.{verdict-one, circle-none, missing-none}
use Rattle.rules.proofs.VerdictComputed.{verdict-says}
use Rattle.parts.specs.Removal.{Set, Goes}
use Rattle.parts.specs.CutDown.{Removed, Left}
use Rattle.parts.specs.Picked.{picked, olds}
use Rattle.parts.proofs.Picked.{picked_all, picked-missing}
use Rattle.parts.proofs.Looks.{left-closed, left-well, left-faulty, left-stuck}
use Rattle.smaller.specs.Smaller.{By, ToldSmaller}
use Rattle.smaller.specs.declared.Answer.{Answer}
use Rattle.smaller.specs.declared.Answer.TheVariants.{NoSource, NothingWrong, Cut}
use Rattle.smaller.specs.declared.Smaller.{Smaller}
use Rattle.smaller.specs.inner.RecordSets.{NoOrder}

-- the two verdicts that are cut down
abbrev pub Unordered : Verdict → Type 0
Unordered (no_source x) = ⊥
Unordered (circle c rs) = Unit {0}
Unordered (order xs) = ⊥
Unordered none_left = Unit {0}

module _ (t : Trace) (m : ℕ) where
  -- an order that is not ruled out is there
  ordered : (u : Trace) → So (well_formed u) → (NoOrder u m → ⊥) → (xs : List ℕ) × Valid (frame_of u) (kept_of m u) xs
  ordered u v n = go (verdict? (frame_of u) (kept_of m u)) (verdict-says (frame_of u) (good u v) (kept_of m u) (kept-joins m u))
    where
      go : (v : Verdict) → Says (frame_of u) (kept_of m u) v → (xs : List ℕ) × Valid (frame_of u) (kept_of m u) xs
      go (no_source x) s = absurd (n (missing-none (frame_of u) (kept_of m u) x s.0))
      go (circle c rs) s = absurd (n (circle-none (frame_of u) (kept_of m u) (good u v) (c, rs) s.1))
      go (order xs) s = (xs, s.2.0)
      go none_left s = absurd (n s.2)

  module _ (w : So (well_formed t)) (A : Set) (left : Left t m A) where
    pub left-order : (i : ℕ) → i < t.len → So (A i) → (B : Set) → Removed (Goes (frame_of t)) A i B
        → (xs : List ℕ) × Valid (frame_of (picked t B)) (kept_of m (picked t B)) xs
    left-order i h a B r = ordered (picked t B) (left-well t m w B) (left-stuck t m A left i h a B r)

    pub left-verdict : Sourced (frame_of t) → NoOrder t m → (v : Verdict) → Says (frame_of (picked t A)) (kept_of m (picked t A)) v → Unordered v
    left-verdict sourced n (no_source x) s = absurd (sourced (get_or (olds t A) x 0) (picked-missing t w A (left-closed t m A left) x s.0))
    left-verdict sourced n (circle c rs) s = tt
    left-verdict sourced n (order xs) s = absurd (left-faulty t m A left (subst (λ (u : Trace). NoOrder u m) (sym (picked_all t w)) n) xs s.2.0)
    left-verdict sourced n none_left s = tt

  pub cut-exactly : So (modelled m) → So (well_formed t) → (r : Smaller) → ToldSmaller t m r → (v : Verdict) → Says (frame_of t) (kept_of m t) v → (r.answer ≡ Cut) ↔ Unordered v
  cut-exactly k w r told v s = go v s (subst (λ (v : Verdict). By t m v r) (verdict-one (frame_of t) (kept_of m t) (told.says k w).0 v (told.says k w).1 s) (told.says k w).2)
    where
      never : (a : Answer) → (a ≡ NothingWrong) ⊎ ((x : ℕ) × (a ≡ NoSource x)) → a ≡ Cut → ⊥
      never a (inl e) q = let z : ◌≡◌ {A = ℕ} 0 1 = cc in omega arith
      never a (inr (x, e)) q = let z : ◌≡◌ {A = ℕ} 0 1 = cc in omega arith

      go : (v : Verdict) → Says (frame_of t) (kept_of m t) v → By t m v r → (r.answer ≡ Cut) ↔ Unordered v
      go (no_source x) s b = (λ q. absurd (never r.answer (inr (x, ap (λ (r : Smaller). r.answer) b)) q), λ u. absurd u)
      go (circle c rs) s b = (λ _. tt, λ _. ap (λ (r : Smaller). r.answer) b.2)
      go (order xs) s b = (λ q. absurd (never r.answer (inl (ap (λ (r : Smaller). r.answer) b)) q), λ u. absurd u)
      go none_left s b = (λ _. tt, λ _. ap (λ (r : Smaller). r.answer) b.2)
