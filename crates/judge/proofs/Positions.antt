-- The array of places, filled from the end of a list to its front, and what a judge reads off it.
--
--   sited-none, sited-write, sited-skip, sited-all == nothing looked at; one place more, of a record or of a number past the end; everything
--   out-sited, early-sited                         == the lowest pair out of turn, over the array
--   visible-at, visible-by                         == what a judge tests at one place of a list; the same from the two records
use mathlib.Core.Path.{◌≡◌, refl, sym, ap, ap₂, ◌∙◌}
use mathlib.Core.Logic.{◌≢◌, inl, inr}
use mathlib.Core.Bool.{Bool, not, ◌&&◌, ◌||◌}
use mathlib.Core.List.{List}
use Prim.Native.Nat.{ℕ, suc, ◌+◌, ◌-◌, ◌<◌, ◌≤◌}
use native.Mathlib.Omega.{arith}
use lib.Dec.{ltb}
use lib.ListN.{length, get_or, set, drop, replicate, length-set, length-replicate, get_or-replicate}
use lib.Seq.{drop-length, drop-cons, get_or-set_same, get_or-set_other}
use Rattle.laws.specs.Places.{pos}
use Rattle.laws.specs.Relation.{Table}
use Rattle.laws.specs.Lowest.{lowest}
use Rattle.laws.proofs.Tests.{eq?}
use Rattle.laws.proofs.Places.{pos-here, pos-later}
use Rattle.laws.proofs.Congruence.{any-cong}
use Rattle.trace.specs.Bounds.{RECORDS}
use Rattle.trace.specs.Trace.{at}
use Rattle.trace.specs.Meaning.{frame_of}
use Rattle.trace.specs.declared.Trace.{Trace}
use Rattle.rules.specs.RuleTests.{writer?}
use Rattle.rules.specs.Seen.{visible?}
use Rattle.pairs.proofs.RecordTests.{earlier-by, writer-by}
use Rattle.judge.specs.inner.VisibleBy.{visible_by}
use Rattle.judge.specs.inner.Positions.{Sited, SitedFrom, out_at, early_at}
use Rattle.judge.specs.Judged.{out?, early?}
use Rattle.pairs.proofs.Found.{lowest-cong}

module _ (xs : List ℕ) where
  pub sited-none : SitedFrom xs (length xs) (replicate RECORDS (length xs))
  unfolding pos
  sited-none = record {
    long = length-replicate RECORDS (length xs);
    fits = omega arith;
    each = λ x l. get_or-replicate RECORDS x (length xs) 0 l ∙ rw (drop-length xs) (omega arith);
  }

  module _ (i : ℕ) (s : List ℕ) (p : 0 < i) (h : SitedFrom xs i s) where
    -- where x stands, looked at from one place earlier
    here : (x : ℕ) → x ≡ get_or xs (i - 1) 0 → (i - 1) + pos (drop (i - 1) xs) x ≡ i - 1
    here x e = let b = h.fits in rw (drop-cons xs (i - 1) 0 (omega arith)) (omega (arith, pos-here x (get_or xs (i - 1) 0) (drop (suc (i - 1)) xs) e))

    later : (x : ℕ) → x ≢ get_or xs (i - 1) 0 → (i - 1) + pos (drop (i - 1) xs) x ≡ i + pos (drop i xs) x
    later x d =
        let b = h.fits in
        let q : suc (i - 1) ≡ i = omega arith in
        rw (drop-cons xs (i - 1) 0 (omega arith)) (omega (arith, pos-later x (get_or xs (i - 1) 0) (drop (suc (i - 1)) xs) d, ap (λ j. pos (drop j xs) x) q))

    pub sited-write : get_or xs (i - 1) 0 < RECORDS → SitedFrom xs (i - 1) (set s (get_or xs (i - 1) 0) (i - 1))
    sited-write l = record {
      long = length-set s (get_or xs (i - 1) 0) (i - 1) ∙ h.long;
      fits = let b = h.fits in omega arith;
      each = λ x k. elim (eq? x (get_or xs (i - 1) 0)) [
        | inl e ↦ rw e (get_or-set_same s (get_or xs (i - 1) 0) (i - 1) 0 (omega (arith, h.long)) ∙ sym (here (get_or xs (i - 1) 0) refl))
        | inr d ↦ get_or-set_other s (get_or xs (i - 1) 0) x (i - 1) 0 d ∙ h.each x k ∙ sym (later x d)
      ];
    }

    pub sited-skip : RECORDS ≤ get_or xs (i - 1) 0 → SitedFrom xs (i - 1) s
    sited-skip l = record {
      long = h.long;
      fits = let b = h.fits in omega arith;
      each = λ x k. h.each x k ∙ sym (later x (λ e. omega arith));
    }

  pub sited-all : (i : ℕ) (s : List ℕ) → i ≤ 0 → SitedFrom xs i s → Sited xs s
  sited-all i s b h = let e : i ≡ 0 = omega arith in record { long = h.long; each = λ x l. h.each x l ∙ rw e (omega arith) }

  module _ (s : List ℕ) (h : Sited xs s) (K : Table) (n : ℕ) (fits : n ≤ RECORDS) where
    out-at : (x y : ℕ) → x < n → y < n → out? K xs x y ≡ out_at K s x y
    unfolding out? out_at
    out-at x y p q = sym (ap₂ (λ (a b : ℕ). K x y && not (ltb a b)) (h.each x (omega arith)) (h.each y (omega arith)))

    pub out-sited : (x : ℕ) → x < n → lowest (out? K xs x) n 0 ≡ lowest (out_at K s x) n 0
    out-sited x p = lowest-cong n 0 (λ y _ q. out-at x y p (omega arith))

    pub early-sited : lowest (early? K n xs) n 0 ≡ lowest (early_at K n s) n 0
    unfolding early? early_at
    early-sited = lowest-cong n 0 (λ x _ p. any-cong n (λ y q. out-at x y (omega arith) q))

module _ (t : Trace) where
  pub visible-by : (x L : ℕ) (before : Bool) → visible_by t.len (at t x) x (at t L) L before ≡ (writer? (frame_of t) x L && (before || (frame_of t).earlier x L))
  unfolding visible_by
  visible-by x L before = ap₂ (λ (w e : Bool). w && (before || e)) (writer-by t x L) (earlier-by t x L)

  pub visible-at : (xs s : List ℕ) → Sited xs s → (i L : ℕ) → L < RECORDS → (b : Bool)
      → (writer? (frame_of t) (get_or xs i 0) L && (ltb i (get_or s L 0) || (frame_of t).earlier (get_or xs i 0) L)) ≡ b → visible? (frame_of t) xs i L ≡ b
  unfolding visible?
  visible-at xs s h i L l b e = ap (λ k. writer? (frame_of t) (get_or xs i 0) L && (ltb i k || (frame_of t).earlier (get_or xs i 0) L)) (sym (h.each L l)) ∙ e
