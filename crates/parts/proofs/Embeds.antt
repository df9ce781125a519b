-- A trace inside another is a part of it under every model, so where the inner one is faulty the outer one is.
--
--   Embeds u v r == record x of u is record r x of v, in the same order, and no load of u has lost its source
--   embeds-part  == fences that went keep nothing any more, and nothing else changes
--   embeds-fault == a fault inside is a fault
use mathlib.Core.Path.{◌≡◌, sym, ap, ◌∙◌, subst}
use mathlib.Core.Logic.{◌↔◌, ◌⊎◌, inl, inr}
use mathlib.Core.Bool.{Bool, So, not}
use mathlib.Core.List.{List}
use Prim.Native.Nat.{ℕ, ◌<◌}
use native.Mathlib.Omega.{arith}
use lib.Dec.{eqb}
use Rattle.laws.proofs.Tests.{and-iff, or-iff, any-iff, same-iff, so-eq, so-lt, three}
use Rattle.trace.specs.Op.{thread, address, read, written, reads, writes, fence}
use Rattle.trace.specs.Trace.{at, first}
use Rattle.trace.specs.WellFormed.{well_formed}
use Rattle.rules.specs.Frame.{Source}
use Rattle.rules.specs.Order.{Valid}
use Rattle.trace.specs.Meaning.{frame_of}
use Rattle.trace.specs.declared.Op.{Op}
use Rattle.trace.specs.declared.Trace.{Trace}
use Rattle.trace.proofs.Meaning.{operation-iff, reads-iff, writes-iff}
use Rattle.trace.proofs.Good.{good}
use Rattle.pairs.specs.Kept.{kind_of, modelled, kept_by, fenced, kept_of}
use Rattle.parts.proofs.Part.{Part, part-fault}

pub record Embeds (u v : Trace) (r : ℕ → ℕ) : Type 0 where
  pub below : (x : ℕ) → x < u.len → r x < v.len
  pub same : (x : ℕ) → x < u.len → at u x ≡ at v (r x)
  pub rising : (x y : ℕ) → x < y → y < u.len → r x < r y
  pub begins : (a : ℕ) → first u a ≡ first v a
  pub sources : (S L : ℕ) → L < u.len → Source (frame_of v) S (r L) → (T : ℕ) × (T < u.len) × (r T ≡ S)

-- what the program order, the fences and the kept pairs of a trace say
earlier-iff : (t : Trace) (x y : ℕ) → So ((frame_of t).earlier x y) ↔ ((x < y) × (thread (at t x) ≡ thread (at t y)))
unfolding frame_of
earlier-iff t x y = and-iff so-lt so-eq

abbrev Fence : Trace → ℕ → ℕ → Type 0
Fence t x y = (i : ℕ) × (i < y) × ((So (fence (at t i)) × (x < i)) × (thread (at t i) ≡ thread (at t x)))

fenced-iff : (t : Trace) (x y : ℕ) → So (fenced t x y) ↔ Fence t x y
unfolding fenced
fenced-iff t x y = any-iff (λ i. and-iff (and-iff same-iff so-lt) so-eq)

-- what the table says of two records
abbrev kept_as : ℕ → Op → Op → Bool
kept_as m a b = kept_by m (kind_of a) (kind_of b) (eqb (address a) (address b))

abbrev Keeps : ℕ → Trace → ℕ → ℕ → Type 0
Keeps m t x y =
    (((So ((frame_of t).earlier x y) × So ((frame_of t).operation x)) × So ((frame_of t).operation y)) × So (modelled m)) × (So (kept_as m (at t x) (at t y)) ⊎ Fence t x y)

kept-iff : (m : ℕ) (t : Trace) (x y : ℕ) → So (kept_of m t x y) ↔ Keeps m t x y
unfolding kept_of
kept-iff m t x y = and-iff (and-iff (and-iff (and-iff same-iff same-iff) same-iff) same-iff) (or-iff same-iff (fenced-iff t x y))

module _ (u v : Trace) (r : ℕ → ℕ) (e : Embeds u v r) where
  used : (x : ℕ) → So ((frame_of u).operation x) → x < u.len
  used x t = ((operation-iff u x).0 t).0

  there : (x : ℕ) → So ((frame_of u).operation x) → So ((frame_of v).operation (r x))
  there x t = let p = (operation-iff u x).0 t in (operation-iff v (r x)).1 (e.below x p.0, subst (λ (o : Op). So (not (fence o))) (e.same x p.0) p.1)

  order : (x y : ℕ) → x < u.len → y < u.len → (x < y) ↔ (r x < r y)
  order x y a b = (λ h. e.rising x y h b, λ h. elim (three x y) [ inl l ↦ l | inr l ↦ elim l [ inl q ↦ absurd (omega (arith, ap r q)) | inr l ↦ absurd (omega (arith, e.rising y x l a)) ] ])

  threads : (x y : ℕ) → x < u.len → y < u.len → (thread (at u x) ≡ thread (at u y)) ↔ (thread (at v (r x)) ≡ thread (at v (r y)))
  threads x y a b = (λ q. sym (ap thread (e.same x a)) ∙ q ∙ ap thread (e.same y b), λ q. ap thread (e.same x a) ∙ q ∙ sym (ap thread (e.same y b)))

  before : (x y : ℕ) → x < u.len → y < u.len → So ((frame_of u).earlier x y) ↔ So ((frame_of v).earlier (r x) (r y))
  before x y a b = (
    λ t. let p = (earlier-iff u x y).0 t in (earlier-iff v (r x) (r y)).1 ((order x y a b).0 p.0, (threads x y a b).0 p.1),
    λ t. let p = (earlier-iff v (r x) (r y)).0 t in (earlier-iff u x y).1 ((order x y a b).1 p.0, (threads x y a b).1 p.1),
  )

  kept : (m x y : ℕ) → So (kept_of m u x y) → So ((frame_of u).operation x) × So (kept_of m v (r x) (r y))
  kept m x y t =
      let ((((b, p), q), w), k) = (kept-iff m u x y).0 t in
      let a = used x p in
      let c = used y q in (
        p,
        (kept-iff m v (r x) (r y)).1 (
          ((((before x y a c).0 b, there x p), there y q), w),
          elim k [
            | inl z ↦ inl (subst (λ (o : Op). So (kept_as m o (at v (r y)))) (e.same x a) (subst (λ (o : Op). So (kept_as m (at u x) o)) (e.same y c) z))
            | inr z ↦ inr (between a c z)
          ],
        ),
      )
    where
      between : x < u.len → y < u.len → Fence u x y → Fence v (r x) (r y)
      between a c (i, l, ((s, h), q)) =
          let d : i < u.len = omega arith in
          (r i, e.rising i y l c, ((subst (λ (o : Op). So (fence o)) (e.same i d) s, e.rising x i h d), (threads i x d a).0 q))

  module _ (m : ℕ) where
    pub embeds-part : Part (frame_of v) (frame_of u) (kept_of m v) (kept_of m u) r
    unfolding frame_of
    embeds-part = record {
      one = λ x y t s q. elim (three x y) [
        | inl l ↦ absurd (omega (arith, e.rising x y l (used y s)))
        | inr l ↦ elim l [ inl z ↦ z | inr l ↦ absurd (omega (arith, e.rising y x l (used x t))) ]
      ];
      operation = there;
      reads = λ x t. let p = (reads-iff u x).0 t in (reads-iff v (r x)).1 (e.below x p.0, subst (λ (o : Op). So (reads o)) (e.same x p.0) p.1);
      writes = λ x t. let p = (writes-iff u x).0 t in (writes-iff v (r x)).1 (e.below x p.0, subst (λ (o : Op). So (writes o)) (e.same x p.0) p.1);
      address = λ x t. ap address (e.same x (used x t));
      read = λ x t. ap read (e.same x (used x t));
      written = λ x t. ap written (e.same x (used x t));
      first = e.begins;
      earlier = λ x y t s. before x y (used x t) (used y s);
      kept = kept m;
      sources = λ S L t s.
          let l = ((reads-iff u L).0 t).0 in
          let (T, h, q) = e.sources S L l s in
          let w = (writes-iff v S).0 s.writer.writes in
          (T, (writes-iff u T).1 (h, subst (λ (o : Op). So (writes o)) (sym (e.same T h ∙ ap (at v) q)) w.1), q);
    }

    pub embeds-fault : So (well_formed v) → So (well_formed u) → ((ys : List ℕ) → Valid (frame_of u) (kept_of m u) ys → ⊥) → (xs : List ℕ) → Valid (frame_of v) (kept_of m v) xs → ⊥
    embeds-fault wv wu = part-fault (frame_of v) (frame_of u) (kept_of m v) (kept_of m u) r (good v wv) (good u wu) embeds-part
