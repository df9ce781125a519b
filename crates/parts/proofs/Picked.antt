-- What is left of a trace is well formed, and stands inside every larger part of it.
--
--   Picks        == a trace and a list of old numbers have the records of A among the first k
--   picks        == so have `picked_to` and `olds_to`
--   picks-embed  == of two sets the smaller one's records stand inside the larger one's, where it has the source of each load that it has
--   picked-missing == a load or swap of the part that lacks its source lacked it before, where the part has the source of each that it has
--   picked_all   == all records are the trace itself
--   picked-fault == so a fault of the smaller one is a fault of the larger one, and of the trace
use mathlib.Core.Path.{◌≡◌, refl, sym, ap, ◌∙◌, subst}
use mathlib.Core.Logic.{◌≢◌, ◌↔◌, inl, inr}
use mathlib.Core.Bool.{Bool, true, false, cond, So, false≢true}
use mathlib.Core.List.{List, [], ◌∷◌, ◌++◌}
use Prim.Native.Nat.{ℕ, zero, suc, ◌≤◌, ◌<◌}
use native.Mathlib.Omega.{arith}
use lib.ListN.{length, get_or, length-append, get_or-append}
use Rattle.laws.specs.Places.{pos, count}
use Rattle.laws.proofs.Tests.{and-iff, not_iff, same-iff, so-eq, so-lt, last?, three}
use Rattle.laws.proofs.Places.{pos-lt, at-pos, count_at}
use Rattle.trace.specs.Bounds.{RECORDS}
use Rattle.rules.specs.Frame.{Source}
use Rattle.rules.specs.Order.{Valid}
use Rattle.trace.specs.Op.{address, read, written, reads}
use Rattle.trace.specs.Trace.{at, pushed, up_to, first}
use Rattle.trace.specs.FormFacts.{Follows, Form, WritesThere}
use Rattle.trace.specs.WellFormed.{well_formed}
use Rattle.trace.specs.Meaning.{frame_of}
use Rattle.trace.specs.declared.Op.{Op}
use Rattle.trace.specs.declared.Trace.{Trace}
use Rattle.trace.proofs.Places.{pushed-len, pushed-firsts, pushed-last, pushed-other}
use Rattle.trace.proofs.Growth.{up_to-len, up_to-firsts, up_to-well, up_to-all, up_to-more, pushed-well}
use Rattle.trace.proofs.WellFormed.{follows-iff, form-iff}
use Rattle.trace.proofs.Meaning.{reads-iff}
use Rattle.rules.specs.Missing.{Missing}
use Rattle.pairs.specs.SourceOf.{reads_from}
use Rattle.rules.proofs.RuleTests.{source-iff}
use Rattle.pairs.proofs.SourceOf.{source-parts}
use Rattle.pairs.specs.Kept.{kept_of}
use Rattle.parts.specs.Removal.{Set, every}
use Rattle.parts.specs.Picked.{picked_to, olds_to, picked, olds}
use Rattle.parts.proofs.Removal.{Closed}
use Rattle.parts.proofs.Embeds.{Embeds, embeds-fault}

pub record Picks (t : Trace) (A : Set) (k : ℕ) (u : Trace) (l : List ℕ) : Type 0 where
  pub long : u.len ≡ length l
  pub short : length l ≤ k
  pub below : (x : ℕ) → x < length l → get_or l x 0 < k
  pub chosen : (x : ℕ) → x < length l → So (A (get_or l x 0))
  pub same : (x : ℕ) → x < length l → at u x ≡ at t (get_or l x 0)
  pub rising : (x y : ℕ) → x < y → y < length l → get_or l x 0 < get_or l y 0
  pub all : (z : ℕ) → z < k → So (A z) → (x : ℕ) × (x < length l) × (get_or l x 0 ≡ z)
  pub firsts : u.firsts ≡ t.firsts
  pub well : So (well_formed u)

-- the same values at the beginning
first-same : (u t : Trace) → u.firsts ≡ t.firsts → (a : ℕ) → first u a ≡ first t a
unfolding first
first-same u t e a = ap (λ (l : List ℕ). get_or l a 0) e

last-at : (l : List ℕ) (z d : ℕ) → get_or (l ++ z ∷ []) (length l) d ≡ z
last-at [] z d = refl
last-at (y ∷ l) z d = last-at l z d

module _ (t : Trace) (w : So (well_formed t)) (A : Set) where
  form : Form t
  form = (form-iff t).0 w

  more : (k : ℕ) → k < t.len → So (A k) → (u : Trace) (l : List ℕ) → Picks t A k u l → Picks t A (suc k) (pushed u (at t k)) (l ++ k ∷ [])
  more k h s u l p = record {
    long = pushed-len u (at t k) room ∙ omega (arith, p.long, length-append l (k ∷ []));
    short = omega (arith, p.short, length-append l (k ∷ []));
    below = λ x i. elim (last? {i = x} {n = length l} (omega (arith, length-append l (k ∷ [])))) [ inl e ↦ omega (arith, there x e) | inr j ↦ omega (arith, here x j, p.below x j) ];
    chosen = λ x i. elim (last? {i = x} {n = length l} (omega (arith, length-append l (k ∷ [])))) [
      | inl e ↦ subst (λ (z : ℕ). So (A z)) (sym (there x e)) s
      | inr j ↦ subst (λ (z : ℕ). So (A z)) (sym (here x j)) (p.chosen x j)
    ];
    same = λ x i. elim (last? {i = x} {n = length l} (omega (arith, length-append l (k ∷ [])))) [
      | inl e ↦ ap (at (pushed u (at t k))) (e ∙ sym p.long) ∙ pushed-last u (at t k) room ((form-iff u).0 p.well).places ∙ ap (at t) (sym (there x e))
      | inr j ↦ pushed-other u (at t k) room x (λ e. omega (arith, p.long)) ∙ p.same x j ∙ ap (at t) (sym (here x j))
    ];
    rising = λ x y i j. elim (last? {i = y} {n = length l} (omega (arith, length-append l (k ∷ [])))) [
      | inl e ↦ omega (arith, here x (omega arith), there y e, p.below x (omega arith))
      | inr q ↦ omega (arith, here x (omega arith), here y q, p.rising x y i q)
    ];
    all = λ z i a. elim (last? i) [
      | inl e ↦ (length l, omega (arith, length-append l (k ∷ [])), last-at l k 0 ∙ sym e)
      | inr j ↦ let (x, q, e) = p.all z j a in (x, omega (arith, length-append l (k ∷ [])), here x q ∙ e)
    ];
    firsts = pushed-firsts u (at t k) room ∙ p.firsts;
    well = pushed-well u (at t k) room p.well ((follows-iff u u.len (at t k)).1 joins);
  }
    where
      room : u.len < RECORDS
      room = omega (arith, p.long, p.short, form.fits)

      here : (x : ℕ) → x < length l → get_or (l ++ k ∷ []) x 0 ≡ get_or l x 0
      here x j = get_or-append l (k ∷ []) 0 x j

      there : (x : ℕ) → x ≡ length l → get_or (l ++ k ∷ []) x 0 ≡ k
      there x e = ap (λ i. get_or (l ++ k ∷ []) i 0) e ∙ last-at l k 0

      joins : Follows u u.len (at t k)
      joins = record {
        keeps = (form.used k h).keeps;
        fresh = λ v. record {
          later = λ e. ((form.used k h).fresh v).later (e ∙ first-same u t p.firsts (address (at t k)));
          once = λ j i x. let q : j < length l = omega (arith, p.long) in ((form.used k h).fresh v).once (get_or l j 0) (p.below j q) (subst (λ (o : Op). WritesThere o (address (at t k)) (written (at t k))) (p.same j q) x);
        };
      }

  pub picks : (k : ℕ) → k ≤ t.len → Picks t A k (picked_to t A k) (olds_to A k)
  unfolding picked_to olds_to
  picks zero h = record {
    long = up_to-len t 0;
    short = omega arith;
    below = λ x i. absurd (omega arith);
    chosen = λ x i. absurd (omega arith);
    same = λ x i. absurd (omega arith);
    rising = λ x y i j. absurd (omega arith);
    all = λ z i a. absurd (omega arith);
    firsts = up_to-firsts t 0;
    well = up_to-well t w 0 (omega arith);
  }
  picks (suc k) h = go (A k) refl (picks k (omega arith))
    where
      go : (b : Bool) → A k ≡ b → Picks t A k (picked_to t A k) (olds_to A k)
          → Picks t A (suc k) (cond b (pushed (picked_to t A k) (at t k)) (picked_to t A k)) (cond b (olds_to A k ++ k ∷ []) (olds_to A k))
      go true e p = more k (omega arith) e (picked_to t A k) (olds_to A k) p
      go false e p = record {
        long = p.long;
        short = omega (arith, p.short);
        below = λ x i. omega (arith, p.below x i);
        chosen = p.chosen;
        same = p.same;
        rising = p.rising;
        all = λ z i a. elim (last? i) [ inl q ↦ absurd (false≢true (sym e ∙ subst (λ (z : ℕ). So (A z)) q a)) | inr j ↦ p.all z j a ];
        firsts = p.firsts;
        well = p.well;
      }

-- a list that rises has each number once
rises-one : (l : List ℕ) → ((x y : ℕ) → x < y → y < length l → get_or l x 0 < get_or l y 0) → (x y : ℕ) → x < length l → y < length l → get_or l x 0 ≡ get_or l y 0 → x ≡ y
rises-one l r x y a b e = elim (three x y) [ inl h ↦ absurd (omega (arith, r x y h b)) | inr h ↦ elim h [ inl q ↦ q | inr h ↦ absurd (omega (arith, r y x h a)) ] ]

-- who reads from whom, by the records alone
source-at : (t : Trace) (S L : ℕ) → Source (frame_of t) S L ↔ ((((S < t.len) × (L < t.len)) × (S ≢ L)) × So (reads_from (at t S) (at t L) (first t (address (at t L)))))
source-at t S L =
    let i = and-iff (and-iff (and-iff (so-lt {m = S} {n = t.len}) (so-lt {m = L} {n = t.len})) (not_iff (so-eq {m = S} {n = L}))) (same-iff {a = reads_from (at t S) (at t L) (first t (address (at t L)))}) in
    (λ s. i.0 (sym (source-parts t S L) ∙ (source-iff (frame_of t) S L).1 s), λ p. (source-iff (frame_of t) S L).0 (source-parts t S L ∙ i.1 p))

module _ (t : Trace) (w : So (well_formed t)) (A B : Set) (within : (x : ℕ) → So (A x) → So (B x)) (closed : Closed (frame_of t) A) where
  p : Picks t A t.len (picked t A) (olds t A)
  p = picks t w A t.len (omega arith)

  q : Picks t B t.len (picked t B) (olds t B)
  q = picks t w B t.len (omega arith)

  -- where a record of the smaller one stands in the larger one
  abbrev into : ℕ → ℕ
  into x = pos (olds t B) (get_or (olds t A) x 0)

  found : (z : ℕ) → z < t.len → So (B z) → (pos (olds t B) z < length (olds t B)) × (get_or (olds t B) (pos (olds t B) z) 0 ≡ z)
  found z h b =
      let (y, l, e) = q.all z h b in
      let k = pos-lt (olds t B) z (subst (λ (z : ℕ). 0 < count z (olds t B)) e (count_at (olds t B) y l)) in
      (k, at-pos (olds t B) z k)

  at_into : (x : ℕ) → x < length (olds t A) → (into x < length (olds t B)) × (get_or (olds t B) (into x) 0 ≡ get_or (olds t A) x 0)
  at_into x h = found (get_or (olds t A) x 0) (p.below x h) (within _ (p.chosen x h))

  ops : (x : ℕ) → x < length (olds t A) → at (picked t A) x ≡ at (picked t B) (into x)
  ops x h = p.same x h ∙ sym (q.same (into x) (at_into x h).0 ∙ ap (at t) (at_into x h).1)

  pub picks-embed : Embeds (picked t A) (picked t B) into
  picks-embed = record {
    below = λ x h. let r = at_into x (omega (arith, p.long)) in omega (arith, q.long);
    same = λ x h. ops x (omega (arith, p.long));
    rising = λ x y h l.
        let a : y < length (olds t A) = omega (arith, p.long) in
        let b : x < length (olds t A) = omega arith in
        let less = p.rising x y h a in
        let (i, e) = at_into x b in
        let (j, d) = at_into y a in
        elim (three (into x) (into y)) [ inl o ↦ o | inr o ↦ elim o [ inl z ↦ absurd (omega (arith, ap (λ k. get_or (olds t B) k 0) z)) | inr o ↦ absurd (omega (arith, q.rising (into y) (into x) o i)) ] ];
    begins = first-same (picked t A) (picked t B) (p.firsts ∙ sym q.firsts);
    sources = λ S L h s.
        let l : L < length (olds t A) = omega (arith, p.long) in
        let (i, e) = at_into L l in
        let (((a, b), d), r) = (source-at (picked t B) S (into L)).0 s in
        let k : S < length (olds t B) = omega (arith, q.long) in
        let from : Source (frame_of t) (get_or (olds t B) S 0) (get_or (olds t A) L 0)
        = (source-at t (get_or (olds t B) S 0) (get_or (olds t A) L 0)).1 (
          ((q.below S k, p.below L l), λ z. d (rises-one (olds t B) q.rising S (into L) k i (z ∙ sym e))),
          subst (λ (o : Op). So (reads_from (at t (get_or (olds t B) S 0)) o (first t (address o)))) (q.same (into L) i ∙ ap (at t) e)
              (subst (λ (o : Op). So (reads_from o (at (picked t B) (into L)) (first t (address (at (picked t B) (into L)))))) (q.same S k)
              (subst (λ (v : ℕ). So (reads_from (at (picked t B) S) (at (picked t B) (into L)) v)) (first-same (picked t B) t q.firsts (address (at (picked t B) (into L)))) r)),
        ) in
        let (T, n, z) = p.all (get_or (olds t B) S 0) (q.below S k) (closed _ _ from (p.chosen L l)) in
        let (j, g) = at_into T n in
        (T, omega (arith, p.long), rises-one (olds t B) q.rising (into T) S j k (g ∙ z));
  }

  pub picked-fault : (m : ℕ) → ((ys : List ℕ) → Valid (frame_of (picked t A)) (kept_of m (picked t A)) ys → ⊥) → (xs : List ℕ) → Valid (frame_of (picked t B)) (kept_of m (picked t B)) xs → ⊥
  picked-fault m = embeds-fault (picked t A) (picked t B) into picks-embed m q.well p.well

module _ (t : Trace) (w : So (well_formed t)) where
  pub picked_all : picked t every ≡ t
  unfolding picked_to
  picked_all = go t.len (omega arith) ∙ up_to-all t w
    where
      go : (k : ℕ) → k ≤ t.len → picked_to t every k ≡ up_to t k
      go zero h = refl
      go (suc k) h = ap (λ (u : Trace). pushed u (at t k)) (go k (omega arith)) ∙ up_to-more t w k (omega arith)

  pub picked-missing : (A : Set) → Closed (frame_of t) A → (L : ℕ) → Missing (frame_of (picked t A)) L → Missing (frame_of t) (get_or (olds t A) L 0)
  unfolding frame_of
  picked-missing A closed L m =
      let u = picked t A in
      let p = picks t w A t.len (omega arith) in
      let r = (reads-iff u L).0 m.reads in
      let l : L < length (olds t A) = omega (arith, p.long, r.0) in
      let x = get_or (olds t A) L 0 in
      let same = p.same L l in
      let begins = first-same u t p.firsts in
      record {
        reads = (reads-iff t x).1 (p.below L l, subst (λ (o : Op). So (reads o)) same r.1);
        later = λ e. m.later (ap read same ∙ e ∙ ap (λ (o : Op). first t (address o)) (sym same) ∙ sym (begins (address (at u L))));
        nobody = λ S s.
            let (((a, b), d), q) = (source-at t S x).0 s in
            let (T, n, z) = p.all S a (closed S x s (p.chosen L l)) in
            m.nobody T ((source-at u T L).1 (
              ((omega (arith, p.long), r.0), λ i. d (sym z ∙ ap (λ (k : ℕ). get_or (olds t A) k 0) i)),
              subst (λ (o : Op). So (reads_from o (at u L) (first u (address (at u L))))) (sym (p.same T n ∙ ap (at t) z))
                  (subst (λ (o : Op). So (reads_from (at t S) o (first u (address o)))) (sym same) (subst (λ (v : ℕ). So (reads_from (at t S) (at t x) v)) (sym (begins (address (at t x)))) q)),
            ));
      }
