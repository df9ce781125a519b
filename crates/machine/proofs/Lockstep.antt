-- The machine and its history go in step.
--
--   Tells t m M r p == the lists r and p tell the machine M
--   due-next, next-due, waiting-oldest, oldest-waiting == the record that a step is about
--   got-gives, got-one, may-iff == what a record gets, and when it may run
--   step-go, go_step == a possible step of the one is a possible step of the other
use mathlib.Core.Path.{◌≡◌, refl, sym, ap, ◌∙◌, subst}
use mathlib.Core.Logic.{◌≢◌, ◌↔◌, ◌⊎◌, inl, inr}
use mathlib.Core.Bool.{Bool, true, false, cond, So, not, ◌&&◌, false≢true}
use mathlib.Core.List.{List, [], ◌∷◌, ◌++◌}
use mathlib.Core.Option.{Option, none, some}
use Prim.Native.Nat.{ℕ, zero, suc, ◌+◌, ◌-◌, ◌<◌, ◌≤◌}
use native.Mathlib.Decide.{dec_lt}
use native.Mathlib.Omega.{arith}
use lib.Dec.{eqb, ltb}
use lib.ListN.{length, get_or, set, replicate, length-set}
use lib.Seq.{get_or-set_same, get_or-set_other}
use borrow.Author.Tests.{lt-ltb, le-ltb}
use Rattle.laws.specs.Tests.{all, any}
use Rattle.laws.specs.Lowest.{Lowest, lowest}
use Rattle.laws.specs.Latest.{Latest, nobody-yet, at}
use Rattle.laws.specs.Places.{pos, count}
use Rattle.laws.proofs.Tests.{and-iff, or-iff, not_iff, imp-iff, same-iff, so-eq, so-not, so-any, test, off, eq?}
use Rattle.laws.proofs.Lowest.{lowest-one, lowest-iff}
use Rattle.laws.proofs.Latest.{latest-of}
use Rattle.laws.proofs.Places.{count-here, pos-lt, pos_inj}
use Rattle.laws.proofs.Prefixes.{pos-in, pos-out}
use Rattle.trace.specs.Bounds.{RECORDS, THREADS, ADDRESSES}
use Rattle.trace.specs.Op.{thread, address, read, written, reads, writes, fence}
use Rattle.trace.specs.Trace as trace
use Rattle.trace.specs.FormFacts.{Form}
use Rattle.trace.specs.Meaning.{frame_of}
use Rattle.trace.specs.declared.Trace.{Trace}
use Rattle.trace.proofs.Meaning.{operation-iff, reads-iff, writes-iff, reads-operation}
use Rattle.trace.proofs.Good.{form-good}
use Rattle.pairs.specs.Kept.{kept_of}
use Rattle.machine.specs.declared.Machine.{Machine}
use Rattle.machine.specs.Machine.{Sized, lands, alone, due, waiting, got, may, ran_as, emptied, runs, empties, step}
use Rattle.machine.proofs.CoresOf.{cores_of}
use Rattle.machine.proofs.History.{◌∈◌, Cores, Waits, Own, Stored, Got, buffered, stored, initial, Alone, Run, Empty, Go, through, enters, Goes, done, more, Ended, Laws}
use Rattle.machine.proofs.History as history
use Rattle.machine.proofs.Snoc.{in?, cons-in, cons-cases, snoc-cases, last-in, in-snoc, snoc-other, flag-set}
use Rattle.machine.proofs.Invariant.{Sound, waits-store, waits-off, not-placed}
use Rattle.machine.proofs.KeptLaws.{lands-iff}

-- what memory holds at an address, after p has reached it
pub data Holds (t : Trace) (p : List ℕ) (a v : ℕ) : Type 0 where
  kept : (S : ℕ) → S ∈ p → So ((frame_of t).writes S) → (frame_of t).address S ≡ a → v ≡ (frame_of t).written S
      → ((S' : ℕ) → S' ∈ p → So ((frame_of t).writes S') → (frame_of t).address S' ≡ a → pos p S' ≤ pos p S) → Holds t p a v
  untouched : ((S : ℕ) → S ∈ p → So ((frame_of t).writes S) → (frame_of t).address S ≡ a → ⊥) → v ≡ trace.first t a → Holds t p a v

pub record Tells (t : Trace) (m : ℕ) (M : Machine) (r p : List ℕ) : Type 0 where
  pub sized : Sized M
  pub ran : (x : ℕ) → x < t.len → So (get_or M.ran x false) ↔ (x ∈ r)
  pub waits : (x : ℕ) → x < t.len → So (get_or M.waits x false) ↔ Waits (cores_of m t) r p x
  pub holds : (a : ℕ) → a < ADDRESSES → Holds t p a (get_or M.memory a 0)

-- the lowest number that passes, as facts
pub lowest-some : (q : ℕ → Bool) (n : ℕ) → Lowest (λ x. (x < n) × So (q x)) (lowest q n 0)
lowest-some q n = lowest-iff q (λ x. (x < n) × So (q x)) n (λ k h. (λ u. (h, u), λ p. p.1)) (λ k p. p.0) n 0 (omega arith) (λ k p. omega arith)

pub lowest-is : (q : ℕ → Bool) (n x : ℕ) → lowest q n 0 ≡ some x → Lowest (λ x. (x < n) × So (q x)) (some x)
lowest-is q n x e = subst (Lowest (λ x. (x < n) × So (q x))) e (lowest-some q n)

pub is-lowest : (q : ℕ → Bool) (n x : ℕ) → Lowest (λ x. (x < n) × So (q x)) (some x) → lowest q n 0 ≡ some x
is-lowest q n x l = lowest-one (λ x. (x < n) × So (q x)) (lowest q n 0) (some x) (lowest-some q n) l

module _ (t : Trace) (form : Form t) (m : ℕ) (l : Laws (cores_of m t) (kept_of m t)) where
  C : Cores
  C = cores_of m t

  module _ {M : Machine} {r p : List ℕ} (T : Tells t m M r p) (S : Sound (cores_of m t) (kept_of m t) r p) where
    due-iff : (τ x : ℕ) → x < t.len → So (due t M τ x) ↔ ((x ∈ r → ⊥) × (thread (trace.at t x) ≡ τ))
    unfolding due
    due-iff τ x h = and-iff (not_iff (T.ran x h)) so-eq

    pub waiting-iff : (τ x : ℕ) → x < t.len → So (waiting t M τ x) ↔ (Waits (cores_of m t) r p x × (thread (trace.at t x) ≡ τ))
    unfolding waiting
    waiting-iff τ x h = and-iff (T.waits x h) so-eq

    pub waits-below : (x : ℕ) → Waits (cores_of m t) r p x → x < t.len
    unfolding frame_of
    waits-below x w = S.under x w.ran

    -- the next record of a core
    pub due-next : (τ x : ℕ) → lowest (due t M τ) t.len 0 ≡ some x → (x < t.len) × (count x r ≡ 0) × (thread (trace.at t x) ≡ τ) × ((w : ℕ) → So ((frame_of t).earlier w x) → w ∈ r)
    due-next τ x e =
        let (h, low) = lowest-is (due t M τ) t.len x e in
        let d = (due-iff τ x h.0).0 h.1 in (
          h.0,
          elim (in? x r) [ inl i ↦ absurd (d.0 i) | inr i ↦ i ],
          d.1,
          λ w b.
              let o = l.order w x b in
              elim (in? w r) [
                | inl i ↦ i
                | inr i ↦ absurd (omega (arith, o.0, low w (omega (arith, o.0, h.0), (due-iff τ w (omega (arith, o.0, h.0))).1 (λ k. omega (arith, i, k), o.1 ∙ d.1))))
              ],
        )

    next-due : (x : ℕ) → x < t.len → count x r ≡ 0 → ((w : ℕ) → So ((frame_of t).earlier w x) → w ∈ r) → lowest (due t M (thread (trace.at t x))) t.len 0 ≡ some x
    next-due x h z all = is-lowest (due t M (thread (trace.at t x))) t.len x (
      (h, (due-iff _ x h).1 (λ k. omega (arith, z, k), refl)),
      λ y q.
          elim (dec_lt y x) [
            | yes b ↦ let d = (due-iff _ y q.0).0 q.1 in absurd (d.0 (all y (l.ordered y x b d.1)))
            | no b ↦ omega arith
          ],
    )

    pub waiting-oldest : (τ x : ℕ) → lowest (waiting t M τ) t.len 0 ≡ some x → Empty (cores_of m t) r p x × (thread (trace.at t x) ≡ τ)
    waiting-oldest τ x e =
        let (h, low) = lowest-is (waiting t M τ) t.len x e in
        let d = (waiting-iff τ x h.0).0 h.1 in
        (record { waits = d.0; oldest = λ w k q. low w (waits-below w k, (waiting-iff τ w (waits-below w k)).1 (k, q ∙ d.1)) }, d.1)

    oldest-waiting : (x : ℕ) → Empty (cores_of m t) r p x → lowest (waiting t M (thread (trace.at t x))) t.len 0 ≡ some x
    oldest-waiting x e =
        let h = waits-below x e.waits in
        is-lowest (waiting t M (thread (trace.at t x))) t.len x (
          (h, (waiting-iff _ x h).1 (e.waits, refl)),
          λ y q.
              let d = (waiting-iff _ y q.0).0 q.1 in e.oldest y d.0 d.1,
        )

    module _ (x : ℕ) (h : x < t.len) where
      own-iff : (i : ℕ) → i < t.len → So (waiting t M (thread (trace.at t x)) i && eqb (address (trace.at t i)) (address (trace.at t x))) ↔ Own (cores_of m t) r p i x
      unfolding frame_of
      own-iff i b =
          let q = and-iff (waiting-iff (thread (trace.at t x)) i b) (so-eq {m = address (trace.at t i)} {n = address (trace.at t x)}) in
          (λ s. let u = q.0 s in record { waits = u.0.0; core = u.0.1; there = u.1 }, λ o. q.1 ((o.waits, o.core), o.there))

      got-gives : Got (cores_of m t) r p x (got t M x)
      unfolding got frame_of
      got-gives = go (latest-of (λ i. waiting t M (thread (trace.at t x)) i && eqb (address (trace.at t i)) (address (trace.at t x))) (λ i. written (trace.at t i)) (get_or M.memory (address (trace.at t x)) 0) t.len)
        where
          memory : (free : (i : ℕ) → Own (cores_of m t) r p i x → ⊥) → {v : ℕ} → Holds t p (address (trace.at t x)) v → Got (cores_of m t) r p x v
          memory free (kept R i w a q top) = stored free R (record { reached = i; writes = w; there = a }) q (λ R' s. top R' s.reached s.writes s.there)
          memory free (untouched n q) = initial free (λ R s. n R s.reached s.writes s.there) q

          go : {v : ℕ} → Latest (λ i. waiting t M (thread (trace.at t x)) i && eqb (address (trace.at t i)) (address (trace.at t x))) (λ i. written (trace.at t i)) (get_or M.memory (address (trace.at t x)) 0) t.len v
              → Got (cores_of m t) r p x v
          go (nobody-yet q n) = subst (Got (cores_of m t) r p x) (sym q) (memory (λ i o. n i (waits-below i o.waits) ((own-iff i (waits-below i o.waits)).1 o)) (T.holds (address (trace.at t x)) (form.used x h).keeps.address_below))
          go (at j b q c n) = buffered j ((own-iff j b).0 c) q (λ i o. n i (waits-below i o.waits) ((own-iff i (waits-below i o.waits)).1 o))

      got-one : {v w : ℕ} → Got (cores_of m t) r p x v → Got (cores_of m t) r p x w → v ≡ w
      got-one (buffered R o q h) (buffered R' o' q' h') = let e : R ≡ R' = omega (arith, h R' o', h' R o) in q ∙ ap (frame_of t).written e ∙ sym q'
      got-one (buffered R o q h) (stored n R' o' q' h') = absurd (n R o)
      got-one (buffered R o q h) (initial n k q') = absurd (n R o)
      got-one (stored n R o q h) (buffered R' o' q' h') = absurd (n R' o')
      got-one (stored n R o q h) (stored n' R' o' q' h') =
          let e : R ≡ R' = pos_inj p R R' (pos-lt p R o.reached) (omega (arith, h R' o', h' R o)) in q ∙ ap (frame_of t).written e ∙ sym q'
      got-one (stored n R o q h) (initial n' k q') = absurd (k R o)
      got-one (initial n k q) (buffered R' o' q' h') = absurd (n R' o')
      got-one (initial n k q) (stored n' R' o' q' h') = absurd (k R' o')
      got-one (initial n k q) (initial n' k' q') = q ∙ sym q'

      -- a buffer with nothing in it
      abbrev Nobody : Type 0
      Nobody = (w : ℕ) → thread (trace.at t w) ≡ thread (trace.at t x) → Waits (cores_of m t) r p w → ⊥

      nobody-iff : So (not (any t.len (waiting t M (thread (trace.at t x))))) ↔ Nobody
      nobody-iff =
          let q = so-any t.len (waiting t M (thread (trace.at t x))) in (
            λ s w e k. so-not.0 s (q.1 (w, waits-below w k, (waiting-iff _ w (waits-below w k)).1 (k, e))),
            λ n. so-not.1 (λ s. let u = q.0 s in let d = (waiting-iff _ u.0 u.1).0 u.2 in n u.0 d.1 d.0),
          )

      alone-iff : So (alone (trace.at t x)) ↔ (So (fence (trace.at t x)) ⊎ (So (reads (trace.at t x)) × So (writes (trace.at t x))))
      alone-iff = or-iff same-iff (and-iff same-iff same-iff)

      alone_of : (So (alone (trace.at t x)) → Nobody) → Alone (cores_of m t) x → Nobody
      alone_of n (inl a) = n (alone-iff.1 (inl (elim (test (fence (trace.at t x))) [ inl f ↦ f | inr f ↦ absurd (false≢true (sym a ∙ (operation-iff t x).1 (h, so-not.1 (λ s. false≢true (sym f ∙ s))))) ])))
      alone_of n (inr a) = λ w e k. elim ((lands-iff m t x).0 a.1).1.1 [
        | inl u ↦ n (alone-iff.1 (inr (u, ((writes-iff t x).0 a.0).1))) w e k
        | inr u ↦ let o = (operation-iff t w).0 k.operation in false≢true (sym (waits-off (cores_of m t) (kept_of m t) l S w k) ∙ (lands-iff m t w).1 (o.0, (o.1, inr u)))
      ]

      of-alone : So (alone (trace.at t x)) → Alone (cores_of m t) x
      of-alone s = elim (alone-iff.0 s) [
        | inl f ↦ inl (off (λ o. so-not.0 ((operation-iff t x).0 o).1 f))
        | inr u ↦ inr ((writes-iff t x).1 (h, u.1), (lands-iff m t x).1 (h, (reads-operation (trace.at t x) u.0, inl u.0)))
      ]

      may-iff : So (may t M x) ↔ ((Alone (cores_of m t) x → Nobody) × (So ((frame_of t).reads x) → Got (cores_of m t) r p x ((frame_of t).read x)))
      unfolding may frame_of
      may-iff =
          let q : So (may t M x) ↔ ((So (alone (trace.at t x)) → Nobody) × (So (reads (trace.at t x)) → got t M x ≡ read (trace.at t x))) = and-iff (imp-iff nobody-iff) (imp-iff so-eq) in (
            λ s. let u = q.0 s in (alone_of u.0, λ a. subst (Got (cores_of m t) r p x) (u.1 ((reads-iff t x).0 a).1) got-gives),
            λ u. q.1 (λ a. u.0 (of-alone a), λ a. got-one got-gives (u.1 ((reads-iff t x).1 (h, a)))),
          )

-- how memory and what waits change
module _ (t : Trace) (p : List ℕ) (x : ℕ) where
  holds-other : {a v : ℕ} → (So ((frame_of t).writes x) → (frame_of t).address x ≡ a → ⊥) → Holds t p a v → Holds t (p ++ (x ∷ [])) a v
  holds-other n (kept R i w e q top) = kept R (in-snoc p x R i) w e q (λ R' i' w' e'. elim (snoc-cases p x R' i') [
    | inl d ↦ absurd (n (subst (λ (y : ℕ). So ((frame_of t).writes y)) d w') (ap (frame_of t).address (sym d) ∙ e'))
    | inr j ↦ omega (arith, top R' j w' e', pos-in R p (x ∷ []) i, pos-in R' p (x ∷ []) j)
  ])
  holds-other n (untouched k q) = untouched (λ R i w e. elim (snoc-cases p x R i) [
    | inl d ↦ n (subst (λ (y : ℕ). So ((frame_of t).writes y)) d w) (ap (frame_of t).address (sym d) ∙ e)
    | inr j ↦ k R j w e
  ]) q

  holds-new : count x p ≡ 0 → So ((frame_of t).writes x) → Holds t (p ++ (x ∷ [])) ((frame_of t).address x) ((frame_of t).written x)
  holds-new z w = kept x (last-in p x) w refl refl (λ R i _ _. elim (snoc-cases p x R i) [
    | inl d ↦ omega (arith, ap (pos (p ++ (x ∷ []))) d)
    | inr j ↦ omega (arith, pos-in R p (x ∷ []) j, pos-lt p R j, pos-out x p (x ∷ []) z)
  ])

  -- memory with x written to it
  holds-set : (s : List ℕ) → length s ≡ ADDRESSES → (frame_of t).address x < ADDRESSES → count x p ≡ 0 → So ((frame_of t).writes x)
      → ((a : ℕ) → a < ADDRESSES → Holds t p a (get_or s a 0)) → (a : ℕ) → a < ADDRESSES → Holds t (p ++ (x ∷ [])) a (get_or (set s ((frame_of t).address x) ((frame_of t).written x)) a 0)
  holds-set s e b z w h a c = elim (eq? a ((frame_of t).address x)) [
    | inl d ↦ subst (λ (a : ℕ). Holds t (p ++ (x ∷ [])) a (get_or (set s ((frame_of t).address x) ((frame_of t).written x)) a 0)) (sym d)
        (subst (Holds t (p ++ (x ∷ [])) ((frame_of t).address x)) (sym (get_or-set_same s ((frame_of t).address x) ((frame_of t).written x) 0 (omega arith))) (holds-new z w))
    | inr d ↦ subst (Holds t (p ++ (x ∷ [])) a) (sym (get_or-set_other s ((frame_of t).address x) a ((frame_of t).written x) 0 d)) (holds-other (λ _ q. d (sym q)) (h a c))
  ]

cond-set-length {ℓ} : {A : Type ℓ} (b : Bool) (s : List A) (i : ℕ) (v : A) → length (cond b (set s i v) s) ≡ length s
cond-set-length true s i v = simp length-set
cond-set-length false s i v = refl

pub and-on : (w l : Bool) → So l → (w && l) ≡ w
and-on true l e = e
and-on false l e = refl

pub and-off : (w l : Bool) → l ≡ false → (w && l) ≡ false
and-off true l e = e
and-off false l e = refl

module _ (t : Trace) (form : Form t) (m : ℕ) (l : Laws (cores_of m t) (kept_of m t)) where
  module _ {M : Machine} {r p : List ℕ} (T : Tells t m M r p) (S : Sound (cores_of m t) (kept_of m t) r p) where
    fits : (x : ℕ) → x < t.len → x < RECORDS
    fits x h = omega (arith, form.fits)

    ran-sized : (x : ℕ) → Sized (ran_as t m M x)
    unfolding ran_as
    ran-sized x = record {
      ran = simp length-set T.sized.ran;
      waits = cond-set-length (writes (trace.at t x) && not (lands m (trace.at t x))) M.waits x true ∙ T.sized.waits;
      memory = cond-set-length (writes (trace.at t x) && lands m (trace.at t x)) M.memory (address (trace.at t x)) (written (trace.at t x)) ∙ T.sized.memory;
    }

    module _ (x : ℕ) (g : Run (cores_of m t) r p x) (h : x < t.len) where
      ran-flag : (y : ℕ) → y < t.len → So (get_or (set M.ran x true) y false) ↔ (y ∈ (x ∷ r))
      ran-flag y b = flag-set M.ran r x y (omega (arith, fits x h, T.sized.ran)) (T.ran y b)

      other : (y : ℕ) → y ∈ r → y ≢ x
      other y i e = omega (arith, g.fresh, i, ap (λ (y : ℕ). count y r) e)

      through-waits : (y : ℕ) → Waits (cores_of m t) r p y ↔ Waits (cores_of m t) (x ∷ r) (p ++ (x ∷ [])) y
      through-waits y = (
        λ w. record { operation = w.operation; ran = cons-in y x r w.ran; out = snoc-other p x y (other y w.ran) ∙ w.out },
        λ w.
            let d : y ≢ x = λ e. omega (arith, w.out, last-in p x, ap (λ (y : ℕ). count y (p ++ (x ∷ []))) e) in
            record { operation = w.operation; ran = elim (cons-cases y x r w.ran) [ inl e ↦ absurd (d e) | inr j ↦ j ]; out = sym (snoc-other p x y d) ∙ w.out },
      )

      enters-waits : (y : ℕ) → y ≢ x → Waits (cores_of m t) r p y ↔ Waits (cores_of m t) (x ∷ r) p y
      enters-waits y d = (
        λ w. record { operation = w.operation; ran = cons-in y x r w.ran; out = w.out },
        λ w. record { operation = w.operation; ran = elim (cons-cases y x r w.ran) [ inl e ↦ absurd (d e) | inr j ↦ j ]; out = w.out },
      )

      lands-m : (cores_of m t).lands x ≡ lands m (trace.at t x)
      lands-m = ap (λ b. b && lands m (trace.at t x)) (lt-ltb x t.len h)

      writes-x : (frame_of t).writes x ≡ writes (trace.at t x)
      unfolding frame_of
      writes-x = ap (λ b. b && writes (trace.at t x)) (lt-ltb x t.len h)

      through-tells : So ((cores_of m t).lands x) → Tells t m (ran_as t m M x) (x ∷ r) (p ++ (x ∷ []))
      unfolding ran_as frame_of
      through-tells u = record {
        sized = ran-sized x;
        ran = ran-flag;
        waits = λ y b.
            let e : (ran_as t m M x).waits ≡ M.waits = ap (λ b. cond b (set M.waits x true) M.waits) (and-off (writes (trace.at t x)) (not (lands m (trace.at t x))) (off (λ n. so-not.0 n on))) in
            let q = T.waits y b in
            let k = through-waits y in
            (λ s. k.0 (q.0 (subst (λ (w : List Bool). So (get_or w y false)) e s)), λ w. subst (λ (w : List Bool). So (get_or w y false)) (sym e) (q.1 (k.1 w)));
        holds = memory (writes (trace.at t x)) refl;
      }
        where
          on : So (lands m (trace.at t x))
          on = sym lands-m ∙ u

          memory : (b : Bool) → writes (trace.at t x) ≡ b → (a : ℕ) → a < ADDRESSES → Holds t (p ++ (x ∷ [])) a (get_or (ran_as t m M x).memory a 0)
          memory true e a c =
              let q : (ran_as t m M x).memory ≡ set M.memory (address (trace.at t x)) (written (trace.at t x)) = ap (λ b. cond b (set M.memory (address (trace.at t x)) (written (trace.at t x))) M.memory) (and-on _ _ on ∙ e) in
              subst (λ (w : List ℕ). Holds t (p ++ (x ∷ [])) a (get_or w a 0)) (sym q)
              (holds-set t p x M.memory T.sized.memory (form.used x h).keeps.address_below (not-placed (cores_of m t) (kept_of m t) l S x g) (writes-x ∙ e) T.holds a c)
          memory false e a c =
              let q : (ran_as t m M x).memory ≡ M.memory = ap (λ b. cond b (set M.memory (address (trace.at t x)) (written (trace.at t x))) M.memory) (and-on _ _ on ∙ e) in
              subst (λ (w : List ℕ). Holds t (p ++ (x ∷ [])) a (get_or w a 0)) (sym q)
              (holds-other t p x (λ w _. false≢true (sym (writes-x ∙ e) ∙ w)) (T.holds a c))

      enters-tells : (cores_of m t).lands x ≡ false → Tells t m (ran_as t m M x) (x ∷ r) p
      unfolding ran_as frame_of
      enters-tells u = record {
        sized = ran-sized x;
        ran = ran-flag;
        waits = flags (writes (trace.at t x)) refl;
        holds = λ a c.
            let q : (ran_as t m M x).memory ≡ M.memory = ap (λ b. cond b (set M.memory (address (trace.at t x)) (written (trace.at t x))) M.memory) (and-off (writes (trace.at t x)) (lands m (trace.at t x)) (sym lands-m ∙ u)) in
            subst (λ (w : List ℕ). Holds t p a (get_or w a 0)) (sym q) (T.holds a c);
      }
        where
          on : So (not (lands m (trace.at t x)))
          on = so-not.1 (λ n. false≢true (sym u ∙ lands-m ∙ n))

          flags : (b : Bool) → writes (trace.at t x) ≡ b → (y : ℕ) → y < t.len → So (get_or (ran_as t m M x).waits y false) ↔ Waits (cores_of m t) (x ∷ r) p y
          flags true e y c =
              let q : (ran_as t m M x).waits ≡ set M.waits x true = ap (λ b. cond b (set M.waits x true) M.waits) (and-on _ _ on ∙ e) in
              subst (λ (w : List Bool). So (get_or w y false) ↔ Waits (cores_of m t) (x ∷ r) p y) (sym q) (elim (eq? y x) [
                | inl d ↦ subst (λ (y : ℕ). So (get_or (set M.waits x true) y false) ↔ Waits (cores_of m t) (x ∷ r) p y) (sym d) (
                  λ _. record { operation = (form-good t form).writes x (writes-x ∙ e); ran = omega (arith, count-here x x r refl); out = not-placed (cores_of m t) (kept_of m t) l S x g },
                  λ _. get_or-set_same M.waits x true false (omega (arith, fits x h, T.sized.waits)),
                )
                | inr d ↦
                    let k = get_or-set_other M.waits x y true false d in
                    let w = enters-waits y d in
                    (λ s. w.0 ((T.waits y c).0 (sym k ∙ s)), λ v. k ∙ (T.waits y c).1 (w.1 v))
              ])
          flags false e y c =
              let q : (ran_as t m M x).waits ≡ M.waits = ap (λ b. cond b (set M.waits x true) M.waits) (and-on _ _ on ∙ e) in
              let no : So ((frame_of t).operation x) → ⊥ = λ o. false≢true (sym (writes-x ∙ e) ∙ l.waits-writes x o u) in
              subst (λ (w : List Bool). So (get_or w y false) ↔ Waits (cores_of m t) (x ∷ r) p y) (sym q) (
                λ s. let v = (T.waits y c).0 s in (enters-waits y (other y v.ran)).0 v,
                λ v. (T.waits y c).1 ((enters-waits y (λ d. no (subst (λ (y : ℕ). So ((frame_of t).operation y)) d v.operation))).1 v),
              )

    empties-tells : (x : ℕ) → Empty (cores_of m t) r p x → Tells t m (emptied t M x) r (p ++ (x ∷ []))
    unfolding emptied frame_of
    empties-tells x g = record {
      sized = record { ran = T.sized.ran; waits = simp length-set T.sized.waits; memory = simp length-set T.sized.memory };
      ran = T.ran;
      waits = λ y c. elim (eq? y x) [
        | inl d ↦ (
          λ s. absurd (false≢true (sym (subst (λ (y : ℕ). get_or (set M.waits x false) y false ≡ false) (sym d) (get_or-set_same M.waits x false false (omega (arith, fits x below, T.sized.waits)))) ∙ s)),
          λ w. absurd (omega (arith, w.out, last-in p x, ap (λ (y : ℕ). count y (p ++ (x ∷ []))) d)),
        )
        | inr d ↦
            let k = get_or-set_other M.waits x y false false d in (
              λ s. let w = (T.waits y c).0 (sym k ∙ s) in record { operation = w.operation; ran = w.ran; out = snoc-other p x y d ∙ w.out },
              λ w. k ∙ (T.waits y c).1 (record { operation = w.operation; ran = w.ran; out = sym (snoc-other p x y d) ∙ w.out }),
            )
      ];
      holds = holds-set t p x M.memory T.sized.memory (form.used x below).keeps.address_below g.waits.out (waits-store (cores_of m t) (kept_of m t) l S x g.waits) T.holds;
    }
      where
        below : x < t.len
        below = S.under x g.waits.ran

    -- a possible step of the machine is one of its history
    pub step-go : (s : ℕ) (N : Machine) → step t m M s ≡ some N → (r' : List ℕ) × (p' : List ℕ) × Go (cores_of m t) r p s r' p' × Tells t m N r' p'
    unfolding step frame_of
    step-go s N e = choose (ltb s THREADS) refl e
      where
        ran-one : (x : ℕ) → lowest (due t M s) t.len 0 ≡ some x → (b : Bool) → may t M x ≡ b → cond b (some (ran_as t m M x)) none ≡ some N → (r' : List ℕ) × (p' : List ℕ) × Go (cores_of m t) r p s r' p' × Tells t m N r' p'
        ran-one x f true u e =
            let (h, z, q, all) = due-next t form m l T S s x f in
            let k = (may-iff t form m l T S x h).0 u in
            let g : Run (cores_of m t) r p x = record { used = h; fresh = z; next = all; alone = k.0; value = k.1 } in
            let n : ran_as t m M x ≡ N = cc in
            elim (test ((cores_of m t).lands x)) [
              | inl v ↦ (x ∷ r, p ++ (x ∷ []), subst (λ (s : ℕ). Go (cores_of m t) r p s (x ∷ r) (p ++ (x ∷ []))) q (through x g v), subst (λ (N : Machine). Tells t m N (x ∷ r) (p ++ (x ∷ []))) n (through-tells x g h v))
              | inr v ↦ (x ∷ r, p, subst (λ (s : ℕ). Go (cores_of m t) r p s (x ∷ r) p) q (enters x g v), subst (λ (N : Machine). Tells t m N (x ∷ r) p) n (enters-tells x g h v))
            ]
        ran-one x f false u e = let z : ◌≡◌ {A = ℕ} 0 1 = cc in absurd (omega arith)

        pick_run : (o : Option ℕ) → lowest (due t M s) t.len 0 ≡ o → runs t m M o ≡ some N → (r' : List ℕ) × (p' : List ℕ) × Go (cores_of m t) r p s r' p' × Tells t m N r' p'
        pick_run none f e = let z : ◌≡◌ {A = ℕ} 0 1 = cc in absurd (omega arith)
        pick_run (some x) f e = ran-one x f (may t M x) refl e

        pick-empty : (o : Option ℕ) → THREADS ≤ s → lowest (waiting t M (s - THREADS)) t.len 0 ≡ o → empties t M o ≡ some N → (r' : List ℕ) × (p' : List ℕ) × Go (cores_of m t) r p s r' p' × Tells t m N r' p'
        pick-empty none b f e = let z : ◌≡◌ {A = ℕ} 0 1 = cc in absurd (omega arith)
        pick-empty (some x) b f e =
            let (g, q) = waiting-oldest t form m l T S (s - THREADS) x f in
            let n : emptied t M x ≡ N = cc in
            let i : THREADS + thread (trace.at t x) ≡ s = omega (arith, q, b) in
            (r, p ++ (x ∷ []), subst (λ (s : ℕ). Go (cores_of m t) r p s r (p ++ (x ∷ []))) i (history.empties x g), subst (λ (N : Machine). Tells t m N r (p ++ (x ∷ []))) n (empties-tells x g))

        choose : (b : Bool) → ltb s THREADS ≡ b → cond b (runs t m M (lowest (due t M s) t.len 0)) (empties t M (lowest (waiting t M (s - THREADS)) t.len 0)) ≡ some N
            → (r' : List ℕ) × (p' : List ℕ) × Go (cores_of m t) r p s r' p' × Tells t m N r' p'
        choose true b e = pick_run _ refl e
        choose false b e = pick-empty _ (omega (arith, le_of b)) refl e
          where
            le_of : ltb s THREADS ≡ false → THREADS ≤ s
            le_of b = elim (dec_lt s THREADS) [ yes h ↦ absurd (false≢true (sym b ∙ lt-ltb s THREADS h)) | no h ↦ omega arith ]

    pub ran-step : (x : ℕ) → Run (cores_of m t) r p x → step t m M (thread (trace.at t x)) ≡ some (ran_as t m M x)
    unfolding step frame_of
    ran-step x g =
        ap (λ b. cond b (runs t m M (lowest (due t M (thread (trace.at t x))) t.len 0)) (empties t M (lowest (waiting t M (thread (trace.at t x) - THREADS)) t.len 0))) (lt-ltb (thread (trace.at t x)) THREADS (form.used x g.used).keeps.thread-below)
        ∙ ap (runs t m M) (next-due t form m l T S x g.used g.fresh g.next)
        ∙ ap (λ b. cond b (some (ran_as t m M x)) none) ((may-iff t form m l T S x g.used).1 (g.alone, g.value))

    -- and the other way round
    pub go_step : {s : ℕ} {r' p' : List ℕ} → Go (cores_of m t) r p s r' p' → (N : Machine) × (step t m M s ≡ some N) × Tells t m N r' p'
    unfolding step frame_of
    go_step (through x g u) = (ran_as t m M x, ran-step x g, through-tells x g g.used u)
    go_step (enters x g u) = (ran_as t m M x, ran-step x g, enters-tells x g g.used u)
    go_step (history.empties x g) =
        let b : ltb (THREADS + thread (trace.at t x)) THREADS ≡ false = le-ltb (THREADS + thread (trace.at t x)) THREADS (omega arith) in
        let q : (THREADS + thread (trace.at t x)) - THREADS ≡ thread (trace.at t x) = omega arith in (
          emptied t M x,
          ap (λ b. cond b (runs t m M (lowest (due t M (THREADS + thread (trace.at t x))) t.len 0)) (empties t M (lowest (waiting t M ((THREADS + thread (trace.at t x)) - THREADS)) t.len 0))) b
              ∙ ap (λ (τ : ℕ). empties t M (lowest (waiting t M τ) t.len 0)) q
              ∙ ap (empties t M) (oldest-waiting t form m l T S x g),
          empties-tells x g,
        )

-- no flag is set at the start
pub no_flag : (n x : ℕ) → get_or (replicate n false) x false ≡ false
no_flag zero x = refl
no_flag (suc n) zero = refl
no_flag (suc n) (suc x) = no_flag n x
