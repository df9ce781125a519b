-- The steps that are built for a valid order are those of a run.
--
--   Drives t m b r p == the steps so far run the records r, and p reached memory
--   told-longer      == one step more
--   step-on          == what a possible step adds
--   sweeps           == the records that are asked for run in turn
--   place            == an operation reaches memory
--   placing-drives   == so do all of an order
--   driven           == and then the fences that are left run, and nothing waits
use mathlib.Core.Path.{◌≡◌, refl, sym, ap, ◌∙◌, subst}
use mathlib.Core.Logic.{◌↔◌, inl, inr}
use mathlib.Core.Bool.{Bool, true, false, cond, So, not, ◌&&◌, ◌||◌, false≢true}
use mathlib.Core.List.{List, [], ◌∷◌, ◌++◌, append-nil}
use Prim.Native.Nat.{ℕ, zero, suc, ◌<◌, ◌≤◌}
use native.Mathlib.Numerals.{add-one}
use native.Mathlib.Omega.{arith}
use lib.Dec.{eqb}
use lib.ListN.{length, get_or, set, take, length-set, length-append, length-replicate}
use lib.Seq.{append_snoc, take-suc-set, length-take-le}
use borrow.Author.Tests.{lt-ltb}
use Rattle.laws.specs.Places.{count}
use Rattle.laws.proofs.Tests.{and-iff, same-iff, so-eq, so-not, test, last?, eq?}
use Rattle.laws.proofs.Places.{count-here, count-later}
use Rattle.trace.specs.Bounds.{RECORDS}
use Rattle.trace.specs.Op.{thread}
use Rattle.trace.specs.Trace.{at}
use Rattle.trace.specs.FormFacts.{Form}
use Rattle.rules.specs.Order.{Valid}
use Rattle.trace.specs.Meaning.{frame_of}
use Rattle.trace.specs.declared.Trace.{Trace}
use Rattle.trace.proofs.Good.{form-good}
use Rattle.trace.proofs.Meaning.{operation-iff}
use Rattle.pairs.specs.Kept.{kept_of}
use Rattle.machine.specs.declared.Built.{Built}
use Rattle.machine.specs.Machine.{lands}
use Rattle.machine.specs.Replay.{STEPS, told, put, began, passed_record, swept, placed_next, placing, none_built, built_of}
use Rattle.machine.proofs.History.{◌∈◌, Go, through, enters, empties, Goes, done, more, Ended, Laws}
use Rattle.machine.proofs.CoresOf.{cores_of}
use Rattle.machine.proofs.Snoc.{in?, flag-set}
use Rattle.machine.proofs.Invariant.{Sound, nothing-sound, goes-sound, waits-off}
use Rattle.machine.proofs.Driving.{goes-join, goes-bound, c-operation, k_off, k-run, c-run, c-oldest, left, nobody-waits}
use Rattle.machine.proofs.Lockstep.{and-off, no_flag}
use Rattle.machine.proofs.ByCases.{longer, put_is, passed-runs, passed-idle, placed-lands, placed-waits}

pub record Drives (t : Trace) (m : ℕ) (b : Built) (r p : List ℕ) : Type 0 where
  pub flags : length b.ran ≡ RECORDS
  pub places : length b.steps ≡ STEPS
  pub fits : b.len ≤ STEPS
  pub ran : (x : ℕ) → x < t.len → So (get_or b.ran x false) ↔ (x ∈ r)
  pub goes : Goes (cores_of m t) [] [] (told b) r p

told-longer : (b : Built) (s : ℕ) → b.len < length b.steps → told (longer b s) ≡ told b ++ (s ∷ [])
told-longer b s h = ap (λ (n : ℕ). take n (set b.steps b.len s)) (add-one b.len) ∙ take-suc-set b.steps b.len s h

module _ (t : Trace) (form : Form t) (m : ℕ) (l : Laws (cores_of m t) (kept_of m t)) where
  drives-sound : {b : Built} {r p : List ℕ} → Drives t m b r p → Sound (cores_of m t) (kept_of m t) r p
  drives-sound d = goes-sound (cores_of m t) (kept_of m t) l d.goes (nothing-sound (cores_of m t) (kept_of m t))

  -- a list of possible steps has room for each of them
  room : {b : Built} {r p r' p' : List ℕ} {s : ℕ} → Drives t m b r p → Go (cores_of m t) r p s r' p' → b.len < STEPS
  unfolding frame_of
  room {b} {s} d g =
      omega (
        arith,
        goes-bound (cores_of m t) (form-good t form) (kept_of m t) l (goes-join (cores_of m t) d.goes (more g done)),
        length-append (told b) (s ∷ []),
        length-take-le b.len b.steps (omega (arith, d.fits, d.places)),
        form.fits,
      )

  step-on : {b : Built} {r p r' p' : List ℕ} {s : ℕ} (f : List Bool) → Drives t m b r p → length f ≡ RECORDS → ((x : ℕ) → x < t.len → So (get_or f x false) ↔ (x ∈ r'))
      → Go (cores_of m t) r p s r' p' → Drives t m (put (record { ran = f; steps = b.steps; len = b.len }) s) r' p'
  step-on {b} {r} {p} {r'} {p'} {s} f d e q g =
      let h = room d g in
      subst (λ (a : Built). Drives t m a r' p') (sym (put_is (record { ran = f; steps = b.steps; len = b.len }) s h)) (record {
        flags = e;
        places = length-set b.steps b.len s ∙ d.places;
        fits = omega arith;
        ran = q;
        goes = subst (λ (ss : List ℕ). Goes (cores_of m t) [] [] ss r' p') (sym (told-longer b s (omega (arith, d.places)))) (goes-join (cores_of m t) d.goes (more g done));
      })

  -- a record runs
  began-drives : {b : Built} {r p p' : List ℕ} (k : ℕ) → k < t.len → Drives t m b r p → Go (cores_of m t) r p (thread (at t k)) (k ∷ r) p' → Drives t m (began b k (thread (at t k))) (k ∷ r) p'
  began-drives {b} {r} k h d g =
      step-on (set b.ran k true) d (length-set b.ran k true ∙ d.flags) (λ x u. flag-set b.ran r k x (omega (arith, form.fits, d.flags)) (d.ran x u)) g

  -- what is asked for runs in turn: asks, that each may, given what stays true of the records that ran
  module _ (every : Bool) (core : ℕ) (p : List ℕ) (A : List ℕ → Type 0) where
    abbrev Asked : ℕ → Type 0
    Asked k = So (every || eqb (thread (at t k)) core)

    sweeps : (n : ℕ) → n ≤ t.len
        → ((k : ℕ) → k < n → Asked k → (r : List ℕ) → Sound (cores_of m t) (kept_of m t) r p → A r → count k r ≡ 0 → ((w : ℕ) → w < k → Asked w → w ∈ r) → Go (cores_of m t) r p (thread (at t k)) (k ∷ r) p)
        → ((k : ℕ) → k < n → (r : List ℕ) → A r → A (k ∷ r))
        → {b : Built} {r : List ℕ} → Drives t m b r p → A r
        → (r' : List ℕ) × Drives t m (swept t every core b n) r' p × A r' × ((w : ℕ) → w < n → Asked w → w ∈ r')
    unfolding swept
    sweeps zero h asks keeps {b} {r} d a = (r, d, a, λ w u. absurd (omega arith))
    sweeps (suc n) h asks keeps {b} {r} d a =
        go (sweeps n (omega arith) (λ k u. asks k (omega arith)) (λ k u. keeps k (omega arith)) d a)
      where
        go : (r' : List ℕ) × Drives t m (swept t every core b n) r' p × A r' × ((w : ℕ) → w < n → Asked w → w ∈ r')
            → (r' : List ℕ) × Drives t m (passed_record t every core n (swept t every core b n)) r' p × A r' × ((w : ℕ) → w < suc n → Asked w → w ∈ r')
        go (r', d', a', all) = elim (test (every || eqb (thread (at t n)) core)) [
          | inr f ↦ (
            r',
            subst (λ (b : Built). Drives t m b r' p) (sym (passed-idle t every core n (swept t every core b n) (and-off (not (get_or (swept t every core b n).ran n false)) (every || eqb (thread (at t n)) core) f))) d',
            a',
            λ w u q. elim (last? u) [ inl e ↦ absurd (false≢true (sym f ∙ subst Asked e q)) | inr v ↦ all w v q ],
          )
          | inl f ↦ elim (in? n r') [
            | inl i ↦ (
              r',
              subst (λ (b : Built). Drives t m b r' p) (sym (passed-idle t every core n (swept t every core b n) (ap (λ (x : Bool). not x && (every || eqb (thread (at t n)) core)) ((d'.ran n (omega arith)).1 i)))) d',
              a',
              λ w u q. elim (last? u) [ inl e ↦ subst (λ (w : ℕ). w ∈ r') (sym e) i | inr v ↦ all w v q ],
            )
            | inr z ↦ (
              n ∷ r',
              subst (λ (b : Built). Drives t m b (n ∷ r') p)
                  (sym (passed-runs t every core n (swept t every core b n) ((and-iff same-iff same-iff).1 (so-not.1 (λ (s : So (get_or (swept t every core b n).ran n false)). omega (arith, z, (d'.ran n h).0 s)), f))))
                  (began-drives n (omega arith) d' (asks n (omega arith) f r' (drives-sound d') a' z all)),
              keeps n (omega arith) r' a',
              λ w u q. elim (last? u) [
                | inl e ↦ omega (arith, count-here w n r' e)
                | inr v ↦ elim (eq? w n) [ inl e ↦ omega (arith, count-here w n r' e) | inr o ↦ omega (arith, count-later w n r' o, all w v q) ]
              ],
            )
          ]
        ]

  lands-is : (x : ℕ) → x < t.len → (cores_of m t).lands x ≡ lands m (at t x)
  lands-is x h = ap (λ (b : Bool). b && lands m (at t x)) (lt-ltb x t.len h)

  module _ (p : List ℕ) (c : ℕ) (rest : List ℕ) (v : Valid (frame_of t) (kept_of m t) (p ++ c ∷ rest)) where
    below : c < t.len
    below = ((operation-iff t c).0 (c-operation (cores_of m t) (form-good t form) (kept_of m t) l p c rest v)).0

    own : (w : ℕ) → So (false || eqb (thread (at t w)) (thread (at t c))) ↔ (thread (at t w) ≡ thread (at t c))
    own w = so-eq

    -- c ran before, and waits
    ran-place : {b : Built} {r : List ℕ} → Drives t m b r p → c ∈ r → (r' : List ℕ) × Drives t m (placed_next t m b c) r' (p ++ (c ∷ []))
    ran-place {b} {r} d i =
        let start : (w : ℕ) → w < suc c → thread (at t w) ≡ thread (at t c) → w ∈ r = λ w u e. elim (last? u) [
          | inl q ↦ subst (λ (w : ℕ). w ∈ r) (sym q) i
          | inr q ↦ (drives-sound d).closed w c i (l.ordered w c q e)
        ] in
        let (r', d', _, all) = sweeps false (thread (at t c)) p (λ r. (w : ℕ) → w < suc c → thread (at t w) ≡ thread (at t c) → w ∈ r) (suc c) (omega (arith, below))
        (λ k u f r s a z _. absurd (omega (arith, z, a k u ((own k).0 f))))
        (λ k u r a w x e. omega (arith, a w x e, more-in w k r)) d start in
        let S = drives-sound d' in
        let here : c ∈ r' = all c (omega arith) ((own c).1 refl) in
        let g = c-oldest (cores_of m t) (form-good t form) (kept_of m t) l p c rest v S here in
        let w = waits-off (cores_of m t) (kept_of m t) l S c g.waits in
        (r', subst (λ (b : Built). Drives t m b r' (p ++ (c ∷ []))) (sym (placed-waits t m b c (sym (lands-is c below) ∙ w))) (step-on (swept t false (thread (at t c)) b (suc c)).ran d' d'.flags d'.ran (empties c g)))
      where
        more-in : (w k : ℕ) (r : List ℕ) → count w r ≤ count w (k ∷ r)
        more-in w k r = elim (eq? w k) [ inl e ↦ omega (arith, count-here w k r e) | inr o ↦ omega (arith, count-later w k r o) ]

    -- c has not run: its core runs up to it
    fresh-place : {b : Built} {r : List ℕ} → Drives t m b r p → count c r ≡ 0 → (r' : List ℕ) × Drives t m (placed_next t m b c) r' (p ++ (c ∷ []))
    unfolding swept
    fresh-place {b} {r} d z =
        let (r', d', z', all) = sweeps false (thread (at t c)) p (λ r. count c r ≡ 0) c (omega (arith, below))
        (λ k u f r s a n before. enters k
        (k-run (cores_of m t) (form-good t form) (kept_of m t) l p c rest v s a k u ((own k).0 f) n (λ w h e. before w h ((own w).1 e)))
        (k_off (cores_of m t) (form-good t form) (kept_of m t) l p c rest v s a k u ((own k).0 f) n))
        (λ k u r a. count-later c k r (omega arith) ∙ a) d z in
        let S = drives-sound d' in
        let g = c-run (cores_of m t) (form-good t form) (kept_of m t) l p c rest v S z' (λ w e. let o = l.order w c e in all w o.0 ((own w).1 o.1)) in
        let runs = passed-runs t false (thread (at t c)) c (swept t false (thread (at t c)) b c) ((and-iff same-iff same-iff).1 (so-not.1 (λ (s : So (get_or (swept t false (thread (at t c)) b c).ran c false)). omega (arith, z', (d'.ran c below).0 s)), (own c).1 refl)) in
        elim (test ((cores_of m t).lands c)) [
          | inl u ↦ (
            c ∷ r',
            subst (λ (b : Built). Drives t m b (c ∷ r') (p ++ (c ∷ []))) (sym (placed-lands t m b c (sym (lands-is c below) ∙ u) ∙ runs)) (began-drives c below d' (through c g u)),
          )
          | inr u ↦
              let e : Go (cores_of m t) r' p (thread (at t c)) (c ∷ r') p = enters c g u in
              let d'' : Drives t m (swept t false (thread (at t c)) b (suc c)) (c ∷ r') p = subst (λ (b : Built). Drives t m b (c ∷ r') p) (sym runs) (began-drives c below d' e) in
              let o = c-oldest (cores_of m t) (form-good t form) (kept_of m t) l p c rest v (drives-sound d'') (omega (arith, count-here c c r' refl)) in
              (c ∷ r', subst (λ (b : Built). Drives t m b (c ∷ r') (p ++ (c ∷ []))) (sym (placed-waits t m b c (sym (lands-is c below) ∙ u))) (step-on (swept t false (thread (at t c)) b (suc c)).ran d'' d''.flags d''.ran (empties c o)))
        ]

    place : {b : Built} {r : List ℕ} → Drives t m b r p → (r' : List ℕ) × Drives t m (placed_next t m b c) r' (p ++ (c ∷ []))
    place {b} {r} d = elim (in? c r) [ inl i ↦ ran-place d i | inr z ↦ fresh-place d z ]

  placing-drives : (p s : List ℕ) → Valid (frame_of t) (kept_of m t) (p ++ s) → {b : Built} {r : List ℕ} → Drives t m b r p → (r' : List ℕ) × Drives t m (placing t m b s) r' (p ++ s)
  unfolding placing
  placing-drives p [] v {b} {r} d = (r, subst (Drives t m b r) (sym (append-nil p)) d)
  placing-drives p (c ∷ s) v {b} {r} d =
      let (r', d') = place p c s v d in
      let (r'', d'') = placing-drives (p ++ (c ∷ [])) s (subst (Valid (frame_of t) (kept_of m t)) (sym (append_snoc p c s)) v) d' in
      (r'', subst (Drives t m (placing t m (placed_next t m b c) s) r'') (append_snoc p c s) d'')

  blank-drives : Drives t m none_built [] []
  unfolding count
  blank-drives = record {
    flags = length-replicate RECORDS false;
    places = length-replicate {A = ℕ} STEPS 0;
    fits = omega arith;
    ran = λ x h. (λ s. absurd (false≢true (sym (no_flag RECORDS x) ∙ s)), λ i. absurd (omega arith));
    goes = done;
  }

  pub driven : (xs : List ℕ) → Valid (frame_of t) (kept_of m t) xs → (r : List ℕ) × Drives t m (built_of t m xs) r xs × Ended (cores_of m t) r xs
  unfolding built_of frame_of
  driven xs v =
      let (r, d) = placing-drives [] xs v blank-drives in
      let full : (x : ℕ) → So ((frame_of t).operation x) → x ∈ xs = λ x s. omega (arith, v.all x ∙ ap (λ (b : Bool). cond b 1 0) s) in
      let (r', e, _, all) = sweeps true 0 xs (λ _. ◌≡◌ {A = ℕ} 0 0) t.len (omega arith)
      (λ k h _ r s _ z before. left (cores_of m t) (form-good t form) (kept_of m t) l xs full s k h z (λ w u. before w u refl))
      (λ k h r a. a) d refl in
      (r', e, record { all = λ x h. all x h refl; empty = nobody-waits (cores_of m t) (form-good t form) (kept_of m t) l xs full })
