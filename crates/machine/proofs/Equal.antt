-- A trace has a valid order under SC or TSO exactly when some list of steps runs all its records and ends with empty buffers.
--
--   start-tells   == before the first step nothing happened
--   finished-iff  == the machine is finished where its history is
--   run-goes, goes-run == a run through the steps, and its history
--   Short t ss    == each is a byte below twice the threads, and there are at most twice as many as records
--   possible-short, stuck-short, place-below == so few are all lists of possible steps, and so low is the place of the first impossible one
--   built-through == what is built for a valid order runs it through
--   machine-exactly == the theorem
--   steps-exactly, replay-through == steps are handed back exactly for the valid orders, and the machine runs them through
use mathlib.Core.Path.{◌≡◌, refl, sym, ap, ◌∙◌, subst}
use mathlib.Core.Logic.{◌↔◌, inl, inr}
use mathlib.Core.Bool.{Bool, true, false, cond, So, not, ◌&&◌, false≢true}
use mathlib.Core.List.{List, [], ◌∷◌}
use mathlib.Core.Option.{Option, none, some}
use Prim.Native.Nat.{ℕ, zero, suc, ◌+◌, ◌*◌, ◌<◌, ◌≤◌}
use native.Mathlib.Omega.{arith}
use native.Mathlib.Nat.{not-suc-le-zero}
use lib.ListN.{length, get_or, take, length-replicate}
use Rattle.laws.specs.Places.{count}
use Rattle.laws.proofs.Tests.{and-iff, so-not, so-all, test}
use Rattle.laws.proofs.Rows.{row-long, row-place}
use Rattle.trace.specs.Bounds.{RECORDS, THREADS, ADDRESSES}
use Rattle.trace.specs.Trace as trace
use Rattle.trace.specs.FormFacts.{Form}
use Rattle.rules.specs.Order.{Valid}
use Rattle.trace.specs.WellFormed.{well_formed}
use Rattle.trace.specs.Meaning.{frame_of}
use Rattle.trace.specs.declared.Trace.{Trace}
use Rattle.trace.proofs.WellFormed.{form-iff}
use Rattle.trace.proofs.Good.{form-good}
use Rattle.pairs.specs.Kept.{kept_of}
use Rattle.judge.specs.Judged.{judged_of}
use Rattle.pairs.specs.Accepted.{Accepted}
use Rattle.judge.specs.declared.judging.Broken.{Broken}
use Rattle.judge.proofs.Judged.{accepted-yes}
use Rattle.machine.specs.declared.Steps.{Steps}
use Rattle.machine.specs.declared.Given.TheVariants as goal
use Rattle.machine.specs.Replay.{STEPS, told, built_of, yes?, no_steps, listed, steps_of}
use Rattle.machine.specs.declared.Machine.{Machine}
use Rattle.machine.specs.declared.Refusal.{Refusal}
use Rattle.machine.specs.declared.Refusal.TheVariants.{NoModel, NotWellFormed, Stuck}
use Rattle.std.specs.Prelude.{Result, Ok, Err}
use Rattle.machine.specs.Machine.{machined, machine_start, step, finished, run, answer, stuck_at}
use Rattle.machine.proofs.CoresOf.{cores_of}
use Rattle.machine.proofs.History.{Go, through, enters, empties, Goes, done, more, Ended, Laws}
use Rattle.machine.proofs.Invariant.{Sound, go-sound, nothing-sound}
use Rattle.machine.proofs.Values.{run-valid}
use Rattle.machine.proofs.Driving.{goes-bound}
use Rattle.machine.proofs.ByCases.{yes-is, answer-model, answer-form}
use Rattle.machine.proofs.Driven.{driven}
use Rattle.machine.proofs.KeptLaws.{model-laws}
use Rattle.machine.proofs.Lockstep.{Tells, untouched, step-go, go_step, no_flag}

pub start-tells : (t : Trace) (m : ℕ) → Tells t m (machine_start t) [] []
unfolding machine_start count
start-tells t m = record {
  sized = record { ran = simp length-replicate; waits = simp length-replicate; memory = row-long (trace.first t) 0 ADDRESSES };
  ran = λ x h. (λ s. absurd (false≢true (sym (no_flag RECORDS x) ∙ s)), λ i. absurd (omega arith));
  waits = λ x h. (λ s. absurd (false≢true (sym (no_flag RECORDS x) ∙ s)), λ w. absurd (omega (arith, w.ran)));
  holds = λ a h. untouched (λ S i. absurd (omega arith)) (row-place (trace.first t) 0 ADDRESSES a h);
}

module _ (t : Trace) (form : Form t) (m : ℕ) (l : Laws (cores_of m t) (kept_of m t)) where
  finished-iff : {M : Machine} {r p : List ℕ} → Tells t m M r p → Sound (cores_of m t) (kept_of m t) r p → So (finished t M) ↔ Ended (cores_of m t) r p
  unfolding finished frame_of
  finished-iff {M} {r} {p} T S = (
    λ s. record {
      all = λ x h. (T.ran x h).0 (part x ((so-all _ _).0 s x h)).0;
      empty = λ x w. let h = S.under x w.ran in so-not.0 (part x ((so-all _ _).0 s x h)).1 ((T.waits x h).1 w);
    },
    λ e. (so-all _ _).1 (λ x h. (both x).1 ((T.ran x h).1 (e.all x h), so-not.1 (λ s. e.empty x ((T.waits x h).0 s)))),
  )
    where
      both : (x : ℕ) → So (get_or M.ran x false && not (get_or M.waits x false)) ↔ (So (get_or M.ran x false) × So (not (get_or M.waits x false)))
      both x = and-iff ((λ s. s, λ s. s)) ((λ s. s, λ s. s))

      part : (x : ℕ) → So (get_or M.ran x false && not (get_or M.waits x false)) → So (get_or M.ran x false) × So (not (get_or M.waits x false))
      part x = (both x).0

  run-goes : (ss : List ℕ) (i : ℕ) (b : Bool) {M : Machine} {r p : List ℕ} → Tells t m M r p → Sound (cores_of m t) (kept_of m t) r p → run t m M ss i ≡ Ok b
      → (r' : List ℕ) × (p' : List ℕ) × Goes (cores_of m t) r p ss r' p' × (So b → Ended (cores_of m t) r' p')
  unfolding run
  run-goes [] i b {M} {r} {p} T S e = (r, p, done, λ s. let f : finished t M ≡ b = cc in (finished-iff T S).0 (f ∙ s))
  run-goes (s ∷ ss) i b {M} {r} {p} T S e = go (step t m M s) refl e (λ N r p. run-goes ss (suc i) b {M = N} {r = r} {p = p})
    where
      go : (o : Option Machine) → step t m M s ≡ o → ◌≡◌ {A = Result Bool Refusal} (elim o [ none ↦ Err (Stuck i) | some N ↦ run t m N ss (suc i) ]) (Ok b)
          → ((N : Machine) (r p : List ℕ) → Tells t m N r p → Sound (cores_of m t) (kept_of m t) r p → run t m N ss (suc i) ≡ Ok b → (r' : List ℕ) × (p' : List ℕ) × Goes (cores_of m t) r p ss r' p' × (So b → Ended (cores_of m t) r' p'))
          → (r' : List ℕ) × (p' : List ℕ) × Goes (cores_of m t) r p (s ∷ ss) r' p' × (So b → Ended (cores_of m t) r' p')
      go none f e rec = let z : ◌≡◌ {A = ℕ} 0 1 = cc in absurd (omega arith)
      go (some N) f e rec =
          let (r₁, p₁, g, T₁) = step-go t form m l T S s N f in
          let (r', p', h, n) = rec N r₁ p₁ T₁ (go-sound (cores_of m t) (kept_of m t) l g S) e in
          (r', p', more g h, n)

  -- a run that is stuck was possible up to there
  stuck-goes : (ss : List ℕ) (i j : ℕ) {M : Machine} {r p : List ℕ} → Tells t m M r p → Sound (cores_of m t) (kept_of m t) r p → run t m M ss i ≡ Err (Stuck j)
      → (us : List ℕ) × (r' : List ℕ) × (p' : List ℕ) × Goes (cores_of m t) r p us r' p' × (j ≡ i + length us)
  unfolding run
  stuck-goes [] i j T S e = let z : ◌≡◌ {A = ℕ} 0 1 = cc in absurd (omega arith)
  stuck-goes (s ∷ ss) i j {M} {r} {p} T S e = go (step t m M s) refl e (λ N r p. stuck-goes ss (suc i) j {M = N} {r = r} {p = p})
    where
      go : (o : Option Machine) → step t m M s ≡ o → ◌≡◌ {A = Result Bool Refusal} (elim o [ none ↦ Err (Stuck i) | some N ↦ run t m N ss (suc i) ]) (Err (Stuck j))
          → ((N : Machine) (r p : List ℕ) → Tells t m N r p → Sound (cores_of m t) (kept_of m t) r p → run t m N ss (suc i) ≡ Err (Stuck j) → (us : List ℕ) × (r' : List ℕ) × (p' : List ℕ) × Goes (cores_of m t) r p us r' p' × (j ≡ suc i + length us))
          → (us : List ℕ) × (r' : List ℕ) × (p' : List ℕ) × Goes (cores_of m t) r p us r' p' × (j ≡ i + length us)
      go none f e rec = let q : j ≡ i = cc in ([], r, p, done, omega arith)
      go (some N) f e rec =
          let (r₁, p₁, g, T₁) = step-go t form m l T S s N f in
          let (us, r', p', h, q) = rec N r₁ p₁ T₁ (go-sound (cores_of m t) (kept_of m t) l g S) e in
          (s ∷ us, r', p', more g h, omega arith)

  goes-run : {ss r p r' p' : List ℕ} → Goes (cores_of m t) r p ss r' p' → (i : ℕ) {M : Machine} → Tells t m M r p → Sound (cores_of m t) (kept_of m t) r p → Ended (cores_of m t) r' p' → run t m M ss i ≡ Ok true
  unfolding run
  goes-run done i {M} T S n = ap Ok ((finished-iff T S).1 n)
  goes-run (more {ss} {s} g h) i {M} T S n =
      let (N, e, T₁) = go_step t form m l T S g in
      ap (λ (o : Option Machine). elim o [ none ↦ Err (Stuck i) | some N ↦ run t m N ss (suc i) ]) e ∙ goes-run h (suc i) T₁ (go-sound (cores_of m t) (kept_of m t) l g S) n

  go-small : {s : ℕ} {r p r' p' : List ℕ} → Go (cores_of m t) r p s r' p' → Sound (cores_of m t) (kept_of m t) r p → s < 2 * THREADS
  unfolding frame_of
  go-small (through x g u) S = omega (arith, (form.used x g.used).keeps.thread-below)
  go-small (enters x g u) S = omega (arith, (form.used x g.used).keeps.thread-below)
  go-small (empties x g) S = omega (arith, (form.used x (S.under x g.waits.ran)).keeps.thread-below)

  goes_small : {ss r p r' p' : List ℕ} → Goes (cores_of m t) r p ss r' p' → Sound (cores_of m t) (kept_of m t) r p → (i : ℕ) → i < length ss → get_or ss i 0 < 2 * THREADS
  goes_small done S i h = absurd (not-suc-le-zero h)
  goes_small (more g h) S zero b = go-small g S
  goes_small (more g h) S (suc i) b = goes_small h (go-sound (cores_of m t) (kept_of m t) l g S) i (omega arith)

-- a list of steps that fits a lent list of bytes
pub record Short (t : Trace) (ss : List ℕ) : Type 0 where
  pub few : length ss ≤ 2 * t.len
  pub small : (i : ℕ) → i < length ss → get_or ss i 0 < 2 * THREADS

module _ (t : Trace) (w : So (well_formed t)) (m : ℕ) (k : So (machined m)) where
  answer-is : (ss : List ℕ) → answer t m ss ≡ run t m (machine_start t) ss 0
  unfolding answer
  answer-is ss = ap (λ b. cond b (cond (well_formed t) (run t m (machine_start t) ss 0) (Err NotWellFormed)) (Err NoModel)) k ∙ ap (λ b. cond b (run t m (machine_start t) ss 0) (Err NotWellFormed)) w

  -- whatever steps run all records and end with empty buffers, there is a valid order
  pub through-valid : (ss : List ℕ) → answer t m ss ≡ Ok true → (xs : List ℕ) × Valid (frame_of t) (kept_of m t) xs
  through-valid ss e =
      let form = (form-iff t).0 w in
      let l = model-laws m t k in
      let (r, p, g, n) = run-goes t form m l ss 0 true (start-tells t m) (nothing-sound (cores_of m t) (kept_of m t)) (sym (answer-is ss) ∙ e) in
      (p, run-valid (cores_of m t) (form-good t form) (kept_of m t) l g (n refl))

  -- possible steps are at most twice as many as the records
  pub possible-short : (ss : List ℕ) (b : Bool) → answer t m ss ≡ Ok b → length ss ≤ 2 * t.len
  unfolding frame_of
  possible-short ss b e =
      let form = (form-iff t).0 w in
      let l = model-laws m t k in
      let (r, p, g, n) = run-goes t form m l ss 0 b (start-tells t m) (nothing-sound (cores_of m t) (kept_of m t)) (sym (answer-is ss) ∙ e) in
      goes-bound (cores_of m t) (form-good t form) (kept_of m t) l g

  -- and so is the place of the first impossible one
  pub stuck-short : (ss : List ℕ) (j : ℕ) → answer t m ss ≡ Err (Stuck j) → j ≤ 2 * t.len
  unfolding frame_of
  stuck-short ss j e =
      let form = (form-iff t).0 w in
      let l = model-laws m t k in
      let (us, r, p, g, q) = stuck-goes t form m l ss 0 j (start-tells t m) (nothing-sound (cores_of m t) (kept_of m t)) (sym (answer-is ss) ∙ e) in
      omega (arith, q, goes-bound (cores_of m t) (form-good t form) (kept_of m t) l g)

  -- the steps that are built for a valid order run it through, and are few and small
  pub built-through : (xs : List ℕ) → Valid (frame_of t) (kept_of m t) xs → (answer t m (told (built_of t m xs)) ≡ Ok true) × Short t (told (built_of t m xs))
  unfolding frame_of
  built-through xs v =
      let form = (form-iff t).0 w in
      let l = model-laws m t k in
      let (r, d, n) = driven t form m l xs v in
      let S = nothing-sound (cores_of m t) (kept_of m t) in (
        answer-is _ ∙ goes-run t form m l d.goes 0 (start-tells t m) S n,
        record { few = goes-bound (cores_of m t) (form-good t form) (kept_of m t) l d.goes; small = goes_small t form m l d.goes S },
      )

  pub machine-exactly : ((xs : List ℕ) × Valid (frame_of t) (kept_of m t) xs) ↔ ((ss : List ℕ) × (answer t m ss ≡ Ok true))
  machine-exactly = (λ x. (told (built_of t m x.0), (built-through x.0 x.1).0), λ y. through-valid y.0 y.1)

-- what comes with an answer is small
pub place-below : (t : Trace) (m : ℕ) (ss : List ℕ) → stuck_at (answer t m ss) ≤ STEPS
place-below t m ss = of (answer t m ss) refl
  where
    of : (r : Result Bool Refusal) → answer t m ss ≡ r → stuck_at r ≤ STEPS
    of (Err NoModel) e = omega arith
    of (Err NotWellFormed) e = omega arith
    of (Ok b) e = omega arith
    of (Err (Stuck j)) e = elim (test (machined m)) [
      | inr k ↦ let z : ◌≡◌ {A = ℕ} 0 1 = cc (answer-model t m ss k) in absurd (omega arith)
      | inl k ↦ elim (test (well_formed t)) [
        | inr w ↦ let z : ◌≡◌ {A = ℕ} 0 1 = cc (answer-form t m ss k w) in absurd (omega arith)
        | inl w ↦ omega (arith, stuck-short t w m k ss j e, ((form-iff t).0 w).fits)
      ]
    ]

-- what is handed back: steps exactly for the valid orders, and the machine runs them through
pub steps-exactly : (t : Trace) (m : ℕ) (xs : List ℕ) → ((steps_of t m xs).given ≡ goal.List) ↔ (So (machined m) × Accepted t m xs)
unfolding steps_of
steps-exactly t m xs = (there (machined m) refl (well_formed t) refl (yes? (judged_of t m xs)) refl, back)
  where
    Answered : Bool → Bool → Bool → Steps
    Answered a b c = cond a (cond b (cond c (listed (built_of t m xs)) (no_steps goal.NoOrder)) (no_steps goal.NotWellFormed)) (no_steps goal.NoModel)

    there : (a : Bool) → machined m ≡ a → (b : Bool) → well_formed t ≡ b → (c : Bool) → yes? (judged_of t m xs) ≡ c → (Answered a b c).given ≡ goal.List → So (machined m) × Accepted t m xs
    there true e true f true g q = (e, (accepted-yes t m xs).0 (yes-is (judged_of t m xs) g))
    there true e true f false g q = let z : ◌≡◌ {A = ℕ} 0 1 = cc in absurd (omega arith)
    there true e false f c g q = let z : ◌≡◌ {A = ℕ} 0 1 = cc in absurd (omega arith)
    there false e b f c g q = let z : ◌≡◌ {A = ℕ} 0 1 = cc in absurd (omega arith)

    back : So (machined m) × Accepted t m xs → (Answered (machined m) (well_formed t) (yes? (judged_of t m xs))).given ≡ goal.List
    back (k, a) = ap (λ (a : Bool). (Answered a (well_formed t) (yes? (judged_of t m xs))).given) k ∙ ap (λ (b : Bool). (Answered true b (yes? (judged_of t m xs))).given) a.well ∙ ap (λ (j : Result Unit Broken). (Answered true true (yes? j)).given) ((accepted-yes t m xs).1 a)

pub replay-through : (t : Trace) (m : ℕ) (xs : List ℕ) → (steps_of t m xs).given ≡ goal.List → answer t m (take (steps_of t m xs).len (steps_of t m xs).steps) ≡ Ok true
unfolding steps_of
replay-through t m xs e =
    let (k, a) = (steps-exactly t m xs).0 e in
    let q : steps_of t m xs ≡ listed (built_of t m xs) = ap (λ (a : Bool). cond a (cond (well_formed t) (cond (yes? (judged_of t m xs)) (listed (built_of t m xs)) (no_steps goal.NoOrder)) (no_steps goal.NotWellFormed)) (no_steps goal.NoModel)) k
    ∙ ap (λ (b : Bool). cond b (cond (yes? (judged_of t m xs)) (listed (built_of t m xs)) (no_steps goal.NoOrder)) (no_steps goal.NotWellFormed)) a.well
    ∙ ap (λ (j : Result Unit Broken). cond (yes? j) (listed (built_of t m xs)) (no_steps goal.NoOrder)) ((accepted-yes t m xs).1 a) in
    subst (λ (s : Steps). answer t m (take s.len s.steps) ≡ Ok true) (sym q) (built-through t a.well m k xs a.valid).0
