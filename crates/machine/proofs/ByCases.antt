-- What the functions' proofs cite: each definition of the machine by its cases.
--
--   ran-lands, ran-enters, ran-plain == the machine after a record has run
--   own_is                           == an entry is an own one for a record's address
--   may-parts                        == when a record may run, as tests joined
--   found_some, found_none, found-fits == what a search found
--   step-runs, step-blocked, step-idle, step-empties, step-dry == a step
--   run-stuck, run_more, run_end     == a run, from place i on
--   put_is, passed-runs, passed-idle, placed-lands, placed-waits == steps from an order, each part of them
--   swept-more, swept_same           == one record more is passed
--   placed-yes, placed-no            == an operation is placed, as a function comes by it
--   core-fits                        == a record of a well formed trace has its place and a core
--   placing-more, placing-end        == one operation more is placed, from place i on
--   yes-is, order_below              == the judge says yes; to records only
--   steps-nine, steps-ten, steps-no, steps-yes == each way out of the entry
use mathlib.Core.Path.{◌≡◌, refl, sym, ap, ap₂, ◌∙◌}
use mathlib.Core.Bool.{Bool, true, false, cond, So, not, ◌&&◌, ◌||◌, false≢true}
use mathlib.Core.List.{List, [], ◌∷◌}
use mathlib.Core.Option.{Option, none, some}
use Prim.Native.Nat.{ℕ, zero, suc, ◌+◌, ◌-◌, ◌<◌, ◌≤◌}
use native.Mathlib.Numerals.{add-one}
use native.Mathlib.Omega.{arith}
use lib.Dec.{eqb}
use lib.ListN.{length, get_or, set, drop}
use lib.Seq.{drop-cons}
use borrow.Author.Tests.{lt-ltb, le-ltb}
use Rattle.laws.specs.Tests.{◌⇒◌, any}
use Rattle.laws.specs.Lowest.{lowest}
use Rattle.trace.specs.Bounds.{RECORDS, THREADS, ADDRESSES}
use Rattle.trace.specs.Op.{thread, address, read, written, reads, writes}
use Rattle.trace.specs.Trace.{at}
use Rattle.trace.specs.WellFormed.{well_formed}
use Rattle.trace.specs.declared.Op.{Op}
use Rattle.trace.specs.declared.Trace.{Trace}
use Rattle.trace.proofs.WellFormed.{form-iff}
use Rattle.trace.specs.Meaning.{frame_of}
use Rattle.trace.proofs.Meaning.{operation-iff}
use Rattle.laws.proofs.Places.{count_at}
use Rattle.pairs.specs.MissingOf.{as_found}
use Rattle.judge.specs.Judged.{judged_of}
use Rattle.judge.specs.declared.judging.Broken.{Broken}
use Rattle.judge.proofs.Judged.{accepted-yes}
use Rattle.rules.proofs.Seen.{operation-there}
use Rattle.pairs.specs.Found.{Found}
use Rattle.std.specs.Prelude as std
use Rattle.std.specs.Prelude.{Some, None, Result, Ok, Err}
use Rattle.machine.specs.declared.Machine.{Machine}
use Rattle.machine.specs.declared.Refusal.{Refusal}
use Rattle.machine.specs.declared.Refusal.TheVariants.{NoModel, NotWellFormed, Stuck}
use Rattle.machine.specs.Machine.{lands, alone, due, waiting, got, may, ran_as, emptied, runs, empties, step, stepped, finished, run, answer, machined, machine_start}
use Rattle.machine.specs.declared.Built.{Built}
use Rattle.machine.specs.declared.Steps.{Steps}
use Rattle.machine.specs.declared.Given.TheVariants as goal
use Rattle.machine.specs.Replay.{STEPS, put, began, passed_record, swept, placed_next, placing, built_of, yes?, no_steps, listed, steps_of}
use Rattle.machine.proofs.Lockstep.{lowest-is}

abbrev pub made : List Bool → List Bool → List ℕ → Machine
made r w s = record { ran = r; waits = w; memory = s }

module _ (t : Trace) (m : ℕ) (M : Machine) (x : ℕ) where
  parts : (bw bl : Bool) → writes (at t x) ≡ bw → lands m (at t x) ≡ bl
      → ran_as t m M x ≡ made (set M.ran x true) (cond (bw && not bl) (set M.waits x true) M.waits) (cond (bw && bl) (set M.memory (address (at t x)) (written (at t x))) M.memory)
  unfolding ran_as
  parts bw bl e f = ap₂ (λ (a b : Bool). made (set M.ran x true) (cond (a && not b) (set M.waits x true) M.waits) (cond (a && b) (set M.memory (address (at t x)) (written (at t x))) M.memory)) e f

  module _ (o : Op) (q : o ≡ at t x) where
    pub ran-lands : So (writes o) → So (lands m o) → (a v : ℕ) → a ≡ address o → v ≡ written o → made (set M.ran x true) M.waits (set M.memory a v) ≡ ran_as t m M x
    ran-lands w u a v ea ev =
        ap₂ (λ (a v : ℕ). made (set M.ran x true) M.waits (set M.memory a v)) (ea ∙ ap address q) (ev ∙ ap written q)
        ∙ sym (parts true true (ap writes (sym q) ∙ w) (ap (lands m) (sym q) ∙ u))

    pub ran-enters : So (writes o) → lands m o ≡ false → made (set M.ran x true) (set M.waits x true) M.memory ≡ ran_as t m M x
    ran-enters w u = sym (parts true false (ap writes (sym q) ∙ w) (ap (lands m) (sym q) ∙ u))

    pub ran-plain : writes o ≡ false → made (set M.ran x true) M.waits M.memory ≡ ran_as t m M x
    ran-plain w = sym (parts false (lands m (at t x)) (ap writes (sym q) ∙ w) refl)

pub own_is : (t : Trace) (M : Machine) (x i b core there addr : ℕ) → b ≡ thread (at t i) → core ≡ thread (at t x) → there ≡ address (at t i) → addr ≡ address (at t x)
    → ((get_or M.waits i false && eqb b core) && eqb there addr) ≡ (waiting t M (thread (at t x)) i && eqb (address (at t i)) (address (at t x)))
unfolding waiting
own_is t M x i b core there addr e f g h =
    ap₂ (λ (p q : Bool). (get_or M.waits i false && p) && q) (ap₂ (λ (b c : ℕ). eqb b c) e f) (ap₂ (λ (b c : ℕ). eqb b c) g h)

imp_or : (a b : Bool) → (a ⇒ b) ≡ (not a || b)
imp_or true b = refl
imp_or false b = refl

pub may-parts : (t : Trace) (M : Machine) (x : ℕ) → may t M x ≡ ((not (alone (at t x)) || not (any t.len (waiting t M (thread (at t x))))) && (not (reads (at t x)) || eqb (got t M x) (read (at t x))))
unfolding may
may-parts t M x = ap₂ (λ (a b : Bool). a && b) (imp_or (alone (at t x)) _) (imp_or (reads (at t x)) _)

pub found_some : (o : Option ℕ) (f : Found) (x : ℕ) → f ≡ as_found o → f ≡ Some x → o ≡ some x
found_some none f x e q = let z : ◌≡◌ {A = ℕ} 0 1 = cc in absurd (omega arith)
found_some (some y) f x e q = cc

pub found_none : (o : Option ℕ) (f : Found) → f ≡ as_found o → f ≡ None → o ≡ none
found_none none f e q = refl
found_none (some y) f e q = let z : ◌≡◌ {A = ℕ} 0 1 = cc in absurd (omega arith)

-- what a search over the records of a well formed trace finds has its place, and an address
pub found-fits : (t : Trace) → So (well_formed t) → (p : ℕ → Bool) (f : Found) (x : ℕ) → f ≡ as_found (lowest p t.len 0) → f ≡ Some x → (x < RECORDS) × (address (at t x) < ADDRESSES)
found-fits t w p f x e q =
    let form = (form-iff t).0 w in
    let h = (lowest-is p t.len x (found_some (lowest p t.len 0) f x e q)).0.0 in
    (omega (arith, form.fits), (form.used x h).keeps.address_below)

module _ (t : Trace) (m : ℕ) (M : Machine) (s : ℕ) where
  below : s < THREADS → step t m M s ≡ runs t m M (lowest (due t M s) t.len 0)
  unfolding step
  below h = ap (λ b. cond b (runs t m M (lowest (due t M s) t.len 0)) (empties t M (lowest (waiting t M (s - THREADS)) t.len 0))) (lt-ltb s THREADS h)

  above : THREADS ≤ s → step t m M s ≡ empties t M (lowest (waiting t M (s - THREADS)) t.len 0)
  unfolding step
  above h = ap (λ b. cond b (runs t m M (lowest (due t M s) t.len 0)) (empties t M (lowest (waiting t M (s - THREADS)) t.len 0))) (le-ltb s THREADS h)

  pub step-runs : s < THREADS → (f : Found) (x : ℕ) → f ≡ as_found (lowest (due t M s) t.len 0) → f ≡ Some x → So (may t M x) → step t m M s ≡ some (ran_as t m M x)
  step-runs h f x e q u = below h ∙ ap (runs t m M) (found_some (lowest (due t M s) t.len 0) f x e q) ∙ ap (λ b. cond b (some (ran_as t m M x)) none) u

  pub step-blocked : s < THREADS → (f : Found) (x : ℕ) → f ≡ as_found (lowest (due t M s) t.len 0) → f ≡ Some x → may t M x ≡ false → step t m M s ≡ none
  step-blocked h f x e q u = below h ∙ ap (runs t m M) (found_some (lowest (due t M s) t.len 0) f x e q) ∙ ap (λ b. cond b (some (ran_as t m M x)) none) u

  pub step-idle : s < THREADS → (f : Found) → f ≡ as_found (lowest (due t M s) t.len 0) → f ≡ None → step t m M s ≡ none
  step-idle h f e q = below h ∙ ap (runs t m M) (found_none (lowest (due t M s) t.len 0) f e q)

  pub step-empties : THREADS ≤ s → (f : Found) (x : ℕ) → f ≡ as_found (lowest (waiting t M (s - THREADS)) t.len 0) → f ≡ Some x → step t m M s ≡ some (emptied t M x)
  step-empties h f x e q = above h ∙ ap (empties t M) (found_some (lowest (waiting t M (s - THREADS)) t.len 0) f x e q)

  pub step-dry : THREADS ≤ s → (f : Found) → f ≡ as_found (lowest (waiting t M (s - THREADS)) t.len 0) → f ≡ None → step t m M s ≡ none
  step-dry h f e q = above h ∙ ap (empties t M) (found_none (lowest (waiting t M (s - THREADS)) t.len 0) f e q)

pub stepped-no : (o : Option Machine) (s : std.Option Machine) → s ≡ stepped o → s ≡ None → o ≡ none
stepped-no none s e q = refl
stepped-no (some N) s e q = let z : ◌≡◌ {A = ℕ} 0 1 = cc in absurd (omega arith)

pub stepped-yes : (o : Option Machine) (s : std.Option Machine) (N : Machine) → s ≡ stepped o → s ≡ Some N → o ≡ some N
stepped-yes none s N e q = let z : ◌≡◌ {A = ℕ} 0 1 = cc in absurd (omega arith)
stepped-yes (some N') s N e q = cc

-- nothing is left past the end
gone : (ss : List ℕ) (i : ℕ) → length ss ≤ i → drop i ss ≡ []
gone [] zero h = refl
gone [] (suc i) h = refl
gone (s ∷ ss) zero h = absurd (omega arith)
gone (s ∷ ss) (suc i) h = gone ss i (omega arith)

module _ (t : Trace) (m : ℕ) (M : Machine) (ss : List ℕ) (i : ℕ) where
  one_more : i < length ss → run t m M (drop i ss) i ≡ run t m M (get_or ss i 0 ∷ drop (suc i) ss) i
  one_more h = ap (λ (l : List ℕ). run t m M l i) (drop-cons ss i 0 h)

  pub run-stuck : i < length ss → step t m M (get_or ss i 0) ≡ none → run t m M (drop i ss) i ≡ Err (Stuck i)
  unfolding run
  run-stuck h e = one_more h ∙ ap (λ (o : Option Machine). elim o [ none ↦ Err (Stuck i) | some N ↦ run t m N (drop (suc i) ss) (suc i) ]) e

  pub run_more : (N : Machine) → i < length ss → step t m M (get_or ss i 0) ≡ some N → run t m M (drop i ss) i ≡ run t m N (drop (i + 1) ss) (i + 1)
  unfolding run
  run_more N h e =
      one_more h ∙ ap (λ (o : Option Machine). elim o [ none ↦ Err (Stuck i) | some N ↦ run t m N (drop (suc i) ss) (suc i) ]) e
      ∙ ap (λ (k : ℕ). run t m N (drop k ss) k) (sym (add-one i))

  pub run_end : length ss ≤ i → run t m M (drop i ss) i ≡ Ok (finished t M)
  unfolding run
  run_end h = ap (λ (l : List ℕ). run t m M l i) (gone ss i h)

pub answer-model : (t : Trace) (m : ℕ) (ss : List ℕ) → machined m ≡ false → Err NoModel ≡ answer t m ss
unfolding answer
answer-model t m ss e = sym (ap (λ b. cond b (cond (well_formed t) (run t m (machine_start t) ss 0) (Err NotWellFormed)) (Err NoModel)) e)

pub answer-form : (t : Trace) (m : ℕ) (ss : List ℕ) → So (machined m) → well_formed t ≡ false → Err NotWellFormed ≡ answer t m ss
unfolding answer
answer-form t m ss k e = sym (ap (λ b. cond b (cond (well_formed t) (run t m (machine_start t) ss 0) (Err NotWellFormed)) (Err NoModel)) k ∙ ap (λ b. cond b (run t m (machine_start t) ss 0) (Err NotWellFormed)) e)

pub answer-runs : (t : Trace) (m : ℕ) (ss : List ℕ) → So (machined m) → So (well_formed t) → (r : Result Bool Refusal) → run t m (machine_start t) ss 0 ≡ r → r ≡ answer t m ss
unfolding answer
answer-runs t m ss k w r e = sym e ∙ sym (ap (λ b. cond b (cond (well_formed t) (run t m (machine_start t) ss 0) (Err NotWellFormed)) (Err NoModel)) k ∙ ap (λ b. cond b (run t m (machine_start t) ss 0) (Err NotWellFormed)) w)

pub yes-step : (N N' : Machine) (o : Option Machine) → N ≡ N' → o ≡ some N' → Some N ≡ stepped o
yes-step N N' o e q = ap (λ (N : Machine). Some N) e ∙ ap stepped (sym q)

pub no_step : (o : Option Machine) → o ≡ none → None ≡ stepped o
no_step o q = ap stepped (sym q)

-- one step more, where there is room
abbrev pub longer : Built → ℕ → Built
longer b s = record { ran = b.ran; steps = set b.steps b.len s; len = b.len + 1 }

pub put_is : (b : Built) (s : ℕ) → b.len < STEPS → put b s ≡ longer b s
unfolding put
put_is b s h = ap (λ (x : Bool). cond x (longer b s) b) (lt-ltb b.len STEPS h)

module _ (t : Trace) (every : Bool) (core k : ℕ) (b : Built) where
  pub passed-runs : So (not (get_or b.ran k false) && (every || eqb (thread (at t k)) core)) → passed_record t every core k b ≡ began b k (thread (at t k))
  unfolding passed_record
  passed-runs e = ap (λ (x : Bool). cond x (began b k (thread (at t k))) b) e

  pub passed-idle : (not (get_or b.ran k false) && (every || eqb (thread (at t k)) core)) ≡ false → passed_record t every core k b ≡ b
  unfolding passed_record
  passed-idle e = ap (λ (x : Bool). cond x (began b k (thread (at t k))) b) e

module _ (t : Trace) (every : Bool) (core : ℕ) (b : Built) (k : ℕ) (after : Built) (own : ℕ) (e : after ≡ swept t every core b k) (f : own ≡ thread (at t k)) where
  next-swept : passed_record t every core k after ≡ swept t every core b (k + 1)
  unfolding swept
  next-swept = ap (passed_record t every core k) e ∙ ap (swept t every core b) (sym (add-one k))

  pub swept-more : So (not (get_or after.ran k false) && (every || eqb own core)) → began after k own ≡ swept t every core b (k + 1)
  swept-more s =
      ap (began after k) f
      ∙ sym (passed-runs t every core k after (ap (λ (o : ℕ). not (get_or after.ran k false) && (every || eqb o core)) (sym f) ∙ s))
      ∙ next-swept

  pub swept_same : (not (get_or after.ran k false) && (every || eqb own core)) ≡ false → after ≡ swept t every core b (k + 1)
  swept_same s = sym (passed-idle t every core k after (ap (λ (o : ℕ). not (get_or after.ran k false) && (every || eqb o core)) (sym f) ∙ s)) ∙ next-swept

module _ (t : Trace) (m : ℕ) (b : Built) (c : ℕ) where
  pub placed-lands : So (lands m (at t c)) → placed_next t m b c ≡ swept t false (thread (at t c)) b (suc c)
  unfolding placed_next
  placed-lands e = ap (λ (x : Bool). cond x (swept t false (thread (at t c)) b (suc c)) (put (swept t false (thread (at t c)) b (suc c)) (THREADS + thread (at t c)))) e

  pub placed-waits : lands m (at t c) ≡ false → placed_next t m b c ≡ put (swept t false (thread (at t c)) b (suc c)) (THREADS + thread (at t c))
  unfolding placed_next
  placed-waits e = ap (λ (x : Bool). cond x (swept t false (thread (at t c)) b (suc c)) (put (swept t false (thread (at t c)) b (suc c)) (THREADS + thread (at t c)))) e

-- the same, as a function comes by them
module _ (t : Trace) (m : ℕ) (b : Built) (c : ℕ) (op : Op) (own : ℕ) (after : Built) (e : op ≡ at t c) (f : own ≡ thread op) (g : after ≡ swept t false own b (c + 1)) where
  same-core : own ≡ thread (at t c)
  same-core = f ∙ ap thread e

  same-swept : after ≡ swept t false (thread (at t c)) b (suc c)
  same-swept = g ∙ ap₂ (λ (o n : ℕ). swept t false o b n) same-core (add-one c)

  pub placed-yes : So (lands m op) → after ≡ placed_next t m b c
  placed-yes s = same-swept ∙ sym (placed-lands t m b c (ap (lands m) (sym e) ∙ s))

  pub placed-no : lands m op ≡ false → put after (THREADS + own) ≡ placed_next t m b c
  placed-no s = ap₂ (λ (a : Built) (o : ℕ). put a (THREADS + o)) same-swept same-core ∙ sym (placed-waits t m b c (ap (lands m) (sym e) ∙ s))

-- a record of a well formed trace has its place and a core
pub core-fits : (t : Trace) → So (well_formed t) → (x : ℕ) → x < t.len → (x < RECORDS) × (thread (at t x) < THREADS)
core-fits t w x h = let form = (form-iff t).0 w in (omega (arith, form.fits), (form.used x h).keeps.thread-below)

module _ (t : Trace) (m : ℕ) (b : Built) (xs : List ℕ) (i : ℕ) where
  pub placing-more : (a : Built) → i < length xs → a ≡ placed_next t m b (get_or xs i 0) → placing t m b (drop i xs) ≡ placing t m a (drop (i + 1) xs)
  unfolding placing
  placing-more a h e =
      ap (placing t m b) (drop-cons xs i 0 h)
      ∙ ap (λ (a : Built). placing t m a (drop (suc i) xs)) (sym e)
      ∙ ap (λ (k : ℕ). placing t m a (drop k xs)) (sym (add-one i))

  pub placing-end : length xs ≤ i → placing t m b (drop i xs) ≡ b
  unfolding placing
  placing-end h = ap (placing t m b) (gone xs i h)

-- the judge's yes
pub yes-is : (j : Result Unit Broken) → So (yes? j) → j ≡ Ok tt
yes-is (Ok tt) s = refl
yes-is (Err b) s = absurd (false≢true s)

-- what the judge says yes to are records
pub order_below : (t : Trace) (m : ℕ) (xs : List ℕ) → So (yes? (judged_of t m xs)) → (i : ℕ) → i < length xs → get_or xs i 0 < t.len
order_below t m xs s i h =
    let a = (accepted-yes t m xs).0 (yes-is (judged_of t m xs) s) in
    ((operation-iff t (get_or xs i 0)).0 (operation-there (frame_of t) xs a.valid.all (get_or xs i 0) (count_at xs i h))).0

module _ (t : Trace) (m : ℕ) (xs : List ℕ) (r : Steps) where
  abbrev Answered : Bool → Bool → Bool → Steps
  Answered a b c = cond a (cond b (cond c (listed (built_of t m xs)) (no_steps goal.NoOrder)) (no_steps goal.NotWellFormed)) (no_steps goal.NoModel)

  pub steps-nine : machined m ≡ false → r ≡ no_steps goal.NoModel → r ≡ steps_of t m xs
  unfolding steps_of
  steps-nine k e = e ∙ sym (ap (λ (a : Bool). Answered a (well_formed t) (yes? (judged_of t m xs))) k)

  pub steps-ten : So (machined m) → well_formed t ≡ false → r ≡ no_steps goal.NotWellFormed → r ≡ steps_of t m xs
  unfolding steps_of
  steps-ten k w e = e ∙ sym (ap (λ (a : Bool). Answered a (well_formed t) (yes? (judged_of t m xs))) k ∙ ap (λ (b : Bool). Answered true b (yes? (judged_of t m xs))) w)

  pub steps-no : So (machined m) → So (well_formed t) → yes? (judged_of t m xs) ≡ false → r ≡ no_steps goal.NoOrder → r ≡ steps_of t m xs
  unfolding steps_of
  steps-no k w y e =
      e ∙ sym (ap (λ (a : Bool). Answered a (well_formed t) (yes? (judged_of t m xs))) k ∙ ap (λ (b : Bool). Answered true b (yes? (judged_of t m xs))) w ∙ ap (λ (c : Bool). Answered true true c) y)

  pub steps-yes : So (machined m) → So (well_formed t) → So (yes? (judged_of t m xs)) → r ≡ listed (built_of t m xs) → r ≡ steps_of t m xs
  unfolding steps_of
  steps-yes k w y e =
      e ∙ sym (ap (λ (a : Bool). Answered a (well_formed t) (yes? (judged_of t m xs))) k ∙ ap (λ (b : Bool). Answered true b (yes? (judged_of t m xs))) w ∙ ap (λ (c : Bool). Answered true true c) y)
