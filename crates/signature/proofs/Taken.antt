-- Digits taken up a load at a time are those that the words stand for.
--
--   lefts x ws    == the words that are left, the open one first
--   turn          == both ways of a digit's turn
--   took-next, took-full, took-other == a digit is taken; the array keeps its places; the other digits stay
--   took-ran      == so for all records, as a thread sees them (Took)
--   took-thread   == the digits of a thread stand at its loads, and the place is behind its words (Had)
--   took-all      == so for all threads (Have)
--   digit-taken   == each load has its digit
use mathlib.Core.Path.{◌≡◌, refl, sym, ap, ap₂, ◌∙◌, subst}
use mathlib.Core.Logic.{◌≢◌, ◌⊎◌, inl, inr}
use mathlib.Core.Bool.{Bool, true, false, cond, So, false≢true}
use mathlib.Core.List.{List, [], ◌∷◌}
use Prim.Native.Nat.{ℕ, zero, suc, ◌+◌, ◌-◌, ◌*◌, ◌/◌, ◌%◌, ◌<◌, ◌≤◌}
use native.Mathlib.Omega.{arith}
use native.Mathlib.Nat.{mul_comm, mul-suc}
use lib.Dec.{eqb, leb}
use lib.ListN.{length, get_or, set, take, drop, length-set, length-append, length-replicate, length-drop, take-append-drop}
use lib.Seq.{drop-cons, drop-drop, get_or-set_same, get_or-set_other, length-take-le}
use Rattle.laws.specs.Tests.{any}
use Rattle.laws.specs.Places.{pos, count}
use Rattle.laws.specs.Picks.{picks}
use Rattle.laws.proofs.Tests.{eq?, so-any, so-eq, so-le, off, test}
use Rattle.laws.proofs.Loops.{any-stops}
use Rattle.laws.proofs.Picks.{picks-none}
use Rattle.trace.specs.Bounds.{RECORDS, THREADS}
use Rattle.trace.specs.Op.{thread, reads}
use Rattle.trace.specs.Trace.{at}
use Rattle.trace.specs.FormFacts.{Form}
use Rattle.trace.specs.declared.Trace.{Trace}
use Rattle.signature.specs.DigitWords.{LIMIT, least, rest, next_words, words_from, take_from, words_of, taken}
use Rattle.signature.specs.Reads.{each, range_of, reader, readers}
use Rattle.signature.specs.Signature.{words_up_to, tops, thread_words}
use Rattle.signature.specs.Unpack.{word_count, part_from, digit_in}
use Rattle.signature.specs.inner.WordsLaid.{Taking, step_on, took_of, looked_of, took_from, opened_of, shut_of, took_thread, took_all, none_taken}
use Rattle.signature.proofs.DigitWords.{take_more, words-some}
use Rattle.signature.proofs.Lists.{each_at, each_on, pick-facts, pick-in}
use Rattle.signature.proofs.Signature.{reader-iff, thread-long, top-chosen}
use Rattle.signature.proofs.Unpack.{is-reader}
use Rattle.signature.proofs.Few.{range_small}
use Rattle.signature.proofs.Laid.{after-in, range-some}

-- the words that are left: the open one first
abbrev pub lefts : Taking → List ℕ → List ℕ
lefts x ws = x.left ∷ drop (suc x.at) ws

-- both ways of a digit's turn
abbrev turn : Taking → List ℕ → ℕ → ℕ → Bool → Taking
turn x ws r i b = cond b (record { of = set x.of i (x.left % r); at = x.at; q = suc x.q * r - 1; left = x.left / r })
    (record { of = set x.of i (get_or ws (step_on x.at) 0 % r); at = step_on x.at; q = r - 1; left = get_or ws (step_on x.at) 0 / r })

-- what it gives
module _ (x : Taking) (ws : List ℕ) (r i : ℕ) (rp : 0 < r) (full : length x.of ≡ RECORDS) (b : i < RECORDS) where
  -- one more load of range r, then those of ranges rs
  abbrev whole : List ℕ → List ℕ
  whole rs = take_from (suc x.q) (r ∷ rs) (lefts x ws)

  widen : suc (suc x.q * r - 1) ≡ suc x.q * r
  widen = omega (arith, positive)
    where
      positive : 0 < suc x.q * r
      positive = omega (arith, mul_comm (suc x.q) r, mul-suc r x.q)

  back : suc (r - 1) ≡ r
  back = omega arith

  pub took-next : (rs : List ℕ) → x.at + words_from (suc x.q) (r ∷ rs) ≤ length ws → length ws ≤ RECORDS
      → (get_or (took_of x ws r i).of i 0 ∷ take_from (suc (took_of x ws r i).q) rs (lefts (took_of x ws r i) ws) ≡ whole rs)
      × ((took_of x ws r i).at + words_from (suc (took_of x ws r i).q) rs ≡ x.at + words_from (suc x.q) (r ∷ rs))
  unfolding took_of take_from words_from
  took-next rs l few = go (leb (suc x.q * r) LIMIT) l
    where
      go : (c : Bool) → x.at + cond c (words_from (suc x.q * r) rs) (suc (words_from r rs)) ≤ length ws
          → (get_or (turn x ws r i c).of i 0 ∷ take_from (suc (turn x ws r i c).q) rs (lefts (turn x ws r i c) ws)
          ≡ cond c (x.left % r ∷ take_from (suc x.q * r) rs (x.left / r ∷ drop (suc x.at) ws)) (least r (drop (suc x.at) ws) ∷ take_from r rs (rest r (drop (suc x.at) ws))))
          × ((turn x ws r i c).at + words_from (suc (turn x ws r i c).q) rs ≡ x.at + cond c (words_from (suc x.q * r) rs) (suc (words_from r rs)))
      go true l = (
        ap₂ (λ (d p : ℕ). d ∷ take_from p rs (x.left / r ∷ drop (suc x.at) ws)) (get_or-set_same x.of i (x.left % r) 0 (omega (arith, full))) widen,
        ap (λ (p : ℕ). x.at + words_from p rs) widen,
      )
      go false l =
          let s = words-some r rs in
          let a : step_on x.at ≡ suc x.at = after-in x.at (omega arith) in
          let d : drop (suc x.at) ws ≡ get_or ws (suc x.at) 0 ∷ drop (suc (suc x.at)) ws = drop-cons ws (suc x.at) 0 (omega arith) in (
            ap₂ (λ (d p : ℕ). d ∷ take_from p rs (get_or ws (step_on x.at) 0 / r ∷ drop (suc (step_on x.at)) ws)) (get_or-set_same x.of i (get_or ws (step_on x.at) 0 % r) 0 (omega (arith, full))) back
                ∙ ap (λ (n : ℕ). get_or ws n 0 % r ∷ take_from r rs (get_or ws n 0 / r ∷ drop (suc n) ws)) a
                ∙ ap (λ (us : List ℕ). least r us ∷ take_from r rs (rest r us)) (sym d),
            ap₂ (λ (n p : ℕ). n + words_from p rs) a back ∙ omega arith,
          )

  pub took-full : length (took_of x ws r i).of ≡ RECORDS
  unfolding took_of
  took-full = go (leb (suc x.q * r) LIMIT)
    where
      go : (c : Bool) → length (turn x ws r i c).of ≡ RECORDS
      go true = length-set x.of i (x.left % r) ∙ full
      go false = length-set x.of i (get_or ws (step_on x.at) 0 % r) ∙ full

  pub took-other : (j : ℕ) → j ≢ i → get_or (took_of x ws r i).of j 0 ≡ get_or x.of j 0
  unfolding took_of
  took-other j d = go (leb (suc x.q * r) LIMIT)
    where
      go : (c : Bool) → get_or (turn x ws r i c).of j 0 ≡ get_or x.of j 0
      go true = get_or-set_other x.of i j (x.left % r) 0 d
      go false = get_or-set_other x.of i j (get_or ws (step_on x.at) 0 % r) 0 d

module _ (t : Trace) (ws : List ℕ) (few : t.len ≤ RECORDS) (short : length ws ≤ RECORDS) where
  module _ (τ : ℕ) where
    abbrev rs : ℕ → ℕ → List ℕ
    rs i k = each (range_of t) (picks (reader t τ) i k)

    -- the digits that records from i on get in the end, and what stays
    pub record Took (x y : Taking) (i k : ℕ) : Type 0 where
      pub digits : each (λ j. get_or y.of j 0) (picks (reader t τ) i k) ≡ take_from (suc x.q) (rs i k) (lefts x ws)
      pub stays : (j : ℕ) → (j < i) ⊎ (reader t τ j ≡ false) → get_or y.of j 0 ≡ get_or x.of j 0
      pub full : length y.of ≡ RECORDS
      pub place : suc y.at ≡ x.at + words_from (suc x.q) (rs i k)

    looked-yes : (x : Taking) (i : ℕ) → So (reader t τ i) → looked_of t τ ws x i ≡ took_of x ws (range_of t i) i
    unfolding looked_of
    looked-yes x i s = ap (λ (b : Bool). cond b (took_of x ws (range_of t i) i) x) s

    looked-no : (x : Taking) (i : ℕ) → reader t τ i ≡ false → looked_of t τ ws x i ≡ x
    unfolding looked_of
    looked-no x i s = ap (λ (b : Bool). cond b (took_of x ws (range_of t i) i) x) s

    pub took-ran : (k i : ℕ) (x : Taking) → i + k ≤ t.len → length x.of ≡ RECORDS → x.at + words_from (suc x.q) (rs i k) ≤ length ws → Took x (took_from t τ ws x i k) i k
    unfolding took_from picks each words_from take_from
    took-ran zero i x b f l = record { digits = refl; stays = λ j s. refl; full = f; place = omega arith }
    took-ran (suc k) i x b f l = elim (test (reader t τ i)) [
      | inl s ↦ yes s (took-next x ws (range_of t i) i (range-some t i) f (omega arith) (rs (suc i) k)) (took-ran k (suc i) (took_of x ws (range_of t i) i) (omega arith))
      | inr s ↦ no s (took-ran k (suc i) x (omega arith))
    ]
      where
        picked : So (reader t τ i) → picks (reader t τ) i (suc k) ≡ i ∷ picks (reader t τ) (suc i) k
        picked s = ap (λ (b : Bool). cond b (i ∷ picks (reader t τ) (suc i) k) (picks (reader t τ) (suc i) k)) s

        passed : reader t τ i ≡ false → picks (reader t τ) i (suc k) ≡ picks (reader t τ) (suc i) k
        passed s = ap (λ (b : Bool). cond b (i ∷ picks (reader t τ) (suc i) k) (picks (reader t τ) (suc i) k)) s

        yes : So (reader t τ i)
            → ((x.at + words_from (suc x.q) (range_of t i ∷ rs (suc i) k) ≤ length ws) → length ws ≤ RECORDS
            → (get_or (took_of x ws (range_of t i) i).of i 0 ∷ take_from (suc (took_of x ws (range_of t i) i).q) (rs (suc i) k) (lefts (took_of x ws (range_of t i) i) ws) ≡ take_from (suc x.q) (range_of t i ∷ rs (suc i) k) (lefts x ws))
            × ((took_of x ws (range_of t i) i).at + words_from (suc (took_of x ws (range_of t i) i).q) (rs (suc i) k) ≡ x.at + words_from (suc x.q) (range_of t i ∷ rs (suc i) k)))
            → (length (took_of x ws (range_of t i) i).of ≡ RECORDS → (took_of x ws (range_of t i) i).at + words_from (suc (took_of x ws (range_of t i) i).q) (rs (suc i) k) ≤ length ws
            → Took (took_of x ws (range_of t i) i) (took_from t τ ws (took_of x ws (range_of t i) i) (suc i) k) (suc i) k)
            → Took x (took_from t τ ws x i (suc k)) i (suc k)
        yes s turn ran =
            let g : rs i (suc k) ≡ range_of t i ∷ rs (suc i) k = ap (each (range_of t)) (picked s) in
            let l2 : x.at + words_from (suc x.q) (range_of t i ∷ rs (suc i) k) ≤ length ws = subst (λ (us : List ℕ). x.at + words_from (suc x.q) us ≤ length ws) g l in
            let n = turn l2 short in
            let z = looked-yes x i s in
            let m : Took (took_of x ws (range_of t i) i) (took_from t τ ws (took_of x ws (range_of t i) i) (suc i) k) (suc i) k
            = ran (took-full x ws (range_of t i) i (range-some t i) f (omega arith)) (omega (arith, n.1)) in
            let e : took_from t τ ws (took_of x ws (range_of t i) i) (suc i) k ≡ took_from t τ ws x i (suc k) = ap (λ (x : Taking). took_from t τ ws x (suc i) k) (sym z) in
            subst (λ (y : Taking). Took x y i (suc k)) e (record {
              digits = ap (each (λ j. get_or (took_from t τ ws (took_of x ws (range_of t i) i) (suc i) k).of j 0)) (picked s)
                  ∙ ap₂ (λ (d : ℕ) (ds : List ℕ). d ∷ ds) (m.stays i (inl (omega arith))) m.digits
                  ∙ n.0 ∙ ap (λ (us : List ℕ). take_from (suc x.q) us (lefts x ws)) (sym g);
              stays = λ j u. m.stays j (weaker j u) ∙ took-other x ws (range_of t i) i (range-some t i) f (omega arith) j (apart s j u);
              full = m.full;
              place = m.place ∙ n.1 ∙ ap (λ (us : List ℕ). x.at + words_from (suc x.q) us) (sym g);
            })
          where
            weaker : (j : ℕ) → (j < i) ⊎ (reader t τ j ≡ false) → (j < suc i) ⊎ (reader t τ j ≡ false)
            weaker j (inl u) = inl (omega arith)
            weaker j (inr u) = inr u

            apart : So (reader t τ i) → (j : ℕ) → (j < i) ⊎ (reader t τ j ≡ false) → j ≢ i
            apart s j (inl u) e = omega arith
            apart s j (inr u) e = false≢true (sym u ∙ ap (reader t τ) e ∙ s)

        no : reader t τ i ≡ false → (length x.of ≡ RECORDS → x.at + words_from (suc x.q) (rs (suc i) k) ≤ length ws → Took x (took_from t τ ws x (suc i) k) (suc i) k)
            → Took x (took_from t τ ws x i (suc k)) i (suc k)
        no s ran =
            let g : rs i (suc k) ≡ rs (suc i) k = ap (each (range_of t)) (passed s) in
            let l2 : x.at + words_from (suc x.q) (rs (suc i) k) ≤ length ws = subst (λ (us : List ℕ). x.at + words_from (suc x.q) us ≤ length ws) g l in
            let m = ran f l2 in
            let e : took_from t τ ws x (suc i) k ≡ took_from t τ ws x i (suc k) = ap (λ (x : Taking). took_from t τ ws x (suc i) k) (sym (looked-no x i s)) in
            subst (λ (y : Taking). Took x y i (suc k)) e (record {
              digits = ap (each (λ j. get_or (took_from t τ ws x (suc i) k).of j 0)) (passed s) ∙ m.digits ∙ ap (λ (us : List ℕ). take_from (suc x.q) us (lefts x ws)) (sym g);
              stays = λ j u. m.stays j (weaker j u);
              full = m.full;
              place = m.place ∙ ap (λ (us : List ℕ). x.at + words_from (suc x.q) us) (sym g);
            })
          where
            weaker : (j : ℕ) → (j < i) ⊎ (reader t τ j ≡ false) → (j < suc i) ⊎ (reader t τ j ≡ false)
            weaker j (inl u) = inl (omega arith)
            weaker j (inr u) = inr u

    -- a thread with loads begins as if a word of product 1 were open
    module _ (r : ℕ) (us : List ℕ) (h : r ≤ LIMIT) where
      one-fits : leb (1 * r) LIMIT ≡ true
      one-fits = (so-le {m = 1 * r} {n = LIMIT}).1 (omega arith)

      open-taken : (vs : List ℕ) → take_from 1 (r ∷ us) vs ≡ taken (r ∷ us) vs
      unfolding take_from
      open-taken vs =
          let e : 1 * r ≡ r = omega arith in
          ap₂ (λ (c : Bool) (n : ℕ). cond c (least r vs ∷ take_from n us (rest r vs)) (least r (next_words vs) ∷ take_from r us (rest r (next_words vs)))) one-fits e

      open-words : words_from 1 (r ∷ us) ≡ words_of (r ∷ us)
      unfolding words_from
      open-words =
          let e : 1 * r ≡ r = omega arith in
          ap₂ (λ (c : Bool) (n : ℕ). cond c (words_from n us) (suc (words_from r us))) one-fits e

    -- the ranges of a thread that has loads
    ranged : (xs : List ℕ) (x : ℕ) → 0 < count x xs → (r : ℕ) × (us : List ℕ) × (each (range_of t) xs ≡ r ∷ us) × (r ≤ LIMIT)
    unfolding each count
    ranged [] x h = absurd (omega (arith, h))
    ranged (y ∷ ys) x h = (range_of t y, each (range_of t) ys, refl, omega (arith, range_small t y))

    pub record Had (x y : Taking) : Type 0 where
      pub digits : each (λ j. get_or y.of j 0) (readers t τ) ≡ taken (each (range_of t) (readers t τ)) (take (word_count t τ) (drop x.at ws))
      pub stays : (j : ℕ) → reader t τ j ≡ false → get_or y.of j 0 ≡ get_or x.of j 0
      pub full : length y.of ≡ RECORDS
      pub place : y.at ≡ x.at + word_count t τ

    with-loads : (x : Taking) → length x.of ≡ RECORDS → x.at + word_count t τ ≤ length ws → So (any t.len (reader t τ)) → Had x (shut_of (took_from t τ ws (opened_of ws x) 0 t.len))
    unfolding shut_of opened_of readers
    with-loads x f l e =
        let (j, b, u) = (so-any t.len (reader t τ)).0 e in
        let (r, us, g, h) = ranged (picks (reader t τ) 0 t.len) j (pick-in (reader t τ) 0 t.len j (omega arith) (omega arith) u) in
        let n : words_from 1 (rs 0 t.len) ≡ word_count t τ = ap (words_from 1) g ∙ open-words r us h ∙ ap words_of (sym g) in
        let s : 0 < words_from 1 (rs 0 t.len) = words-some 1 (rs 0 t.len) in
        let X : Taking = opened_of ws x in
        let m = took-ran t.len 0 X (omega arith) f (omega (arith, n, l)) in
        let Y = took_from t τ ws X 0 t.len in
        let d : get_or ws x.at 0 ∷ drop (suc x.at) ws ≡ drop x.at ws = sym (drop-cons ws x.at 0 (omega (arith, n, l, s))) in
        let A = take (word_count t τ) (drop x.at ws) in
        let B = drop (word_count t τ) (drop x.at ws) in
        let long : words_from 1 (rs 0 t.len) ≤ length A = omega (arith, n, length-take-le (word_count t τ) (drop x.at ws) (omega (arith, l, length-drop x.at ws))) in
        let away : take_from 1 (rs 0 t.len) (drop x.at ws) ≡ take_from 1 (rs 0 t.len) A
        = ap (take_from 1 (rs 0 t.len)) (sym (take-append-drop (word_count t τ) (drop x.at ws))) ∙ take_more 1 (rs 0 t.len) A B long in
        let opened : take_from 1 (rs 0 t.len) A ≡ taken (rs 0 t.len) A = ap (λ (q : List ℕ). take_from 1 q A) g ∙ open-taken r us h A ∙ ap (λ (q : List ℕ). taken q A) (sym g) in
        record {
          digits = m.digits ∙ ap (take_from 1 (rs 0 t.len)) d ∙ away ∙ opened;
          stays = λ j v. m.stays j (inr v);
          full = m.full;
          place = after-in Y.at (omega (arith, m.place, n, l)) ∙ m.place ∙ ap (λ (k : ℕ). x.at + k) n;
        }

    without-loads : (x : Taking) → length x.of ≡ RECORDS → any t.len (reader t τ) ≡ false → Had x x
    unfolding readers each
    without-loads x f e =
        let n : picks (reader t τ) 0 t.len ≡ [] = picks-none (reader t τ) 0 t.len (λ j a b. off (λ u. false≢true (sym e ∙ any-stops (reader t τ) t.len j (omega arith) u))) in
        record {
          digits = nil (picks (reader t τ) 0 t.len) n;
          stays = λ j v. refl;
          full = f;
          place = size (picks (reader t τ) 0 t.len) n;
        }
      where
        nil : (xs : List ℕ) → xs ≡ [] → each (λ j. get_or x.of j 0) xs ≡ taken (each (range_of t) xs) (take (words_of (each (range_of t) xs)) (drop x.at ws))
        nil xs z = subst (λ (xs : List ℕ). each (λ j. get_or x.of j 0) xs ≡ taken (each (range_of t) xs) (take (words_of (each (range_of t) xs)) (drop x.at ws))) (sym z) refl

        size : (xs : List ℕ) → xs ≡ [] → x.at ≡ x.at + words_of (each (range_of t) xs)
        size xs z = subst (λ (xs : List ℕ). x.at ≡ x.at + words_of (each (range_of t) xs)) (sym z) (omega arith)

    pub took-thread : (x : Taking) → length x.of ≡ RECORDS → x.at + word_count t τ ≤ length ws → Had x (took_thread t τ ws x)
    unfolding took_thread
    took-thread x f l = elim (test (any t.len (reader t τ))) [
      | inl e ↦ subst (λ (b : Bool). Had x (cond b (shut_of (took_from t τ ws (opened_of ws x) 0 t.len)) x)) (sym e) (with-loads x f l e)
      | inr e ↦ subst (λ (b : Bool). Had x (cond b (shut_of (took_from t τ ws (opened_of ws x) 0 t.len)) x)) (sym e) (without-loads x f e)
    ]

  -- all threads
  abbrev top : ℕ → ℕ
  top L = range_of t L - 1

  pub record Have (x y : Taking) (σ k : ℕ) : Type 0 where
    pub digits : (τ : ℕ) → σ ≤ τ → τ < σ + k → each (λ j. get_or y.of j 0) (readers t τ) ≡ taken (each (range_of t) (readers t τ)) (part_from t (drop x.at ws) σ k τ)
    pub stays : (j : ℕ) → ((τ : ℕ) → σ ≤ τ → reader t τ j ≡ false) → get_or y.of j 0 ≡ get_or x.of j 0

  -- a load is of one thread only
  alone : (σ τ j : ℕ) → So (reader t σ j) → σ < τ → reader t τ j ≡ false
  alone σ τ j s l = off (λ u. omega (arith, ((reader-iff t σ j).0 s).1, ((reader-iff t τ j).0 u).1))

  own : (σ j : ℕ) → 0 < count j (readers t σ) → So (reader t σ j)
  unfolding readers
  own σ j h = (pick-facts (reader t σ) 0 t.len j h).1

  pub took-all : (k σ : ℕ) (x : Taking) → length x.of ≡ RECORDS → x.at + length (words_up_to t top σ k) ≤ length ws → Have x (took_all t ws x σ k) σ k
  unfolding took_all words_up_to part_from
  took-all zero σ x f l = record { digits = λ τ a b. absurd (omega arith); stays = λ j h. refl }
  took-all (suc k) σ x f l =
      let n = length-append (thread_words t top σ) (words_up_to t top (suc σ) k) in
      let z = thread-long t σ top (top-chosen t) in
      let m = took-thread σ x f (omega (arith, n, z, l)) in
      let Y = took_thread t σ ws x in
      let r = took-all k (suc σ) Y m.full (omega (arith, n, z, l, m.place)) in
      record {
        digits = λ τ a b. elim (eq? τ σ) [
          | inl e ↦ here m r τ e
          | inr d ↦ r.digits τ (omega arith) (omega arith) ∙ ap (taken (each (range_of t) (readers t τ))) (later m τ d)
        ];
        stays = λ j h. r.stays j (λ τ a. h τ (omega arith)) ∙ m.stays j (h σ (omega arith));
      }
    where
      later : Had σ x (took_thread t σ ws x) → (τ : ℕ) → τ ≢ σ → part_from t (drop (took_thread t σ ws x).at ws) (suc σ) k τ ≡ cond (eqb τ σ) (take (word_count t σ) (drop x.at ws)) (part_from t (drop (word_count t σ) (drop x.at ws)) (suc σ) k τ)
      later m τ d =
          ap (λ (n : ℕ). part_from t (drop n ws) (suc σ) k τ) m.place
          ∙ ap (λ (us : List ℕ). part_from t us (suc σ) k τ) (sym (drop-drop (word_count t σ) x.at ws))
          ∙ ap (λ (c : Bool). cond c (take (word_count t σ) (drop x.at ws)) (part_from t (drop (word_count t σ) (drop x.at ws)) (suc σ) k τ)) (sym (off (λ s. d (so-eq.0 s))))

      here : Had σ x (took_thread t σ ws x) → Have (took_thread t σ ws x) (took_all t ws (took_thread t σ ws x) (suc σ) k) (suc σ) k → (τ : ℕ) → τ ≡ σ
          → each (λ j. get_or (took_all t ws (took_thread t σ ws x) (suc σ) k).of j 0) (readers t τ)
          ≡ taken (each (range_of t) (readers t τ)) (cond (eqb τ σ) (take (word_count t σ) (drop x.at ws)) (part_from t (drop (word_count t σ) (drop x.at ws)) (suc σ) k τ))
      here m r τ e =
          ap (λ (τ : ℕ). each (λ j. get_or (took_all t ws (took_thread t σ ws x) (suc σ) k).of j 0) (readers t τ)) e
          ∙ each_on (λ j. get_or (took_all t ws (took_thread t σ ws x) (suc σ) k).of j 0) (λ j. get_or (took_thread t σ ws x).of j 0) (readers t σ) (λ j h. r.stays j (λ τ a. alone σ τ j (own σ j h) (omega arith)))
          ∙ m.digits
          ∙ ap₂ (λ (τ : ℕ) (c : Bool). taken (each (range_of t) (readers t τ)) (cond c (take (word_count t σ) (drop x.at ws)) (part_from t (drop (word_count t σ) (drop x.at ws)) (suc σ) k τ))) (sym e) (sym ((so-eq {m = τ} {n = σ}).1 e))

  -- each load has its digit
  pub digit-taken : Form t → length ws ≡ length (tops t) → (L : ℕ) → L < t.len → So (reads (at t L)) → get_or (took_all t ws none_taken 0 THREADS).of L 0 ≡ digit_in t ws L
  unfolding digit_in
  digit-taken form l L b s =
      let τ = thread (at t L) in
      let h = took-all THREADS 0 none_taken (length-replicate {A = ℕ} RECORDS 0) (omega (arith, l)) in
      sym (each_at (λ j. get_or (took_all t ws none_taken 0 THREADS).of j 0) (readers t τ) L (is-reader t L b s))
      ∙ ap (λ (ds : List ℕ). get_or ds (pos (readers t τ) L) 0) (h.digits τ (omega arith) (omega (arith, (form.used L b).keeps.thread-below)))
