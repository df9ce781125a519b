-- Words laid down a load at a time are the words of the program.
--
--   Sound o       == the array has all its places, as many are used at the most, and the open word is below its product
--   goal o rs ds  == the words that there will be, when digits of these ranges are still to come
--   joined-goal, joined-sound, joined-low == a digit more changes nothing in that
--   ran-goal      == nor do all records
--   thread-laid   == the words of a thread are laid down
--   all_laid      == so are those of all threads
--   laid_count    == so many words has the program
--   thread-count  == so many words has a thread by itself
--   tops-laid, signature-laid == the largest words; those of the reads
use mathlib.Core.Path.{◌≡◌, refl, sym, ap, ap₂, ◌∙◌, subst}
use mathlib.Core.Bool.{Bool, true, false, cond, So, false≢true}
use mathlib.Core.List.{List, [], ◌∷◌, ◌++◌, append_assoc, append-nil}
use Prim.Native.Nat.{ℕ, zero, suc, ◌+◌, ◌-◌, ◌*◌, ◌<◌, ◌≤◌}
use native.Mathlib.Numerals.{add-one}
use native.Mathlib.Omega.{arith}
use lib.Dec.{ltb, leb}
use lib.ListN.{length, set, take, length-append, length-set, length-replicate}
use lib.Seq.{length-take-le, take-suc-set}
use borrow.Author.Tests.{lt-ltb, le-ltb, ltb-true}
use Rattle.laws.specs.Tests.{any}
use Rattle.laws.specs.Places.{count}
use Rattle.laws.specs.Picks.{picks}
use Rattle.laws.proofs.Tests.{so-any, off, so-le}
use Rattle.laws.proofs.Loops.{any-stops}
use Rattle.laws.proofs.Picks.{picks-none}
use Rattle.trace.specs.Bounds.{RECORDS, THREADS}
use Rattle.trace.specs.Op.{read}
use Rattle.trace.specs.Trace.{at}
use Rattle.trace.specs.declared.Trace.{Trace}
use Rattle.signature.specs.DigitWords.{LIMIT, onto, pack_from, packed}
use Rattle.signature.specs.Reads.{each, values, range_of, digit_of, reader, readers}
use Rattle.signature.specs.Signature.{thread_words, words_up_to, words_by, signature, tops}
use Rattle.signature.specs.Unpack.{word_count}
use Rattle.signature.specs.SignatureAnswers.{read_in}
use Rattle.signature.specs.inner.WordsLaid.{choice, step_on, closed_of, joined_of, stepped_of, ran_from, thread_of, all_from, none_laid, laid_words}
use Rattle.signature.specs.inner.LoadLists.{DigitsBelow}
use Rattle.signature.specs.declared.Open.{Open}
use Rattle.signature.proofs.DigitWords.{Digits, none, one, pack-some}
use Rattle.signature.proofs.Lists.{pick_all, pick-in, each_long}
use Rattle.signature.proofs.Signature.{reader-iff, up-like, top-chosen, thread-long}
use Rattle.signature.proofs.Few.{pick-short, of-few, range_small, words-few}
use Rattle.signature.proofs.Loop.{lift, lift-same, lift-new, lift-end, product-less, digit-fits}

pub record Sound (o : Open) : Type 0 where
  pub full : length o.of ≡ RECORDS
  pub fits : o.count ≤ RECORDS
  pub low : o.word ≤ o.q

abbrev pub goal : Open → List ℕ → List ℕ → List ℕ
goal o rs ds = laid_words o ++ lift o.word (suc o.q) (pack_from (suc o.q) rs ds)

pub after-in : (i : ℕ) → i < RECORDS → step_on i ≡ suc i
unfolding step_on
after-in i h = ap (λ (b : Bool). cond b (i + 1) i) (lt-ltb i RECORDS h) ∙ add-one i

pub after-low : (i : ℕ) → i ≤ RECORDS → step_on i ≤ RECORDS
unfolding step_on
after-low i h = go (ltb i RECORDS) refl
  where
    go : (b : Bool) → ltb i RECORDS ≡ b → cond b (i + 1) i ≤ RECORDS
    go true e = omega (arith, ltb-true i RECORDS e)
    go false e = h

-- the open word laid down
module _ (o : Open) (f : length o.of ≡ RECORDS) (h : o.count < RECORDS) where
  pub down : take (step_on o.count) (set o.of o.count o.word) ≡ laid_words o ++ (o.word ∷ [])
  unfolding laid_words
  down = ap (λ (n : ℕ). take n (set o.of o.count o.word)) (after-in o.count h) ∙ take-suc-set o.of o.count o.word (omega (arith, f))

  pub closed-laid : laid_words (closed_of o) ≡ laid_words o ++ (o.word ∷ [])
  unfolding laid_words closed_of
  closed-laid = down

pub closed-sound : (o : Open) → Sound o → Sound (closed_of o)
unfolding closed_of
closed-sound o s = record { full = length-set o.of o.count o.word ∙ s.full; fits = after-low o.count s.fits; low = omega arith }

wide : (q r : ℕ) → 0 < r → suc (suc q * r - 1) ≡ suc q * r
wide q r h = omega (arith, product-less q r h)

-- both ways of a digit more
abbrev branch : Open → ℕ → ℕ → Bool → Open
branch o r d b = cond b (record { of = o.of; count = o.count; q = suc o.q * r - 1; word = o.word + suc o.q * d }) (record { of = set o.of o.count o.word; count = step_on o.count; q = r - 1; word = d })

module _ (o : Open) (r d : ℕ) (h : d < r) where
  pub joined-goal : length o.of ≡ RECORDS → o.count < RECORDS → (rs ds : List ℕ) → goal (joined_of o r d) rs ds ≡ goal o (r ∷ rs) (d ∷ ds)
  unfolding joined_of pack_from laid_words
  joined-goal f c rs ds = go (leb (suc o.q * r) LIMIT)
    where
      go : (b : Bool) → goal (branch o r d b) rs ds
          ≡ take o.count o.of ++ lift o.word (suc o.q) (cond b (onto d r (pack_from (suc o.q * r) rs ds)) (0 ∷ onto d r (pack_from r rs ds)))
      go true =
          ap (λ (n : ℕ). take o.count o.of ++ lift (o.word + suc o.q * d) n (pack_from n rs ds)) (wide o.q r (omega arith))
          ∙ ap (λ (l : List ℕ). take o.count o.of ++ l) (sym (lift-same o.word (suc o.q) d r (pack_from (suc o.q * r) rs ds)))
      go false =
          let e : suc (r - 1) ≡ r = omega arith in
          ap₂ (λ (l : List ℕ) (n : ℕ). l ++ lift d n (pack_from n rs ds)) (down o f c) e
          ∙ append_assoc (take o.count o.of) (o.word ∷ []) (lift d r (pack_from r rs ds))
          ∙ ap (λ (l : List ℕ). take o.count o.of ++ l) (sym (lift-new o.word (suc o.q) d r (pack_from r rs ds)))

  pub joined-low : o.word ≤ o.q → (joined_of o r d).word ≤ (joined_of o r d).q
  unfolding joined_of
  joined-low l = go (leb (suc o.q * r) LIMIT)
    where
      go : (b : Bool) → (branch o r d b).word ≤ (branch o r d b).q
      go true = let g = digit-fits o.q r d o.word h l in omega (arith, g.0, g.1, product-less o.q r (omega arith))
      go false = omega arith

  pub joined-sound : Sound o → Sound (joined_of o r d)
  unfolding joined_of
  joined-sound s = record { full = (go (leb (suc o.q * r) LIMIT)).0; fits = (go (leb (suc o.q * r) LIMIT)).1; low = joined-low s.low }
    where
      go : (b : Bool) → (length (branch o r d b).of ≡ RECORDS) × ((branch o r d b).count ≤ RECORDS)
      go true = (s.full, s.fits)
      go false = (length-set o.of o.count o.word ∙ s.full, after-low o.count s.fits)

-- a place is left while a word is open
goal-room : (o : Open) → Sound o → {rs ds : List ℕ} → Digits rs ds → length (goal o rs ds) ≤ RECORDS → o.count < RECORDS
unfolding laid_words
goal-room o s {rs} {ds} g l =
    let (w, vs, e) = pack-some g (suc o.q) in
    let m : length (lift o.word (suc o.q) (pack_from (suc o.q) rs ds)) ≡ suc (length vs) = ap (λ (us : List ℕ). length (lift o.word (suc o.q) us)) e in
    omega (arith, length-append (take o.count o.of) (lift o.word (suc o.q) (pack_from (suc o.q) rs ds)), m, length-take-le o.count o.of (omega (arith, s.full, s.fits)))

module _ (t : Trace) (last : Bool) (ch : DigitsBelow t last) where
  module _ (τ : ℕ) where
    abbrev rs_from : ℕ → ℕ → List ℕ
    rs_from i k = each (range_of t) (picks (reader t τ) i k)

    abbrev ds_from : ℕ → ℕ → List ℕ
    ds_from i k = each (choice t last) (picks (reader t τ) i k)

    some-digits : (i k : ℕ) → i + k ≤ t.len → Digits (rs_from i k) (ds_from i k)
    some-digits i k b = pick_all (reader t τ) (λ L. choice t last L < range_of t L) i k (λ j c s. ch j (omega arith) ((reader-iff t τ j).0 s).0) (choice t last) (range_of t) (λ j p. p)

    step : (o : Open) → Sound o → (i k : ℕ) → i + suc k ≤ t.len → length (goal o (rs_from i (suc k)) (ds_from i (suc k))) ≤ RECORDS
        → (goal (stepped_of t τ last o i) (rs_from (suc i) k) (ds_from (suc i) k) ≡ goal o (rs_from i (suc k)) (ds_from i (suc k))) × Sound (stepped_of t τ last o i)
    unfolding stepped_of picks each
    step o s i k b l = go (reader t τ i) refl l (some-digits i (suc k) b)
      where
        go : (c : Bool) → reader t τ i ≡ c → length (goal o (each (range_of t) (cond c (i ∷ picks (reader t τ) (suc i) k) (picks (reader t τ) (suc i) k))) (each (choice t last) (cond c (i ∷ picks (reader t τ) (suc i) k) (picks (reader t τ) (suc i) k)))) ≤ RECORDS
            → Digits (each (range_of t) (cond c (i ∷ picks (reader t τ) (suc i) k) (picks (reader t τ) (suc i) k))) (each (choice t last) (cond c (i ∷ picks (reader t τ) (suc i) k) (picks (reader t τ) (suc i) k)))
            → (goal (cond c (joined_of o (range_of t i) (choice t last i)) o) (rs_from (suc i) k) (ds_from (suc i) k)
            ≡ goal o (each (range_of t) (cond c (i ∷ picks (reader t τ) (suc i) k) (picks (reader t τ) (suc i) k))) (each (choice t last) (cond c (i ∷ picks (reader t τ) (suc i) k) (picks (reader t τ) (suc i) k))))
            × Sound (cond c (joined_of o (range_of t i) (choice t last i)) o)
        go true e l g =
            let below = ch i (omega arith) ((reader-iff t τ i).0 e).0 in
            (joined-goal o (range_of t i) (choice t last i) below s.full (goal-room o s g l) (rs_from (suc i) k) (ds_from (suc i) k), joined-sound o (range_of t i) (choice t last i) below s)
        go false e l g = (refl, s)

    pub ran-goal : (k i : ℕ) (o : Open) → Sound o → i + k ≤ t.len → length (goal o (rs_from i k) (ds_from i k)) ≤ RECORDS
        → (goal (ran_from t τ last o i k) [] [] ≡ goal o (rs_from i k) (ds_from i k)) × Sound (ran_from t τ last o i k)
    unfolding ran_from picks each
    ran-goal zero i o s b l = (refl, s)
    ran-goal (suc k) i o s b l =
        let n = step o s i k b l in
        let r = ran-goal k (suc i) (stepped_of t τ last o i) n.1 (omega arith) (omega (arith, l, ap length n.0)) in
        (r.0 ∙ n.0, r.1)

    -- a thread with loads begins as if a word of product 1 were open
    lift-one : (ws : List ℕ) → lift 0 1 ws ≡ ws
    lift-one [] = refl
    lift-one (w ∷ ws) = ap (λ (n : ℕ). n ∷ ws) (omega arith)

    open-packed : {rs ds : List ℕ} → Digits rs ds → 0 < length rs → ((r : ℕ) (us : List ℕ) → rs ≡ r ∷ us → r ≤ LIMIT) → pack_from 1 rs ds ≡ packed rs ds
    unfolding pack_from
    open-packed none h b = absurd (omega arith)
    open-packed (one {r} {d} {rs} {ds} g k) h b =
        let e : 1 * r ≡ r = omega arith in
        ap₂ (λ (c : Bool) (n : ℕ). cond c (onto d r (pack_from n rs ds)) (0 ∷ onto d r (pack_from r rs ds))) ((so-le {m = 1 * r} {n = LIMIT}).1 (omega (arith, b r rs refl))) e

    first_range : (xs : List ℕ) (r : ℕ) (us : List ℕ) → each (range_of t) xs ≡ r ∷ us → r ≤ suc t.len
    unfolding each
    first_range [] r us e = let z : ◌≡◌ {A = ℕ} 0 1 = cc in absurd (omega arith)
    first_range (x ∷ xs) r us e = let q : range_of t x ≡ r = cc in omega (arith, range_small t x)

    some-long : (g : ℕ → ℕ) (xs : List ℕ) (x : ℕ) → 0 < count x xs → 0 < length (each g xs)
    unfolding each count
    some-long g [] x h = h
    some-long g (y ∷ ys) x h = omega arith

    pub thread-laid : t.len ≤ RECORDS → (o : Open) → Sound o → o.q ≡ 0 → o.word ≡ 0 → length (laid_words o ++ thread_words t (choice t last) τ) ≤ RECORDS
        → (laid_words (thread_of t τ last o) ≡ laid_words o ++ thread_words t (choice t last) τ) × Sound (thread_of t τ last o) × ((thread_of t τ last o).q ≡ 0) × ((thread_of t τ last o).word ≡ 0)
    unfolding thread_of readers closed_of pack_from each
    thread-laid few o s q0 w0 l = go (any t.len (reader t τ)) refl
      where
        go : (b : Bool) → any t.len (reader t τ) ≡ b
            → (laid_words (cond b (closed_of (ran_from t τ last o 0 t.len)) o) ≡ laid_words o ++ thread_words t (choice t last) τ) × Sound (cond b (closed_of (ran_from t τ last o 0 t.len)) o)
            × ((cond b (closed_of (ran_from t τ last o 0 t.len)) o).q ≡ 0) × ((cond b (closed_of (ran_from t τ last o 0 t.len)) o).word ≡ 0)
        go true e =
            let g = some-digits 0 t.len (omega arith) in
            let (x, b, u) = (so-any t.len (reader t τ)).0 e in
            let p : pack_from 1 (rs_from 0 t.len) (ds_from 0 t.len) ≡ packed (rs_from 0 t.len) (ds_from 0 t.len)
            = open-packed g (some-long (range_of t) (picks (reader t τ) 0 t.len) x (pick-in (reader t τ) 0 t.len x (omega arith) (omega arith) u)) (λ r us z. omega (arith, first_range (picks (reader t τ) 0 t.len) r us z)) in
            let start : goal o (rs_from 0 t.len) (ds_from 0 t.len) ≡ laid_words o ++ packed (rs_from 0 t.len) (ds_from 0 t.len)
            = ap₂ (λ (w q : ℕ). laid_words o ++ lift w (suc q) (pack_from (suc q) (rs_from 0 t.len) (ds_from 0 t.len))) w0 q0 ∙ ap (λ (ws : List ℕ). laid_words o ++ ws) (lift-one (pack_from 1 (rs_from 0 t.len) (ds_from 0 t.len)) ∙ p) in
            let m = ran-goal t.len 0 o s (omega arith) (omega (arith, l, ap length start)) in
            let R = ran_from t τ last o 0 t.len in
            let end : goal R [] [] ≡ laid_words R ++ (R.word ∷ []) = finish R in
            let c : R.count < RECORDS = goal-room R m.1 none (omega (arith, l, ap length (m.0 ∙ start))) in
            (closed-laid R m.1.full c ∙ sym end ∙ m.0 ∙ start, closed-sound R m.1, refl, refl)
          where
            finish : (R : Open) → goal R [] [] ≡ laid_words R ++ (R.word ∷ [])
            finish R = ap (λ (ws : List ℕ). laid_words R ++ ws) (lift-end R.word (suc R.q))
        go false e =
            let n : picks (reader t τ) 0 t.len ≡ [] = picks-none (reader t τ) 0 t.len (λ j a b. off (λ u. false≢true (sym e ∙ any-stops (reader t τ) t.len j (omega arith) u))) in
            (nil (picks (reader t τ) 0 t.len) n, s, q0, w0)
          where
            nil : (xs : List ℕ) → xs ≡ [] → laid_words o ≡ laid_words o ++ packed (each (range_of t) xs) (each (choice t last) xs)
            nil xs z = sym (ap (λ (xs : List ℕ). laid_words o ++ packed (each (range_of t) xs) (each (choice t last) xs)) z ∙ append-nil (laid_words o))

  pub all_laid : t.len ≤ RECORDS → (k τ : ℕ) (o : Open) → Sound o → o.q ≡ 0 → o.word ≡ 0 → length (laid_words o ++ words_up_to t (choice t last) τ k) ≤ RECORDS
      → (laid_words (all_from t last o τ k) ≡ laid_words o ++ words_up_to t (choice t last) τ k) × Sound (all_from t last o τ k)
  unfolding all_from words_up_to
  all_laid few zero τ o s q0 w0 l = (sym (append-nil (laid_words o)), s)
  all_laid few (suc k) τ o s q0 w0 l =
      let here = thread_words t (choice t last) τ in
      let later = words_up_to t (choice t last) (suc τ) k in
      let m = thread-laid τ few o s q0 w0 (omega (arith, l, length-append (laid_words o) (here ++ later), length-append here later, length-append (laid_words o) here)) in
      let join : laid_words (thread_of t τ last o) ++ later ≡ laid_words o ++ (here ++ later) = ap (λ (ws : List ℕ). ws ++ later) m.0 ∙ append_assoc (laid_words o) here later in
      let r = all_laid few k (suc τ) (thread_of t τ last o) m.1 m.2 m.3 (omega (arith, l, ap length join)) in
      (r.0 ∙ join, r.1)

  begun-sound : Sound none_laid
  begun-sound = record { full = length-replicate {A = ℕ} RECORDS 0; fits = omega arith; low = omega arith }

  nothing : laid_words none_laid ++ words_by t (choice t last) ≡ words_by t (choice t last)
  unfolding laid_words
  nothing = refl

  pub words-laid : t.len ≤ RECORDS → (laid_words (all_from t last none_laid 0 THREADS) ≡ words_by t (choice t last)) × Sound (all_from t last none_laid 0 THREADS)
  words-laid few =
      let r = all_laid few THREADS 0 none_laid begun-sound refl refl (subst (λ (us : List ℕ). length us ≤ RECORDS) (sym nothing) (omega (arith, words-few t (choice t last) ch))) in
      (r.0 ∙ nothing, r.1)

-- nothing stands before the first word
none-laid : (ws : List ℕ) → laid_words none_laid ++ ws ≡ ws
unfolding laid_words
none-laid ws = refl

pub top_below : (t : Trace) → DigitsBelow t true
unfolding choice
top_below t L b s = top-chosen t L b s

module _ (t : Trace) (few : t.len ≤ RECORDS) where
  pub tops-laid : laid_words (all_from t true none_laid 0 THREADS) ≡ tops t
  unfolding choice
  tops-laid = (words-laid t true (top_below t) few).0 ∙ up-like t (choice t true) (λ L. range_of t L - 1) (λ L b s. refl) THREADS 0

  laid-long : (o : Open) → Sound o → length (laid_words o) ≡ o.count
  unfolding laid_words
  laid-long o s = length-take-le o.count o.of (omega (arith, s.full, s.fits))

  pub tops-count : (all_from t true none_laid 0 THREADS).count ≡ length (tops t)
  tops-count = sym (laid-long (all_from t true none_laid 0 THREADS) (words-laid t true (top_below t) few).1) ∙ ap length tops-laid

  pub tops_fit : (all_from t true none_laid 0 THREADS).count ≤ RECORDS
  tops_fit = (words-laid t true (top_below t) few).1.fits

  pub laid_count : (o : Open) → o ≡ all_from t true none_laid 0 THREADS → o.count ≡ length (tops t)
  laid_count o e = ap (λ (o : Open). o.count) e ∙ tops-count

  pub thread-count : (τ : ℕ) → (thread_of t τ true none_laid).count ≡ word_count t τ
  unfolding readers
  thread-count τ =
      let own = thread_words t (choice t true) τ in
      let long : length own ≡ word_count t τ = thread-long t τ (choice t true) (top_below t) in
      let fits : length own ≤ RECORDS = omega (arith, long, of-few (each (range_of t) (readers t τ)), each_long (range_of t) (readers t τ), pick-short (reader t τ) 0 t.len) in
      let m = thread-laid t true (top_below t) τ few none_laid (begun-sound t true (top_below t)) refl refl (alone own fits) in
      sym (laid-long (thread_of t τ true none_laid) m.1) ∙ ap length (m.0 ∙ bare own) ∙ long
    where
      bare : (ws : List ℕ) → laid_words none_laid ++ ws ≡ ws
      bare ws = none-laid ws

      alone : (ws : List ℕ) → length ws ≤ RECORDS → length (laid_words none_laid ++ ws) ≤ RECORDS
      alone ws h = omega (arith, ap length (none-laid ws))

  module _ (b : DigitsBelow t false) where
    pub signature-laid : laid_words (all_from t false none_laid 0 THREADS) ≡ signature t (read_in t)
    unfolding choice
    signature-laid = (words-laid t false b few).0 ∙ up-like t (choice t false) (λ L. digit_of t L (read_in t L)) (λ L c s. refl) THREADS 0

    pub signature-fit : (all_from t false none_laid 0 THREADS).count ≤ RECORDS
    signature-fit = (words-laid t false b few).1.fits

    pub signature-count : (all_from t false none_laid 0 THREADS).count ≡ length (signature t (read_in t))
    signature-count = sym (laid-long (all_from t false none_laid 0 THREADS) (words-laid t false b few).1) ∙ ap length signature-laid

-- ---- what each function of the code comes to, by the tests that lead there
module _ (t : Trace) (last : Bool) (L : ℕ) where
  pub choice-last : last ≡ true → range_of t L - 1 ≡ choice t last L
  unfolding choice
  choice-last e = ap (λ (b : Bool). cond b (range_of t L - 1) (digit_of t L (read (at t L)))) (sym e)

  pub choice-read : last ≡ false → digit_of t L (read (at t L)) ≡ choice t last L
  unfolding choice
  choice-read e = ap (λ (b : Bool). cond b (range_of t L - 1) (digit_of t L (read (at t L)))) (sym e)

pub range-some : (t : Trace) (L : ℕ) → 0 < range_of t L
unfolding values
range-some t L = omega arith

pub after-yes : (i : ℕ) → i < RECORDS → i + 1 ≡ step_on i
after-yes i h = sym (after-in i h ∙ sym (add-one i))

pub after-no : (i : ℕ) → RECORDS ≤ i → i ≡ step_on i
unfolding step_on
after-no i h = ap (λ (b : Bool). cond b (i + 1) i) (sym (le-ltb i RECORDS h))

module _ (o : Open) where
  pub closed-told : (l : List ℕ) (n : ℕ) → l ≡ set o.of o.count o.word → n ≡ step_on o.count → record { of = l; count = n; q = 0; word = 0 } ≡ closed_of o
  unfolding closed_of
  closed-told l n e f = ap₂ (λ (l : List ℕ) (n : ℕ). record { of = l; count = n; q = 0; word = 0 }) e f

  module _ (r d : ℕ) where
    pub joined_in : leb (suc o.q * r) LIMIT ≡ true → (p w : ℕ) → suc p ≡ suc o.q * r → w ≡ o.word + suc o.q * d → record { of = o.of; count = o.count; q = p; word = w } ≡ joined_of o r d
    unfolding joined_of
    joined_in b p w e f =
        let g : p ≡ suc o.q * r - 1 = omega (arith, e) in
        ap₂ (λ (p w : ℕ). record { of = o.of; count = o.count; q = p; word = w }) g f
        ∙ ap (λ (b : Bool). cond b (record { of = o.of; count = o.count; q = suc o.q * r - 1; word = o.word + suc o.q * d }) (record { of = set o.of o.count o.word; count = step_on o.count; q = r - 1; word = d })) (sym b)

    pub joined-out : leb (suc o.q * r) LIMIT ≡ false → (n : Open) → n ≡ closed_of o → record { of = n.of; count = n.count; q = r - 1; word = d } ≡ joined_of o r d
    unfolding joined_of closed_of
    joined-out b n e =
        ap (λ (n : Open). record { of = n.of; count = n.count; q = r - 1; word = d }) e
        ∙ ap (λ (b : Bool). cond b (record { of = o.of; count = o.count; q = suc o.q * r - 1; word = o.word + suc o.q * d }) (record { of = set o.of o.count o.word; count = step_on o.count; q = r - 1; word = d })) (sym b)

  module _ (t : Trace) (τ : ℕ) (last : Bool) where
    pub stepped-yes : (i : ℕ) → So (reader t τ i) → joined_of o (range_of t i) (choice t last i) ≡ stepped_of t τ last o i
    unfolding stepped_of
    stepped-yes i s = ap (λ (b : Bool). cond b (joined_of o (range_of t i) (choice t last i)) o) (sym s)

    pub stepped-no : (i : ℕ) → reader t τ i ≡ false → o ≡ stepped_of t τ last o i
    unfolding stepped_of
    stepped-no i s = ap (λ (b : Bool). cond b (joined_of o (range_of t i) (choice t last i)) o) (sym s)

    pub ran_on : (n i : ℕ) → i < n → ran_from t τ last (stepped_of t τ last o i) (i + 1) (n - (i + 1)) ≡ ran_from t τ last o i (n - i)
    unfolding ran_from
    ran_on n i h = let e : n - i ≡ suc (n - (i + 1)) = omega arith in sym (ap (ran_from t τ last o i) e ∙ (rw add-one refl))

    pub ran_over : (n i : ℕ) → n ≤ i → ran_from t τ last o i (n - i) ≡ o
    unfolding ran_from
    ran_over n i h = let e : n - i ≡ 0 = omega arith in ap (ran_from t τ last o i) e

    pub thread-yes : So (any t.len (reader t τ)) → closed_of (ran_from t τ last o 0 t.len) ≡ thread_of t τ last o
    unfolding thread_of
    thread-yes s = ap (λ (b : Bool). cond b (closed_of (ran_from t τ last o 0 t.len)) o) (sym s)

    pub thread-no : any t.len (reader t τ) ≡ false → o ≡ thread_of t τ last o
    unfolding thread_of
    thread-no s = ap (λ (b : Bool). cond b (closed_of (ran_from t τ last o 0 t.len)) o) (sym s)

  module _ (t : Trace) (last : Bool) where
    pub all-on : (n τ : ℕ) → τ < n → all_from t last (thread_of t τ last o) (τ + 1) (n - (τ + 1)) ≡ all_from t last o τ (n - τ)
    unfolding all_from
    all-on n τ h = let e : n - τ ≡ suc (n - (τ + 1)) = omega arith in sym (ap (all_from t last o τ) e ∙ (rw add-one refl))

    pub all-over : (n τ : ℕ) → n ≤ τ → all_from t last o τ (n - τ) ≡ o
    unfolding all_from
    all-over n τ h = let e : n - τ ≡ 0 = omega arith in ap (all_from t last o τ) e
