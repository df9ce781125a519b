-- What packing and unpacking answer, by the tests that lead there.
--
--   none-fails, found_some, found_none == a lowest place, or none
--   none-unlisted                      == where no read is unlisted, each is listed
--   words-none, words-some, size_none, size-some, loads-none, loads-some == how many words and reads there are
--   pack-ten, pack-length, pack-unlisted, pack-done == packing
--   unpack-ten, unpack-words, unpack-reads, unpack-large, unpack-done == unpacking
--   lowest-like, large-same, large-one == a word is too large exactly where it is above the one laid down, in one run as in many
use mathlib.Core.Path.{◌≡◌, refl, sym, ap, ◌∙◌, subst}
use mathlib.Core.Logic.{◌≢◌}
use mathlib.Core.Bool.{Bool, true, false, cond, So, false≢true}
use mathlib.Core.List.{List}
use mathlib.Core.Option.{Option, none, some}
use Prim.Native.Nat.{ℕ, ◌-◌, ◌%◌, ◌<◌, ◌≤◌}
use native.Mathlib.Nat.{mod-lt, mod-eq_of_lt}
use native.Mathlib.Omega.{arith}
use lib.Dec.{ltb}
use lib.ListN.{length, get_or}
use lib.Seq.{get_or-take}
use borrow.Author.Tests.{eq-eqb, ne_eqb}
use Rattle.std.specs.Prelude.{Some, None, Result, Ok, Err}
use Rattle.laws.specs.Lowest.{Lowest, lowest}
use Rattle.laws.proofs.Lowest.{lowest-iff, lowest-one}
use Rattle.laws.proofs.Tests.{off, and-iff, same-iff, so-eq}
use Rattle.laws.proofs.Places.{pos-le}
use Rattle.trace.specs.Bounds.{RECORDS, THREADS}
use Rattle.trace.specs.Op.{reads}
use Rattle.trace.specs.Trace.{at}
use Rattle.trace.specs.WellFormed.{well_formed}
use Rattle.trace.specs.declared.Trace.{Trace}
use Rattle.trace.proofs.WellFormed.{form-iff}
use Rattle.signature.specs.Reads.{values, range_of, digit_of, loads, unlisted, AllListed}
use Rattle.signature.specs.Signature.{signature, tops, too_large}
use Rattle.signature.specs.Unpack.{word_count, reads_of}
use Rattle.signature.specs.SignatureAnswers.{words_in, size_in, loads_in, read_in, pack_then, pack_of, pack_left, unpack_then, unpack_of, unpack_left}
use Rattle.signature.specs.ManyRuns.{large_in_runs}
use Rattle.signature.specs.inner.WordsLaid.{choice, thread_of, all_from, none_laid, laid_words}
use Rattle.signature.specs.inner.LoadLists.{found_of, DigitsBelow, over}
use Rattle.signature.specs.declared.Reason.{Reason}
use Rattle.signature.specs.declared.Reason.TheVariants.{NotWellFormed, WrongLength, NotListed, TooLarge}
use Rattle.signature.proofs.Signature.{up-long, top-chosen}
use Rattle.signature.proofs.Laid.{tops-laid, tops-count, thread-count}

-- a lowest place, or none
module _ (q : ℕ → Bool) (n : ℕ) where
  passes : Lowest (λ k. (k < n) × So (q k)) (lowest q n 0)
  passes = lowest-iff q (λ k. (k < n) × So (q k)) n (λ k h. (λ u. (h, u), λ p. p.1)) (λ k p. p.0) n 0 (omega arith) (λ k p. omega arith)

  pub none-fails : lowest q n 0 ≡ none → (k : ℕ) → k < n → q k ≡ false
  none-fails e k h = off (λ s. subst (λ (o : Option ℕ). Lowest (λ k. (k < n) × So (q k)) o) e passes k (h, s))

pub found_some : (x : Option ℕ) (i : ℕ) → found_of x ≡ Some i → x ≡ some i
found_some (some j) i e = let q : j ≡ i = cc in ap some q
found_some none i e = let z : ◌≡◌ {A = ℕ} 0 1 = cc in absurd (omega arith)

pub found_none : (x : Option ℕ) → found_of x ≡ None → x ≡ none
found_none (some j) e = let z : ◌≡◌ {A = ℕ} 0 1 = cc in absurd (omega arith)
found_none none e = refl

module _ (t : Trace) where
  pub none-unlisted : (v : ℕ → ℕ) → lowest (unlisted t v) t.len 0 ≡ none → AllListed t v
  unfolding unlisted
  none-unlisted v e L b s =
      let f = none-fails (unlisted t v) t.len e L b in
      let d : digit_of t L (v L) ≢ range_of t L = λ z. false≢true (sym f ∙ (and-iff (same-iff {a = reads (at t L)}) (so-eq {m = digit_of t L (v L)} {n = range_of t L})).1 (s, z)) in
      omega (arith, pos-le (values t L) (v L))

  pub listed_below : AllListed t (read_in t) → DigitsBelow t false
  unfolding choice
  listed_below h L b s = h L b s

  pub signature-long : AllListed t (read_in t) → length (signature t (read_in t)) ≡ length (tops t)
  signature-long h = up-long t (λ L. digit_of t L (read_in t L)) (λ L. range_of t L - 1) h (top-chosen t) THREADS 0

  pub words-none : well_formed t ≡ false → 0 ≡ words_in t
  unfolding words_in
  words-none e = ap (λ (b : Bool). cond b (length (tops t)) 0) (sym e)

  pub words-some : (w : So (well_formed t)) → (all_from t true none_laid 0 THREADS).count ≡ words_in t
  unfolding words_in
  words-some w = tops-count t ((form-iff t).0 w).fits ∙ ap (λ (b : Bool). cond b (length (tops t)) 0) (sym w)

  pub size_none : (τ : ℕ) → well_formed t ≡ false → 0 ≡ size_in t τ
  unfolding size_in
  size_none τ e = ap (λ (b : Bool). cond b (word_count t τ) 0) (sym e)

  pub size-some : (τ : ℕ) → (w : So (well_formed t)) → (thread_of t τ true none_laid).count ≡ size_in t τ
  unfolding size_in
  size-some τ w = thread-count t ((form-iff t).0 w).fits τ ∙ ap (λ (b : Bool). cond b (word_count t τ) 0) (sym w)

  pub loads-none : well_formed t ≡ false → 0 ≡ loads_in t
  unfolding loads_in
  loads-none e = ap (λ (b : Bool). cond b (length (loads t)) 0) (sym e)

  pub loads-some : So (well_formed t) → length (loads t) ≡ loads_in t
  unfolding loads_in
  loads-some w = ap (λ (b : Bool). cond b (length (loads t)) 0) (sym w)

  -- an answer settles what the words hold
  left_as : (b : List ℕ) (a : Result (Unit {0}) Reason) → a ≡ pack_of t (length b) → pack_then a t b ≡ pack_left t b
  unfolding pack_left
  left_as b a e = ap (λ (a : Result (Unit {0}) Reason). pack_then a t b) e

  module _ (b : List ℕ) where
    both : (a : Result (Unit {0}) Reason) (now : List ℕ) → a ≡ pack_of t (length b) → now ≡ pack_then a t b → (a ≡ pack_of t (length b)) × (now ≡ pack_left t b)
    both a now e f = (e, f ∙ left_as b a e)

    pub pack-ten : well_formed t ≡ false → (Err NotWellFormed ≡ pack_of t (length b)) × (b ≡ pack_left t b)
    unfolding pack_of
    pack-ten e = both (Err NotWellFormed) b (rw e refl) refl

    module _ (w : So (well_formed t)) where
      pub pack-length : length b ≢ length (tops t) → (Err WrongLength ≡ pack_of t (length b)) × (b ≡ pack_left t b)
      unfolding pack_of
      pack-length d = both (Err WrongLength) b (rw (w, ne_eqb (length b) (length (tops t)) d) refl) refl

      module _ (l : length b ≡ length (tops t)) where
        pub pack-unlisted : (L : ℕ) → lowest (unlisted t (read_in t)) t.len 0 ≡ some L → (Err (NotListed L) ≡ pack_of t (length b)) × (b ≡ pack_left t b)
        unfolding pack_of
        pack-unlisted L e = both (Err (NotListed L)) b (rw (w, eq-eqb (length b) (length (tops t)) l, e) refl) refl

        pub pack-done : lowest (unlisted t (read_in t)) t.len 0 ≡ none → (now : List ℕ) → now ≡ signature t (read_in t) → (Ok tt ≡ pack_of t (length b)) × (now ≡ pack_left t b)
        unfolding pack_of
        pack-done e now f = both (Ok tt) now (rw (w, eq-eqb (length b) (length (tops t)) l, e) refl) f

  -- the same of unpacking
  module _ (ws b : List ℕ) where
    then-as : (a : Result (Unit {0}) Reason) → a ≡ unpack_of t ws (length b) → unpack_then a t ws b ≡ unpack_left t ws b
    unfolding unpack_left
    then-as a e = ap (λ (a : Result (Unit {0}) Reason). unpack_then a t ws b) e

    pair : (a : Result (Unit {0}) Reason) (now : List ℕ) → a ≡ unpack_of t ws (length b) → now ≡ unpack_then a t ws b → (a ≡ unpack_of t ws (length b)) × (now ≡ unpack_left t ws b)
    pair a now e f = (e, f ∙ then-as a e)

    pub unpack-ten : well_formed t ≡ false → (Err NotWellFormed ≡ unpack_of t ws (length b)) × (b ≡ unpack_left t ws b)
    unfolding unpack_of
    unpack-ten e = pair (Err NotWellFormed) b (rw e refl) refl

    module _ (w : So (well_formed t)) where
      pub unpack-words : length ws ≢ length (tops t) → (Err WrongLength ≡ unpack_of t ws (length b)) × (b ≡ unpack_left t ws b)
      unfolding unpack_of
      unpack-words d = pair (Err WrongLength) b (rw (w, ne_eqb (length ws) (length (tops t)) d) refl) refl

      module _ (l : length ws ≡ length (tops t)) where
        pub unpack-reads : length b ≢ length (loads t) → (Err WrongLength ≡ unpack_of t ws (length b)) × (b ≡ unpack_left t ws b)
        unfolding unpack_of
        unpack-reads d = pair (Err WrongLength) b (rw (w, eq-eqb (length ws) (length (tops t)) l, ne_eqb (length b) (length (loads t)) d) refl) refl

        module _ (m : length b ≡ length (loads t)) where
          pub unpack-large : (k : ℕ) → lowest (too_large t ws) (length ws) 0 ≡ some k → (Err (TooLarge k) ≡ unpack_of t ws (length b)) × (b ≡ unpack_left t ws b)
          unfolding unpack_of
          unpack-large k e = pair (Err (TooLarge k)) b (rw (w, eq-eqb (length ws) (length (tops t)) l, eq-eqb (length b) (length (loads t)) m, e) refl) refl

          pub unpack-done : lowest (too_large t ws) (length ws) 0 ≡ none → (now : List ℕ) → now ≡ reads_of t ws → (Ok tt ≡ unpack_of t ws (length b)) × (now ≡ unpack_left t ws b)
          unfolding unpack_of
          unpack-done e now f = pair (Ok tt) now (rw (w, eq-eqb (length ws) (length (tops t)) l, eq-eqb (length b) (length (loads t)) m, e) refl) f

-- two tests that agree have the same lowest place
pub lowest-like : (p q : ℕ → Bool) (n : ℕ) → ((k : ℕ) → k < n → p k ≡ q k) → lowest p n 0 ≡ lowest q n 0
lowest-like p q n e =
    lowest-one (λ k. (k < n) × So (q k)) (lowest p n 0) (lowest q n 0)
    (lowest-iff p (λ k. (k < n) × So (q k)) n (λ k h. (λ u. (h, subst (λ (b : Bool). So b) (e k h) u), λ r. subst (λ (b : Bool). So b) (sym (e k h)) r.1)) (λ k r. r.0) n 0 (omega arith) (λ k r. omega arith))
    (passes q n)

-- above the largest word laid down is above the largest that the digits make, in whichever run
pub large-same : (t : Trace) → t.len ≤ RECORDS → (ws : List ℕ) → (0 < length ws → 0 < length (tops t))
    → lowest (over (all_from t true none_laid 0 THREADS).of (all_from t true none_laid 0 THREADS).count ws) (length ws) 0 ≡ lowest (large_in_runs t ws) (length ws) 0
unfolding over large_in_runs laid_words
large-same t few ws has = lowest-like (over (all_from t true none_laid 0 THREADS).of (all_from t true none_laid 0 THREADS).count ws) (large_in_runs t ws) (length ws) same
  where
    same : (k : ℕ) → k < length ws → over (all_from t true none_laid 0 THREADS).of (all_from t true none_laid 0 THREADS).count ws k ≡ large_in_runs t ws k
    same k h =
        let m : k % length (tops t) < length (tops t) = mod-lt k (has (omega arith)) in
        ap (λ (n : ℕ). ltb (get_or (all_from t true none_laid 0 THREADS).of (k % n) 0) (get_or ws k 0)) (tops-count t few)
        ∙ ap (λ (n : ℕ). ltb n (get_or ws k 0)) (sym (get_or-take (all_from t true none_laid 0 THREADS).count (all_from t true none_laid 0 THREADS).of (k % length (tops t)) 0 (omega (arith, m, tops-count t few))) ∙ ap (λ (us : List ℕ). get_or us (k % length (tops t)) 0) (tops-laid t few))

-- one run is the first of its runs
pub large-one : (t : Trace) (ws : List ℕ) → length ws ≡ length (tops t) → lowest (large_in_runs t ws) (length ws) 0 ≡ lowest (too_large t ws) (length ws) 0
unfolding large_in_runs too_large
large-one t ws l = lowest-like (large_in_runs t ws) (too_large t ws) (length ws) (λ k h. ap (λ (n : ℕ). ltb (get_or (tops t) n 0) (get_or ws k 0)) (mod-eq_of_lt (omega (arith, l))))
