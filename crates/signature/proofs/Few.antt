-- A program has no more words than loads, and no more loads than records.
--
--   pick-short  == no more pass than there are
--   split-few   == two tests that exclude each other pass no more than one that has both
--   range_small == a load's list is at most one longer than the trace
--   words-few, words-loads == no more words than records, and no more than loads
use mathlib.Core.Path.{◌≡◌, refl, sym, ◌∙◌}
use mathlib.Core.Bool.{Bool, true, false, cond, So, ◌&&◌, false≢true}
use mathlib.Core.List.{List, [], ◌∷◌}
use Prim.Native.Nat.{ℕ, zero, suc, ◌+◌, ◌*◌, ◌≤◌}
use native.Mathlib.Omega.{arith}
use lib.Dec.{leb}
use lib.ListN.{length, length-append}
use Rattle.laws.specs.Picks.{picks}
use Rattle.laws.proofs.Tests.{and-iff, same-iff, so-le, off}
use Rattle.trace.specs.Bounds.{THREADS}
use Rattle.trace.specs.Op.{thread, reads, written}
use Rattle.trace.specs.Trace.{at}
use Rattle.trace.specs.declared.Trace.{Trace}
use Rattle.signature.specs.DigitWords.{LIMIT, words_from, words_of}
use Rattle.signature.specs.Reads.{other, each, values, range_of, reader, readers, loads}
use Rattle.signature.specs.Signature.{thread_words, words_up_to, words_by}
use Rattle.signature.proofs.Lists.{each_long}
use Rattle.signature.proofs.Signature.{Chosen, thread-long, reader-iff}

pub pick-short : (q : ℕ → Bool) (i k : ℕ) → length (picks q i k) ≤ k
unfolding picks
pick-short q i zero = omega arith
pick-short q i (suc k) = go (q i) (pick-short q (suc i) k)
  where
    go : (b : Bool) → length (picks q (suc i) k) ≤ k → length (cond b (i ∷ picks q (suc i) k) (picks q (suc i) k)) ≤ suc k
    go true h = omega arith
    go false h = omega arith

pub range_small : (t : Trace) (L : ℕ) → range_of t L ≤ suc t.len
unfolding values
range_small t L = omega (arith, each_long (λ i. written (at t i)) (picks (other t L) 0 t.len), pick-short (other t L) 0 t.len)

pub split-few : (q v u : ℕ → Bool) → ((j : ℕ) → So (q j) → So (u j) × (v j ≡ false)) → ((j : ℕ) → So (v j) → So (u j)) → (i k : ℕ) → length (picks q i k) + length (picks v i k) ≤ length (picks u i k)
unfolding picks
split-few q v u f g i zero = omega arith
split-few q v u f g i (suc k) = go (q i) (v i) (u i) refl refl refl (split-few q v u f g (suc i) k)
  where
    go : (a b c : Bool) → q i ≡ a → v i ≡ b → u i ≡ c → length (picks q (suc i) k) + length (picks v (suc i) k) ≤ length (picks u (suc i) k)
        → length (cond a (i ∷ picks q (suc i) k) (picks q (suc i) k)) + length (cond b (i ∷ picks v (suc i) k) (picks v (suc i) k)) ≤ length (cond c (i ∷ picks u (suc i) k) (picks u (suc i) k))
    go true true c d e w h = absurd (false≢true (sym (f i d).1 ∙ e))
    go true false true d e w h = omega arith
    go true false false d e w h = absurd (false≢true (sym w ∙ (f i d).0))
    go false true true d e w h = omega arith
    go false true false d e w h = absurd (false≢true (sym w ∙ g i e))
    go false false true d e w h = omega arith
    go false false false d e w h = h

from-few : (p : ℕ) (rs : List ℕ) → words_from p rs ≤ suc (length rs)
unfolding words_from
from-few p [] = omega arith
from-few p (r ∷ rs) = go (leb (p * r) LIMIT) (from-few (p * r) rs) (from-few r rs)
  where
    go : (b : Bool) → words_from (p * r) rs ≤ suc (length rs) → words_from r rs ≤ suc (length rs) → cond b (words_from (p * r) rs) (suc (words_from r rs)) ≤ suc (suc (length rs))
    go true h k = omega arith
    go false h k = omega arith

pub of-few : (rs : List ℕ) → words_of rs ≤ length rs
of-few [] = omega arith
of-few (r ∷ rs) = from-few r rs

module _ (t : Trace) where
  -- the loads of thread σ and of those behind it
  behind : ℕ → ℕ → Bool
  behind σ j = reads (at t j) && leb σ (thread (at t j))

  up-few : (g : ℕ → ℕ) → Chosen t g → (k σ : ℕ) → length (words_up_to t g σ k) ≤ length (picks (behind σ) 0 t.len)
  unfolding words_up_to readers behind
  up-few g h zero σ = omega arith
  up-few g h (suc k) σ =
      omega (
        arith,
        length-append (thread_words t g σ) (words_up_to t g (suc σ) k),
        thread-long t σ g h,
        of-few (each (range_of t) (readers t σ)),
        each_long (range_of t) (readers t σ),
        up-few g h k (suc σ),
        split-few (reader t σ) (behind (suc σ)) (behind σ) own later 0 t.len,
      )
    where
      own : (j : ℕ) → So (reader t σ j) → So (behind σ j) × (behind (suc σ) j ≡ false)
      own j s =
          let r = (reader-iff t σ j).0 s in
          ((and-iff (same-iff {a = reads (at t j)}) (so-le {m = σ} {n = thread (at t j)})).1 (r.0, omega (arith, r.1)), off (λ u. let v = (and-iff (same-iff {a = reads (at t j)}) (so-le {m = suc σ} {n = thread (at t j)})).0 u in omega (arith, r.1, v.1)))

      later : (j : ℕ) → So (behind (suc σ) j) → So (behind σ j)
      later j s = let v = (and-iff (same-iff {a = reads (at t j)}) (so-le {m = suc σ} {n = thread (at t j)})).0 s in (and-iff (same-iff {a = reads (at t j)}) (so-le {m = σ} {n = thread (at t j)})).1 (v.0, omega (arith, v.1))

  pub words-few : (g : ℕ → ℕ) → Chosen t g → length (words_by t g) ≤ t.len
  words-few g h = omega (arith, up-few g h THREADS 0, pick-short (behind 0) 0 t.len)

  pub words-loads : (g : ℕ → ℕ) → Chosen t g → length (words_by t g) ≤ length (loads t)
  unfolding loads behind
  words-loads g h = omega (
    arith,
    up-few g h THREADS 0,
    split-few (behind 0) (λ j. false) (λ j. reads (at t j)) (λ j s. (((and-iff (same-iff {a = reads (at t j)}) (so-le {m = 0} {n = thread (at t j)})).0 s).0, refl)) (λ j s. absurd (false≢true s)) 0 t.len,
  )
