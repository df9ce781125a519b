-- Two sets of reads of a test program have equal words exactly when they are equal.
--
--   values-once   == a load's list of values has no value twice
--   digit_value, value-digit == digits and values are inverse
--   Chosen t g    == each load has a digit below its range
--   digits        == so have the loads of a thread
--   words-one     == equal words, equal digits
--   signature-one == the theorem
use mathlib.Core.Path.{◌≡◌, refl, sym, ap, ap₂, ◌∙◌}
use mathlib.Core.Logic.{◌≢◌, ◌↔◌, inl, inr}
use mathlib.Core.Bool.{So}
use mathlib.Core.List.{List, ◌++◌}
use Prim.Native.Nat.{ℕ, zero, suc, ◌+◌, ◌-◌, ◌<◌, ◌≤◌}
use native.Mathlib.Omega.{arith}
use lib.ListN.{length, get_or, length-append}
use Rattle.laws.specs.Places.{count}
use Rattle.laws.specs.Picks.{picks}
use Rattle.laws.proofs.Tests.{and-iff, same-iff, so-eq, eq?, not_iff}
use Rattle.laws.proofs.Places.{at-pos, pos-at, count-here, count-later, pos_inj}
use Rattle.trace.specs.Bounds.{THREADS}
use Rattle.trace.specs.Op.{thread, address, written, reads, writes}
use Rattle.trace.specs.Trace.{at, first}
use Rattle.trace.specs.FormFacts.{Form}
use Rattle.trace.specs.Meaning.{frame_of}
use Rattle.trace.specs.declared.Trace.{Trace}
use Rattle.trace.proofs.Meaning.{writes-iff}
use Rattle.trace.proofs.Good.{form-good}
use Rattle.signature.specs.DigitWords.{packed, words_of}
use Rattle.signature.specs.Reads.{other, each, values, range_of, digit_of, value_of, reader, readers, AllListed}
use Rattle.signature.specs.Signature.{thread_words, words_up_to, words_by, signature}
use Rattle.signature.proofs.DigitWords.{Digits, packed-one, packed-long}
use Rattle.signature.proofs.Lists.{each_none, each-once, pick_all, pick_same, pick-like, append-parts}

module _ (t : Trace) (form : Form t) (L : ℕ) where
  other-iff : (i : ℕ) → So (other t L i) ↔ ((So (writes (at t i)) × (address (at t i) ≡ address (at t L))) × (i ≢ L))
  unfolding other
  other-iff i = and-iff (and-iff same-iff so-eq) (not_iff so-eq)

  pub values-once : (v : ℕ) → count v (values t L) ≤ 1
  unfolding values frame_of
  values-once v = elim (eq? v (first t (address (at t L)))) [
    | inl d ↦ omega (arith, count-here v (first t (address (at t L))) ws d, each_none (other t L) (λ i. written (at t i)) v 0 t.len (λ j a b s e. fresh j (omega arith) s (e ∙ d)))
    | inr d ↦ omega (arith, count-later v (first t (address (at t L))) ws d, each-once (other t L) (λ i. written (at t i)) v 0 t.len (λ a b c d s u e. same a b (omega arith) (omega arith) s u e))
  ]
    where
      ws : List ℕ
      ws = each (λ i. written (at t i)) (picks (other t L) 0 t.len)

      fresh : (j : ℕ) → j < t.len → So (other t L j) → written (at t j) ≢ first t (address (at t L))
      fresh j h s e = let o = (other-iff j).0 s in (form-good t form).fresh j ((writes-iff t j).1 (h, o.0.0)) (e ∙ ap (first t) (sym o.0.1))

      same : (a b : ℕ) → a < t.len → b < t.len → So (other t L a) → So (other t L b) → written (at t a) ≡ written (at t b) → a ≡ b
      same a b h k s u e =
          let o = (other-iff a).0 s in
          let p = (other-iff b).0 u in
          (form-good t form).once a b ((writes-iff t a).1 (h, o.0.0)) ((writes-iff t b).1 (k, p.0.0)) (o.0.1 ∙ sym p.0.1) e

  -- digits and values are inverse
  pub value-digit : (v : ℕ) → digit_of t L v < range_of t L → value_of t L (digit_of t L v) ≡ v
  value-digit v h = at-pos (values t L) v h

  pub digit_value : (d : ℕ) → d < range_of t L → digit_of t L (value_of t L d) ≡ d
  digit_value d h = pos-at (values t L) d h (values-once (get_or (values t L) d 0))

pub reader-iff : (t : Trace) (τ j : ℕ) → So (reader t τ j) ↔ (So (reads (at t j)) × (thread (at t j) ≡ τ))
unfolding reader
reader-iff t τ j = and-iff same-iff so-eq

abbrev pub Chosen : Trace → (ℕ → ℕ) → Type 0
Chosen t g = (L : ℕ) → L < t.len → So (reads (at t L)) → g L < range_of t L

module _ (t : Trace) where
  module _ (τ : ℕ) where
    pub digits : (g : ℕ → ℕ) → Chosen t g → Digits (each (range_of t) (readers t τ)) (each g (readers t τ))
    unfolding readers
    digits g h = pick_all (reader t τ) (λ L. g L < range_of t L) 0 t.len (λ j b s. h j (omega arith) ((reader-iff t τ j).0 s).0) g (range_of t) (λ j p. p)

    thread-same : (g h : ℕ → ℕ) → Chosen t g → Chosen t h → thread_words t g τ ≡ thread_words t h τ → (L : ℕ) → L < t.len → So (reads (at t L)) → thread (at t L) ≡ τ → g L ≡ h L
    unfolding readers
    thread-same g h k l e L b s c =
        let f : each g (readers t τ) ≡ each h (readers t τ) = (packed-one (digits g k) (digits h l)).0 e in
        pick_same (reader t τ) g h 0 t.len f L (omega arith) (omega arith) ((reader-iff t τ L).1 (s, c))

    pub thread-long : (g : ℕ → ℕ) → Chosen t g → length (thread_words t g τ) ≡ words_of (each (range_of t) (readers t τ))
    thread-long g h = packed-long (digits g h)

  up_same : (g h : ℕ → ℕ) → Chosen t g → Chosen t h → (k τ : ℕ) → words_up_to t g τ k ≡ words_up_to t h τ k → (L : ℕ) → L < t.len → So (reads (at t L)) → τ ≤ thread (at t L) → thread (at t L) < τ + k → g L ≡ h L
  unfolding words_up_to
  up_same g h c d zero τ e L b s a f = absurd (omega arith)
  up_same g h c d (suc k) τ e L b s a f =
      let r = append-parts (thread_words t g τ) (thread_words t h τ) _ _ (thread-long τ g c ∙ sym (thread-long τ h d)) e in
      elim (eq? (thread (at t L)) τ) [
        | inl q ↦ thread-same τ g h c d r.0 L b s q
        | inr q ↦ up_same g h c d k (suc τ) r.1 L b s (omega arith) (omega arith)
      ]

  pub up-like : (g h : ℕ → ℕ) → ((L : ℕ) → L < t.len → So (reads (at t L)) → g L ≡ h L) → (k τ : ℕ) → words_up_to t g τ k ≡ words_up_to t h τ k
  unfolding words_up_to readers
  up-like g h e zero τ = refl
  up-like g h e (suc k) τ = ap₂ (λ a b. a ++ b)
      (ap (packed (each (range_of t) (readers t τ))) (pick-like (reader t τ) g h 0 t.len (λ j a b s. e j (omega arith) ((reader-iff t τ j).0 s).0)))
      (up-like g h e k (suc τ))

  -- all choices of digits have as many words
  pub up-long : (g h : ℕ → ℕ) → Chosen t g → Chosen t h → (k τ : ℕ) → length (words_up_to t g τ k) ≡ length (words_up_to t h τ k)
  unfolding words_up_to
  up-long g h c d zero τ = refl
  up-long g h c d (suc k) τ =
      omega (
        arith,
        length-append (thread_words t g τ) (words_up_to t g (suc τ) k),
        length-append (thread_words t h τ) (words_up_to t h (suc τ) k),
        thread-long τ g c,
        thread-long τ h d,
        up-long g h c d k (suc τ),
      )

  pub top-chosen : Chosen t (λ L. range_of t L - 1)
  unfolding values
  top-chosen L b s = omega arith

  module _ (form : Form t) where
    pub words-one : (g h : ℕ → ℕ) → Chosen t g → Chosen t h → (words_by t g ≡ words_by t h) ↔ ((L : ℕ) → L < t.len → So (reads (at t L)) → g L ≡ h L)
    words-one g h c d = (λ e L b s. up_same g h c d THREADS 0 e L b s (omega arith) (omega (arith, (form.used L b).keeps.thread-below)), λ e. up-like g h e THREADS 0)

    -- two sets of reads, each in its list, have equal words exactly when they are equal
    pub signature-one : (v w : ℕ → ℕ) → AllListed t v → AllListed t w → (signature t v ≡ signature t w) ↔ ((L : ℕ) → L < t.len → So (reads (at t L)) → v L ≡ w L)
    signature-one v w h k =
        let o = words-one (λ L. digit_of t L (v L)) (λ L. digit_of t L (w L)) h k in
        (λ e L b s. pos_inj (values t L) (v L) (w L) (h L b s) (o.0 e L b s), λ e. o.1 (λ L b s. ap (digit_of t L) (e L b s)))
