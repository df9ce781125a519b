-- Unpacking gives back what was packed, and packing what was unpacked.
--
--   part_same     == the part of a thread, among the words of all, is its own words
--   unpack-pack   == the reads come back from their words
--   digit-small   == each digit is one of its load's
--   unpack-listed == any words stand for reads that are in their lists
--   room_up_to t ws σ k == ws has as many words as the threads σ, σ + 1, .., k of them take, and none is too large
--   pack-back     == such words come back from the reads that they stand for
use mathlib.Core.Path.{◌≡◌, refl, sym, ap, ap₂, ◌∙◌, subst}
use mathlib.Core.Logic.{inl, inr}
use mathlib.Core.Bool.{Bool, cond, So, ◌&&◌}
use mathlib.Core.List.{List, [], ◌∷◌, ◌++◌}
use Prim.Native.Nat.{ℕ, zero, suc, ◌+◌, ◌<◌, ◌≤◌}
use native.Mathlib.Omega.{arith}
use lib.Dec.{eqb}
use lib.ListN.{length, get_or, take, drop, take-append-drop}
use lib.Seq.{take_at, drop_at}
use Rattle.laws.specs.Places.{pos, count}
use Rattle.laws.proofs.Tests.{eq?, so-eq, off, and-iff, same-iff}
use Rattle.trace.specs.Bounds.{THREADS}
use Rattle.trace.specs.Op.{thread, reads}
use Rattle.trace.specs.Trace.{at}
use Rattle.trace.specs.FormFacts.{Form}
use Rattle.trace.specs.declared.Trace.{Trace}
use Rattle.signature.specs.DigitWords.{taken, packed}
use Rattle.signature.specs.Reads.{each, values, range_of, digit_of, value_of, reader, readers, AllListed}
use Rattle.signature.specs.Signature.{thread_words, words_up_to, words_by, signature}
use Rattle.signature.specs.Unpack.{word_count, part_from, part_of, digit_in, read_of}
use Rattle.signature.proofs.DigitWords.{Ranges, Digits, room, taken-packed, packed-taken, taken-digits}
use Rattle.signature.proofs.Lists.{each_at, each_on, each_long, by_place, by-bound, pick-in, pick-facts}
use Rattle.signature.proofs.Signature.{value-digit, digit_value, digits, thread-long, reader-iff, Chosen}

-- each load is among those of its thread
pub is-reader : (t : Trace) (L : ℕ) → L < t.len → So (reads (at t L)) → 0 < count L (readers t (thread (at t L)))
unfolding readers
is-reader t L b s = pick-in (reader t (thread (at t L))) 0 t.len L (omega arith) (omega arith) ((reader-iff t (thread (at t L)) L).1 (s, refl))

module _ (t : Trace) (g : ℕ → ℕ) (h : Chosen t g) where
  pub part_same : (k σ τ : ℕ) → σ ≤ τ → τ < σ + k → part_from t (words_up_to t g σ k) σ k τ ≡ thread_words t g τ
  unfolding part_from words_up_to
  part_same zero σ τ a b = absurd (omega arith)
  part_same (suc k) σ τ a b = elim (eq? τ σ) [
    | inl e ↦
        ap (λ c. cond c (take (word_count t σ) (thread_words t g σ ++ words_up_to t g (suc σ) k)) (part_from t (drop (word_count t σ) (thread_words t g σ ++ words_up_to t g (suc σ) k)) (suc σ) k τ)) (so-eq.1 e)
        ∙ take_at (thread_words t g σ) (words_up_to t g (suc σ) k) (word_count t σ) (thread-long t σ g h) ∙ ap (thread_words t g) (sym e)
    | inr d ↦
        ap (λ c. cond c (take (word_count t σ) (thread_words t g σ ++ words_up_to t g (suc σ) k)) (part_from t (drop (word_count t σ) (thread_words t g σ ++ words_up_to t g (suc σ) k)) (suc σ) k τ)) (off (λ s. d (so-eq.0 s)))
        ∙ ap (λ (ws : List ℕ). part_from t ws (suc σ) k τ) (drop_at (thread_words t g σ) (words_up_to t g (suc σ) k) (word_count t σ) (thread-long t σ g h))
        ∙ part_same k (suc σ) τ (omega arith) (omega arith)
  ]

  -- the digits come back from their words
  pub digit-back : Form t → (L : ℕ) → L < t.len → So (reads (at t L)) → digit_in t (words_by t g) L ≡ g L
  unfolding digit_in
  digit-back form L b s =
      let τ = thread (at t L) in
      let p : part_of t (words_by t g) τ ≡ thread_words t g τ = part_same THREADS 0 τ (omega arith) (omega (arith, (form.used L b).keeps.thread-below)) in
      ap (λ (ws : List ℕ). get_or (taken (each (range_of t) (readers t τ)) ws) (pos (readers t τ) L) 0) p
      ∙ ap (λ (ds : List ℕ). get_or ds (pos (readers t τ) L) 0) (taken-packed (digits t τ g h))
      ∙ each_at g (readers t τ) L (is-reader t L b s)

-- the reads come back from their words
pub unpack-pack : (t : Trace) → Form t → (v : ℕ → ℕ) → AllListed t v → (L : ℕ) → L < t.len → So (reads (at t L)) → read_of t (signature t v) L ≡ v L
unpack-pack t form v h L b s = ap (value_of t L) (digit-back t (λ L. digit_of t L (v L)) h form L b s) ∙ value-digit t form L (v L) (h L b s)

ranges : (t : Trace) (xs : List ℕ) → Ranges (each (range_of t) xs)
unfolding each values
ranges t [] = tt
ranges t (x ∷ xs) = (omega arith, ranges t xs)

unfoldable pub room_up_to : Trace → List ℕ → ℕ → ℕ → Bool
room_up_to t ws σ zero = eqb (length ws) 0
room_up_to t ws σ (suc k) = room (each (range_of t) (readers t σ)) (take (word_count t σ) ws) && room_up_to t (drop (word_count t σ) ws) (suc σ) k

module _ (t : Trace) (form : Form t) (ws : List ℕ) where
  abbrev digits_in : ℕ → List ℕ
  digits_in τ = taken (each (range_of t) (readers t τ)) (part_of t ws τ)

  good-digits : (τ : ℕ) → Digits (each (range_of t) (readers t τ)) (digits_in τ)
  good-digits τ = taken-digits (each (range_of t) (readers t τ)) (part_of t ws τ) (ranges t (readers t τ))

  member : (τ L : ℕ) → 0 < count L (readers t τ) → (L < t.len) × (So (reads (at t L)) × (thread (at t L) ≡ τ))
  unfolding readers
  member τ L h = let u = pick-facts (reader t τ) 0 t.len L h in (omega (arith, u.0), (reader-iff t τ L).0 u.1)

  read-digit : (τ L : ℕ) → 0 < count L (readers t τ) → (digit_of t L (read_of t ws L) ≡ get_or (digits_in τ) (pos (readers t τ) L) 0) × (digit_of t L (read_of t ws L) < range_of t L)
  unfolding digit_in
  read-digit τ L h =
      let e = (member τ L h).1.1 in
      let b = by-bound (range_of t) (readers t τ) (digits_in τ) (good-digits τ) L h in
      let q : digit_of t L (read_of t ws L) ≡ get_or (digits_in τ) (pos (readers t τ) L) 0
      = ap (λ (τ : ℕ). digit_of t L (value_of t L (get_or (digits_in τ) (pos (readers t τ) L) 0))) e ∙ digit_value t form L (get_or (digits_in τ) (pos (readers t τ) L) 0) b in
      (q, subst (λ (d : ℕ). d < range_of t L) (sym q) b)

  -- the digit of a load is one of its own
  pub digit-small : (L : ℕ) → L < t.len → So (reads (at t L)) → digit_in t ws L < range_of t L
  unfolding digit_in
  digit-small L b s = let τ = thread (at t L) in by-bound (range_of t) (readers t τ) (digits_in τ) (good-digits τ) L (is-reader t L b s)

  -- each of the reads is in its list
  pub unpack-listed : AllListed t (read_of t ws)
  unpack-listed L b s = (read-digit (thread (at t L)) L (is-reader t L b s)).1

  thread-back : (τ : ℕ) → So (room (each (range_of t) (readers t τ)) (part_of t ws τ)) → thread_words t (λ L. digit_of t L (read_of t ws L)) τ ≡ part_of t ws τ
  unfolding readers
  thread-back τ s =
      ap (packed (each (range_of t) (readers t τ)))
      (each_on (λ L. digit_of t L (read_of t ws L)) (λ L. get_or (digits_in τ) (pos (readers t τ) L) 0) (readers t τ) (λ L h. (read-digit τ L h).0)
      ∙ by_place (reader t τ) 0 t.len (each (range_of t) (readers t τ)) (digits_in τ) (good-digits τ) (each_long (range_of t) (readers t τ)))
      ∙ packed-taken (each (range_of t) (readers t τ)) (part_of t ws τ) s

  up-back : (k σ : ℕ) (us : List ℕ) → ((τ : ℕ) → σ ≤ τ → τ < σ + k → part_of t ws τ ≡ part_from t us σ k τ) → So (room_up_to t us σ k) → words_up_to t (λ L. digit_of t L (read_of t ws L)) σ k ≡ us
  unfolding words_up_to part_from room_up_to
  up-back zero σ [] e s = refl
  up-back zero σ (u ∷ us) e s = absurd (omega (arith, (so-eq {m = suc (length us)} {n = 0}).0 s))
  up-back (suc k) σ us e s =
      let (a, b) = (and-iff (same-iff {a = room (each (range_of t) (readers t σ)) (take (word_count t σ) us)}) (same-iff {a = room_up_to t (drop (word_count t σ) us) (suc σ) k})).0 s in
      let p : part_of t ws σ ≡ take (word_count t σ) us = e σ (omega arith) (omega arith) ∙ ap (λ c. cond c (take (word_count t σ) us) (part_from t (drop (word_count t σ) us) (suc σ) k σ)) ((so-eq {m = σ} {n = σ}).1 refl) in
      let rest : (τ : ℕ) → suc σ ≤ τ → τ < suc σ + k → part_of t ws τ ≡ part_from t (drop (word_count t σ) us) (suc σ) k τ
      = λ τ c d. e τ (omega arith) (omega arith) ∙ ap (λ c. cond c (take (word_count t σ) us) (part_from t (drop (word_count t σ) us) (suc σ) k τ)) (off (λ (s : So (eqb τ σ)). omega (arith, (so-eq {m = τ} {n = σ}).0 s))) in
      ap₂ (λ x y. x ++ y) (thread-back σ (subst (λ (l : List ℕ). So (room (each (range_of t) (readers t σ)) l)) (sym p) a) ∙ p) (up-back k (suc σ) (drop (word_count t σ) us) rest b)
      ∙ take-append-drop (word_count t σ) us

  -- words of which none is too large come back from the reads that they stand for
  pub pack-back : So (room_up_to t ws 0 THREADS) → signature t (read_of t ws) ≡ ws
  pack-back s = up-back THREADS 0 ws (λ τ a b. refl) s
