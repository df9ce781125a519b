-- Each answer is given exactly in its case.
--
--   pack-told, pack-case     == packing is answered as its case says, and some case holds
--   pack-exactly             == so an answer comes exactly in its case
--   unpack-told, unpack-case, unpack-exactly == the same of unpacking
use mathlib.Core.Path.{◌≡◌, refl, sym, ◌∙◌, subst}
use mathlib.Core.Logic.{◌↔◌, inl, inr}
use mathlib.Core.Bool.{Bool, So, false≢true}
use mathlib.Core.List.{List}
use mathlib.Core.Option.{Option, none, some}
use Prim.Native.Nat.{ℕ, ◌<◌, ◌≤◌}
use native.Mathlib.Omega.{arith}
use lib.Dec.{ltb}
use lib.ListN.{length, get_or}
use borrow.Author.Tests.{ltb-false}
use Rattle.std.specs.Prelude.{Result}
use Rattle.laws.specs.Lowest.{Lowest, lowest}
use Rattle.laws.proofs.Lowest.{lowest-iff, lowest-one}
use Rattle.laws.proofs.Tests.{off, test, eq?, and-iff, same-iff, so-eq, so-lt}
use Rattle.laws.proofs.Places.{pos-le}
use Rattle.trace.specs.Op.{reads}
use Rattle.trace.specs.Trace.{at}
use Rattle.trace.specs.WellFormed.{well_formed}
use Rattle.trace.specs.declared.Trace.{Trace}
use Rattle.trace.proofs.WellFormed.{form-iff}
use Rattle.signature.specs.Reads.{values, range_of, digit_of, loads, unlisted}
use Rattle.signature.specs.Signature.{signature, tops, too_large}
use Rattle.signature.specs.Unpack.{reads_of}
use Rattle.signature.specs.SignatureAnswers.{read_in, pack_of, unpack_of}
use Rattle.signature.specs.SignatureCases as cases
use Rattle.signature.specs.SignatureCases.{Lists, Packs, Unpacks}
use Rattle.signature.specs.declared.Reason.{Reason}
use Rattle.signature.proofs.SignatureAnswers.{pack-ten, pack-length, pack-unlisted, pack-done, unpack-ten, unpack-words, unpack-reads, unpack-large, unpack-done}

-- a lowest place is the place that it is said to be
module _ (q : ℕ → Bool) (n : ℕ) where
  abbrev Passes : ℕ → Type 0
  Passes k = (k < n) × So (q k)

  pub lowest-told : (o : Option ℕ) → Lowest Passes o → lowest q n 0 ≡ o
  lowest-told o h = lowest-one Passes (lowest q n 0) o (lowest-iff q Passes n (λ k b. (λ u. (b, u), λ p. p.1)) (λ k p. p.0) n 0 (omega arith) (λ k p. omega arith)) h

  pub lowest-case : Lowest Passes (lowest q n 0)
  lowest-case = lowest-iff q Passes n (λ k b. (λ u. (b, u), λ p. p.1)) (λ k p. p.0) n 0 (omega arith) (λ k p. omega arith)

module _ (t : Trace) where
  unlisted-iff : (L : ℕ) → So (unlisted t (read_in t) L) ↔ (So (reads (at t L)) × (Lists t L → ⊥))
  unfolding unlisted
  unlisted-iff L = (
    λ u. let p = (and-iff (same-iff {a = reads (at t L)}) (so-eq {m = digit_of t L (read_in t L)} {n = range_of t L})).0 u in (p.0, λ l. omega (arith, p.1, l)),
    λ p. (and-iff (same-iff {a = reads (at t L)}) (so-eq {m = digit_of t L (read_in t L)} {n = range_of t L})).1 (p.0, equal L p.1),
  )
    where
      equal : (L : ℕ) → (Lists t L → ⊥) → digit_of t L (read_in t L) ≡ range_of t L
      equal L d = elim (eq? (digit_of t L (read_in t L)) (range_of t L)) [ inl e ↦ e | inr n ↦ absurd (d (omega (arith, pos-le (values t L) (read_in t L)))) ]

  module _ (b : List ℕ) where
    pub pack-told : (a : Result (Unit {0}) Reason) → Packs t b a → pack_of t (length b) ≡ a
    pack-told _ (cases.ten n) = sym (pack-ten t b (off (λ s. n ((form-iff t).0 s)))).0
    pack-told _ (cases.wrong f d) = sym (pack-length t b ((form-iff t).1 f) d).0
    pack-told _ (cases.outside L f l h s n low) = sym (pack-unlisted t b ((form-iff t).1 f) l L (lowest-told (unlisted t (read_in t)) t.len (some L) ((h, (unlisted-iff L).1 (s, n)), λ y p. least y p.1))).0
      where
        least : (y : ℕ) → So (unlisted t (read_in t) y) → L ≤ y
        least y u = elim (test (ltb y L)) [
          | inl l ↦ absurd (((unlisted-iff y).0 u).1 (low y (so-lt.0 l) ((unlisted-iff y).0 u).0))
          | inr l ↦ omega (arith, ltb-false y L l)
        ]
    pack-told _ (cases.done f l h) = sym (pack-done t b ((form-iff t).1 f) l (lowest-told (unlisted t (read_in t)) t.len none (λ y p. ((unlisted-iff y).0 p.1).1 (h y p.0 ((unlisted-iff y).0 p.1).0))) (signature t (read_in t)) refl).0

    pub pack-case : Packs t b (pack_of t (length b))
    pack-case = elim (test (well_formed t)) [
      | inr w ↦ subst (Packs t b) (pack-ten t b w).0 (cases.ten (λ f. false≢true (sym w ∙ (form-iff t).1 f)))
      | inl w ↦ elim (eq? (length b) (length (tops t))) [
        | inr d ↦ subst (Packs t b) (pack-length t b w d).0 (cases.wrong ((form-iff t).0 w) d)
        | inl l ↦ go w l (lowest (unlisted t (read_in t)) t.len 0) refl (lowest-case (unlisted t (read_in t)) t.len)
      ]
    ]
      where
        lists : (j : ℕ) → (So (unlisted t (read_in t) j) → ⊥) → So (reads (at t j)) → Lists t j
        lists j n s = elim (test (ltb (digit_of t j (read_in t j)) (range_of t j))) [ inl l ↦ so-lt.0 l | inr l ↦ absurd (n ((unlisted-iff j).1 (s, λ h. omega (arith, h, ltb-false (digit_of t j (read_in t j)) (range_of t j) l)))) ]

        go : So (well_formed t) → length b ≡ length (tops t) → (o : Option ℕ) → lowest (unlisted t (read_in t)) t.len 0 ≡ o → Lowest (Passes (unlisted t (read_in t)) t.len) o → Packs t b (pack_of t (length b))
        go w l (some L) e h = subst (Packs t b) (pack-unlisted t b w l L e).0
            (cases.outside L ((form-iff t).0 w) l h.0.0 ((unlisted-iff L).0 h.0.1).0 ((unlisted-iff L).0 h.0.1).1 (λ j k s. lists j (λ u. omega (arith, k, h.1 j (omega (arith, k, h.0.0), u))) s))
        go w l none e h = subst (Packs t b) (pack-done t b w l e (signature t (read_in t)) refl).0 (cases.done ((form-iff t).0 w) l (λ L k s. lists L (λ u. h L (k, u)) s))

    pub pack-exactly : (a : Result (Unit {0}) Reason) → (pack_of t (length b) ≡ a) ↔ Packs t b a
    pack-exactly a = (λ e. subst (Packs t b) e pack-case, pack-told a)

  module _ (ws b : List ℕ) where
    pub unpack-told : (a : Result (Unit {0}) Reason) → Unpacks t ws b a → unpack_of t ws (length b) ≡ a
    unfolding too_large
    unpack-told _ (cases.ten n) = sym (unpack-ten t ws b (off (λ s. n ((form-iff t).0 s)))).0
    unpack-told _ (cases.wrong f (inl d)) = sym (unpack-words t ws b ((form-iff t).1 f) d).0
    unpack-told _ (cases.wrong f (inr d)) = elim (eq? (length ws) (length (tops t))) [ inl l ↦ sym (unpack-reads t ws b ((form-iff t).1 f) l d).0 | inr n ↦ sym (unpack-words t ws b ((form-iff t).1 f) n).0 ]
    unpack-told _ (cases.large k f l m h g low) = sym (unpack-large t ws b ((form-iff t).1 f) l m k (lowest-told (too_large t ws) (length ws) (some k) ((h, so-lt.1 g), λ y p. least y p.1))).0
      where
        least : (y : ℕ) → So (too_large t ws y) → k ≤ y
        least y u = elim (test (ltb y k)) [
          | inl z ↦ absurd (omega (arith, low y (so-lt.0 z), (so-lt {m = get_or (tops t) y 0} {n = get_or ws y 0}).0 u))
          | inr z ↦ omega (arith, ltb-false y k z)
        ]
    unpack-told _ (cases.done f l m h) = sym (unpack-done t ws b ((form-iff t).1 f) l m (lowest-told (too_large t ws) (length ws) none (λ y p. omega (arith, h y p.0, (so-lt {m = get_or (tops t) y 0} {n = get_or ws y 0}).0 p.1))) (reads_of t ws) refl).0

    pub unpack-case : Unpacks t ws b (unpack_of t ws (length b))
    unfolding too_large
    unpack-case = elim (test (well_formed t)) [
      | inr w ↦ subst (Unpacks t ws b) (unpack-ten t ws b w).0 (cases.ten (λ f. false≢true (sym w ∙ (form-iff t).1 f)))
      | inl w ↦ elim (eq? (length ws) (length (tops t))) [
        | inr d ↦ subst (Unpacks t ws b) (unpack-words t ws b w d).0 (cases.wrong ((form-iff t).0 w) (inl d))
        | inl l ↦ elim (eq? (length b) (length (loads t))) [
          | inr d ↦ subst (Unpacks t ws b) (unpack-reads t ws b w l d).0 (cases.wrong ((form-iff t).0 w) (inr d))
          | inl m ↦ go w l m (lowest (too_large t ws) (length ws) 0) refl (lowest-case (too_large t ws) (length ws))
        ]
      ]
    ]
      where
        small : (j : ℕ) → (So (ltb (get_or (tops t) j 0) (get_or ws j 0)) → ⊥) → get_or ws j 0 ≤ get_or (tops t) j 0
        small j n = elim (test (ltb (get_or (tops t) j 0) (get_or ws j 0))) [ inl u ↦ absurd (n u) | inr u ↦ ltb-false (get_or (tops t) j 0) (get_or ws j 0) u ]

        go : So (well_formed t) → length ws ≡ length (tops t) → length b ≡ length (loads t) → (o : Option ℕ) → lowest (too_large t ws) (length ws) 0 ≡ o → Lowest (Passes (too_large t ws) (length ws)) o → Unpacks t ws b (unpack_of t ws (length b))
        go w l m (some k) e h = subst (Unpacks t ws b) (unpack-large t ws b w l m k e).0
            (cases.large k ((form-iff t).0 w) l m h.0.0 (so-lt.0 h.0.1) (λ j i. small j (λ u. omega (arith, i, h.1 j (omega (arith, i, h.0.0), u)))))
        go w l m none e h = subst (Unpacks t ws b) (unpack-done t ws b w l m e (reads_of t ws) refl).0 (cases.done ((form-iff t).0 w) l m (λ k i. small k (λ u. h k (i, u))))

    pub unpack-exactly : (a : Result (Unit {0}) Reason) → (unpack_of t ws (length b) ≡ a) ↔ Unpacks t ws b a
    unpack-exactly a = (λ e. subst (Unpacks t ws b) e unpack-case, unpack-told a)
