-- Signatures over a text, by the tests that lead to each answer.
--
--   place-yes, place-no       == a number with its place, or alone
--   pack-wrong, pack-good     == packing where the text is turned back, and where it is good
--   unpack-wrong, unpack-good == unpacking
use mathlib.Core.Path.{◌≡◌, sym, ap, ◌∙◌}
use mathlib.Core.Bool.{Bool, false, cond}
use mathlib.Core.List.{List}
use Prim.Native.Nat.{ℕ, ◌+◌, ◌*◌, ◌<◌, ◌≤◌}
use native.Mathlib.Omega.{arith}
use lib.Dec.{eqb}
use lib.ListN.{length}
use borrow.Author.Tests.{eq-eqb, ne_eqb, lt-ltb, le-ltb}
use Rattle.trace.specs.Bounds.{RECORDS}
use Rattle.trace.specs.declared.Trace.{Trace}
use Rattle.reader.specs.Whole.{read_whole}
use Rattle.signature.specs.SignatureAnswers.{pack_of, pack_left, unpack_of, unpack_left}
use Rattle.desk.specs.Text.{text_number}
use Rattle.desk.specs.Signed.{with_place, signed_code, pack_code, pack_after, unpack_code, unpack_after}

module _ (n k : ℕ) where
  pub place-yes : k < RECORDS → n + 256 * k ≡ with_place n k
  unfolding with_place
  place-yes h = ap (λ (b : Bool). cond b (n + 256 * k) n) (sym (lt-ltb k RECORDS h))

  pub place-no : RECORDS ≤ k → n ≡ with_place n k
  unfolding with_place
  place-no h = ap (λ (b : Bool). cond b (n + 256 * k) n) (sym (le-ltb k RECORDS h))

module _ (text : List ℕ) where
  -- the test of a text that is turned back, and of a good one
  off : 0 < text_number text → eqb (text_number text) 0 ≡ false
  off h = ne_eqb (text_number text) 0 (λ e. omega (arith, e))

  module _ (b : List ℕ) where
    pub pack-wrong : 0 < text_number text → (text_number text ≡ pack_code text (length b)) × (b ≡ pack_after text b)
    unfolding pack_code pack_after
    pack-wrong h = (
      ap (λ (c : Bool). cond c (signed_code (pack_of (read_whole text).trace (length b))) (text_number text)) (sym (off h)),
      ap (λ (c : Bool). cond c (pack_left (read_whole text).trace b) b) (sym (off h)),
    )

    pub pack-good : text_number text ≡ 0 → (t : Trace) → t ≡ (read_whole text).trace → (r : ℕ) (now : List ℕ) → r ≡ signed_code (pack_of t (length b)) → now ≡ pack_left t b → (r ≡ pack_code text (length b)) × (now ≡ pack_after text b)
    unfolding pack_code pack_after
    pack-good h t e r now f g = (
      f ∙ ap (λ (t : Trace). signed_code (pack_of t (length b))) e ∙ ap (λ (c : Bool). cond c (signed_code (pack_of (read_whole text).trace (length b))) (text_number text)) (sym (eq-eqb (text_number text) 0 h)),
      g ∙ ap (λ (t : Trace). pack_left t b) e ∙ ap (λ (c : Bool). cond c (pack_left (read_whole text).trace b) b) (sym (eq-eqb (text_number text) 0 h)),
    )

  module _ (ws b : List ℕ) where
    pub unpack-wrong : 0 < text_number text → (text_number text ≡ unpack_code text ws (length b)) × (b ≡ unpack_after text ws b)
    unfolding unpack_code unpack_after
    unpack-wrong h = (
      ap (λ (c : Bool). cond c (signed_code (unpack_of (read_whole text).trace ws (length b))) (text_number text)) (sym (off h)),
      ap (λ (c : Bool). cond c (unpack_left (read_whole text).trace ws b) b) (sym (off h)),
    )

    pub unpack-good : text_number text ≡ 0 → (t : Trace) → t ≡ (read_whole text).trace → (r : ℕ) (now : List ℕ) → r ≡ signed_code (unpack_of t ws (length b)) → now ≡ unpack_left t ws b → (r ≡ unpack_code text ws (length b)) × (now ≡ unpack_after text ws b)
    unfolding unpack_code unpack_after
    unpack-good h t e r now f g = (
      f ∙ ap (λ (t : Trace). signed_code (unpack_of t ws (length b))) e ∙ ap (λ (c : Bool). cond c (signed_code (unpack_of (read_whole text).trace ws (length b))) (text_number text)) (sym (eq-eqb (text_number text) 0 h)),
      g ∙ ap (λ (t : Trace). unpack_left t ws b) e ∙ ap (λ (c : Bool). cond c (unpack_left (read_whole text).trace ws b) b) (sym (eq-eqb (text_number text) 0 h)),
    )
