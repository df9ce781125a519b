-- The answers of `read_whole`, and what it adds to those of `read`.
--
--   whole-lost, whole-good, whole-refused, whole-other == each answer, with the tests that lead to it
--   whole-exactly                                      == a text is read exactly where its lines are good and its trace lost no core
--   whole_same                                         == where no core is lost, it is what `read` answers
--   refused-whole                                      == what is wrong with a line is told as before
--   whole-well                                         == what is read is well formed
--   lost-part                                          == beside number 22 no line is to blame
use mathlib.Core.Path.{◌≡◌, refl, sym, ap, ◌∙◌}
use mathlib.Core.Logic.{◌≢◌, ◌↔◌, inl, inr}
use mathlib.Core.Bool.{Bool, true, false, So, cond}
use mathlib.Core.List.{List, []}
use native.Mathlib.Omega.{arith}
use Prim.Native.Nat.{ℕ}
use Rattle.laws.proofs.Tests.{test}
use Rattle.trace.specs.WellFormed.{well_formed}
use Rattle.trace.specs.Cores.{lost}
use Rattle.trace.specs.Trace.{empty}
use Rattle.trace.specs.declared.Trace.{Trace}
use Rattle.trace.proofs.Growth.{empty-well}
use Rattle.reader.proofs.RoundTrip.{read-well}
use Rattle.reader.proofs.Cases.{part-good}
use Rattle.reader.specs.Read.{refusal, read_text, bad_line_of}
use Rattle.reader.specs.Whole.{whole_as, read_whole}
use Rattle.reader.specs.declared.Reason.{Reason}
use Rattle.reader.specs.declared.Answer.{Answer}
use Rattle.reader.specs.declared.Answer.TheVariants.{Good, Refused, Lost}
use Rattle.reader.specs.declared.Reading.{Reading}

module _ (text : List ℕ) (r : Reading) (e : r ≡ read_text text) where
  by : (a : Answer) → r.answer ≡ a → read_whole text ≡ whole_as a r
  unfolding read_whole
  by a q = ap (λ (r : Reading). whole_as r.answer r) (sym e) ∙ ap (λ (a : Answer). whole_as a r) q

  pub whole-lost : r.answer ≡ Good → So (lost r.trace) → (u : Trace) → u ≡ empty → record { answer = Lost; trace = u } ≡ read_whole text
  whole-lost q s u z = ap (λ (u : Trace). record { answer = Lost; trace = u }) z ∙ sym (by Good q ∙ ap (λ b. cond b (record { answer = Lost; trace = empty }) r) s)

  pub whole-good : r.answer ≡ Good → lost r.trace ≡ false → r ≡ read_whole text
  whole-good q s = sym (by Good q ∙ ap (λ b. cond b (record { answer = Lost; trace = empty }) r) s)

  pub whole-refused : (reason : Reason) (n : ℕ) → r.answer ≡ Refused reason n → r ≡ read_whole text
  whole-refused reason n q = sym (by (Refused reason n) q)

  pub whole-other : r.answer ≡ Lost → r ≡ read_whole text
  whole-other q = sym (by Lost q)

abbrev good : Trace → Reading
good t = record { answer = Good; trace = t }

abbrev lost_one : Reading
lost_one = record { answer = Lost; trace = empty }

-- which of the three an answer is
abbrev kind : Answer → ℕ
kind Good = 0
kind (Refused reason n) = 1
kind Lost = 2

apart : {r s : Reading} → r ≡ s → kind r.answer ≡ kind s.answer
apart e = ap (λ (r : Reading). kind r.answer) e

module _ (text : List ℕ) where
  pub whole-exactly : (t : Trace) → (read_whole text ≡ good t) ↔ ((read_text text ≡ good t) × (lost t ≡ false))
  unfolding read_whole
  whole-exactly t = (λ e. go (read_text text).answer refl e, λ p. sym (whole-good text (good t) (sym p.0) refl p.1))
    where
      kept : (b : Bool) → lost (read_text text).trace ≡ b → cond b lost_one (read_text text) ≡ good t → (read_text text ≡ good t) × (lost t ≡ false)
      kept true s e = let k = apart e in absurd (omega arith)
      kept false s e = (e, ap (λ (r : Reading). lost r.trace) (sym e) ∙ s)

      go : (a : Answer) → (read_text text).answer ≡ a → whole_as a (read_text text) ≡ good t → (read_text text ≡ good t) × (lost t ≡ false)
      go Good q e = kept (lost (read_text text).trace) refl e
      go (Refused reason n) q e = let k = apart e in let l = ap kind q in absurd (omega arith)
      go Lost q e = let k = apart e in let l = ap kind q in absurd (omega arith)

  pub whole_same : (read_whole text).answer ≢ Lost → read_whole text ≡ read_text text
  whole_same d = go (read_text text).answer refl
    where
      go : (a : Answer) → (read_text text).answer ≡ a → read_whole text ≡ read_text text
      go Good q = elim (test (lost (read_text text).trace)) [
        | inl s ↦ absurd (d (ap (λ (r : Reading). r.answer) (sym (whole-lost text (read_text text) refl q s empty refl))))
        | inr s ↦ sym (whole-good text (read_text text) refl q s)
      ]
      go (Refused reason n) q = sym (whole-refused text (read_text text) refl reason n q)
      go Lost q = sym (whole-other text (read_text text) refl q)

  pub refused-whole : (reason : Reason) (n : ℕ) → read_text text ≡ refusal reason n → read_whole text ≡ refusal reason n
  refused-whole reason n e = sym (whole-refused text (refusal reason n) (sym e) reason n refl)

  pub whole-well : So (well_formed (read_whole text).trace)
  unfolding read_whole
  whole-well = go (read_text text).answer
    where
      kept : (b : Bool) → So (well_formed (cond b lost_one (read_text text)).trace)
      kept true = empty-well
      kept false = read-well text

      go : (a : Answer) → So (well_formed (whole_as a (read_text text)).trace)
      go Good = kept (lost (read_text text).trace)
      go (Refused reason n) = read-well text
      go Lost = read-well text

  pub lost-part : (t : Trace) → read_text text ≡ good t → So (lost t) → (read_whole text ≡ lost_one) × (bad_line_of text ≡ [])
  lost-part t q s = (sym (whole-lost text (good t) (sym q) refl s empty refl), part-good text t q)
