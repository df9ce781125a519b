-- 22 comes exactly in its case, of a text and of a packed file.
--
--   text-whole == a text reads as a trace exactly when the trace is well formed and whole, and the text is one of its texts
--   text-lost  == a text is told as 22 exactly when it is a text of a well formed trace that lost a core
--   file-whole, file-lost == the same of a packed file
use mathlib.Core.Path.{◌≡◌, refl, sym, ap}
use mathlib.Core.Logic.{◌≢◌, ◌↔◌, inl, inr}
use mathlib.Core.Bool.{Bool, true, false, So, cond}
use mathlib.Core.List.{List, [], ◌∷◌}
use Prim.Native.Nat.{ℕ, ◌+◌, ◌<◌}
use native.Mathlib.Omega.{arith}
use lib.Dec.{ltb}
use lib.ListN.{length, set}
use Rattle.std.specs.Prelude.{Option, Some, None, Result, Ok, Err}
use Rattle.laws.proofs.Tests.{test}
use Rattle.trace.specs.Trace.{empty, started, pushed}
use Rattle.trace.specs.WellFormed.{well_formed}
use Rattle.trace.specs.Cores.{lost, Whole}
use Rattle.trace.specs.declared.Op.{Op}
use Rattle.trace.specs.declared.Trace.{Trace}
use Rattle.trace.proofs.Lost.{lost-iff}
use Rattle.text.specs.Lines.{Line, lines}
use Rattle.reader.specs.Bounds.{TEXT}
use Rattle.reader.specs.Answer.{turned, init_given}
use Rattle.reader.specs.Answer as answer
use Rattle.reader.specs.Read.{refusal, none, read_lines, read_inits, read_text}
use Rattle.reader.specs.TextOf.{TextOf}
use Rattle.reader.specs.Whole.{LOST, read_whole}
use Rattle.reader.specs.declared.Init.{Init}
use Rattle.reader.specs.declared.Reason.{Reason}
use Rattle.reader.specs.declared.Reason.TheVariants.{LongText, LongLine, NoForm, PastBound, Addresses, FirstValue, TooMany, Twice, Late}
use Rattle.reader.specs.declared.Answer.{Answer}
use Rattle.reader.specs.declared.Answer.TheVariants.{Good, Refused, Lost}
use Rattle.reader.specs.declared.Reading.{Reading}
use Rattle.reader.proofs.RoundTrip.{read-exactly}
use Rattle.reader.proofs.Whole.{whole-lost, whole-good, whole-refused, whole-exactly}
use Rattle.packed.specs.Layout.{file_of}
use Rattle.packed.specs.FileRead as file
use Rattle.packed.specs.WholeFile as packs
use Rattle.packed.specs.FileCases.{BackWhole, before, skipped}
use Rattle.packed.specs.declared.Reason as file-reason
use Rattle.packed.specs.declared.Reason.TheVariants as why
use Rattle.packed.specs.declared.Answer as file-answer
use Rattle.packed.specs.declared.Answer.TheVariants as told
use Rattle.packed.proofs.Codec.{Bytes}
use Rattle.packed.proofs.WholeFile as held
use Rattle.desk.specs.Text.{number_in, text_number}
use Rattle.desk.specs.File.{file_number_in}
use Rattle.desk.specs.Packs.{whole_number}

-- ---- a text
abbrev good : Trace → Reading
good t = record { answer = Good; trace = t }

-- which of the three an answer is
abbrev kind : Answer → ℕ
kind Good = 0
kind (Refused reason n) = 1
kind Lost = 2

-- reading by lines alone never says that a core is lost
lines-not : (ls : List Line) (n : ℕ) (t : Trace) → kind (read_lines n t ls).answer < 2
unfolding read_lines
lines-not [] n t = omega arith
lines-not (l ∷ ls) n t = go (turned t l) (λ o. lines-not ls (n + 1) (pushed t o))
  where
    go : (u : Result Op Reason) → ((o : Op) → kind (read_lines (n + 1) (pushed t o) ls).answer < 2)
        → (let r : Reading = elim u [ Ok o ↦ read_lines (n + 1) (pushed t o) ls | Err reason ↦ refusal reason n ] in kind r.answer < 2)
    go (Ok o) h = h o
    go (Err reason) h = omega arith

inits-not : (ls : List Line) (n : ℕ) (given : List Bool) (t : Trace) → kind (read_inits n given t ls).answer < 2
unfolding read_inits
inits-not [] n given t = omega arith
inits-not (l ∷ ls) n given t = go (init_given given l) (λ a v. inits-not ls (n + 1) (set given a true) (started t a v)) (lines-not (l ∷ ls) n t)
  where
    go : (r : Option Init) → ((a v : ℕ) → kind (read_inits (n + 1) (set given a true) (started t a v) ls).answer < 2) → kind (read_lines n t (l ∷ ls)).answer < 2
        → (let all : Reading = elim r [ Some i ↦ read_inits (n + 1) (set given i.addr true) (started t i.addr i.value) ls | None ↦ read_lines n t (l ∷ ls) ] in kind all.answer < 2)
    go (Some i) h k = h i.addr i.value
    go None h k = k

text-not : (text : List ℕ) → kind (read_text text).answer < 2
unfolding read_text
text-not text = go (ltb TEXT (length text)) (inits-not (lines text) 1 none empty)
  where
    go : (b : Bool) → kind (read_inits 1 none empty (lines text)).answer < 2 → kind (cond b (refusal LongText 0) (read_inits 1 none empty (lines text))).answer < 2
    go true h = omega arith
    go false h = h

-- no line's number is 22
reason-not : (reason : Reason) → answer.number_of reason ≢ LOST
reason-not LongText e = absurd (omega (arith, e))
reason-not LongLine e = absurd (omega (arith, e))
reason-not NoForm e = absurd (omega (arith, e))
reason-not PastBound e = absurd (omega (arith, e))
reason-not Addresses e = absurd (omega (arith, e))
reason-not FirstValue e = absurd (omega (arith, e))
reason-not TooMany e = absurd (omega (arith, e))
reason-not Twice e = absurd (omega (arith, e))
reason-not Late e = absurd (omega (arith, e))

lost-told : (a : Answer) → number_in a ≡ LOST → kind a ≡ 2
lost-told Good e = absurd (omega (arith, e))
lost-told (Refused reason n) e = absurd (reason-not reason e)
lost-told Lost e = refl

module _ (text : List ℕ) where
  pub text-whole : (t : Trace) → (read_whole text ≡ good t) ↔ (So (well_formed t) × Whole t × TextOf t text)
  text-whole t = (
    λ e. let p = (whole-exactly text t).0 e in let q = (read-exactly text t).0 p.0 in (q.0, (lost-iff t q.0).0 p.1, q.1),
    λ p. (whole-exactly text t).1 ((read-exactly text t).1 (p.0, p.2), (lost-iff t p.0).1 p.1),
  )

  pub text-lost : (text_number text ≡ LOST) ↔ ((t : Trace) × So (well_formed t) × TextOf t text × (Whole t → ⊥))
  text-lost = (
    λ e. go (read_text text).answer refl (lost-told (read_whole text).answer e),
    λ p. ap (λ (r : Reading). number_in r.answer) (sym (whole-lost text (good p.0) (sym ((read-exactly text p.0).1 (p.1, p.2))) refl ((held.lost-not p.0 p.1).1 p.3) empty refl)),
  )
    where
      go : (a : Answer) → (read_text text).answer ≡ a → kind (read_whole text).answer ≡ 2 → (t : Trace) × So (well_formed t) × TextOf t text × (Whole t → ⊥)
      go Good q k = elim (test (lost (read_text text).trace)) [
        | inl s ↦
            let t = (read_text text).trace in
            let p = (read-exactly text t).0 (ap (λ (a : Answer). record { answer = a; trace = t }) q) in
            (t, p.0, p.1, (held.lost-not t p.0).0 s)
        | inr s ↦ let l = ap (λ (r : Reading). kind r.answer) (whole-good text (read_text text) refl q s) in let m = ap kind q in absurd (omega arith)
      ]
      go (Refused reason n) q k = let l = ap (λ (r : Reading). kind r.answer) (whole-refused text (read_text text) refl reason n q) in let m = ap kind q in absurd (omega arith)
      go Lost q k = let h = text-not text in let m = ap kind q in absurd (omega arith)

-- ---- a packed file
-- a case that is told as 22 is a lost core's
file-case : {b : List ℕ} (r : file-reason.Reason) (line : ℕ) → file.file_reason_number r ≡ LOST → BackWhole b r line → (t : Trace) × So (well_formed t) × (b ≡ file_of t) × (Whole t → ⊥)
file-case r line e (before k) = absurd (held.back-not r line k e)
file-case r line e (skipped t w q d) = (t, w, q, d)

module _ (b : List ℕ) (h : Bytes b) where
  pub file-whole : (t : Trace) → (packs.read_whole_file b ≡ file.good t) ↔ (So (well_formed t) × Whole t × (b ≡ file_of t))
  file-whole = held.whole-exactly b h

  pub file-lost : (whole_number b ≡ LOST) ↔ ((t : Trace) × So (well_formed t) × (b ≡ file_of t) × (Whole t → ⊥))
  file-lost = (λ e. go (packs.read_whole_file b).answer refl e, λ p. ap file_number_in ((held.back_whole b h why.Lost 0).1 (skipped p.0 p.1 p.2 p.3)))
    where
      go : (a : file-answer.Answer) → (packs.read_whole_file b).answer ≡ a → file_number_in a ≡ LOST → (t : Trace) × So (well_formed t) × (b ≡ file_of t) × (Whole t → ⊥)
      go told.Good q e = absurd (omega (arith, e))
      go (told.Refused r line) q e = file-case r line e ((held.back_whole b h r line).0 q)
