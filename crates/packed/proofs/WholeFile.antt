-- A file and a trace that may have lost a core.
--
--   whole-lost, whole-good, whole-refused == each answer of the reader, with the tests that lead to it
--   written-lost, written-ten, written_on == each answer of the writer
--   lost-not      == of a well formed trace: a core is lost exactly where it is not whole
--   back-not      == no other case is told as 22
--   whole-exactly == a file reads as a trace exactly when the trace is well formed and whole, and the file is its own
--   whole-well    == what is read is well formed
--   back_whole    == a reason and a line are given exactly in their case
--   lost-exactly  == 22 is given exactly to the file of a well formed trace that lost a core
--   done-whole    == what is written is well formed and whole, and its file stands in front
--   written_read  == reading what was written gives the trace back
--   written_one   == two traces that are written are equal exactly when their files are
use mathlib.Core.Path.{◌≡◌, refl, sym, ap, ◌∙◌, subst}
use mathlib.Core.Logic.{◌≢◌, ◌↔◌, inl, inr}
use mathlib.Core.Bool.{Bool, true, false, So, cond, false≢true}
use mathlib.Core.List.{List, ◌++◌}
use Prim.Native.Nat.{ℕ}
use native.Mathlib.Omega.{arith}
use lib.ListN.{take, drop}
use lib.Seq.{take_at}
use Rattle.std.specs.Prelude.{Result, Ok, Err, Option, Some, None}
use Rattle.laws.proofs.Tests.{test}
use Rattle.trace.specs.WellFormed.{well_formed}
use Rattle.trace.specs.Cores.{lost, Whole}
use Rattle.trace.specs.declared.Op.{Op}
use Rattle.trace.specs.declared.Trace.{Trace}
use Rattle.trace.specs.declared.Fault.{Fault}
use Rattle.trace.specs.declared.Fault.TheVariants as fault
use Rattle.trace.proofs.Growth.{empty-well}
use Rattle.trace.proofs.Lost.{lost-iff}
use Rattle.packed.specs.Layout.{file_of}
use Rattle.packed.specs.FileRead.{file_reason_number, entry_turn, good, back, read_file}
use Rattle.packed.specs.Write.{long_of, file_room, wrote_of, left_of}
use Rattle.packed.specs.WholeFile.{whole_file_as, read_whole_file, wrote_whole, left_whole}
use Rattle.packed.specs.FileCases.{BackFile, BackWhole, unmarked, version, size, many, no_first, past_first, no_record, bad_record, before, skipped}
use Rattle.packed.specs.declared.Reason.{Reason}
use Rattle.packed.specs.declared.Reason.TheVariants as reason
use Rattle.packed.specs.declared.Answer.{Answer}
use Rattle.packed.specs.declared.Answer.TheVariants.{Good, Refused}
use Rattle.packed.specs.declared.Reading.{Reading}
use Rattle.packed.specs.declared.Unwritten.{Unwritten}
use Rattle.packed.specs.declared.Unwritten.TheVariants.{NotWellFormed, NoRoom, Lost}
use Rattle.packed.proofs.Codec.{Bytes}
use Rattle.packed.proofs.FileCases.{back-told, back-exactly}
use Rattle.packed.proofs.RoundTrip.{read-file, file-exactly, files-one}

-- ---- the reader
abbrev gone : Reading
gone = back reason.Lost 0

module _ (b : List ℕ) (r : Reading) (e : r ≡ read_file b) where
  by : (a : Answer) → r.answer ≡ a → read_whole_file b ≡ whole_file_as a r
  unfolding read_whole_file
  by a q = ap (λ (r : Reading). whole_file_as r.answer r) (sym e) ∙ ap (λ (a : Answer). whole_file_as a r) q

  pub whole-lost : r.answer ≡ Good → So (lost r.trace) → (u : Reading) → u ≡ gone → u ≡ read_whole_file b
  whole-lost q s u z = z ∙ sym (by Good q ∙ ap (λ x. cond x gone r) s)

  pub whole-good : r.answer ≡ Good → lost r.trace ≡ false → r ≡ read_whole_file b
  whole-good q s = sym (by Good q ∙ ap (λ x. cond x gone r) s)

  pub whole-refused : (reason : Reason) (line : ℕ) → r.answer ≡ Refused reason line → r ≡ read_whole_file b
  whole-refused reason line q = sym (by (Refused reason line) q)

-- which of the two an answer is
abbrev kind : Answer → ℕ
kind Good = 0
kind (Refused reason line) = 1

apart : {r s : Reading} → r ≡ s → kind r.answer ≡ kind s.answer
apart e = ap (λ (r : Reading). kind r.answer) e

pub lost-not : (t : Trace) → So (well_formed t) → So (lost t) ↔ (Whole t → ⊥)
lost-not t w = (
  λ s h. false≢true (sym ((lost-iff t w).1 h) ∙ s),
  λ d. elim (test (lost t)) [ inl s ↦ s | inr e ↦ absurd (d ((lost-iff t w).0 e)) ],
)

-- no entry earns 22
abbrev number_in : Result Op Reason → ℕ
number_in (Ok o) = 0
number_in (Err reason) = file_reason_number reason

turn-not : (o : Op) (f : Option Fault) → number_in (entry_turn o f) ≢ 22
turn-not o None e = absurd (omega (arith, e))
turn-not o (Some fault.PastBound) e = absurd (omega (arith, e))
turn-not o (Some fault.FirstValue) e = absurd (omega (arith, e))
turn-not o (Some fault.TooMany) e = absurd (omega (arith, e))
turn-not o (Some fault.Twice) e = absurd (omega (arith, e))

pub back-not : {b : List ℕ} (reason : Reason) (line : ℕ) → BackFile b reason line → file_reason_number reason ≢ 22
back-not reason line (unmarked d) e = absurd (omega (arith, e))
back-not reason line (version m d) e = absurd (omega (arith, e))
back-not reason line (size m v d) e = absurd (omega (arith, e))
back-not reason line (many m v l h) e = absurd (omega (arith, e))
back-not reason line (no_first i fr h g f) e = absurd (omega (arith, e))
back-not reason line (past_first i fr h g d l) e = absurd (omega (arith, e))
back-not reason line (no_record k t fr h w q) e = absurd (omega (arith, e))
back-not reason line (bad_record k t o f fr h w q x r) e = turn-not o f (ap number_in r ∙ e)

module _ (b : List ℕ) (h : Bytes b) where
  pub whole-exactly : (t : Trace) → (read_whole_file b ≡ good t) ↔ (So (well_formed t) × Whole t × (b ≡ file_of t))
  unfolding read_whole_file
  whole-exactly t = (
    λ e. let p = go (read_file b).answer refl e in let q = (file-exactly b t h).0 p.0 in (q.0, (lost-iff t q.0).0 p.1, q.1),
    λ p. sym (whole-good b (good t) (sym ((file-exactly b t h).1 (p.0, p.2))) refl ((lost-iff t p.0).1 p.1)),
  )
    where
      kept : (x : Bool) → lost (read_file b).trace ≡ x → cond x gone (read_file b) ≡ good t → (read_file b ≡ good t) × (lost t ≡ false)
      kept true s e = let k = apart e in absurd (omega arith)
      kept false s e = (e, ap (λ (r : Reading). lost r.trace) (sym e) ∙ s)

      go : (a : Answer) → (read_file b).answer ≡ a → whole_file_as a (read_file b) ≡ good t → (read_file b ≡ good t) × (lost t ≡ false)
      go Good q e = kept (lost (read_file b).trace) refl e
      go (Refused reason line) q e = let k = apart e in let l = ap kind q in absurd (omega arith)

  pub whole-well : So (well_formed (read_whole_file b).trace)
  unfolding read_whole_file
  whole-well = go (read_file b).answer refl
    where
      kept : (x : Bool) → So (well_formed (read_file b).trace) → So (well_formed (cond x gone (read_file b)).trace)
      kept true w = empty-well
      kept false w = w

      go : (a : Answer) → (read_file b).answer ≡ a → So (well_formed (whole_file_as a (read_file b)).trace)
      go Good q = kept (lost (read_file b).trace) ((file-exactly b (read_file b).trace h).0 (ap (λ (a : Answer). record { answer = a; trace = (read_file b).trace }) q)).0
      go (Refused reason line) q = ap (λ (r : Reading). well_formed r.trace) (back-told b reason line ((back-exactly b reason line).0 q)) ∙ empty-well

  -- a file whose entries are good, with its trace
  own : (read_file b).answer ≡ Good → So (well_formed (read_file b).trace) × (b ≡ file_of (read_file b).trace)
  own q = (file-exactly b (read_file b).trace h).0 (ap (λ (a : Answer). record { answer = a; trace = (read_file b).trace }) q)

  to : (why : Reason) (line : ℕ) → BackWhole b why line → (read_whole_file b).answer ≡ Refused why line
  to why line (before k) = let q = (back-exactly b why line).1 k in sym (ap (λ (r : Reading). r.answer) (whole-refused b (read_file b) refl why line q)) ∙ q
  to why line (skipped t w e d) = sym (ap (λ (r : Reading). r.answer) (whole-lost b (good t) (sym ((file-exactly b t h).1 (w, e))) refl ((lost-not t w).1 d) gone refl))

  pub back_whole : (why : Reason) (line : ℕ) → ((read_whole_file b).answer ≡ Refused why line) ↔ BackWhole b why line
  back_whole why line = (λ e. go (read_file b).answer refl e, to why line)
    where
      go : (a : Answer) → (read_file b).answer ≡ a → (read_whole_file b).answer ≡ Refused why line → BackWhole b why line
      go Good q e = elim (test (lost (read_file b).trace)) [
        | inl s ↦
            let p = own q in
            let z : ◌≡◌ {A = Answer} (Refused reason.Lost 0) (Refused why line) = ap (λ (r : Reading). r.answer) (whole-lost b (read_file b) refl q s gone refl) ∙ e in
            let x : reason.Lost ≡ why = cc in
            let y : 0 ≡ line = cc in
            subst (λ (l : ℕ). BackWhole b why l) y (subst (λ (r : Reason). BackWhole b r 0) x (skipped (read_file b).trace p.0 p.1 ((lost-not (read_file b).trace p.0).0 s)))
        | inr s ↦ let k = ap kind (sym q ∙ ap (λ (r : Reading). r.answer) (whole-good b (read_file b) refl q s) ∙ e) in absurd (omega arith)
      ]
      go (Refused other n) q e = before ((back-exactly b why line).0 (ap (λ (r : Reading). r.answer) (whole-refused b (read_file b) refl other n q) ∙ e))

  pub lost-exactly : ((read_whole_file b).answer ≡ Refused reason.Lost 0) ↔ ((t : Trace) × So (well_formed t) × (b ≡ file_of t) × (Whole t → ⊥))
  lost-exactly = (λ e. from ((back_whole reason.Lost 0).0 e), λ p. (back_whole reason.Lost 0).1 (skipped p.0 p.1 p.2 p.3))
    where
      from : BackWhole b reason.Lost 0 → (t : Trace) × So (well_formed t) × (b ≡ file_of t) × (Whole t → ⊥)
      from (before k) = absurd (back-not reason.Lost 0 k refl)
      from (skipped t w e d) = (t, w, e, d)

-- ---- the writer
-- whether a length is told
abbrev done? : Result ℕ Unwritten → ℕ
done? (Ok n) = 0
done? (Err why) = 1

module _ (t : Trace) (b : List ℕ) where
  pub written-lost : So (well_formed t) → So (lost t) → (Err Lost ≡ wrote_whole t b) × (b ≡ left_whole t b)
  unfolding wrote_whole left_whole
  written-lost w l = ((rw (w, l) refl), (rw (w, l) refl))

  pub written-ten : well_formed t ≡ false → (Err NotWellFormed ≡ wrote_whole t b) × (b ≡ left_whole t b)
  unfolding wrote_whole left_whole
  written-ten n = ((rw n refl), (rw n refl))

  pub written_on : lost t ≡ false → (wrote_of t b ≡ wrote_whole t b) × (left_of t b ≡ left_whole t b)
  unfolding wrote_whole left_whole wrote_of left_of
  written_on n = elim (test (well_formed t)) [ inl w ↦ ((rw (w, n) refl), (rw (w, n) refl)) | inr w ↦ ((rw w refl), (rw w refl)) ]

  -- where a length comes back, the trace is well formed and whole, and there was room
  pub done-whole : (n : ℕ) → wrote_whole t b ≡ Ok n → So (well_formed t) × (lost t ≡ false) × (n ≡ long_of t) × (left_whole t b ≡ file_of t ++ drop (long_of t) b)
  unfolding wrote_whole left_whole wrote_of left_of
  done-whole n = go (well_formed t) refl (lost t) refl (file_room t b) refl
    where
      go : (x : Bool) → well_formed t ≡ x → (y : Bool) → lost t ≡ y → (z : Bool) → file_room t b ≡ z
          → cond x (cond y (Err Lost) (cond x (cond z (Ok (long_of t)) (Err NoRoom)) (Err NotWellFormed))) (Err NotWellFormed) ≡ Ok n
          → So (well_formed t) × (lost t ≡ false) × (n ≡ long_of t) × (cond x (cond y b (cond x (cond z (file_of t ++ drop (long_of t) b) b) b)) b ≡ file_of t ++ drop (long_of t) b)
      go true w false l true r e = let k : long_of t ≡ n = cc in (w, l, sym k, refl)
      go true w false l false r e = let k = ap done? e in absurd (omega arith)
      go true w true l z r e = let k = ap done? e in absurd (omega arith)
      go false w y l z r e = let k = ap done? e in absurd (omega arith)

module _ (t : Trace) (b : List ℕ) (n : ℕ) (e : wrote_whole t b ≡ Ok n) where
  -- what was written is the file
  front : take n (left_whole t b) ≡ file_of t
  front =
      let d = done-whole t b n e in
      ap (λ (k : ℕ). take k (left_whole t b)) d.2 ∙ ap (take (long_of t)) d.3 ∙ take_at (file_of t) (drop (long_of t) b) (long_of t) refl

  pub written_read : read_whole_file (take n (left_whole t b)) ≡ good t
  written_read = let d = done-whole t b n e in ap read_whole_file front ∙ sym (whole-good (file_of t) (good t) (sym (read-file t d.0)) refl d.1)

pub written_one : (t u : Trace) (b c : List ℕ) (m n : ℕ) → wrote_whole t b ≡ Ok m → wrote_whole u c ≡ Ok n → (t ≡ u) ↔ (take m (left_whole t b) ≡ take n (left_whole u c))
written_one t u b c m n p q = (
  λ e. front t b m p ∙ ap file_of e ∙ sym (front u c n q),
  λ e. (files-one t u (done-whole t b m p).0 (done-whole u c n q).0).1 (sym (front t b m p) ∙ e ∙ front u c n q),
)
