-- Demand 1: every text, every packed file and every call gets an answer, and a number is given exactly in its case.
--
--   text-taken, text-turned-back == which texts are read as which trace, and which are turned back for which reason at which line
--   cores-there, core-lost       == a text that is read has all its cores; 22 comes exactly where one is lost and all else is good
--   file-taken, file-core-lost   == the same of a packed file
--   model-refused, form-refused  == a question about a trace is turned back as 9 and 10 exactly in their cases
--   call-refused                 == a call on a session is turned back under the lowest number that applies, and under none exactly where none applies
--   call-leaves                  == a call that is turned back leaves the session as given
--   nothing-recorded             == the empty text is a trace of no records: the program prints an empty order for each model
use mathlib.Core.Path.{◌≡◌}
use mathlib.Core.Logic.{◌↔◌}
use mathlib.Core.Bool.{false, So}
use mathlib.Core.List.{List, [], ◌∷◌}
use mathlib.Core.Option.{some}
use Prim.Native.Nat.{ℕ}
use Rattle.laws.specs.Lowest.{Lowest}
use Rattle.trace.specs.WellFormed.{well_formed}
use Rattle.trace.specs.Cores.{Whole}
use Rattle.trace.specs.declared.Trace.{Trace}
use Rattle.pairs.specs.Kept.{modelled}
use Rattle.reader.specs.Read.{refusal, read_text}
use Rattle.reader.specs.Cases.{Back}
use Rattle.reader.specs.TextOf.{TextOf}
use Rattle.reader.specs.Whole.{LOST, read_whole}
use Rattle.reader.specs.declared.Reason.{Reason}
use Rattle.reader.specs.declared.Answer.TheVariants.{Good}
use Rattle.reader.proofs.RoundTrip.{read-exactly}
use Rattle.reader.proofs.Cases.{refused-exactly}
use Rattle.packed.specs.Layout.{file_of}
use Rattle.packed.specs.FileRead as file
use Rattle.packed.specs.WholeFile.{read_whole_file}
use Rattle.packed.proofs.Codec.{Bytes}
use Rattle.verdict.specs.VerdictOf.{refused_by, Told}
use Rattle.verdict.specs.declared.Verdict.{Verdict}
use Rattle.verdict.proofs.Guarantees.{nine, ten}
use Rattle.session.specs.Closings.{Closings}
use Rattle.session.specs.Numbers.{refusal_number, Act, Call, Applies, reply_of, answer_of}
use Rattle.session.specs.declared.Session.{Session}
use Rattle.session.proofs.Numbering.{number-lowest}
use Rattle.session.proofs.Standing.{act-given}
use Rattle.report.specs.Report.{Prints}
use Rattle.report.proofs.Empty.{empty-printed}
use Rattle.desk.specs.Text.{text_number}
use Rattle.desk.specs.Packs.{whole_number}
use Rattle.desk.proofs.Cores.{text-whole, text-lost, file-whole, file-lost}

-- ---- texts
-- read as a trace exactly when the trace is well formed and the text is one of its own
pub text-taken : (text : List ℕ) (t : Trace) → (read_text text ≡ record { answer = Good; trace = t }) ↔ (So (well_formed t) × TextOf t text)
text-taken = read-exactly

-- number 1 first, then line by line from the top, on the first bad line the lowest number that applies
pub text-turned-back : (text : List ℕ) (reason : Reason) (line : ℕ) → (read_text text ≡ refusal reason line) ↔ Back text line reason
text-turned-back = refused-exactly

-- if a thread appears, all lower ones do
pub cores-there : (text : List ℕ) (t : Trace) → (read_whole text ≡ record { answer = Good; trace = t }) ↔ (So (well_formed t) × Whole t × TextOf t text)
cores-there = text-whole

pub core-lost : (text : List ℕ) → (text_number text ≡ LOST) ↔ ((t : Trace) × So (well_formed t) × TextOf t text × (Whole t → ⊥))
core-lost = text-lost

-- ---- packed files
pub file-taken : (b : List ℕ) → Bytes b → (t : Trace) → (read_whole_file b ≡ file.good t) ↔ (So (well_formed t) × Whole t × (b ≡ file_of t))
file-taken = file-whole

pub file-core-lost : (b : List ℕ) → Bytes b → (whole_number b ≡ LOST) ↔ ((t : Trace) × So (well_formed t) × (b ≡ file_of t) × (Whole t → ⊥))
file-core-lost = file-lost

-- ---- questions about a trace, where r is as the verdict is promised
pub model-refused : (m : ℕ) (t : Trace) (r : Verdict) → Told t m r → (refused_by r.outcome ≡ 9) ↔ (modelled m ≡ false)
model-refused = nine

pub form-refused : (m : ℕ) (t : Trace) (r : Verdict) → Told t m r → (refused_by r.outcome ≡ 10) ↔ (So (modelled m) × (well_formed t ≡ false))
form-refused = ten

-- ---- calls on a session, whatever value it is; C is any way to close a table that is as the rules are promised
pub call-refused : (C : Closings) (c : Call) → Lowest (Applies C c) (refusal_number (answer_of C c))
call-refused = number-lowest

pub call-leaves : (C : Closings) (s : Session) (a : Act) (n : ℕ) → refusal_number (reply_of C s a).answer ≡ some n → (reply_of C s a).session ≡ s
call-leaves = act-given

-- ---- the first trace to try: `SC: order`, `TSO: order`, `PSO: order` and `WMO: order`, a line each
pub nothing-recorded : (out : List ℕ) → Prints [] out
    → out
    ≡ 83 ∷ 67 ∷ 58 ∷ 32 ∷ 111 ∷ 114 ∷ 100 ∷ 101 ∷ 114 ∷ 10
    ∷ 84 ∷ 83 ∷ 79 ∷ 58 ∷ 32 ∷ 111 ∷ 114 ∷ 100 ∷ 101 ∷ 114 ∷ 10
    ∷ 80 ∷ 83 ∷ 79 ∷ 58 ∷ 32 ∷ 111 ∷ 114 ∷ 100 ∷ 101 ∷ 114 ∷ 10
    ∷ 87 ∷ 77 ∷ 79 ∷ 58 ∷ 32 ∷ 111 ∷ 114 ∷ 100 ∷ 101 ∷ 114 ∷ 10 ∷ []
nothing-recorded = empty-printed
