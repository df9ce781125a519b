-- The report on the empty text, the first starred entry of document 01.
--
--   empty-printed == `SC: order`, `TSO: order`, `PSO: order` and `WMO: order`, a line each
use mathlib.Core.Path.{◌≡◌, refl, ap, ap₂, ◌∙◌, subst}
use mathlib.Core.List.{List, [], ◌∷◌, ◌++◌, Memᴰ}
use Prim.Native.Nat.{ℕ, zero, suc, ◌+◌, ◌<◌, ◌≤◌}
use native.Mathlib.Omega.{arith}
use lib.ListN.{get_or}
use Rattle.laws.specs.Tests.{any, all}
use Rattle.text.specs.Lines.{lines}
use Rattle.trace.specs.Cores.{shows, all_show, lost}
use Rattle.reader.specs.Read.{read_inits, read_text}
use Rattle.reader.specs.Whole.{read_whole}
use Rattle.reader.specs.declared.Answer.TheVariants.{Good}
use Rattle.reader.specs.declared.Reading.{Reading}
use Rattle.pairs.specs.Kept.{SC, MODELS}
use Rattle.rules.specs.Verdict as said
use Rattle.pairs.specs.Starred.{places, trace_of, StarredCase, cases}
use Rattle.verdict.specs.VerdictOf.{laid, Told}
use Rattle.verdict.specs.declared.Verdict.{Verdict}
use Rattle.verdict.proofs.Guarantees.{starred-told}
use Rattle.report.specs.Report.{spaced, saying_as, line_of, Lines, Answers, Prints}

-- the first of the table
abbrev nothing : StarredCase
nothing = record { ops = []; verdicts = said.order [] ∷ said.order [] ∷ said.order [] ∷ said.order [] ∷ [] }

listed : Memᴰ nothing cases
unfolding cases
listed = Memᴰ.head refl

-- the empty text is good, and its trace has no records
read-empty : read_whole [] ≡ record { answer = Good; trace = trace_of [] }
unfolding read_whole read_text read_inits lines trace_of places lost all_show shows any all
read-empty = refl

-- its verdict is the same under every model
each-order : (m : ℕ) → m < MODELS → get_or nothing.verdicts m said.none_left ≡ said.order []
each-order zero l = refl
each-order (suc zero) l = refl
each-order (suc (suc zero)) l = refl
each-order (suc (suc (suc zero))) l = refl
each-order (suc (suc (suc (suc m)))) l = absurd (omega arith)

-- the lines up to a model
abbrev up_to : ℕ → List ℕ
up_to zero = []
up_to (suc m) = up_to m ++ line_of (suc m) (laid (said.order []))

all_lines : (m : ℕ) → m ≤ MODELS → (out : List ℕ) → Lines (trace_of []) m out → out ≡ up_to m
all_lines zero b out e = e
all_lines (suc m) b out (before, v, l, told, e) =
    let same : suc m ≡ SC + m = omega arith in
    let is = starred-told nothing listed m (omega arith) v (subst (λ (k : ℕ). Told (trace_of []) k v) same told) in
    e ∙ ap₂ (λ (l : List ℕ) (v : Verdict). l ++ line_of (suc m) v) (all_lines m (omega arith) before l) (is ∙ ap laid (each-order m (omega arith)))

-- S C : space o r d e r feed, T S O : space o r d e r feed, P S O and W M O alike
abbrev printed : List ℕ
printed =
    83 ∷ 67 ∷ 58 ∷ 32 ∷ 111 ∷ 114 ∷ 100 ∷ 101 ∷ 114 ∷ 10
    ∷ 84 ∷ 83 ∷ 79 ∷ 58 ∷ 32 ∷ 111 ∷ 114 ∷ 100 ∷ 101 ∷ 114 ∷ 10
    ∷ 80 ∷ 83 ∷ 79 ∷ 58 ∷ 32 ∷ 111 ∷ 114 ∷ 100 ∷ 101 ∷ 114 ∷ 10
    ∷ 87 ∷ 77 ∷ 79 ∷ 58 ∷ 32 ∷ 111 ∷ 114 ∷ 100 ∷ 101 ∷ 114 ∷ 10 ∷ []

as_bytes : up_to MODELS ≡ printed
unfolding saying_as spaced
as_bytes = refl

pub empty-printed : (out : List ℕ) → Prints [] out → out ≡ printed
empty-printed out p = all_lines MODELS (omega arith) out (subst (λ (r : Reading). Answers r.answer r.trace out) read-empty p) ∙ as_bytes
