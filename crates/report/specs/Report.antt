-- What the program prints for a text: one line for each model, or the one line of a refusal.
--
--   spaced ns         == the numbers, each after a space
--   saying_as o os rs == what is said of an outcome with the operations os and the rules rs
--   saying v          == what is said of a verdict
--   name_of m         == the name of a model
--   line_of m v       == the line of a verdict under a model
--   refusal_of n line == the line of a refused text
--   Lines t m out     == out is the lines of a trace, one for the verdict under each model up to m
--   Answers a t out   == out is the whole output for what the reader answers, with the trace beside it: the lines under all models
--   Prints text out   == out is the whole output for a text
use Rattle.std.specs.Prelude.{◌≡◌, List, [], ◌∷◌, ◌++◌, ℕ, zero, suc, take, get_or}
use Rattle.trace.specs.declared.Trace.{Trace}
use Rattle.text.specs.Bounds.{FEED}
use Rattle.text.specs.Number.{decimal}
use Rattle.reader.specs.Answer.{number_of}
use Rattle.reader.specs.Whole.{LOST, read_whole}
use Rattle.reader.specs.declared.Answer.{Answer}
use Rattle.reader.specs.declared.Answer.TheVariants.{Good, Refused, Lost}
use Rattle.pairs.specs.Kept.{MODELS}
use Rattle.verdict.specs.VerdictOf.{refused_by, Told}
use Rattle.verdict.specs.declared.Outcome.{Outcome}
use Rattle.verdict.specs.declared.Outcome.TheVariants.{NoSource, Circle, Order, NoneLeft, NoModel, NotWellFormed}
use Rattle.verdict.specs.declared.Verdict.{Verdict}
use Rattle.report.specs.Words.{SPACE, names, colon, order, no_order, no_source, circle, by, none_left, refused, on_line}

unfoldable pub spaced : List ℕ → List ℕ
spaced [] = []
spaced (n ∷ ns) = (SPACE ∷ decimal n) ++ spaced ns

-- a trace that was read never meets the last two
unfoldable pub saying_as : Outcome → List ℕ → List ℕ → List ℕ
saying_as (NoSource x) os rs = (no_order ++ no_source) ++ decimal x
saying_as Circle os rs = (no_order ++ circle) ++ spaced os ++ by ++ spaced rs
saying_as Order os rs = order ++ spaced os
saying_as NoneLeft os rs = no_order ++ none_left
saying_as NoModel os rs = refused ++ decimal (refused_by NoModel)
saying_as NotWellFormed os rs = refused ++ decimal (refused_by NotWellFormed)

abbrev pub saying : Verdict → List ℕ
saying v = saying_as v.outcome (take v.len v.operations) (take v.len v.rules)

abbrev pub name_of : ℕ → List ℕ
name_of m = get_or names m []

abbrev pub line_of : ℕ → Verdict → List ℕ
line_of m v = name_of m ++ colon ++ saying v ++ (FEED ∷ [])

abbrev pub refusal_of : ℕ → ℕ → List ℕ
refusal_of n line = refused ++ decimal n ++ on_line ++ decimal line ++ (FEED ∷ [])

abbrev pub Lines : Trace → ℕ → List ℕ → Type 0
Lines t zero out = out ≡ []
Lines t (suc m) out = (before : List ℕ) × (v : Verdict) × Lines t m before × Told t (suc m) v × (out ≡ before ++ line_of (suc m) v)

abbrev pub Answers : Answer → Trace → List ℕ → Type 0
Answers Good t out = Lines t MODELS out
Answers (Refused reason line) t out = out ≡ refusal_of (number_of reason) line
Answers Lost t out = out ≡ refusal_of LOST 0

abbrev pub Prints : List ℕ → List ℕ → Type 0
Prints text out = Answers (read_whole text).answer (read_whole text).trace out
