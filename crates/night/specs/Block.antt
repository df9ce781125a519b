-- A verdict in numbers.
--
--   BLOCK          == how many they are: the kind, how many operations are told, their places, and the places of the rules
--   KIND-NO-SOURCE, KIND-ORDER, KIND-CIRCLE, KIND-NONE-LEFT == the kinds: a missing source is document 01's 11, the others are no refusals
--   verdict_kind v  == the kind of a verdict
--   block_operations v == the operations that it tells: a record that lacks a source is its one operation
--   block_rules v   == the rules that it tells, those of a circle
--   block_of v      == its numbers
--   kind_in o, lacking_in o, told_in_as o v, told_in v, block_in v   == the same, of a verdict as the code holds it: its kind; the record that lacks a source;
--                                                               the verdict as it is told; its numbers once it is
use Rattle.std.specs.Prelude.{List, [], ◌∷◌, ◌++◌, ℕ, ◌+◌, ◌*◌, length, replicate}
use Rattle.trace.specs.Bounds.{RECORDS}
use Rattle.trace.specs.Padded.{padded}
use Rattle.rules.specs.Verdict as said
use Rattle.verdict.specs.VerdictOf.{refused_by}
use Rattle.verdict.specs.declared.Outcome.{Outcome}
use Rattle.verdict.specs.declared.Outcome.TheVariants.{NoSource, Circle, Order, NoneLeft, NoModel, NotWellFormed}
use Rattle.verdict.specs.declared.Verdict.{Verdict}

abbrev pub BLOCK : ℕ
BLOCK = 2 + 2 * RECORDS

abbrev pub KIND-NO-SOURCE : ℕ
KIND-NO-SOURCE = 11

abbrev pub KIND-ORDER : ℕ
KIND-ORDER = 64

abbrev pub KIND-CIRCLE : ℕ
KIND-CIRCLE = 65

abbrev pub KIND-NONE-LEFT : ℕ
KIND-NONE-LEFT = 66

abbrev pub verdict_kind : said.Verdict → ℕ
verdict_kind (said.no_source x) = KIND-NO-SOURCE
verdict_kind (said.circle c rs) = KIND-CIRCLE
verdict_kind (said.order xs) = KIND-ORDER
verdict_kind said.none_left = KIND-NONE-LEFT

abbrev pub block_operations : said.Verdict → List ℕ
block_operations (said.no_source x) = x ∷ []
block_operations (said.circle c rs) = c
block_operations (said.order xs) = xs
block_operations said.none_left = []

abbrev pub block_rules : said.Verdict → List ℕ
block_rules (said.no_source x) = []
block_rules (said.circle c rs) = rs
block_rules (said.order xs) = []
block_rules said.none_left = []

unfoldable pub block_of : said.Verdict → List ℕ
block_of v = verdict_kind v ∷ length (block_operations v) ∷ padded (block_operations v) ++ padded (block_rules v)

abbrev pub kind_in : Outcome → ℕ
kind_in (NoSource x) = KIND-NO-SOURCE
kind_in Circle = KIND-CIRCLE
kind_in Order = KIND-ORDER
kind_in NoneLeft = KIND-NONE-LEFT
kind_in NoModel = refused_by NoModel
kind_in NotWellFormed = refused_by NotWellFormed

abbrev pub lacking_in : Outcome → ℕ
lacking_in (NoSource x) = x
lacking_in Circle = 0
lacking_in Order = 0
lacking_in NoneLeft = 0
lacking_in NoModel = 0
lacking_in NotWellFormed = 0

abbrev pub told_in_as : Outcome → Verdict → Verdict
told_in_as (NoSource x) v = record { outcome = NoSource x; len = 1; operations = padded (x ∷ []); rules = replicate RECORDS 0 }
told_in_as Circle v = v
told_in_as Order v = v
told_in_as NoneLeft v = v
told_in_as NoModel v = v
told_in_as NotWellFormed v = v

unfoldable pub told_in : Verdict → Verdict
told_in v = told_in_as v.outcome v

unfoldable pub block_in : Verdict → List ℕ
block_in v = kind_in v.outcome ∷ v.len ∷ v.operations ++ v.rules
