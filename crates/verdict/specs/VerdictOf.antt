-- The verdict as the code holds it.
--
--   refused_by o     == document 01's number of an outcome that turns the question back; 0 of any other
--   RecordNumbers xs == each of xs is a record's number
--   bare o           == an outcome that has no operations
--   laid v           == a verdict as the code holds it
--   ordered r        == the order that a verdict hands back, if it does
--   Reaches t m      == a question that is answered, of a trace that lacks no source
--   Orderless t K    == no list is a valid order of the trace with the kept pairs K, if that can be asked
--   ToldBy t K r     == what `verdict_by` promises of any trace with any kept pairs K: 10, then the verdict that `Says` allows; its operations have places
--   Told t m r       == what `verdict_of` promises of any trace under any model: 9 before 10, then the verdict that `Says` allows; its operations have places
use Rattle.std.specs.Prelude.{◌≡◌, false, List, ℕ, ◌≤◌, ◌<◌, length, get_or, take, replicate, None}
use Rattle.std.proofs.Math.Bool.{So}
use Rattle.std.proofs.Math.Option.{Option, none, some}
use Rattle.laws.specs.Relation.{Table}
use Rattle.trace.specs.Bounds.{RECORDS}
use Rattle.trace.specs.Padded.{padded}
use Rattle.trace.specs.Meaning.{frame_of}
use Rattle.rules.specs.Order.{Valid}
use Rattle.trace.specs.WellFormed.{well_formed}
use Rattle.trace.specs.declared.Trace.{Trace}
use Rattle.pairs.specs.Kept.{modelled, kept_of}
use Rattle.pairs.specs.MissingOf.{missing_of}
use Rattle.rules.specs.Verdict as said
use Rattle.verdict.specs.declared.Outcome.{Outcome}
use Rattle.verdict.specs.declared.Outcome.TheVariants.{NoSource, Circle, Order, NoneLeft, NoModel, NotWellFormed}
use Rattle.verdict.specs.declared.Verdict.{Verdict}

abbrev pub refused_by : Outcome → ℕ
refused_by (NoSource x) = 0
refused_by Circle = 0
refused_by Order = 0
refused_by NoneLeft = 0
refused_by NoModel = 9
refused_by NotWellFormed = 10

abbrev pub RecordNumbers : List ℕ → Type 0
RecordNumbers xs = (i : ℕ) → get_or xs i 0 < RECORDS

abbrev pub bare : Outcome → Verdict
bare o = record { outcome = o; len = 0; operations = replicate RECORDS 0; rules = replicate RECORDS 0 }

abbrev pub laid : said.Verdict → Verdict
laid (said.no_source x) = bare (NoSource x)
laid (said.circle c rs) = record { outcome = Circle; len = length c; operations = padded c; rules = padded rs }
laid (said.order xs) = record { outcome = Order; len = length xs; operations = padded xs; rules = replicate RECORDS 0 }
laid said.none_left = bare NoneLeft

abbrev pub ordered_as : Outcome → List ℕ → Option (List ℕ)
ordered_as (NoSource x) xs = none
ordered_as Circle xs = none
ordered_as Order xs = some xs
ordered_as NoneLeft xs = none
ordered_as NoModel xs = none
ordered_as NotWellFormed xs = none

abbrev pub ordered : Verdict → Option (List ℕ)
ordered r = ordered_as r.outcome (take r.len r.operations)

pub record Reaches (t : Trace) (m : ℕ) : Type 0 where
  pub model : So (modelled m)
  pub well : So (well_formed t)
  pub sourced : missing_of t ≡ None

abbrev pub Orderless : Trace → Table → Type 0
Orderless t K = So (well_formed t) → (xs : List ℕ) → Valid (frame_of t) K xs → ⊥

pub record ToldBy (t : Trace) (K : Table) (r : Verdict) : Type 0 where
  pub ten : well_formed t ≡ false → r ≡ bare NotWellFormed
  pub says : So (well_formed t) → (v : said.Verdict) × said.Says (frame_of t) K v × (r ≡ laid v)
  pub fits : r.len ≤ RECORDS

pub record Told (t : Trace) (m : ℕ) (r : Verdict) : Type 0 where
  pub nine : modelled m ≡ false → r ≡ bare NoModel
  pub ten : So (modelled m) → well_formed t ≡ false → r ≡ bare NotWellFormed
  pub says : So (modelled m) → So (well_formed t) → (v : said.Verdict) × said.Says (frame_of t) (kept_of m t) v × (r ≡ laid v)
  pub fits : r.len ≤ RECORDS
