-- The record of a trace that lacks its source, as the answer of a function.
--
--   as_found o   == what the laws look for, as a function answers it
--   record? a   == and back: the record that document 01's verdict "no source" names, if there is one
--   missing_of t == the lowest record of a well formed trace that lacks its source; of any other trace, nothing
use Rattle.std.specs.Prelude.{cond, ℕ, Some, None}
use Rattle.std.proofs.Math.Option.{Option, none, some}
use Rattle.laws.specs.Lowest.{lowest}
use Rattle.trace.specs.WellFormed.{well_formed}
use Rattle.trace.specs.Meaning.{frame_of}
use Rattle.trace.specs.declared.Trace.{Trace}
use Rattle.rules.specs.Missing.{missing?}
use Rattle.pairs.specs.Found.{Found}

abbrev pub as_found : Option ℕ → Found
as_found (some x) = Some x
as_found none = None

abbrev pub record? : Found → Option ℕ
record? (Some x) = some x
record? None = none

unfoldable pub missing_of : Trace → Found
missing_of t = cond (well_formed t) (as_found (lowest (missing? (frame_of t)) t.len 0)) None
