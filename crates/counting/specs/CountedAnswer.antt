-- What the plain search of a trace comes to within a limit, as the answer of a function.
--
--   bare_count w       == what it came to, without an order
--   counted_order n xs == an order after n steps, in an array whose unused places are 0
--   counted_by l r     == the answer within the limit l of a search that makes r's steps and finds what r finds
--   counted_of t m l   == the answer for any trace, model and limit; with nothing to search, over the limit
use Rattle.std.specs.Prelude.{cond, List, [], ℕ, leb, length, replicate}
use Rattle.std.proofs.Math.Option.{Option, none, some}
use Rattle.trace.specs.Bounds.{RECORDS}
use Rattle.trace.specs.Meaning.{frame_of}
use Rattle.trace.specs.Padded.{padded}
use Rattle.trace.specs.declared.Trace.{Trace}
use Rattle.pairs.specs.Kept.{kept_of}
use Rattle.edges.specs.ForcedPairs.{answered}
use Rattle.rules.specs.Ready.{operations}
use Rattle.plain.specs.Plain.{plain}
use Rattle.counting.specs.declared.Walked.{Walked}
use Rattle.counting.specs.declared.Walked.TheVariants.{Order, End, Over}
use Rattle.counting.specs.declared.Counted.{Counted}

abbrev pub bare_count : Walked → Counted
bare_count w = record { walked = w; len = 0; operations = replicate RECORDS 0 }

abbrev pub counted_order : ℕ → List ℕ → Counted
counted_order n xs = record { walked = Order n; len = length xs; operations = padded xs }

abbrev pub counted_by : ℕ → ℕ × Option (List ℕ) → Counted
counted_by l (n, some xs) = cond (leb n l) (counted_order n xs) (bare_count Over)
counted_by l (n, none) = cond (leb n l) (bare_count (End n)) (bare_count Over)

unfoldable pub counted_of : Trace → ℕ → ℕ → Counted
counted_of t m l = cond (answered m t) (counted_by l (plain (frame_of t) (kept_of m t) (operations (frame_of t)) [])) (bare_count Over)
