-- What a well formed trace gives its valid orders.
--
--   well-fits, well-kept == its records have places; its kept pairs join them
--   valid-short          == a valid order is no longer than the trace
use mathlib.Core.Bool.{Bool, true, false, cond, So}
use mathlib.Core.List.{List}
use Prim.Native.Nat.{ℕ, ◌≤◌}
use native.Mathlib.Omega.{arith}
use lib.ListN.{length}
use Rattle.laws.specs.Relation.{Table}
use Rattle.laws.proofs.Sums.{sum_bound}
use Rattle.trace.specs.Bounds.{RECORDS}
use Rattle.trace.specs.WellFormed.{well_formed}
use Rattle.rules.specs.Frame.{Frame, Good}
use Rattle.trace.specs.Meaning.{frame_of}
use Rattle.rules.specs.Order.{Valid}
use Rattle.trace.specs.declared.Trace.{Trace}
use Rattle.trace.proofs.WellFormed.{form-iff}
use Rattle.trace.proofs.Good.{good}
use Rattle.rules.specs.Rules.{InRecords}
use Rattle.pairs.specs.Kept.{kept_of}
use Rattle.rules.proofs.Ends.{joins-within}
use Rattle.pairs.proofs.KeptPairs.{kept-joins}
use Rattle.rules.specs.Ready.{operations}
use Rattle.rules.proofs.Ready.{valid-sized}

pub well-fits : (t : Trace) → So (well_formed t) → t.len ≤ RECORDS
well-fits t w = ((form-iff t).0 w).fits

pub well-kept : (t : Trace) → So (well_formed t) → (m : ℕ) → InRecords (frame_of t) (kept_of m t)
well-kept t w m = joins-within (frame_of t) (good t w) (kept_of m t) (kept-joins m t)

pub valid-short : (f : Frame) → Good f → (K : Table) (xs : List ℕ) → Valid f K xs → length xs ≤ f.records
unfolding operations
valid-short f g K xs v = omega (arith, (valid-sized f g K).long xs v, sum_bound f.records 1 (λ x. cond (f.operation x) 1 0) (λ x _. one (f.operation x)))
  where
    one : (b : Bool) → cond b 1 0 ≤ 1
    one true = omega arith
    one false = omega arith
