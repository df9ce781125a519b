-- The first valid order of a trace under a model, as the answer of a function.
--
--   found? b xs      == xs, if it was found
--   order_of r        == the order that an answer hands back, if it has one
--   FirstOrder t m r == r is the first valid order, or that there is none; its unused places are 0. With nothing to answer, it has none
--   FirstOrderBy t K r == the same from any kept pairs K; of a trace that is not well formed it has none
use Rattle.std.specs.Prelude.{◌≡◌, Bool, true, false, List, ℕ, ◌≤◌, length, take, get_or}
use Rattle.std.proofs.Math.Bool.{So}
use Rattle.std.proofs.Math.Option.{Option, none, some}
use Rattle.laws.specs.Dict.{Least}
use Rattle.laws.specs.Relation.{Table}
use Rattle.trace.specs.Bounds.{RECORDS}
use Rattle.trace.specs.Meaning.{frame_of}
use Rattle.trace.specs.WellFormed.{well_formed}
use Rattle.rules.specs.Order.{Valid}
use Rattle.trace.specs.declared.Trace.{Trace}
use Rattle.pairs.specs.Kept.{kept_of}
use Rattle.edges.specs.ForcedPairs.{answered}
use Rattle.search.specs.declared.Order.{Order}

abbrev pub found? : Bool → List ℕ → Option (List ℕ)
found? true xs = some xs
found? false xs = none

abbrev pub order_of : Order → Option (List ℕ)
order_of r = found? r.found (take r.len r.operations)

pub record FirstOrder (t : Trace) (m : ℕ) (r : Order) : Type 0 where
  pub fits : r.len ≤ RECORDS
  pub long : length r.operations ≡ RECORDS
  pub rest : (i : ℕ) → r.len ≤ i → get_or r.operations i 0 ≡ 0
  pub first : So (answered m t) → Least (Valid (frame_of t) (kept_of m t)) (order_of r)
  pub unfound : r.found ≡ false → r.len ≡ 0
  pub nothing : answered m t ≡ false → r.found ≡ false

pub record FirstOrderBy (t : Trace) (K : Table) (r : Order) : Type 0 where
  pub fits : r.len ≤ RECORDS
  pub long : length r.operations ≡ RECORDS
  pub rest : (i : ℕ) → r.len ≤ i → get_or r.operations i 0 ≡ 0
  pub first : So (well_formed t) → Least (Valid (frame_of t) K) (order_of r)
  pub unfound : r.found ≡ false → r.len ≡ 0
  pub nothing : well_formed t ≡ false → r.found ≡ false
