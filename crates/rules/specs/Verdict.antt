-- What a verdict says of a trace under a table of kept pairs.
--
--   Verdict    == no source, with the record that lacks it; a circle, with its operations and their rules; an order; none left
--   Says f K v == v is the verdict: each case asks that those before it are not so
--   faulty v   == v hands back no order
use Rattle.std.specs.Prelude.{Bool, true, false, List, ℕ}
use Rattle.std.proofs.Math.Option.{none, some}
use Rattle.laws.specs.Relation.{Table}
use Rattle.laws.specs.Dict.{Least}
use Rattle.laws.specs.Lowest.{Lowest}
use Rattle.rules.specs.Frame.{Frame}
use Rattle.rules.specs.Order.{Valid}
use Rattle.rules.specs.Missing.{Missing, Sourced}
use Rattle.rules.specs.ShownCircle.{Circled}

pub data Verdict : Type 0 where
  no_source : ℕ → Verdict
  circle : List ℕ → List ℕ → Verdict
  order : List ℕ → Verdict
  none_left : Verdict

abbrev pub Says : Frame → Table → Verdict → Type 0
Says f K (no_source x) = Lowest (Missing f) (some x)
Says f K (circle c rs) = Sourced f × Circled f K (some (c, rs))
Says f K (order xs) = Sourced f × Circled f K none × Least (Valid f K) (some xs)
Says f K none_left = Sourced f × Circled f K none × Least (Valid f K) none

abbrev pub faulty : Verdict → Bool
faulty (no_source x) = true
faulty (circle c rs) = true
faulty (order xs) = false
faulty none_left = true
