-- The search within a budget, as a function runs it: what it brings back, and how far its loop is.
--
--   Walked                == an order after so many steps; its end after so many; or over the budget
--   BringsBack r list left w == w is what a search that makes r's steps and finds what r finds brings back, where `left` steps may be made and `list` is what
--                            follows in the list that it fills
--   steps_ahead u r        == r after u steps
--   Looped f K d p u y    == the loop below p has made u steps and has gone through the numbers below y
use Rattle.std.specs.Prelude.{◌≡◌, List, ℕ, ◌+◌, ◌-◌, ◌<◌, ◌≤◌}
use Rattle.std.proofs.Math.Option.{Option, none, some}
use Rattle.laws.specs.Relation.{Table}
use Rattle.rules.specs.Frame.{Frame}
use Rattle.plain.specs.Plain.{tries, plain}

pub data Walked : Type 0 where
  Order : ℕ → Walked
  End : ℕ → Walked
  Over : Walked

abbrev pub BringsBack : ℕ × Option (List ℕ) → List ℕ → ℕ → Walked → Type 0
BringsBack r list left (Order c) = (r ≡ (c, some list)) × (c ≤ left)
BringsBack r list left (End c) = (r ≡ (c, none)) × (c ≤ left)
BringsBack r list left Over = left < r.0

abbrev pub steps_ahead : ℕ → ℕ × Option (List ℕ) → ℕ × Option (List ℕ)
steps_ahead u r = (u + r.0, r.1)

abbrev pub Looped : Frame → Table → ℕ → List ℕ → ℕ → ℕ → Type 0
Looped f K d p u y = tries f K (plain f K d) p f.records 0 ≡ steps_ahead u (tries f K (plain f K d) p (f.records - y) y)
