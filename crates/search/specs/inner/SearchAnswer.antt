-- What the search from nothing placed leaves behind.
--
--   Looked f held m list list' r == r and the first m places of list' are the first valid order or that there is none, under any kept pairs that
--                                   what is held may guide; the places from m on stand
use Rattle.std.specs.Prelude.{◌≡◌, Bool, List, ℕ, ◌≤◌, get_or}
use Rattle.laws.specs.Relation.{Table}
use Rattle.laws.specs.Dict.{Least}
use Rattle.rules.specs.Frame.{Frame}
use Rattle.rules.specs.Order.{Valid}
use Rattle.rules.specs.Missing.{Sourced}
use Rattle.search.specs.inner.TablesLaid.{Guided}
use Rattle.search.specs.inner.SearchBelow.{follows_as}

pub record Looked (f : Frame) (held : List ℕ) (m : ℕ) (list list' : List ℕ) (r : Bool) : Type 0 where
  pub rest : (i : ℕ) → m ≤ i → get_or list' i 0 ≡ get_or list i 0
  pub right : (K : Table) → Guided f K held → Sourced f → Least (Valid f K) (follows_as r 0 m list')
