-- The circle shown, laid into a buffer.
--
--   circle_of len out          == the first len numbers, or no circle where len is 0
--   ShownIn edges room len out == the buffer begins with the circle shown of the edges, of this length, and is 0 past it; nothing is
--                                 shown of rows that are not of the full length, or in a buffer without a place for each record
use Rattle.std.specs.Prelude.{◌≡◌, ◌≢◌, ◌⊎◌, List, ℕ, zero, suc, ◌≤◌, length, get_or, take}
use Rattle.std.proofs.Math.Option.{Option, none, some}
use Rattle.trace.specs.Bounds.{RECORDS}
use Rattle.rows.specs.Bounds.{CELLS}
use Rattle.rows.specs.Rows.{Edges}
use Rattle.rules.specs.Circle.{Shown}

unfoldable pub circle_of : ℕ → List ℕ → Option (List ℕ)
circle_of zero out = none
circle_of (suc n) out = some (take (suc n) out)

pub record ShownIn (edges : List ℕ) (room len : ℕ) (out : List ℕ) : Type 0 where
  pub long : length out ≡ room
  pub fits : len ≤ room
  pub rest : (i : ℕ) → len ≤ i → get_or out i 0 ≡ 0
  pub shown : length edges ≡ CELLS → room ≡ RECORDS → Shown (Edges edges) (circle_of len out)
  pub other : (length edges ≢ CELLS) ⊎ (room ≢ RECORDS) → len ≡ 0
