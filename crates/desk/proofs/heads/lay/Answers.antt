-- `desk::heads::lay`: the front, and behind it the table.
use mathlib.Core.Path.{◌≡◌}
use mathlib.Core.List.{List}
use Prim.Native.Nat.{ℕ, ◌≤◌}
use native.Mathlib.Omega.{arith}
use lib.ListN.{length}
use Rattle.rows.specs.Bounds.{CELLS}
use Rattle.desk.proofs.HeadBytes.{room-behind, laid}
use Rattle.desk.proofs.heads.lay.Goals.{Start}
use Rattle.desk.proofs.heads.lay.Goals as goal

-- the rows have all their words, which is told by owning them
full : (c : Start) → length c.args.s.held ≡ CELLS
full c = c.well_formed.0.1.1.1.1.1.1.0.1.0.1

reaches : (l : List ℕ) → length l ≡ CELLS → CELLS ≤ length l
reaches l e = omega arith

pub lay_table-requires : goal.lay_table-requires
lay_table-requires c =
    (reaches c.args.s.held (full (goal.at.lay_table-requires c).Start), room-behind c.args.s c.args.out.now _ c.lay_front.ensures c.requires.1)

pub returns : goal.returns
returns c =
    let a = c.args in
    laid a.s a.out.now _ _ c.lay_front.ensures c.lay_table.ensures
