-- What the eight bytes of a record say.
--
--   op_in k t a z r w == the record of these fields, if the kind is one of the four and what it does not carry is 0
--   entry_in b        == the record that the first eight bytes are, if any
use Rattle.std.specs.Prelude.{Option, Some, None, cond, ◌&&◌, List, ℕ, eqb, get_or}
use Rattle.trace.specs.declared.Op.{Op}
use Rattle.trace.specs.declared.Op.TheVariants.{Load, Store, Swap, Fence}
use Rattle.packed.specs.Layout.{two_in}

unfoldable pub op_in : ℕ → ℕ → ℕ → ℕ → ℕ → ℕ → Option Op
op_in k t a z r w =
    cond (eqb k 0 && eqb z 0 && eqb w 0) (Some (Load t a r))
    (cond (eqb k 1 && eqb z 0 && eqb r 0) (Some (Store t a w))
    (cond (eqb k 2 && eqb z 0) (Some (Swap t a r w))
    (cond (eqb k 3 && eqb a 0 && eqb z 0 && eqb r 0 && eqb w 0) (Some (Fence t)) None)))

abbrev pub entry_in : List ℕ → Option Op
entry_in b = op_in (get_or b 0 0) (get_or b 1 0) (get_or b 2 0) (get_or b 3 0) (two_in b 4) (two_in b 6)
