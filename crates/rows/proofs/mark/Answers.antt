-- `rows::mark`: 1 shifted to the pair's bit is a power of two, and the pair's word is joined with it.
use mathlib.Core.Path.{refl}
use Prim.Native.Nat.{◌%◌}
use native.Mathlib.Omega.{arith}
use Rattle.laws.proofs.Bits.{shift_one}
use Rattle.rows.specs.Bounds.{WIDTH}
use Rattle.rows.specs.Put.{mark_of}
use Rattle.rows.proofs.mark.Goals as goal

pub returns : goal.returns
unfolding mark_of
returns c = rw (shift_one {k = c.args.y % WIDTH} {w = WIDTH} (omega arith)) refl
