-- `trace::form::mark`: 1 shifted to the mark's bit is a power of two, and the mark's word is joined with it.
use mathlib.Core.Path.{refl}
use Prim.Native.Nat.{◌%◌}
use native.Mathlib.Omega.{arith}
use Rattle.laws.proofs.Bits.{shift_one}
use Rattle.trace.specs.inner.Marks.{MARKWIDTH, with_mark}
use Rattle.trace.proofs.form.mark.Goals as goal

pub returns : goal.returns
unfolding with_mark
returns c = rw (c.place-i.ensures, shift_one {k = c.args.value % MARKWIDTH} {w = MARKWIDTH} (omega arith)) refl
