-- `trace::form::marked`: the mark's word, shifted, has the mark's bit lowest.
use mathlib.Core.Path.{ap}
use Prim.Native.Nat.{ℕ, ◌/◌, ◌%◌, ◌^◌}
use lib.Dec.{eqb}
use lib.ListN.{get_or}
use Rattle.laws.specs.Bits.{bit_of}
use Rattle.trace.specs.inner.Marks.{MARKWIDTH, has_mark}
use Rattle.trace.proofs.form.marked.Goals as goal

pub returns : goal.returns
unfolding has_mark bit_of
returns c =
    let a = c.args in
    ap (λ (i : ℕ). eqb (get_or a.marks.now i 0 / 2 ^ (a.value % MARKWIDTH) % 2) 1) c.place-i.ensures
