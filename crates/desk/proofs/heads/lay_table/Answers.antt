-- `desk::heads::lay_table`: the bytes below i are laid.
use mathlib.Core.Path.{◌≡◌, refl, ap₂, ◌∙◌}
use mathlib.Core.List.{List}
use Prim.Native.Nat.{ℕ}
use native.Mathlib.Omega.{arith}
use lib.ListN.{set, length-set}
use Rattle.laws.specs.ListOf.{row}
use Rattle.laws.proofs.Rows.{row_more}
use Rattle.desk.specs.SessionHead.{TABLE, table_at}
use Rattle.desk.proofs.heads.lay_table.Goals as goal

pub loop-i-init : goal.loop-i-init
unfolding row
loop-i-init c = (omega arith, refl, refl)

pub loop-i-preserved : goal.loop-i-preserved
unfolding table_at
loop-i-preserved c =
    let l = c.loop-i in
    let a = c.args in (
      omega arith,
      length-set l.out l.i c.byte.result ∙ l.invariant.1,
      ap₂ (λ (o : List ℕ) (v : ℕ). set o l.i v) l.invariant.2 c.byte.ensures ∙ row_more (table_at a.held.now) a.out.now l.i (omega arith),
    )

pub shape_of-out : goal.shape_of-out
shape_of-out c = c.loop-i.invariant.1

pub returns : goal.returns
returns c =
    let l = c.loop-i in
    let e : l.i ≡ TABLE = omega arith in
    rw e at l.invariant.2
