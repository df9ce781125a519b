-- `rows::lay_square`: the rows of the square below i are laid.
use mathlib.Core.Path.{◌≡◌}
use Prim.Native.Nat.{◌+◌, ◌*◌}
use native.Mathlib.Omega.{arith}
use lib.ListN.{get_or}
use Rattle.rows.specs.Bounds.{WIDTH, WORDS}
use Rattle.rows.proofs.Or.{or_of}
use Rattle.rows.proofs.Turning.{square-row, square-skip}
use Rattle.rows.proofs.lay_square.Goals.{else-y-n, then-y-n}
use Rattle.rows.proofs.lay_square.Goals as goal

pub loop-i-preserved : goal.loop-i-preserved
loop-i-preserved c =
    let l = c.loop-i in
    let a = c.args in
    (elim c.if-y-n.branch [
      | then-y-n w ↦ let e : c.if-y-n.out ≡ or_of l.out ((a.q * WIDTH + l.i) * WORDS + a.p) (get_or a.square.now l.i 0) = w.out-is in
          (omega arith, rw e (square-row a.out.now a.square.now a.n a.p a.q l.i l.out l.invariant.1 (λ i. omega (arith, c.type_inv.square i)) (omega arith) (omega arith) (omega arith) w.if-y-n.true (omega (arith, l.invariant.1.long))))
      | else-y-n w ↦ let e : c.if-y-n.out ≡ l.out = w.out-is in
          (omega arith, rw e (square-skip a.out.now a.square.now a.n a.p a.q l.i l.out l.invariant.1 w.if-y-n.false))
    ])
