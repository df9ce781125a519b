-- `rows::cross`: the pairs of rows below p have exchanged their bits.
use Prim.Native.Nat.{◌+◌, ◌*◌, ◌/◌, ◌^◌}
use native.Mathlib.Omega.{arith}
use lib.ListN.{length-set}
use Rattle.rows.proofs.Squares.{crossing-more, crossing-end, pair_place}
use Rattle.rows.proofs.cross.Goals as goal

pub bounds-square-i-in-loop-p : goal.bounds-square-i-in-loop-p
bounds-square-i-in-loop-p c =
    let a = c.args in
    let near = pair_place a.k a.d a.m c.requires.1 c.loop-p.p (omega arith) in
    omega (arith, near.1, c.loop-p.invariant.1.long)

pub overflow_shl-b : goal.overflow_shl-b
overflow_shl-b c =
    let a = c.args in
    let near = pair_place a.k a.d a.m c.requires.1 c.loop-p.p (omega arith) in
    omega (arith, near.1)

pub overflow_shr-a : goal.overflow_shr-a
overflow_shr-a c =
    let a = c.args in
    let near = pair_place a.k a.d a.m c.requires.1 c.loop-p.p (omega arith) in
    omega (arith, near.1)

pub bounds-square-i-in-loop-p-3 : goal.bounds-square-i-in-loop-p-3
bounds-square-i-in-loop-p-3 c =
    let a = c.args in
    let near = pair_place a.k a.d a.m c.requires.1 c.loop-p.p (omega arith) in
    omega (arith, near.1, c.loop-p.invariant.1.long, length-set c.loop-p.square (c.loop-p.p / 2 ^ a.k * a.d + c.loop-p.p) c.mix.result)

pub loop-p-preserved : goal.loop-p-preserved
loop-p-preserved c =
    let a = c.args in
    let near = pair_place a.k a.d a.m c.requires.1 c.loop-p.p (omega arith) in
    (omega arith, crossing-more a.k a.d a.m c.requires.1 a.square.now c.loop-p.square c.loop-p.p (omega arith) c.loop-p.invariant.1 (c.loop-p.p / 2 ^ a.k * a.d + c.loop-p.p) c.mix.result c.mix-in-loop-p.result near.0 c.mix.ensures c.mix-in-loop-p.ensures)

pub returns : goal.returns
returns c =
    crossing-end c.args.k c.args.square.now c.loop-p.p c.loop-p.square c.requires.1.few (omega arith) c.loop-p.invariant.1
