-- `rows::turn_square`: step by step, the bits of the two numbers are exchanged from the highest down.
use mathlib.Core.Path.{refl}
use native.Mathlib.Omega.{arith}
use Rattle.laws.specs.Bits.{bit_of}
use Rattle.laws.specs.Tests.{all}
use Rattle.rows.proofs.Squares.{exchanged-none, exchanged-more, exchanged-end, masked}
use Rattle.rows.proofs.turn_square.Goals as goal

pub cross-requires : goal.cross-requires
unfolding all bit_of
cross-requires c = (c.requires, masked 5 32 _ (omega arith) refl refl)

pub cross-requires-2 : goal.cross-requires-2
unfolding all bit_of
cross-requires-2 c = (c.cross.ensures.long, masked 4 16 _ (omega arith) refl refl)

pub cross-requires-3 : goal.cross-requires-3
unfolding all bit_of
cross-requires-3 c = (c.cross-2.ensures.long, masked 3 8 _ (omega arith) refl refl)

pub cross-requires-4 : goal.cross-requires-4
unfolding all bit_of
cross-requires-4 c = (c.cross-3.ensures.long, masked 2 4 _ (omega arith) refl refl)

pub cross-requires-5 : goal.cross-requires-5
unfolding all bit_of
cross-requires-5 c = (c.cross-4.ensures.long, masked 1 2 _ (omega arith) refl refl)

pub cross-requires-6 : goal.cross-requires-6
unfolding all bit_of
cross-requires-6 c = (c.cross-5.ensures.long, masked 0 1 _ (omega arith) refl refl)

pub returns : goal.returns
returns c =
    let s = c.args.square.now in
    let each-bit = exchanged-none s c.requires in
    let five = exchanged-more 5 s _ _ (omega arith) each-bit c.cross.ensures in
    let four = exchanged-more 4 s _ _ (omega arith) five c.cross-2.ensures in
    let three = exchanged-more 3 s _ _ (omega arith) four c.cross-3.ensures in
    let two = exchanged-more 2 s _ _ (omega arith) three c.cross-4.ensures in
    let one = exchanged-more 1 s _ _ (omega arith) two c.cross-5.ensures in
    exchanged-end s _ (exchanged-more 0 s _ _ (omega arith) one c.cross-6.ensures)
