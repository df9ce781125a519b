-- `rows::mix`: bit by bit.
use Rattle.rows.proofs.Squares.{bit_of-mix}
use Rattle.rows.proofs.mix.Goals as goal

pub returns : goal.returns
returns c = λ j. bit_of-mix c.args.m c.args.a c.args.b j
