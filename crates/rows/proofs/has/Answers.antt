-- `rows::has`: the word at the pair's place, shifted, has the pair's bit lowest.
use mathlib.Core.Path.{sym}
use Rattle.laws.specs.Bits.{bit_of}
use Rattle.rows.proofs.Rows.{bit_at}
use Rattle.rows.proofs.has.Goals as goal

pub returns : goal.returns
unfolding bit_of
returns c =
    sym (bit_at c.args.rows.now c.args.x c.args.y c.requires.0 c.requires.1)
