-- `signature::packing::joined`: into the open word, or as a new one.
use mathlib.Core.Path.{sym, ◌∙◌}
use Prim.Native.Nat.{suc, ◌*◌}
use native.Mathlib.Omega.{arith}
use borrow.Author.Tests.{leb-true}
use Rattle.signature.specs.DigitWords.{LIMIT}
use Rattle.signature.proofs.Laid.{joined_in, joined-out}
use Rattle.signature.proofs.packing.joined.Goals as goal

pub with_digit-word-requires : goal.with_digit-word-requires
with_digit-word-requires c = (c.requires.0, c.requires.1, leb-true (suc c.args.o.q * c.args.range) LIMIT (sym c.fits.ensures ∙ c.if-fits.true))

pub wider-q-requires : goal.wider-q-requires
wider-q-requires c = (omega (arith, c.requires.0), leb-true (suc c.args.o.q * c.args.range) LIMIT (sym c.fits.ensures ∙ c.if-fits.true))

pub returns-then-fits : goal.returns-then-fits
returns-then-fits c =
    joined_in c.args.o c.args.range c.args.digit (sym c.fits.ensures ∙ c.if-fits.true) c.wider-q.result c.with_digit-word.result c.wider-q.ensures c.with_digit-word.ensures.0

pub overflow_sub-result : goal.overflow_sub-result
overflow_sub-result c = omega (arith, c.requires.0)

pub returns : goal.returns
returns c =
    joined-out c.args.o c.args.range c.args.digit (sym c.fits.ensures ∙ c.if-fits.false) c.closed-next.result c.closed-next.ensures
