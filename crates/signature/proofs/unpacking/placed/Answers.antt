-- `signature::unpacking::placed`: in the open word, or in the next.
use mathlib.Core.Path.{sym, ◌∙◌}
use Prim.Native.Nat.{suc, ◌*◌}
use borrow.Author.Tests.{leb-true}
use Rattle.signature.specs.DigitWords.{LIMIT}
use Rattle.signature.proofs.Placed.{placed-in, placed-out}
use Rattle.signature.proofs.unpacking.placed.Goals as goal

pub wider-q-requires : goal.wider-q-requires
wider-q-requires c = (c.requires.0, leb-true (suc c.args.x.q * c.args.range) LIMIT (sym c.fits.ensures ∙ c.if-fits.true))

pub returns-then-fits : goal.returns-then-fits
returns-then-fits c =
    placed-in c.args.x c.args.range c.args.i (sym c.fits.ensures ∙ c.if-fits.true) c.wider-q.result c.wider-q.ensures

pub returns : goal.returns
returns c =
    placed-out c.args.x c.args.range c.args.i (sym c.fits.ensures ∙ c.if-fits.false) c.after-at.result c.after-at.ensures
