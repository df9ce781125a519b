-- `signature::products::fits`: by a division that does not overflow.
use native.Mathlib.Omega.{arith}
use Rattle.signature.proofs.Loop.{room-same}
use Rattle.signature.proofs.products.fits.Goals as goal

pub returns : goal.returns
returns c = room-same c.args.q c.args.range c.requires (omega arith)
