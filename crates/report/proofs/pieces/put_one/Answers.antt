-- `report::pieces::put_one`: a space, and the number behind it.
use mathlib.Core.Path.{◌∙◌}
use mathlib.Core.List.{[], ◌∷◌}
use native.Mathlib.Omega.{arith}
use lib.ListN.{length-set}
use Rattle.text.specs.Number.{decimal}
use Rattle.report.specs.Words.{SPACE}
use Rattle.report.proofs.Wrote.{wrote_then, wrote-byte}
use Rattle.report.proofs.pieces.put_one.Goals as goal

pub put_decimal-requires : goal.put_decimal-requires
put_decimal-requires c = simp length-set (omega (arith, c.requires.0))

pub shape_of-out : goal.shape_of-out
shape_of-out c = c.put_decimal.ensures.long ∙ length-set c.args.out.now c.args.at SPACE

pub returns : goal.returns
returns c = let w = c.put_decimal.ensures in (
  wrote_then c.args.out.now c.args.at (SPACE ∷ []) (decimal c.args.n) _ _ _ _ (wrote-byte c.args.out.now c.args.at SPACE (omega arith)) w,
  omega (arith, w.ends, c.requires.0),
)
