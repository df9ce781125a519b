-- `report::lines::put_order`: the word, and the operations behind it.
use native.Mathlib.Omega.{arith}
use Rattle.report.proofs.Wrote.{wrote_then}
use Rattle.report.proofs.lines.put_order.Goals as goal

pub returns : goal.returns
returns c = (
  wrote_then c.args.out.now c.args.at _ _ _ _ _ _ c.put_word-end.ensures c.put_numbers.ensures.0,
  omega (arith, c.put_word-end.ensures.ends, c.put_numbers.ensures.1),
)
