-- `report::lines::put_after`: the word, and the number behind it.
use native.Mathlib.Omega.{arith}
use Rattle.report.proofs.Wrote.{wrote_then}
use Rattle.report.proofs.Digits.{decimal-usize}
use Rattle.report.proofs.lines.put_after.Goals as goal

pub put_decimal-requires : goal.put_decimal-requires
put_decimal-requires c = omega (arith, decimal-usize c.args.n (omega arith), c.put_word-end.ensures.ends, c.put_word-end.ensures.long)

pub returns : goal.returns
returns c = (
  wrote_then c.args.out.now c.args.at _ _ _ _ _ _ c.put_word-end.ensures c.put_decimal.ensures,
  omega (arith, decimal-usize c.args.n (omega arith), c.put_word-end.ensures.ends, c.put_decimal.ensures.ends),
)
