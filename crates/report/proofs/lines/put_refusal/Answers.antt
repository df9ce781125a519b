-- `report::lines::put_refusal`: the number, the line, and the line feed.
use native.Mathlib.Omega.{arith}
use Rattle.report.proofs.Wrote.{wrote_then}
use Rattle.report.proofs.Digits.{decimal-usize}
use Rattle.report.proofs.lines.put_refusal.Goals as goal

pub put_decimal-end-requires : goal.put_decimal-end-requires
put_decimal-end-requires c = omega (arith, decimal-usize c.args.line (omega arith), c.put_after-named.ensures.1, c.put_word-begun.ensures.ends, c.put_word-begun.ensures.long, c.put_after-named.ensures.0.long)

pub put_word-requires : goal.put_word-requires
put_word-requires c = omega (arith, decimal-usize c.args.line (omega arith), c.put_after-named.ensures.1, c.put_word-begun.ensures.ends, c.put_word-begun.ensures.long, c.put_after-named.ensures.0.long, c.put_decimal-end.ensures.ends, c.put_decimal-end.ensures.long)

pub returns : goal.returns
returns c = let b = c.args.out.now in
    let at = c.args.at in (
      wrote_then b at _ _ _ _ _ _ (wrote_then b at _ _ _ _ _ _ (wrote_then b at _ _ _ _ _ _ c.put_after-named.ensures.0 c.put_word-begun.ensures) c.put_decimal-end.ensures) c.put_word.ensures,
      omega (arith, decimal-usize c.args.line (omega arith), c.put_after-named.ensures.1, c.put_word-begun.ensures.ends, c.put_decimal-end.ensures.ends, c.put_word.ensures.ends),
    )
