-- `report::lines::put_circle`: the words, the operations, a word, and the rules.
use native.Mathlib.Omega.{arith}
use Rattle.report.proofs.Wrote.{wrote_then}
use Rattle.report.proofs.lines.put_circle.Goals as goal

pub returns : goal.returns
returns c = let b = c.args.out.now in
    let at = c.args.at in (
      wrote_then b at _ _ _ _ _ _ (wrote_then b at _ _ _ _ _ _ (wrote_then b at _ _ _ _ _ _ c.put_word-named.ensures c.put_numbers-listed.ensures.0) c.put_word-end.ensures) c.put_rules.ensures.0,
      omega (arith, c.put_word-named.ensures.ends, c.put_numbers-listed.ensures.1, c.put_word-end.ensures.ends, c.put_rules.ensures.1),
    )
