-- `report::lines::put_line`: the name, a colon and a space, what is said, and the line feed.
use native.Mathlib.Omega.{arith}
use Rattle.report.proofs.Wrote.{wrote_then}
use Rattle.report.proofs.lines.put_line.Goals as goal

pub returns : goal.returns
returns c = let b = c.args.out.now in
    let at = c.args.at in (
      wrote_then b at _ _ _ _ _ _ (wrote_then b at _ _ _ _ _ _ (wrote_then b at _ _ _ _ _ _ c.put_name-named.ensures.0 c.put_word-begun.ensures) c.put_said-said.ensures.0) c.put_word.ensures,
      omega (arith, c.put_name-named.ensures.1, c.put_word-begun.ensures.ends, c.put_said-said.ensures.1, c.put_word.ensures.ends),
    )
