-- `report::render::put_record`: the record, and the line feed.
use native.Mathlib.Omega.{arith}
use Rattle.report.proofs.Wrote.{wrote_then}
use Rattle.report.proofs.render.put_record.Goals as goal

pub returns : goal.returns
returns c = (
  wrote_then c.args.out.now c.args.at _ _ _ _ _ _ c.put_op-end.ensures.0 c.put_word.ensures,
  omega (arith, c.put_op-end.ensures.1, c.put_word.ensures.ends),
)
