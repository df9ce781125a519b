-- `report::pieces::put_word`: the bytes before the place are left alone, so the word stands behind them.
use Rattle.report.proofs.Wrote.{wrote-put}
use Rattle.report.proofs.pieces.put_word.Goals as goal

pub returns : goal.returns
returns c = wrote-put c.args.out.now c.args.at c.args.word.now _ _ c.requires c.put.ensures.0 c.put.ensures.1
