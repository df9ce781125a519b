-- `report::pieces::put_digit`: one byte is set.
use Rattle.report.proofs.Wrote.{wrote-byte}
use Prim.Native.Nat.{◌+◌}
use Rattle.report.proofs.pieces.put_digit.Goals as goal

pub returns : goal.returns
returns c = wrote-byte c.args.out.now c.args.at (48 + c.args.d) c.requires.1
