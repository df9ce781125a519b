-- `pairs::op_at`: past the array stands the first variant at zeros.
use mathlib.Core.Path.{sym}
use native.Mathlib.Omega.{arith}
use Rattle.trace.proofs.Places.{at-past}
use Rattle.pairs.proofs.op_at.Goals as goal

pub returns : goal.returns
returns c =
    let t = c.args.t in
    sym (at-past t (c.well_formed.0.1.1.0.1.0.1) c.args.i (omega arith))
