-- `rows::copy`: the words below i are taken over.
use mathlib.Core.Path.{sym}
use native.Mathlib.Omega.{arith}
use Rattle.rows.proofs.Whole.{copy-same, copy-other}
use Rattle.rows.proofs.copy.Goals as goal

pub returns-then-from-to : goal.returns-then-from-to
returns-then-from-to c =
    let a = c.args in
    sym (copy-other a.from.now a.to.now c.if-from-to.true)

pub returns : goal.returns
returns c =
    let a = c.args in
    let e = copy-same a.from.now a.to.now (omega arith) in
    cc
