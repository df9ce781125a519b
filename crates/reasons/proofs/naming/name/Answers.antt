-- `naming::name`: an entry that is laid is named at the end of the branch.
use native.Mathlib.Omega.{arith}
use Rattle.reasons.proofs.Laying.{name-over, name-full, name_done}
use Rattle.reasons.proofs.naming.name.Goals as goal

pub returns-then-count-ge-BRANCH : goal.returns-then-count-ge-BRANCH
returns-then-count-ge-BRANCH c =
    let a = c.args in
    name-over a.rule a.x a.y a.k a.rests.now (omega arith) a.limit a.from.now a.to.now a.out.now a.count a.at a.from.now a.to.now a.out.now c.if-count-ge-BRANCH.true

pub returns-in_err-p : goal.returns-in_err-p
returns-in_err-p c =
    let a = c.args in
    rw c.from_residual.ensures (name-full a.rule a.x a.y a.k a.rests.now (omega arith) a.limit a.from.now a.to.now a.out.now a.count a.at a.from.now a.to.now a.out.now c.lay_entry.new.out c.in_err-p.ensures)

pub returns : goal.returns
returns c =
    let a = c.args in
    name_done a.rule a.x a.y a.k a.rests.now (omega arith) a.limit a.from.now a.to.now a.out.now a.count a.at c.lay_entry.new.out c.in_ok-p.p c.in_ok-p.ensures c.if-count-ge-BRANCH.false c.requires.3 c.requires.4
