-- `naming::lay_entry`: the head, and then what the entry rests on.
use native.Mathlib.Omega.{arith}
use Rattle.reasons.proofs.Laying.{entry-full, entry-laid}
use Rattle.reasons.proofs.naming.lay_entry.Goals as goal

pub lay-requires-2 : goal.lay-requires-2
lay-requires-2 c = (omega arith, c.in_ok-p.ensures.1)

pub returns-in_err-p : goal.returns-in_err-p
returns-in_err-p c =
    let a = c.args in
    rw c.from_residual.ensures (entry-full a.rule a.x a.y a.k a.rests.now (omega arith) a.limit a.out.now a.at c.lay.new.out c.in_err-p.ensures)

pub returns : goal.returns
returns c =
    let a = c.args in
    entry-laid a.rule a.x a.y a.k a.rests.now (omega arith) a.limit a.out.now a.at c.lay.new.out c.in_ok-p.p c.in_ok-p.ensures c.lay-2.new.out c.lay-2.result c.lay-2.ensures
