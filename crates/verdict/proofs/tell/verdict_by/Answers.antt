-- `verdict::tell::verdict_by`: an order, then the rest.
use Rattle.rows.specs.Lent.{lent_of}
use Rattle.verdict.proofs.LaidOut.{told-order, orderless}
use Rattle.verdict.proofs.tell.verdict_by.Goals as goal

pub returns-then-first : goal.returns-then-first
returns-then-first c = told-order c.args.t (lent_of c.args.t c.args.kept.now) c.first_order_by-first.result c.first_order_by-first.ensures c.if-first.true

pub unordered-requires : goal.unordered-requires
unordered-requires c = orderless c.args.t (lent_of c.args.t c.args.kept.now) c.first_order_by-first.result c.first_order_by-first.ensures c.if-first.false
