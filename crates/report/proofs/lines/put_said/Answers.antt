-- `report::lines::put_said`: by the outcome. That the arrays have all their places is told by owning them.
use mathlib.Core.Path.{◌≡◌, sym, ap}
use native.Mathlib.Omega.{arith}
use lib.ListN.{length, take}
use lib.Seq.{length-take-le}
use Rattle.trace.specs.Bounds.{RECORDS}
use Rattle.verdict.specs.declared.Outcome.{Outcome}
use Rattle.verdict.specs.declared.Verdict.{Verdict}
use Rattle.verdict.proofs.Numbers.{numbers-take}
use Rattle.report.specs.Report.{saying_as, saying}
use Rattle.report.proofs.Wrote.{wrote_as}
use Rattle.report.proofs.lines.put_said.Goals.{Start}
use Rattle.report.proofs.lines.put_said.Goals as goal

all-operations : (c : Start) → length c.args.v.operations ≡ RECORDS
all-operations c = c.well_formed.0.1.1.1.1.0.1.0.1

all-rules : (c : Start) → length c.args.v.rules ≡ RECORDS
all-rules c = c.well_formed.0.1.1.1.1.1.0.1.0.1

-- the used places
used-operations : (c : Start) → length (take c.args.v.len c.args.v.operations) ≡ c.args.v.len
used-operations c = length-take-le c.args.v.len c.args.v.operations (omega (arith, all-operations c, c.requires.1))

used-rules : (c : Start) → length (take c.args.v.len c.args.v.rules) ≡ c.args.v.len
used-rules c = length-take-le c.args.v.len c.args.v.rules (omega (arith, all-rules c, c.requires.1))

-- what is said goes by the outcome
by-outcome : (v : Verdict) (o : Outcome) → v.outcome ≡ o → saying_as o (take v.len v.operations) (take v.len v.rules) ≡ saying v
by-outcome v o e = ap (λ (o : Outcome). saying_as o (take v.len v.operations) (take v.len v.rules)) (sym e)

pub slice_bounds-put_circle-end : goal.slice_bounds-put_circle-end
slice_bounds-put_circle-end c = sym (used-operations (goal.at.slice_bounds-put_circle-end c).Start)

pub slice_bounds-put_circle-end-in-Circle : goal.slice_bounds-put_circle-end-in-Circle
slice_bounds-put_circle-end-in-Circle c = sym (used-rules (goal.at.slice_bounds-put_circle-end-in-Circle c).Start)

pub put_circle-requires : goal.put_circle-requires
put_circle-requires c = (c.requires.0, omega (arith, used-operations (goal.at.put_circle-requires c).Start, c.requires.1), numbers-take c.args.v.len c.args.v.operations c.requires.2, omega (arith, used-rules (goal.at.put_circle-requires c).Start, c.requires.1))

pub slice_bounds-put_order-end : goal.slice_bounds-put_order-end
slice_bounds-put_order-end c = sym (used-operations (goal.at.slice_bounds-put_order-end c).Start)

pub put_order-requires : goal.put_order-requires
put_order-requires c = (c.requires.0, omega (arith, used-operations (goal.at.put_order-requires c).Start, c.requires.1), numbers-take c.args.v.len c.args.v.operations c.requires.2)

pub returns-in-NoSource : goal.returns-in-NoSource
unfolding saying_as
returns-in-NoSource c = (wrote_as (by-outcome c.args.v _ c.in-NoSource.is) c.put_after.ensures.0, omega (arith, c.put_after.ensures.1))

pub returns-in-Circle : goal.returns-in-Circle
unfolding saying_as
returns-in-Circle c = (wrote_as (by-outcome c.args.v _ c.in-Circle.is) c.put_circle.ensures.0, c.put_circle.ensures.1)

pub returns-in-Order : goal.returns-in-Order
unfolding saying_as
returns-in-Order c = (wrote_as (by-outcome c.args.v _ c.in-Order.is) c.put_order.ensures.0, c.put_order.ensures.1)

pub returns-in-NoneLeft : goal.returns-in-NoneLeft
unfolding saying_as
returns-in-NoneLeft c = (wrote_as (by-outcome c.args.v _ c.in-NoneLeft.is) c.put_word.ensures, omega (arith, c.put_word.ensures.ends))

pub returns-in-NoModel : goal.returns-in-NoModel
unfolding saying_as
returns-in-NoModel c = (wrote_as (by-outcome c.args.v _ c.in-NoModel.is) c.put_after-in-NoModel.ensures.0, omega (arith, c.put_after-in-NoModel.ensures.1))

pub returns-in-NotWellFormed : goal.returns-in-NotWellFormed
unfolding saying_as
returns-in-NotWellFormed c = (wrote_as (by-outcome c.args.v _ c.in-NotWellFormed.is) c.put_after-in-NotWellFormed.ensures.0, omega (arith, c.put_after-in-NotWellFormed.ensures.1))
