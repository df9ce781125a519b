-- `smaller::cut::fault_of`: a circle leaves no order, and where there is none the search tells whether there is an order.
use mathlib.Core.Path.{refl, sym, ap, ◌∙◌}
use mathlib.Core.Bool.{not, false≢true}
use native.Mathlib.Omega.{arith}
use Rattle.smaller.proofs.Cutting.{faulty-found}
use Rattle.smaller.proofs.cut.fault_of.Goals as goal

pub returns-then-circled : goal.returns-then-circled
returns-then-circled c = record { sound = λ e n. omega arith; faulty = λ _. c.circled.ensures c.if-circled.true }

pub returns-then-first_order : goal.returns-then-first_order
returns-then-first_order c = let o = c.first_order in
    record { sound = λ _ n. false≢true (sym (ap not c.if-first_order.true) ∙ (faulty-found c.args.t c.requires.0 c.args.model c.requires.1 o.result o.ensures).1 n); faulty = λ d. absurd (d refl) }

pub returns : goal.returns
returns c = let o = c.first_order in
    record { sound = λ e n. omega arith; faulty = λ _. (faulty-found c.args.t c.requires.0 c.args.model c.requires.1 o.result o.ensures).0 (ap not c.if-first_order.false) }
