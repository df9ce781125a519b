-- `smaller::cut::smaller`: what turns the question back, then whether there is an order, then what is left.
use mathlib.Core.Path.{sym, ap, ◌∙◌}
use mathlib.Core.Bool.{not, false≢true}
use borrow.Author.Tests.{not-true, not-false}
use Rattle.smaller.proofs.Cutting.{faulty-found}
use Rattle.smaller.proofs.Answers.{told-model, told-form, told-source, told-sound, told-cut}
use Rattle.smaller.proofs.cut.smaller.Goals as goal

pub returns-then-not-modelled : goal.returns-then-not-modelled
returns-then-not-modelled c = rw c.bare.ensures (told-model c.args.t c.args.model (sym c.modelled.ensures ∙ not-true _ c.if-not-modelled.true-raw))

pub returns-then-not-well_formed : goal.returns-then-not-well_formed
returns-then-not-well_formed c = rw c.bare-then-not-well_formed.ensures (told-form c.args.t c.args.model (sym c.modelled.ensures ∙ not-false _ c.if-not-modelled.false-raw) (sym c.well_formed-2.ensures ∙ not-true _ c.if-not-well_formed.true-raw))

pub returns-then-first_order : goal.returns-then-first_order
returns-then-first_order c = let k = sym c.modelled.ensures ∙ not-false _ c.if-not-modelled.false-raw in
    let w = sym c.well_formed-2.ensures ∙ not-false _ c.if-not-well_formed.false-raw in
    let f = faulty-found c.args.t w c.args.model k c.first_order.result c.first_order.ensures in
    rw c.bare-then-first_order.ensures (told-sound c.args.t c.args.model k w (sym c.missing.ensures ∙ c.in-None.is) (λ n. false≢true (sym (ap not c.if-first_order.true) ∙ f.1 n)))

pub cut_away-requires : goal.cut_away-requires
cut_away-requires c = (sym c.well_formed-2.ensures ∙ not-false _ c.if-not-well_formed.false-raw, sym c.modelled.ensures ∙ not-false _ c.if-not-modelled.false-raw)

pub returns-in-Some : goal.returns-in-Some
returns-in-Some c = rw c.bare-in-Some.ensures (told-source c.args.t c.args.model (sym c.modelled.ensures ∙ not-false _ c.if-not-modelled.false-raw) (sym c.well_formed-2.ensures ∙ not-false _ c.if-not-well_formed.false-raw) c.in-Some.x (sym c.missing.ensures ∙ c.in-Some.is))

pub returns-else-first_order : goal.returns-else-first_order
returns-else-first_order c = let k = sym c.modelled.ensures ∙ not-false _ c.if-not-modelled.false-raw in
    let w = sym c.well_formed-2.ensures ∙ not-false _ c.if-not-well_formed.false-raw in
    let f = faulty-found c.args.t w c.args.model k c.first_order.result c.first_order.ensures in
    told-cut c.args.t c.args.model k w (sym c.missing.ensures ∙ c.in-None.is) (f.0 (ap not c.if-first_order.false)) c.cut_away.result c.cut_away.ensures
