-- `machine::replaying::steps_of`: each of its four ways out.
use mathlib.Core.Path.{sym, ap, ◌∙◌}
use Rattle.machine.specs.Replay.{yes?, listed}
use Rattle.machine.proofs.ByCases.{order_below, steps-nine, steps-ten, steps-no, steps-yes}
use Rattle.machine.proofs.replaying.steps_of.Goals as goal

pub returns-then-not-machined : goal.returns-then-not-machined
returns-then-not-machined c =
    let a = c.args in
    steps-nine a.t a.model a.order.now _ (sym c.machined.ensures ∙ c.if-not-machined.true) c.nothing.ensures

pub returns-then-not-well_formed : goal.returns-then-not-well_formed
returns-then-not-well_formed c =
    let a = c.args in
    steps-ten a.t a.model a.order.now _ (sym c.machined.ensures ∙ c.if-not-machined.false) (sym c.well_formed-2.ensures ∙ c.if-not-well_formed.true) c.nothing-then-not-well_formed.ensures

pub returns-then-not-yes : goal.returns-then-not-yes
returns-then-not-yes c =
    let a = c.args in
    let told = c.yes.ensures ∙ ap yes? c.judge.ensures in
    steps-no a.t a.model a.order.now _ (sym c.machined.ensures ∙ c.if-not-machined.false) (sym c.well_formed-2.ensures ∙ c.if-not-well_formed.false) (sym told ∙ c.if-not-yes.true) c.nothing-then-not-yes.ensures

pub built-b-requires : goal.built-b-requires
built-b-requires c =
    let a = c.args in
    let told = c.yes.ensures ∙ ap yes? c.judge.ensures in
    (sym c.well_formed-2.ensures ∙ c.if-not-well_formed.false, order_below a.t a.model a.order.now (sym told ∙ c.if-not-yes.false))

pub returns : goal.returns
returns c =
    let a = c.args in
    let told = c.yes.ensures ∙ ap yes? c.judge.ensures in
    steps-yes a.t a.model a.order.now _ (sym c.machined.ensures ∙ c.if-not-machined.false) (sym c.well_formed-2.ensures ∙ c.if-not-well_formed.false) (sym told ∙ c.if-not-yes.false) (ap listed c.built-b.ensures)
