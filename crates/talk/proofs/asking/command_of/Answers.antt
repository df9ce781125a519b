-- `talk::asking::command_of`: the calls in turn, each a template.
use mathlib.Core.Path.{◌≡◌, sym, ap, ◌∙◌}
use Rattle.talk.specs.Command.{suppose_form, ask_form, model_form, back_form, waiting_form, suppose_from, ask_from, model_from, back_from, waiting_from, ask_else, model_else, back_else, waiting_else, command_of, cut_command}
use Rattle.talk.specs.declared.asking.Command.TheVariants.{Nothing}
use Rattle.talk.proofs.Calling.{suppose-makes, ask-makes, model-makes, back-makes, waiting-makes, call-taken, call-left, fit-told, fit-untold}
use Rattle.talk.proofs.asking.command_of.Goals.{In_default, In_default-fit, In_default-fit-2, Else-is_some}
use Rattle.talk.proofs.asking.command_of.Goals as goal

pub returns-in-Some : goal.returns-in-Some
unfolding command_of
returns-in-Some c = call-taken suppose_form c.args.line.now suppose_from (ask_else c.args.line.now) _ suppose-makes (sym c.in-Some.is ∙ c.fit.ensures)

-- what is left where a template does not give it
left : (c : In_default) → ask_else c.args.line.now ≡ command_of c.args.line.now
unfolding command_of
left c = call-left suppose_form c.args.line.now suppose_from (ask_else c.args.line.now) (sym c.in_default.is ∙ c.fit.ensures)

pub returns-in-Some-fit : goal.returns-in-Some-fit
returns-in-Some-fit c =
    let l = c.args.line.now in
    call-taken ask_form l ask_from (model_else l) _ ask-makes (sym c.in-Some-fit.is ∙ c.fit-2.ensures) ∙ ap cut_command (left (goal.at.returns-in-Some-fit c).In_default)

left-2 : (c : In_default-fit) → let l = c.args.line.now in model_else l ≡ ask_else l
left-2 c =
    let l = c.args.line.now in
    call-left ask_form l ask_from (model_else l) (sym c.in_default-fit.is ∙ c.fit-2.ensures)

pub returns-in-Some-fit-2 : goal.returns-in-Some-fit-2
returns-in-Some-fit-2 c =
    let l = c.args.line.now in
    let p = goal.at.returns-in-Some-fit-2 c in
    call-taken model_form l model_from (back_else l) _ model-makes (sym c.in-Some-fit-2.is ∙ c.fit-3.ensures) ∙ ap cut_command (left-2 p.In_default-fit ∙ left p.In_default)

left-3 : (c : In_default-fit-2) → let l = c.args.line.now in back_else l ≡ model_else l
left-3 c =
    let l = c.args.line.now in
    call-left model_form l model_from (back_else l) (sym c.in_default-fit-2.is ∙ c.fit-3.ensures)

pub returns-then-is_some : goal.returns-then-is_some
returns-then-is_some c =
    let l = c.args.line.now in
    let p = goal.at.returns-then-is_some c in
    let t = fit-told c.fit-4.result (sym c.is_some.ensures ∙ c.if-is_some.true) in
    call-taken back_form l back_from (waiting_else l) t.0 back-makes (t.1 ∙ c.fit-4.ensures) ∙ ap cut_command (left-3 p.In_default-fit-2 ∙ left-2 p.In_default-fit ∙ left p.In_default)

left-4 : (c : Else-is_some) → let l = c.args.line.now in waiting_else l ≡ back_else l
left-4 c =
    let l = c.args.line.now in
    call-left back_form l back_from (waiting_else l) (fit-untold c.fit-4.result (sym c.is_some.ensures ∙ c.if-is_some.false) ∙ c.fit-4.ensures)

pub returns-then-is_some-2 : goal.returns-then-is_some-2
returns-then-is_some-2 c =
    let l = c.args.line.now in
    let p = goal.at.returns-then-is_some-2 c in
    let t = fit-told c.fit-5.result (sym c.is_some-2.ensures ∙ c.if-is_some-2.true) in
    call-taken waiting_form l waiting_from Nothing t.0 waiting-makes (t.1 ∙ c.fit-5.ensures) ∙ ap cut_command (left-4 p.Else-is_some ∙ left-3 p.In_default-fit-2 ∙ left-2 p.In_default-fit ∙ left p.In_default)

pub returns : goal.returns
returns c =
    let l = c.args.line.now in
    let p = goal.at.returns c in
    ap cut_command (call-left waiting_form l waiting_from Nothing (fit-untold c.fit-5.result (sym c.is_some-2.ensures ∙ c.if-is_some-2.false) ∙ c.fit-5.ensures) ∙ left-4 p.Else-is_some ∙ left-3 p.In_default-fit-2 ∙ left-2 p.In_default-fit ∙ left p.In_default)
