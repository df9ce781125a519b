-- `machine::running::run`.
use mathlib.Core.Path.{◌≡◌, sym, ap, ◌∙◌}
use native.Mathlib.Omega.{arith}
use lib.ListN.{get_or}
use borrow.Author.Rules.{rules}
use Rattle.std.specs.Prelude.{Some, None, Ok, Err}
use Rattle.pairs.proofs.ValidOrders.{well-fits}
use Rattle.machine.specs.declared.Machine.{Machine}
use Rattle.machine.specs.declared.Refusal.TheVariants.{Stuck}
use Rattle.machine.specs.Machine.{step, run}
use Rattle.machine.proofs.ByCases.{answer-model, answer-form, answer-runs, run-stuck, run_more, run_end, stepped-no, stepped-yes}
use Rattle.machine.proofs.running.run.Goals as goal

pub returns-then-not-machined : goal.returns-then-not-machined
returns-then-not-machined c = let a = c.args in answer-model a.t a.model a.steps.now (sym c.machined.ensures ∙ c.if-not-machined.true)

pub returns-then-not-well_formed : goal.returns-then-not-well_formed
returns-then-not-well_formed c = let a = c.args in answer-form a.t a.model a.steps.now (sym c.machined.ensures ∙ c.if-not-machined.false) (sym c.well_formed-2.ensures ∙ c.if-not-well_formed.true)

pub loop-i-init : goal.loop-i-init
loop-i-init c = let a = c.args in (((sym c.machined.ensures ∙ c.if-not-machined.false, sym c.well_formed-2.ensures ∙ c.if-not-well_formed.false), omega arith), ap (λ (M : Machine). run a.t a.model M a.steps.now 0) (sym c.start-m.ensures))

pub step-requires : goal.step-requires
step-requires c = c.loop-i.invariant.0.0.1

pub returns-in_err-m : goal.returns-in_err-m
returns-in_err-m c =
    let a = c.args in
    let l = c.loop-i in
    let stuck : c.from_residual.result ≡ Err (Stuck l.i) = search rules in
    let no : c.step.result ≡ None = search rules in
    stuck ∙ answer-runs a.t a.model a.steps.now l.invariant.0.0.0 l.invariant.0.0.1 _ (l.invariant.1 ∙ run-stuck a.t a.model l.m a.steps.now l.i c.loop-i-test.true (stepped-no (step a.t a.model l.m (get_or a.steps.now l.i 0)) _ c.step.ensures no))

pub loop-i-preserved : goal.loop-i-preserved
loop-i-preserved c =
    let a = c.args in
    let l = c.loop-i in
    let some : c.step.result ≡ Some c.in_ok-m.m = search rules in
    ((l.invariant.0.0, omega arith), l.invariant.1 ∙ run_more a.t a.model l.m a.steps.now l.i _ c.loop-i-test.true (stepped-yes (step a.t a.model l.m (get_or a.steps.now l.i 0)) _ _ c.step.ensures some))

pub finished-requires : goal.finished-requires
finished-requires c = well-fits _ c.loop-i.invariant.0.0.1

pub returns : goal.returns
returns c = let a = c.args in let l = c.loop-i in answer-runs a.t a.model a.steps.now l.invariant.0.0.0 l.invariant.0.0.1 _ (l.invariant.1 ∙ run_end a.t a.model l.m a.steps.now l.i c.loop-i-test.false ∙ ap Ok (sym c.finished.ensures))
