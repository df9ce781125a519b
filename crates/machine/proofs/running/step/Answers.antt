-- `machine::running::step`.
use mathlib.Core.Path.{sym, ◌∙◌}
use Rattle.pairs.proofs.ValidOrders.{well-fits}
use Rattle.machine.proofs.ByCases.{found-fits, step-runs, step-blocked, step-idle, step-empties, step-dry, yes-step, no_step}
use Rattle.machine.proofs.running.step.Goals as goal

pub next-requires : goal.next-requires
next-requires c = well-fits c.args.t c.requires

pub may-requires : goal.may-requires
may-requires c = (well-fits c.args.t c.requires, (found-fits c.args.t c.requires _ _ _ c.next.ensures c.in_ok-due.was).1)

pub ran_as-requires : goal.ran_as-requires
ran_as-requires c = found-fits c.args.t c.requires _ _ _ c.next.ensures c.in_ok-due.was

pub returns-then-may : goal.returns-then-may
returns-then-may c = let a = c.args in yes-step _ _ _ c.ran_as.ensures (step-runs a.t a.model a.m a.s c.if-s-lt-THREADS.true _ _ c.next.ensures c.in_ok-due.was (sym c.may.ensures ∙ c.if-may.true))

pub returns-then-s-lt-THREADS : goal.returns-then-s-lt-THREADS
returns-then-s-lt-THREADS c = let a = c.args in no_step _ (step-blocked a.t a.model a.m a.s c.if-s-lt-THREADS.true _ _ c.next.ensures c.in_ok-due.was (sym c.may.ensures ∙ c.if-may.false))

pub returns-in_err-due : goal.returns-in_err-due
returns-in_err-due c = let a = c.args in c.from_residual.ensures ∙ no_step _ (step-idle a.t a.model a.m a.s c.if-s-lt-THREADS.true _ c.next.ensures c.in_err-due.was)

pub oldest-requires : goal.oldest-requires
oldest-requires c = well-fits c.args.t c.requires

pub emptied-requires : goal.emptied-requires
emptied-requires c = found-fits c.args.t c.requires _ _ _ c.oldest.ensures c.in_ok-entry.was

pub returns-in_err-entry : goal.returns-in_err-entry
returns-in_err-entry c = let a = c.args in c.from_residual-in_err-entry.ensures ∙ no_step _ (step-dry a.t a.model a.m a.s c.if-s-lt-THREADS.false _ c.oldest.ensures c.in_err-entry.was)

pub returns : goal.returns
returns c = let a = c.args in yes-step _ _ _ c.emptied.ensures (step-empties a.t a.model a.m a.s c.if-s-lt-THREADS.false _ _ c.oldest.ensures c.in_ok-entry.was)
