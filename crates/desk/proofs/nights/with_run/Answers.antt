-- `desk::nights::with_run`: the run above the number, where there is one.
use Rattle.desk.proofs.Nightly.{run-yes, run-no}
use Rattle.desk.proofs.nights.with_run.Goals as goal

pub returns-then-run-lt-RUNS : goal.returns-then-run-lt-RUNS
returns-then-run-lt-RUNS c = run-yes c.args.number c.args.run c.if-run-lt-RUNS.true

pub returns : goal.returns
returns c = run-no c.args.number c.args.run c.if-run-lt-RUNS.false
