-- `desk::limits::shown`: the outcome that is shown, and all else as it is.
use mathlib.Core.Path.{ap}
use Rattle.verdict.specs.declared.Outcome.{Outcome}
use Rattle.verdict.specs.declared.Verdict.{Verdict}
use Rattle.limited.specs.declared.Limit.{Limit}
use Rattle.desk.proofs.limits.shown.Goals as goal

-- a verdict by its outcome
abbrev made : Limit → Outcome → Verdict
made r o = record { outcome = o; len = r.len; operations = r.operations; rules = r.rules }

pub returns : goal.returns
returns c = ap (made c.args.r) c.shown_as.ensures
