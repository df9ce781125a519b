-- `desk::verdicts::spelled`: by the outcome.
use mathlib.Core.Path.{subst}
use Prim.Native.Nat.{◌<◌}
use Rattle.trace.specs.Bounds.{RECORDS}
use Rattle.verdict.specs.declared.Outcome.{Outcome}
use Rattle.desk.specs.inner.SpelledVerdict.{lacking}
use Rattle.desk.proofs.Spelling.{spelled_by}
use borrow.Author.Rules.{rules}
use Rattle.desk.proofs.verdicts.spelled.Goals as goal

pub overflow_cast-operations : goal.overflow_cast-operations
overflow_cast-operations c =
    let h : c.in-NoSource.x < RECORDS = subst (λ (o : Outcome). lacking o < RECORDS) c.in-NoSource.is c.requires in
    search rules

pub returns-in-NoSource : goal.returns-in-NoSource
returns-in-NoSource c = spelled_by c.args.v _ c.in-NoSource.is

pub returns-in-Circle : goal.returns-in-Circle
returns-in-Circle c = spelled_by c.args.v _ c.in-Circle.is

pub returns-in-Order : goal.returns-in-Order
returns-in-Order c = spelled_by c.args.v _ c.in-Order.is

pub returns-in-NoneLeft : goal.returns-in-NoneLeft
returns-in-NoneLeft c = spelled_by c.args.v _ c.in-NoneLeft.is

pub returns-in-NoModel : goal.returns-in-NoModel
returns-in-NoModel c = spelled_by c.args.v _ c.in-NoModel.is

pub returns-in-NotWellFormed : goal.returns-in-NotWellFormed
returns-in-NotWellFormed c = spelled_by c.args.v _ c.in-NotWellFormed.is
