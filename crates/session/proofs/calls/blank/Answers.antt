-- `session::calls::blank`: the empty trace can be opened, and no pair stands.
use mathlib.Core.Path.{sym, ap₂, ◌∙◌, subst}
use mathlib.Core.Bool.{So}
use mathlib.Core.List.{List}
use Rattle.trace.specs.Trace.{empty}
use Rattle.trace.specs.declared.Trace.{Trace}
use Rattle.pairs.specs.Kept.{SC}
use Rattle.session.specs.Opening.{openable}
use Rattle.session.specs.Session.{afresh}
use Rattle.session.specs.declared.Pair.{Pair}
use Rattle.session.proofs.Pairs.{stands-none, none-standing}
use Rattle.session.proofs.Openings.{empty-opens}
use Rattle.session.proofs.calls.blank.Goals as goal

pub made-requires : goal.made-requires
made-requires c = (subst (λ (t : Trace). So (openable t SC)) (sym c.empty.ensures) empty-opens, stands-none _ _ c.unsupposed.ensures)

pub returns : goal.returns
returns c = λ C.
    c.made.ensures C ∙ ap₂ (λ (t : Trace) (ps : List Pair). afresh C t SC ps) c.empty.ensures (none-standing empty _ c.unsupposed.ensures)
