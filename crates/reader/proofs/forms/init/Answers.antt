-- `reader::forms::init`: the template of an init line.
use mathlib.Core.Path.{sym, ◌∙◌}
use Rattle.reader.proofs.Chosen.{init-taken, init-left}
use Rattle.reader.proofs.forms.init.Goals as goal

pub returns : goal.returns
returns c =
    init-taken c.args.line.now _ (sym c.in_ok-n.was ∙ c.fit.ensures)

pub returns-in_err-n : goal.returns-in_err-n
returns-in_err-n c =
    c.from_residual.ensures ∙ init-left c.args.line.now (sym c.in_err-n.was ∙ c.fit.ensures)
