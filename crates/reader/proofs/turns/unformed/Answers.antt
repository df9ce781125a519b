-- `reader::turns::unformed`: an init line, or a line of no form.
use mathlib.Core.Path.{sym, ◌∙◌}
use Rattle.reader.specs.LineForms.{init_of}
use Rattle.reader.proofs.Bounded.{init-late, init-nothing}
use Rattle.reader.proofs.turns.unformed.Goals as goal

pub returns-in-Some : goal.returns-in-Some
returns-in-Some c =
    c.late.ensures ∙ init-late (init_of c.args.bytes.now) _ _ (sym c.in-Some.is ∙ c.init.ensures)

pub returns-in-None : goal.returns-in-None
returns-in-None c =
    init-nothing (init_of c.args.bytes.now) (sym c.in-None.is ∙ c.init.ensures)
