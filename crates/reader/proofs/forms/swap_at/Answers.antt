-- `reader::forms::swap_at`: a swap or nothing.
use Rattle.std.specs.Prelude.{None}
use mathlib.Core.Path.{sym, ap, ◌∙◌}
use lib.ListN.{drop}
use Rattle.reader.specs.LineForms.{cut_form, swap_rest, swap_of}
use Rattle.reader.proofs.Chosen.{swap-makes, fit-taken, fit-left}
use Rattle.reader.proofs.forms.swap_at.Goals as goal

pub returns-in_err-n : goal.returns-in_err-n
returns-in_err-n c =
    let a = c.args in
    c.from_residual.ensures ∙ sym (ap cut_form (fit-left swap_rest (drop a.at a.line.now) swap_of None a.thread (sym c.in_err-n.was ∙ c.fit.ensures)))

pub returns : goal.returns
returns c =
    let a = c.args in
    fit-taken swap_rest (drop a.at a.line.now) swap_of None a.thread _ swap-makes c.requires (sym c.in_ok-n.was ∙ c.fit.ensures)
