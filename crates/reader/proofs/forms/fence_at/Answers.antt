-- `reader::forms::fence_at`: a fence or nothing.
use Rattle.std.specs.Prelude.{None}
use mathlib.Core.Path.{sym, ap, ◌∙◌}
use lib.ListN.{drop}
use Rattle.reader.specs.LineForms.{cut_form, sync, fence_of}
use Rattle.reader.proofs.Chosen.{fence-makes, fit-taken, fit-left}
use Rattle.reader.proofs.forms.fence_at.Goals as goal

pub returns-in_err-fit : goal.returns-in_err-fit
returns-in_err-fit c =
    let a = c.args in
    c.from_residual.ensures ∙ sym (ap cut_form (fit-left sync (drop a.at a.line.now) fence_of None a.thread (sym c.in_err-fit.was ∙ c.fit.ensures)))

pub returns : goal.returns
returns c =
    let a = c.args in
    fit-taken sync (drop a.at a.line.now) fence_of None a.thread _ fence-makes c.requires (sym c.in_ok-fit.was ∙ c.fit.ensures)
