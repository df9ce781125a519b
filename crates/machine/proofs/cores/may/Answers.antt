-- `machine::cores::may`.
use mathlib.Core.Path.{sym, ◌∙◌}
use Rattle.machine.proofs.ByCases.{may-parts}
use Rattle.machine.proofs.cores.may.Goals as goal

pub returns : goal.returns
returns c = let a = c.args in (cc) ∙ sym (may-parts a.t a.m a.x)
