-- `pairs::kept`: the table's reading off two records.
use mathlib.Core.Path.{sym, ◌∙◌}
use Rattle.pairs.proofs.KeptPairs.{kept-parts}
use Rattle.pairs.proofs.kept.Goals as goal

pub returns : goal.returns
returns c =
    let a = c.args in
    (cc) ∙ sym (kept-parts a.t a.x a.y a.model)
