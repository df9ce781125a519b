-- `smaller::part::begun`: the empty trace with other first values.
use mathlib.Core.Path.{ap, sym, ◌∙◌}
use Rattle.trace.specs.declared.Trace.{Trace}
use Rattle.trace.proofs.Growth.{up_to-none}
use Rattle.smaller.proofs.part.begun.Goals as goal

pub returns : goal.returns
returns c =
    let t = c.args.t in
    ap (λ (u : Trace). record { records = u.records; len = u.len; firsts = t.firsts }) c.empty-u.ensures ∙ sym (up_to-none t)
