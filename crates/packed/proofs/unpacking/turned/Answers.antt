-- `packed::unpacking::turned`: the record that the bytes are, or none.
use mathlib.Core.Path.{sym, ap, ◌∙◌}
use Rattle.packed.specs.FileRead.{turned_entry, turned_bytes}
use Rattle.packed.proofs.unpacking.turned.Goals as goal

pub returns-in-Some : goal.returns-in-Some
unfolding turned_bytes
returns-in-Some c =
    c.joined.ensures ∙ ap (turned_entry c.args.t) (sym c.in-Some.is ∙ c.entry_at.ensures)

pub returns-in-None : goal.returns-in-None
unfolding turned_bytes
returns-in-None c = ap (turned_entry c.args.t) (sym c.in-None.is ∙ c.entry_at.ensures)
