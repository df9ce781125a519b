-- `search::split::falls`: with x before y the rows have no ranking.
use mathlib.Core.Path.{sym, subst, ◌∙◌}
use lib.ListN.{length}
use Rattle.rows.specs.Empty.{empty_of}
use Rattle.rows.specs.Bounds.{CELLS}
use Rattle.rows.proofs.Whole.{copy-same, empty-long}
use Rattle.search.proofs.Refutation.{falls_of}
use Rattle.search.specs.inner.Refutation.{Leads, Grown}
use Rattle.search.proofs.split.falls.Goals as goal

pub returns : goal.returns
returns c = λ t.
    let same = c.copy.ensures ∙ copy-same c.args.led.now (empty_of CELLS) (c.requires.1 ∙ sym (empty-long CELLS)) in
    falls_of (length c.args.sources.now) c.args.writers.now c.args.sources.now c.args.placed.now c.args.x c.args.y c.requires.2 c.args.led.now _ _ _ c.put.ensures
    (subst (λ a. Grown (Leads c.args.x c.put.new.rows) a c.lead_all.new.led) same c.lead_all.ensures)
    c.circular.ensures.grown (c.circular.ensures.unranked t)
