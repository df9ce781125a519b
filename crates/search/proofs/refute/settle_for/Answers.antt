-- `search::refute::settle_for`: rule 7, and then rule 6.
use mathlib.Core.Path.{◌∙◌}
use Rattle.search.proofs.Refutation.{grown-then, both, settled-late, settled-early}
use Rattle.search.proofs.refute.settle_for.Goals as goal

pub lead_all-requires : goal.lead_all-requires
lead_all-requires c = c.requires.1

pub early-requires : goal.early-requires
early-requires c = (c.requires.0, c.lead_all.ensures.long ∙ c.requires.1)

pub shape_of-led-then-test : goal.shape_of-led-then-test
shape_of-led-then-test c = c.early.ensures.long ∙ c.lead_all.ensures.long

pub returns-then-test : goal.returns-then-test
returns-then-test c = let a = c.args in
    grown-then (settled-late a.others.now a.source a.load a.led.now _ _ (λ z t. let h = c.late-heads.ensures z t in ((both c.rest-old.ensures c.rest-fresh.ensures z h.0).0, h.1)) c.lead_all.ensures) (settled-early a.others.now a.source a.load _ _ _ (λ z t. both c.rest-apart.ensures c.rest-ahead.ensures z t) c.early.ensures)

pub shape_of-led-else-test : goal.shape_of-led-else-test
shape_of-led-else-test c = c.lead_all.ensures.long

pub returns-else-test : goal.returns-else-test
returns-else-test c = let a = c.args in
    settled-late a.others.now a.source a.load a.led.now _ _ (λ z t. let h = c.late-heads.ensures z t in ((both c.rest-old.ensures c.rest-fresh.ensures z h.0).0, h.1)) c.lead_all.ensures
