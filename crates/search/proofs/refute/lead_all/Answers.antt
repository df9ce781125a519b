-- `search::refute::lead_all`: x and what is before it are ahead.
use Rattle.search.proofs.Refutation.{behind-of, leads-all}
use Rattle.search.proofs.refute.lead_all.Goals as goal

pub returns : goal.returns
returns c = let a = c.args in
    let ahead = behind-of a.led.now (λ i. (c.slice_known-1.given i).fits) a.x _ _ c.add_row.ensures c.put.ensures in
    leads-all a.x _ a.heads.now a.led.now _ ahead.1 c.lead.ensures
