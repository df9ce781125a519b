-- `edges::sources::sources_of`: the writers are noted, then the sources laid.
use mathlib.Core.Path.{refl}
use Rattle.edges.proofs.DrawnEdges.{stored}
use Rattle.edges.proofs.SourcesLaid.{sources-all, sources-other}
use Rattle.edges.proofs.sources.sources_of.Goals as goal

pub returns-then-t-gt-RECORDS : goal.returns-then-t-gt-RECORDS
returns-then-t-gt-RECORDS c = sources-other c.args.t c.if-t-gt-RECORDS.true

pub lay_sources-requires : goal.lay_sources-requires
lay_sources-requires c = (c.if-t-gt-RECORDS.false, refl, stored c.args.t _ _ refl c.note_stores.ensures)

pub returns : goal.returns
returns c = sources-all c.args.t _ c.if-t-gt-RECORDS.false c.lay_sources.ensures
