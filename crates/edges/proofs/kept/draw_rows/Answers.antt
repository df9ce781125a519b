-- `edges::kept::draw_rows`: records are noted by kind and by address, what is let off is drawn from that, and then the rows.
use Rattle.edges.proofs.PairSets.{adds-as}
use Rattle.edges.proofs.LaterRecords.{drawn-kept}
use Rattle.edges.proofs.kept.draw_rows.Goals as goal

pub returns : goal.returns
returns c =
    adds-as _ c.draw_kept.ensures (λ x y. drawn-kept c.args.t c.args.model _ c.note_records.ensures.kinds_noted _ _ _ c.let_off.ensures c.let_off-2.ensures c.note_records.ensures.places_noted x y c.requires.1)
