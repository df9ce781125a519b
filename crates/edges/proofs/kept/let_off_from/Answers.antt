-- `edges::kept::let_off_from`: what is let off of the kinds below the second is drawn.
use mathlib.Core.Path.{sym, ◌∙◌}
use native.Mathlib.Omega.{arith}
use Rattle.edges.proofs.PairSets.{union-none}
use Rattle.edges.proofs.LaterRecords.{off-none, off-more}
use Rattle.edges.proofs.kept.let_off_from.Goals.{else-not-kept_by, then-not-kept_by}
use Rattle.edges.proofs.kept.let_off_from.Goals as goal

pub loop-second-init : goal.loop-second-init
loop-second-init c = (omega arith, union-none _ c.args.off.now)

pub loop-second-preserved : goal.loop-second-preserved
loop-second-preserved c =
    let a = c.args in
    let now = c.loop-second.invariant in
    let asked = c.kept_by.ensures in
    (elim c.if-not-kept_by.branch [ then-not-kept_by w ↦ (omega arith, rw w.off-is (off-more a.model a.one a.kinds.now a.first c.loop-second.second (λ i. (c.type_inv.kinds i).fits) (omega (arith, c.requires.0)) now.1 (omega (arith, now.1.long, c.requires.0, c.requires.1)) (sym asked ∙ w.if-not-kept_by.true) w.add_row.ensures)) | else-not-kept_by w ↦ (omega arith, rw w.off-is (off-none a.model a.one a.kinds.now a.first c.loop-second.second now.1 (sym asked ∙ w.if-not-kept_by.false))) ])
