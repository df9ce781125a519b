-- `smaller::cut::try_one`: a record that is not there, one that the fault does without, and one that it needs.
use mathlib.Core.Path.{refl, sym, ◌∙◌, subst}
use mathlib.Core.Bool.{So}
use borrow.Author.Tests.{not-true, not-false}
use Rattle.laws.proofs.Tests.{and-iff, same-iff}
use Rattle.trace.specs.WellFormed.{well_formed}
use Rattle.trace.specs.declared.Trace.{Trace}
use Rattle.rows.proofs.Whole.{copy-same}
use Rattle.pairs.proofs.ValidOrders.{well-fits}
use Rattle.parts.proofs.Looks.{left-well}
use Rattle.smaller.specs.inner.RecordSets.{TriedRecord, NoOrder}
use Rattle.smaller.proofs.Cutting.{not_there, tried-no, tried-yes, tried-kept}
use Rattle.smaller.proofs.cut.try_one.Goals as goal

pub returns-then-not-test-tried : goal.returns-then-not-test-tried
returns-then-not-test-tried c = tried-no c.args.t c.requires.0 c.args.model c.args.kept.now c.args.i c.requires.3 (sym c.test.ensures ∙ not_there _ _ c.tried.ensures (not-true _ c.if-not-test-tried.true-raw))

pub without-requires : goal.without-requires
without-requires c = (well-fits _ c.requires.0, refl)

pub picked-requires : goal.picked-requires
picked-requires c = well-fits _ c.requires.0

pub fault_of-fault-requires : goal.fault_of-fault-requires
fault_of-fault-requires c = (subst (λ (u : Trace). So (well_formed u)) (sym c.picked.ensures) (left-well c.args.t c.args.model c.requires.0 _), c.requires.1)

pub returns-then-fault-ne-NO_FAULT : goal.returns-then-fault-ne-NO_FAULT
returns-then-fault-ne-NO_FAULT c = let p = c.copy in
    let f = c.fault_of-fault in
    let k = c.picked in
    let o = c.without in
    let e = sym c.test.ensures ∙ ((and-iff same-iff same-iff).0 (not-false _ c.if-not-test-tried.false-raw)).0 in
    subst (TriedRecord c.args.t c.args.model c.args.i c.args.kept.now) (sym (p.ensures ∙ copy-same _ _ (o.ensures.0 ∙ sym c.requires.3)))
    (tried-yes c.args.t c.requires.0 c.args.model c.args.goes.now c.requires.2 c.args.kept.now c.args.i e _ o.ensures.1 o.ensures.0 (subst (λ (u : Trace). NoOrder u c.args.model) k.ensures (f.ensures.faulty c.if-fault-ne-NO_FAULT.true)))

pub returns : goal.returns
returns c = let f = c.fault_of-fault in
    let k = c.picked in
    let o = c.without in
    let e = sym c.test.ensures ∙ ((and-iff same-iff same-iff).0 (not-false _ c.if-not-test-tried.false-raw)).0 in
    tried-kept c.args.t c.requires.0 c.args.model c.args.goes.now c.requires.2 c.args.kept.now c.args.i e _ o.ensures.1 c.requires.3 (λ h. f.ensures.sound c.if-fault-ne-NO_FAULT.false (subst (λ (u : Trace). NoOrder u c.args.model) (sym k.ensures) h))
