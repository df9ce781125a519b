-- `trace::form::well_formed` meets its contract: the parts of the definition, in turn. That the arrays have all their places, and hold values, is told by owning them. Assumes nothing.
use mathlib.Core.Path.{◌≡◌}
use mathlib.Core.Bool.{true, false}
use lib.Dec.{ltb}
use lib.ListN.{length}
use borrow.Author.Tests.{eq-eqb, le-leb, lt-leb}
use Rattle.laws.specs.Tests.{all}
use Rattle.trace.specs.Bounds.{RECORDS, ADDRESSES, VALUES}
use Rattle.trace.specs.Trace.{at, first}
use Rattle.trace.specs.WellFormed.{follows, well_formed}
use borrow.Author.Rules.{elem_Fits}
use mir.Syntax.{w16}
use Prim.{tt}
use Rattle.laws.proofs.Tests.{so-all, so-lt}
use Rattle.trace.proofs.form.well_formed.Goals.{Start}
use Rattle.trace.proofs.form.well_formed.Goals as goal

full : (c : Start) → length c.args.t.records ≡ RECORDS
full c = c.well_formed.0.1.1.0.1.0.1

values : (c : Start) → all ADDRESSES (λ a. ltb (first c.args.t a) VALUES) ≡ true
unfolding first
values c = (so-all ADDRESSES _).1 (λ a h. so-lt.1 (elem_Fits w16 w16 c.args.t.firsts _ a c.well_formed.0.1.1.1.1.0.1.1 tt).fits)

addresses : (c : Start) → length c.args.t.firsts ≡ ADDRESSES
addresses c = c.well_formed.0.1.1.1.1.0.1.0.1

pub returns-then-n-gt-RECORDS : goal.returns-then-n-gt-RECORDS
unfolding well_formed
returns-then-n-gt-RECORDS c = simp (eq-eqb _ _ (full (goal.at.returns-then-n-gt-RECORDS c).Start), lt-leb _ _ c.if-n-gt-RECORDS.true)

pub returns-then-used_follow : goal.returns-then-used_follow
unfolding well_formed
returns-then-used_follow c =
    let t = c.args.t in
    let used : all t.len (λ i. follows t i (at t i)) ≡ true = cc in
    simp (eq-eqb _ _ (full (goal.at.returns-then-used_follow c).Start), le-leb _ _ c.if-n-gt-RECORDS.false, used, eq-eqb _ _ (addresses (goal.at.returns-then-used_follow c).Start), values (goal.at.returns-then-used_follow c).Start) c.rest_idle.ensures

pub returns-else-used_follow : goal.returns-else-used_follow
unfolding well_formed
returns-else-used_follow c =
    let t = c.args.t in
    let used : all t.len (λ i. follows t i (at t i)) ≡ false = cc in
    simp (eq-eqb _ _ (full (goal.at.returns-else-used_follow c).Start), le-leb _ _ c.if-n-gt-RECORDS.false, used, eq-eqb _ _ (addresses (goal.at.returns-else-used_follow c).Start), values (goal.at.returns-else-used_follow c).Start) c.if-used_follow.false
