-- `counting::tables::lay`: what the records below x give is laid.
use mathlib.Core.Path.{◌≡◌, ap, ◌∙◌}
use native.Mathlib.Omega.{arith}
use Rattle.rows.specs.Bounds.{CELLS}
use Rattle.rows.specs.Empty.{empty_of}
use Rattle.edges.proofs.PairSets.{union-none, union_more}
use Rattle.counting.proofs.CountingRows.{filled, filled-back}
use Rattle.counting.proofs.tables.lay.Goals as goal

pub loop-x-init : goal.loop-x-init
loop-x-init c =
    let p = c.requires in
    let e₁ : c.clear.new.rows ≡ empty_of CELLS = c.clear.ensures ∙ ap empty_of p.1 in
    let e₂ : c.clear-2.new.rows ≡ empty_of CELLS = c.clear-2.ensures ∙ ap empty_of p.2 in
    let e₃ : c.clear-3.new.rows ≡ empty_of CELLS = c.clear-3.ensures ∙ ap empty_of p.3 in
    let e₄ : c.clear-4.new.rows ≡ empty_of CELLS = c.clear-4.ensures ∙ ap empty_of p.4 in
    (omega arith, rw e₁ (union-none _ (empty_of CELLS)), rw e₂ (union-none _ (empty_of CELLS)), rw e₃ (union-none _ (empty_of CELLS)), rw e₄ (union-none _ (empty_of CELLS)))

pub loop-x-preserved : goal.loop-x-preserved
loop-x-preserved c =
    let i = c.loop-x.invariant in
    let x = c.loop-x.x in
    let r = c.lay_writer.ensures in
    (omega (arith, c.loop-x-test.true), union_more _ x i.1 c.lay_partners.ensures, union_more _ x i.2 r.owned, union_more _ x i.3 r.sourced, union_more _ x i.4 r.rival)

pub returns : goal.returns
returns c =
    let t = c.args.t in
    let i = c.loop-x.invariant in
    let n : c.loop-x.x ≡ t.len = omega (arith, c.loop-x-test.false, i.0) in
    record { kept = filled-back t.len _ CELLS _ (rw n at i.1); owned = filled-back t.len _ CELLS _ (rw n at i.2); sourced = filled t.len _ CELLS _ (rw n at i.3); rival = filled t.len _ CELLS _ (rw n at i.4) }
