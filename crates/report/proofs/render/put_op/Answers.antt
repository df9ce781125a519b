-- `report::render::put_op`: the form of its kind, with its numbers.
use mathlib.Core.Path.{sym, ap}
use native.Mathlib.Omega.{arith}
use Rattle.reader.specs.LineForms.{render, render_op}
use Rattle.report.proofs.Wrote.{wrote_as}
use Rattle.report.proofs.render.put_op.Goals as goal

pub returns-in-Load : goal.returns-in-Load
unfolding render
returns-in-Load c = let p = c.put_form in
    (wrote_as (sym (ap render_op c.in-Load.is)) p.ensures.0, omega (arith, p.ensures.1))

pub returns-in-Store : goal.returns-in-Store
unfolding render
returns-in-Store c = let p = c.put_form-in-Store in
    (wrote_as (sym (ap render_op c.in-Store.is)) p.ensures.0, omega (arith, p.ensures.1))

pub returns-in-Swap : goal.returns-in-Swap
unfolding render
returns-in-Swap c = let p = c.put_form-in-Swap in
    (wrote_as (sym (ap render_op c.in-Swap.is)) p.ensures.0, omega (arith, p.ensures.1))

pub returns-in-Fence : goal.returns-in-Fence
unfolding render
returns-in-Fence c = let p = c.put_form-in-Fence in
    (wrote_as (sym (ap render_op c.in-Fence.is)) p.ensures.0, omega (arith, p.ensures.1))
