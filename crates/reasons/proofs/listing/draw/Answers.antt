-- `listing::draw`: the pairs of the first i entries are drawn.
use mathlib.Core.Path.{◌≡◌, sym, ap, ◌∙◌, subst, subst⁻¹}
use mathlib.Core.List.{List}
use Prim.Native.Nat.{ℕ, ◌+◌}
use native.Mathlib.Omega.{arith}
use Rattle.rows.specs.Bounds.{CELLS}
use Rattle.rows.specs.Empty.{empty_of}
use Rattle.papers.specs.inner.ReaderBranch.{branch_of}
use Rattle.reasons.specs.inner.Choice.{NamedRows}
use Rattle.reasons.proofs.Lists.{drawn-none, drawn-more}
use Rattle.reasons.proofs.listing.draw.Goals as goal

pub loop-i-init : goal.loop-i-init
loop-i-init c =
    let e : c.clear.new.rows ≡ empty_of CELLS = c.clear.ensures ∙ ap empty_of c.requires.2 in
    (omega arith, subst⁻¹ (λ (r : List ℕ). NamedRows (branch_of c.args.from.now c.args.to.now 0) r) e (drawn-none c.args.from.now c.args.to.now))

pub overflow_cast-from : goal.overflow_cast-from
overflow_cast-from c = omega (arith, c.type_inv.from c.loop-i.i)

pub overflow_cast-to : goal.overflow_cast-to
overflow_cast-to c = omega (arith, c.type_inv.to c.loop-i.i)

pub loop-i-preserved : goal.loop-i-preserved
loop-i-preserved c =
    (omega arith, subst⁻¹ (λ (r : List ℕ). NamedRows (branch_of c.args.from.now c.args.to.now (c.loop-i.i + 1)) r) c.put.ensures (drawn-more c.args.from.now c.args.to.now c.loop-i.i c.loop-i.supposed c.loop-i.invariant.1))

pub shape_of-supposed : goal.shape_of-supposed
shape_of-supposed c = c.loop-i.invariant.1.0 ∙ sym c.requires.2

pub returns : goal.returns
returns c =
    let e : c.loop-i.i ≡ c.args.n = omega (arith, c.loop-i.invariant.0) in
    subst (λ (i : ℕ). NamedRows (branch_of c.args.from.now c.args.to.now i) c.loop-i.supposed) e c.loop-i.invariant.1
