-- `packed::packing::write`: 10 before 21, then the file.
use mathlib.Core.Path.{sym, ap, ◌∙◌}
use mathlib.Core.Bool.{So}
use Prim.Native.Nat.{ℕ}
use native.Mathlib.Omega.{arith}
use Rattle.trace.specs.WellFormed.{well_formed}
use Rattle.packed.specs.Layout.{size_of}
use Rattle.packed.proofs.FileLaid.{len-fits, wrote-ten, wrote-short, wrote-done}
use Rattle.packed.proofs.packing.write.Goals.{Else-not-well_formed}
use Rattle.packed.proofs.packing.write.Goals as goal

-- the trace is well formed
well : (c : Else-not-well_formed) → So (well_formed c.args.t)
well c = sym c.well_formed-2.ensures ∙ c.if-not-well_formed.false

pub returns-then-not-well_formed : goal.returns-then-not-well_formed
returns-then-not-well_formed c =
    let a = c.args in
    wrote-ten a.t a.out.now (sym c.well_formed-2.ensures ∙ c.if-not-well_formed.true)

pub overflow_mul-size-2 : goal.overflow_mul-size-2
overflow_mul-size-2 c = omega (arith, len-fits c.args.t (well (goal.at.overflow_mul-size-2 c).Else-not-well_formed))

pub overflow_add-size-2 : goal.overflow_add-size-2
overflow_add-size-2 c = omega (arith, len-fits c.args.t (well (goal.at.overflow_add-size-2 c).Else-not-well_formed))

pub returns-then-out-size : goal.returns-then-out-size
returns-then-out-size c =
    let a = c.args in
    wrote-short a.t a.out.now (well (goal.at.returns-then-out-size c).Else-not-well_formed) _ (ap (λ (k : ℕ). size_of k a.t.len) c.many_of-firsts.ensures.0) c.if-out-size.true

pub returns : goal.returns
returns c =
    let a = c.args in
    wrote-done a.t a.out.now (well (goal.at.returns c).Else-not-well_formed) _ (ap (λ (k : ℕ). size_of k a.t.len) c.many_of-firsts.ensures.0) c.if-out-size.false _ c.lay.ensures
