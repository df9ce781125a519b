-- `smaller::part::all`: the first i records are in the set.
use mathlib.Core.Path.{sym, ap, ◌∙◌, subst}
use mathlib.Core.Logic.{inl, inr}
use mathlib.Core.List.{List}
use Rattle.laws.proofs.Tests.{last?}
use Rattle.rows.proofs.Sets.{put-more}
use mathlib.Core.Bool.{So}
use Prim.Native.Nat.{ℕ}
use native.Mathlib.Omega.{arith}
use lib.ListN.{length}
use Rattle.smaller.specs.inner.RecordSets.{Chosen}
use Rattle.smaller.proofs.part.all.Goals as goal

pub loop-i-init : goal.loop-i-init
loop-i-init c = (omega arith, c.requires.1, λ x h. absurd (omega arith))

pub loop-i-preserved : goal.loop-i-preserved
loop-i-preserved c = let p = c.put in
    let l = c.loop-i in
    let m = put-more l.kept l.i l.invariant.1 (omega (arith, c.requires.0)) in (
      omega arith,
      ap length p.ensures ∙ m.long,
      λ x h. subst (λ (k : List ℕ). So (Chosen k x)) (sym p.ensures) ((m.has x).1 (elim (last? {i = x} {n = l.i} (omega arith)) [ inl e ↦ inr e | inr b ↦ inl (l.invariant.2 x b) ])),
    )

pub shape_of-kept : goal.shape_of-kept
shape_of-kept c = c.loop-i.invariant.1 ∙ sym c.requires.1

pub returns : goal.returns
returns c = let l = c.loop-i in (l.invariant.1, λ x h. l.invariant.2 x (omega arith))
