-- `smaller::part::without`: below x the set is as it should be, and from x on it is empty.
use mathlib.Core.Path.{◌≡◌, sym, ap, ap₂, ◌∙◌, subst}
use mathlib.Core.Logic.{inl, inr}
use mathlib.Core.List.{List}
use Rattle.laws.proofs.Tests.{last?}
use Rattle.rows.specs.Empty.{empty_of}
use Rattle.rows.specs.Put.{put_if}
use Rattle.rows.proofs.Whole.{empty-bit, empty-long}
use mathlib.Core.Bool.{Bool, not, ◌&&◌, ◌||◌}
use Prim.Native.Nat.{ℕ}
use native.Mathlib.Omega.{arith}
use lib.Dec.{eqb}
use lib.ListN.{length}
use Rattle.rows.specs.Bounds.{WORDS}
use Rattle.rows.specs.Rows.{bit}
use Rattle.smaller.specs.inner.RecordSets.{Chosen}
use Rattle.smaller.proofs.RecordSets.{put_some}
use Rattle.smaller.proofs.part.without.Goals as goal

pub loop-x-init : goal.loop-x-init
loop-x-init c = let e = c.clear.ensures ∙ ap empty_of c.requires.1 in (
  omega arith,
  ap length e ∙ empty-long WORDS,
  λ y h. absurd (omega arith),
  λ y h. ap (λ (k : List ℕ). Chosen k y) e ∙ empty-bit WORDS 0 y,
)

pub loop-x-preserved : goal.loop-x-preserved
loop-x-preserved c = let p = c.put_if in
    let a = c.test-in-loop-x in
    let g = c.test in
    let l = c.loop-x in
    let want : ℕ → Bool = λ y. Chosen c.args.kept.now y && not (eqb c.args.i y || bit c.args.goes.now c.args.i y) in
    let b : (a.result && not (eqb c.args.i l.x || g.result)) ≡ want l.x = ap₂ (λ (p q : Bool). p && not (eqb c.args.i l.x || q)) a.ensures g.ensures in
    let q = put_some l.left (a.result && not (eqb c.args.i l.x || g.result)) l.x l.invariant.1 (omega (arith, c.requires.0)) (l.invariant.3 l.x (omega arith)) in (
      omega arith,
      ap length p.ensures ∙ q.long,
      λ y h. ap (λ (k : List ℕ). Chosen k y) p.ensures ∙ elim (last? {i = y} {n = l.x} (omega arith)) [
        | inl e ↦ subst (λ (y : ℕ). Chosen (put_if l.left (a.result && not (eqb c.args.i l.x || g.result)) 0 l.x) y ≡ want y) (sym e) (q.here ∙ b)
        | inr d ↦ q.others y (λ e. omega arith) ∙ l.invariant.2 y d
      ],
      λ y h. ap (λ (k : List ℕ). Chosen k y) p.ensures ∙ q.others y (λ e. omega arith) ∙ l.invariant.3 y (omega arith),
    )

pub shape_of-left : goal.shape_of-left
shape_of-left c = c.loop-x.invariant.1 ∙ sym c.requires.1

pub returns : goal.returns
returns c = let l = c.loop-x in (l.invariant.1, λ x h. l.invariant.2 x (omega arith))
