-- `smaller::part::olds`: the numbers of the set below i stand in the array, and 0 behind them.
use mathlib.Core.Path.{◌≡◌, refl, sym, ap, ◌∙◌}
use mathlib.Core.Bool.{Bool, cond}
use Prim.Native.Nat.{ℕ, ◌+◌}
use native.Mathlib.Omega.{arith}
use mathlib.Core.List.{List, [], ◌∷◌, ◌++◌}
use lib.ListN.{length, set, length-append}
use Rattle.trace.specs.Padded.{padded}
use Rattle.parts.proofs.Alike.{olds-more, olds-few}
use Rattle.parts.specs.Picked.{olds_to}
use Rattle.smaller.specs.inner.RecordSets.{Chosen}
use Rattle.smaller.proofs.RecordSets.{padded-more}
use Rattle.smaller.proofs.part.olds.Goals.{else-test, then-test}
use Rattle.smaller.proofs.part.olds.Goals as goal

pub loop-i-init : goal.loop-i-init
unfolding olds_to
loop-i-init c = (omega arith, refl, refl)

pub offset_bounds-list-at : goal.offset_bounds-list-at
offset_bounds-list-at c = let l = c.loop-i in
    omega (arith, olds-few (Chosen c.args.kept.now) l.i, l.invariant.1, c.requires)

pub bounds-list-at : goal.bounds-list-at
bounds-list-at c = let l = c.loop-i in
    omega (arith, olds-few (Chosen c.args.kept.now) l.i, l.invariant.1, c.requires)

pub overflow_add-at : goal.overflow_add-at
overflow_add-at c = let l = c.loop-i in
    omega (arith, olds-few (Chosen c.args.kept.now) l.i, l.invariant.1, c.requires)

pub loop-i-preserved : goal.loop-i-preserved
loop-i-preserved c = let l = c.loop-i in
    let A = Chosen c.args.kept.now in
    let x = olds_to A l.i in
    let more = olds-more A l.i in
    let t = c.test.ensures in
    (elim c.if-test.branch [
      | then-test w ↦ let o : olds_to A (l.i + 1) ≡ x ++ l.i ∷ [] = more ∙ ap (λ (b : Bool). cond b (x ++ l.i ∷ []) x) (sym t ∙ w.if-test.true) in (
        omega arith,
        omega (arith, w.at-is, l.invariant.1, ap length o, length-append x (l.i ∷ [])),
        w.list-is ∙ ap (λ (k : List ℕ). set k l.at l.i) l.invariant.2 ∙ padded-more x l.at l.i (sym l.invariant.1) (omega (arith, olds-few A l.i, l.invariant.1, c.requires)) ∙ ap padded (sym o),
      )
      | else-test w ↦ let o : olds_to A (l.i + 1) ≡ x = more ∙ ap (λ (b : Bool). cond b (x ++ l.i ∷ []) x) (sym t ∙ w.if-test.false) in
          (omega arith, w.at-is ∙ l.invariant.1 ∙ ap length (sym o), w.list-is ∙ l.invariant.2 ∙ ap padded (sym o))
    ])

pub returns : goal.returns
returns c = let l = c.loop-i in
    let e : l.i ≡ c.args.n = omega arith in
    l.invariant.2 ∙ ap (λ (k : ℕ). padded (olds_to (Chosen c.args.kept.now) k)) e
