-- `search::tables::lay_operations`: the operations below x are in the set, and counted.
use mathlib.Core.Path.{◌≡◌, sym, ap, ◌∙◌}
use mathlib.Core.Bool.{not}
use Prim.Native.Nat.{◌+◌}
use native.Mathlib.Omega.{arith}
use borrow.Author.Rules.{rules}
use Rattle.trace.specs.Meaning.{frame_of}
use Rattle.rows.specs.Empty.{empty_of}
use Rattle.rows.specs.Put.{put_of}
use Rattle.trace.proofs.Records.{operation-at}
use Rattle.search.proofs.TablesLaid.{counting-none, counting_more, counting-skip, counted}
use Rattle.search.proofs.tables.lay_operations.Goals.{else-not-fence, then-not-fence}
use Rattle.search.proofs.tables.lay_operations.Goals as goal

pub loop-x-init : goal.loop-x-init
loop-x-init c = (omega arith, counting-none (frame_of c.args.t) _ (c.clear.ensures ∙ ap empty_of c.requires.1))

pub overflow_add-total : goal.overflow_add-total
overflow_add-total c = omega (arith, c.loop-x.invariant.1.few)

pub loop-x-preserved : goal.loop-x-preserved
loop-x-preserved c = let f = frame_of c.args.t in
    let e = operation-at c.args.t c.loop-x.x (search rules) ∙ sym (ap not c.fence.ensures) in
    (elim c.if-not-fence.branch [
      | then-not-fence w ↦ let e₁ : c.if-not-fence.operations ≡ put_of c.loop-x.operations 0 c.loop-x.x = w.operations-is ∙ w.put.ensures in
          let e₂ : c.if-not-fence.total ≡ c.loop-x.total + 1 = w.total-is in
          (omega arith, rw (e₁, e₂) (counting_more f c.loop-x.x c.loop-x.operations c.loop-x.total c.loop-x.invariant.1 (e ∙ ap not w.if-not-fence.true) (omega (arith, c.requires.0))))
      | else-not-fence w ↦ let e₁ : c.if-not-fence.operations ≡ c.loop-x.operations = w.operations-is in
          let e₂ : c.if-not-fence.total ≡ c.loop-x.total = w.total-is in
          (omega arith, rw (e₁, e₂) (counting-skip f c.loop-x.x c.loop-x.operations c.loop-x.total c.loop-x.invariant.1 (e ∙ ap not w.if-not-fence.false)))
    ])

pub shape_of-operations : goal.shape_of-operations
shape_of-operations c = c.loop-x.invariant.1.long ∙ sym c.requires.1

pub returns : goal.returns
returns c = counted c.args.t c.loop-x.x _ _ (omega arith) c.loop-x.invariant.1
