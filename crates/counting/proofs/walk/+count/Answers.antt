-- `counting::walk::count`: what falls is the number of places left. The loop's invariant: so many steps are made, what is below y is gone through, the memory is right.
use mathlib.Core.Path.{◌≡◌, sym, ◌∙◌}
use mathlib.Core.Bool.{false≢true}
use Prim.Native.Nat.{◌+◌, ◌<◌}
use native.Mathlib.Omega.{arith}
use lib.ListN.{length-set}
use Rattle.counting.specs.inner.CountedWalk.{counting_tables}
use Rattle.counting.proofs.CountedWalk.{counts-full, counts-recalled, going-skip, going-failed, counts-spent, counts-order, counts-over, counts_end}
use Rattle.counting.proofs.walk.+count.Goals.{else-next, then-next+else-used-left+in-End}
use Rattle.counting.proofs.walk.+count.Goals as goal

pub returns-then-k-total : goal.returns-then-k-total
returns-then-k-total t c = let a = c.args in
    counts-full (counting_tables a.n a.total a.operations.now a.reads.now a.partners.now a.own.now a.fed.now a.rivals.now) a.list.now a.k a.placed.now a.served.now a.left a.sets.now a.serves.now a.counts.now c.requires c.if-k-total.true

pub returns-then-same_at-2 : goal.returns-then-same_at-2
returns-then-same_at-2 t c = let a = c.args in
    rw c.recalled.ensures (counts-recalled (counting_tables a.n a.total a.operations.now a.reads.now a.partners.now a.own.now a.fed.now a.rivals.now) a.list.now a.k a.placed.now a.served.now a.left a.sets.now a.serves.now a.counts.now c.requires c.mix-h.result c.mix-h.ensures c.if-k-gt0.true (c.same_at.ensures c.if-same_at.true) (c.same_at-then-same_at.ensures c.if-same_at-2.true))

pub returns-then-used-left : goal.returns-then-used-left
returns-then-used-left t c = let a = c.args in
    let space : a.k < a.total = omega (arith, c.requires.left, c.if-k-total.false) in
    counts-spent (counting_tables a.n a.total a.operations.now a.reads.now a.partners.now a.own.now a.fed.now a.rivals.now) a.list.now a.k a.placed.now a.served.now a.left a.sets.now a.serves.now a.counts.now c.requires space c.loop-y.y c.loop-y.used c.loop-y.list c.loop-y.sets c.loop-y.serves c.loop-y.counts c.loop-y.invariant c.loop-y-test.true (c.next.ensures.0 c.if-next.true) c.if-used-left.true

pub returns-in-Order : goal.returns-in-Order
returns-in-Order t c = let a = c.args in
    let space : a.k < a.total = omega (arith, c.requires.left, c.if-k-total.false) in
    counts-order (counting_tables a.n a.total a.operations.now a.reads.now a.partners.now a.own.now a.fed.now a.rivals.now) a.list.now a.k a.placed.now a.served.now a.left a.sets.now a.serves.now a.counts.now c.requires space c.loop-y.y c.loop-y.used c.loop-y.list c.loop-y.sets c.loop-y.serves c.loop-y.counts c.loop-y.invariant c.loop-y-test.true (c.next.ensures.0 c.if-next.true) (omega (arith, c.loop-y.invariant.budget, c.if-used-left.false)) c.join.new.next c.serve.new.next c.count-below.new.list c.count-below.new.sets c.count-below.new.serves c.count-below.new.counts c.join.ensures c.serve.ensures c.count-below.result c.count-below.ensures (c.count-below.auto.list ∙ length-set c.loop-y.list a.k c.loop-y.y) c.count-below.auto.sets c.count-below.auto.serves c.count-below.auto.counts _ c.in-Order.is

pub returns-in-Over : goal.returns-in-Over
returns-in-Over t c = let a = c.args in
    let space : a.k < a.total = omega (arith, c.requires.left, c.if-k-total.false) in
    counts-over (counting_tables a.n a.total a.operations.now a.reads.now a.partners.now a.own.now a.fed.now a.rivals.now) a.list.now a.k a.placed.now a.served.now a.left a.sets.now a.serves.now a.counts.now c.requires space c.loop-y.y c.loop-y.used c.loop-y.list c.loop-y.sets c.loop-y.serves c.loop-y.counts c.loop-y.invariant c.loop-y-test.true (c.next.ensures.0 c.if-next.true) (omega (arith, c.loop-y.invariant.budget, c.if-used-left.false)) c.join.new.next c.serve.new.next c.count-below.new.list c.count-below.new.sets c.count-below.new.serves c.count-below.new.counts c.join.ensures c.serve.ensures c.count-below.result c.count-below.ensures (c.count-below.auto.list ∙ length-set c.loop-y.list a.k c.loop-y.y) c.count-below.auto.sets c.count-below.auto.serves c.count-below.auto.counts c.in-Over.is

pub loop-y-preserved : goal.loop-y-preserved
loop-y-preserved t c = let a = c.args in
    let space : a.k < a.total = omega (arith, c.requires.left, c.if-k-total.false) in
    (elim c.if-next.branch [
      | then-next+else-used-left+in-End w ↦ let e0 : c.if-next.list ≡ w.count-below.new.list = w.list-is in
          let e1 : c.if-next.sets ≡ w.count-below.new.sets = w.sets-is in
          let e2 : c.if-next.serves ≡ w.count-below.new.serves = w.serves-is in
          let e3 : c.if-next.counts ≡ w.count-below.new.counts = w.counts-is in
          let e4 : c.if-next.used ≡ c.loop-y.used + 1 + w.in-End.c = w.used-is in
          rw (e0, e1, e2, e3, e4)
          (going-failed (counting_tables a.n a.total a.operations.now a.reads.now a.partners.now a.own.now a.fed.now a.rivals.now) a.list.now a.k a.placed.now a.served.now a.left a.sets.now a.serves.now a.counts.now c.requires space c.loop-y.y c.loop-y.used c.loop-y.list c.loop-y.sets c.loop-y.serves c.loop-y.counts c.loop-y.invariant c.loop-y-test.true (c.next.ensures.0 w.if-next.true) (omega (arith, c.loop-y.invariant.budget, w.if-used-left.false))
          w.join.new.next w.serve.new.next w.count-below.new.list w.count-below.new.sets w.count-below.new.serves w.count-below.new.counts w.join.ensures w.serve.ensures w.count-below.result w.count-below.ensures
          (w.count-below.auto.list ∙ length-set c.loop-y.list a.k c.loop-y.y) w.count-below.auto.sets w.count-below.auto.serves w.count-below.auto.counts _ w.in-End.is)
      | else-next w ↦ let e0 : c.if-next.list ≡ c.loop-y.list = w.list-is in
          let e1 : c.if-next.sets ≡ c.loop-y.sets = w.sets-is in
          let e2 : c.if-next.serves ≡ c.loop-y.serves = w.serves-is in
          let e3 : c.if-next.counts ≡ c.loop-y.counts = w.counts-is in
          let e4 : c.if-next.used ≡ c.loop-y.used = w.used-is in
          rw (e0, e1, e2, e3, e4) (going-skip (counting_tables a.n a.total a.operations.now a.reads.now a.partners.now a.own.now a.fed.now a.rivals.now) a.list.now a.k a.placed.now a.served.now a.left a.sets.now a.serves.now a.counts.now c.requires space c.loop-y.y c.loop-y.used c.loop-y.list c.loop-y.sets c.loop-y.serves c.loop-y.counts c.loop-y.invariant c.loop-y-test.true (λ r. false≢true (sym w.if-next.false ∙ c.next.ensures.1 r)))
    ])

pub returns : goal.returns
returns t c = let a = c.args in
    let space : a.k < a.total = omega (arith, c.requires.left, c.if-k-total.false) in
    counts_end (counting_tables a.n a.total a.operations.now a.reads.now a.partners.now a.own.now a.fed.now a.rivals.now) a.list.now a.k a.placed.now a.served.now a.left a.sets.now a.serves.now a.counts.now c.requires space c.loop-y.y c.loop-y.used c.loop-y.list c.loop-y.sets c.loop-y.serves c.loop-y.counts c.loop-y.invariant (omega (arith, c.loop-y-test.false)) c.mix-h.result c.mix-h.ensures c.put_at.new.memory c.put_at-2.new.memory c.put_at.ensures c.put_at-2.ensures
