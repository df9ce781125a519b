-- `trail::shown`: the least length, the lowest start and the lowest steps are those of the circle shown.
use mathlib.Core.Path.{sym, ◌∙◌}
use Prim.Native.Nat.{◌<◌}
use native.Mathlib.Omega.{arith}
use lib.ListN.{length}
use Rattle.circle.proofs.ShownIn.{shown-nothing, closed-lowest, shown-laid}
use Rattle.circle.proofs.trail.shown.Goals.{then-edges-ne-CELLS-via-then-edges-ne-CELLS, then-edges-ne-CELLS-via-else-edges-ne-CELLS+then-out-ne-RECORDS}
use Rattle.circle.proofs.trail.shown.Goals as goal

pub returns-then-edges-ne-CELLS : goal.returns-then-edges-ne-CELLS
returns-then-edges-ne-CELLS c =
    let a = c.args in
    shown-nothing a.edges.now (length a.out.now) c.wipe.new.out c.wipe.ensures (λ l r. (elim c.then-edges-ne-CELLS.branch [
      | then-edges-ne-CELLS-via-then-edges-ne-CELLS w ↦ absurd (w.if-edges-ne-CELLS.true l)
      | then-edges-ne-CELLS-via-else-edges-ne-CELLS+then-out-ne-RECORDS w ↦ absurd (w.if-out-ne-RECORDS.true (c.wipe.auto.out ∙ r))
    ]))

pub returns-then-k-eq0 : goal.returns-then-k-eq0
returns-then-k-eq0 c =
    let a = c.args in
    shown-nothing a.edges.now (length a.out.now) c.wipe.new.out c.wipe.ensures (λ _ _. c.least-k.ensures.clear c.if-k-eq0.true)

pub reach-requires : goal.reach-requires
reach-requires c =
    let a = c.args in
    let p : 0 < c.least-k.result = omega (arith, c.if-k-eq0.false) in
    let s = closed-lowest a.edges.now c.least-k.new.walks c.least-k.result c.closed_at-s.result p c.least-k.ensures c.closed_at-s.ensures in
    (s.0, p, c.least-k.ensures.within, c.least-k.auto.next)

pub follow-requires : goal.follow-requires
follow-requires c =
    let a = c.args in
    let p : 0 < c.least-k.result = omega (arith, c.if-k-eq0.false) in
    let s = closed-lowest a.edges.now c.least-k.new.walks c.least-k.result c.closed_at-s.result p c.least-k.ensures c.closed_at-s.ensures in
    record { start = s.0; some = p; fits = omega (arith, c.least-k.ensures.within, c.if-out-ne-RECORDS.false); reach = c.reach.ensures; closed = s.1.0 }

pub returns : goal.returns
returns c =
    let a = c.args in
    let p : 0 < c.least-k.result = omega (arith, c.if-k-eq0.false) in
    shown-laid a.edges.now c.least-k.new.walks c.least-k.result c.closed_at-s.result p c.least-k.ensures c.closed_at-s.ensures
    (length a.out.now) c.wipe.new.out c.follow.new.out c.if-edges-ne-CELLS.false (sym c.wipe.auto.out ∙ c.if-out-ne-RECORDS.false) c.wipe.ensures c.follow.ensures
