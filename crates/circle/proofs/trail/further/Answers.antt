-- `trail::further`: the rows have the walks from numbers below x that are an edge longer.
use mathlib.Core.Path.{◌≡◌, ◌∙◌}
use native.Mathlib.Omega.{arith}
use lib.ListN.{length}
use Rattle.trace.specs.Bounds.{RECORDS}
use Rattle.circle.specs.inner.WalkRows.{Widened}
use Rattle.circle.proofs.WalkRows.{Some, added-same, added_none, added-turn, added-exactly}
use Rattle.circle.proofs.Further.{AllTurn, all-all}
use Rattle.circle.proofs.trail.further.Goals as goal

pub loop-x-init : goal.loop-x-init
loop-x-init c =
    let a = c.args in
    (omega arith, c.clear.auto.rows ∙ c.requires, added_none c.clear.new.rows (AllTurn a.edges.now a.walks.now))

pub add_rows-requires : goal.add_rows-requires
add_rows-requires c = (omega arith, c.loop-x.invariant.2.long ∙ c.loop-x.invariant.1)

pub loop-x-preserved : goal.loop-x-preserved
loop-x-preserved c =
    let a = c.args in (
      omega arith,
      c.loop-x.invariant.1,
      added-turn c.clear.new.rows (AllTurn a.edges.now a.walks.now) c.loop-x.x c.loop-x.next c.add_rows.new.next c.loop-x.invariant.2 c.add_rows.ensures,
    )

pub returns : goal.returns
returns c =
    let a = c.args in
    let past : c.loop-x.x ≡ RECORDS = omega arith in
    let all : Widened c.clear.new.rows (Some RECORDS (AllTurn a.edges.now a.walks.now)) c.loop-x.next = rw past at c.loop-x.invariant.2 in
    added-exactly (length a.next.now) _ c.loop-x.next (added-same _ _ _ c.loop-x.next (all-all a.edges.now a.walks.now) (rw c.clear.ensures at all))
