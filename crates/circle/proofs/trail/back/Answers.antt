-- `trail::back`: row j + 1 has what below x has an edge to something of row j.
use mathlib.Core.Path.{◌≡◌, sym, ◌∙◌}
use mathlib.Core.Logic.{◌↔◌}
use mathlib.Core.Bool.{So, false≢true}
use Prim.Native.Nat.{ℕ, ◌+◌}
use native.Mathlib.Omega.{arith}
use Rattle.trace.specs.Bounds.{RECORDS}
use Rattle.rows.specs.Put.{put_of}
use Rattle.rows.specs.Rows.{bit, Edges}
use Rattle.circle.specs.inner.WalkRows.{Widened}
use Rattle.circle.proofs.WalkRows.{Some, added-one, added-same, added-when, added_none, added-turn, added-skip}
use Rattle.circle.proofs.BackSteps.{BackTurn, back-all, back-row}
use Rattle.circle.proofs.trail.back.Goals.{else-meets, then-meets}
use Rattle.circle.proofs.trail.back.Goals as goal

pub loop-x-init : goal.loop-x-init
loop-x-init c = let a = c.args in (omega arith, added_none a.reach.now (BackTurn (Edges a.edges.now) (Edges a.reach.now) a.j))

pub loop-x-preserved : goal.loop-x-preserved
loop-x-preserved c =
    let a = c.args in
    let now = c.loop-x.invariant.1 in
    let E = Edges a.edges.now in
    let B = BackTurn E (Edges a.reach.now) a.j in
    let row : (m : ℕ) → So (bit c.loop-x.reach a.j m) ↔ Edges a.reach.now a.j m = λ m. back-row E a.reach.now c.loop-x.reach a.j c.loop-x.x m now in
    let met = c.meets.ensures in (
      omega arith,
      (elim c.if-meets.branch [
        | then-meets w ↦ let e : c.if-meets.reach ≡ put_of c.loop-x.reach (a.j + 1) c.loop-x.x = w.reach-is ∙ w.put.ensures in
            let y = met.0 w.if-meets.true in
            let has : (m : ℕ) × E c.loop-x.x m × Edges a.reach.now a.j m = (y.0, y.1, (row y.0).0 y.2) in
            rw e
            (added-turn a.reach.now B c.loop-x.x c.loop-x.reach _ now
            (added-when c.loop-x.reach _ _ _ has
            (added-one c.loop-x.reach (a.j + 1) c.loop-x.x c.requires.0 (omega arith) (now.long ∙ c.requires.1))))
        | else-meets w ↦ let e : c.if-meets.reach ≡ c.loop-x.reach = w.reach-is in
            rw e
            (added-skip a.reach.now B c.loop-x.x c.loop-x.reach now
            (λ i y b.
            let (m, d, t) = b.1 in
            false≢true (sym w.if-meets.false ∙ met.1 (m, d, (row m).1 t))))
      ]),
    )

pub returns : goal.returns
returns c =
    let a = c.args in
    let past : c.loop-x.x ≡ RECORDS = omega arith in
    let all : Widened a.reach.now (Some RECORDS (BackTurn (Edges a.edges.now) (Edges a.reach.now) a.j)) c.loop-x.reach = rw past at c.loop-x.invariant.1 in
    added-same a.reach.now _ _ c.loop-x.reach (back-all a.edges.now (Edges a.reach.now) a.j) all
