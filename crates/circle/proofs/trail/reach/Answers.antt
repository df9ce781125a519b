-- `trail::reach`: the rows up to j have from where s is reached in as many steps.
use mathlib.Core.Path.{◌≡◌, ap, ◌∙◌, subst}
use Prim.Native.Nat.{ℕ, ◌+◌}
use native.Mathlib.Omega.{arith}
use lib.ListN.{length}
use Rattle.rows.specs.Empty.{empty_of}
use Rattle.rows.specs.Put.{put_of}
use Rattle.rows.specs.Rows.{Edges}
use Rattle.rows.proofs.Whole.{empty-long}
use Rattle.circle.specs.inner.BackSteps.{Reach}
use Rattle.circle.proofs.WalkRows.{added-one, added-exactly}
use Rattle.circle.proofs.BackSteps.{reach-first, reach-next}
use Rattle.circle.proofs.trail.reach.Goals as goal

pub loop-j-init : goal.loop-j-init
loop-j-init c =
    let a = c.args in
    let n = length a.rows.now in
    let e : c.put.new.rows ≡ put_of (empty_of n) 0 a.s = c.put.ensures ∙ ap (λ r. put_of r 0 a.s) c.clear.ensures in (
      omega arith,
      c.put.auto.rows ∙ c.clear.auto.rows ∙ c.requires.3,
      rw e (reach-first (Edges a.edges.now) a.s _ (added-exactly n _ _ (added-one (empty_of n) 0 a.s (omega arith) c.requires.0 (empty-long n ∙ c.requires.3)))),
    )

pub back-requires : goal.back-requires
back-requires c = (omega arith, c.loop-j.invariant.1)

pub loop-j-preserved : goal.loop-j-preserved
loop-j-preserved c =
    let a = c.args in (
      omega arith,
      c.back.auto.reach ∙ c.loop-j.invariant.1,
      reach-next (Edges a.edges.now) a.s c.loop-j.j c.loop-j.rows c.back.new.reach c.loop-j.invariant.2 c.back.ensures,
    )

pub returns : goal.returns
returns c =
    let a = c.args in
    let e : c.loop-j.j + 1 ≡ a.k = omega arith in
    subst (λ (k : ℕ). Reach (Edges a.edges.now) a.s k c.loop-j.rows) e c.loop-j.invariant.2
