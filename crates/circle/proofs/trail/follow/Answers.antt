-- `trail::follow`: the first i places are laid, and those past k are as they were.
use mathlib.Core.Path.{refl, ◌∙◌}
use mathlib.Core.Option.{some}
use Prim.Native.Nat.{◌<◌, ◌-◌}
use native.Mathlib.Omega.{arith}
use lib.ListN.{length-set}
use lib.Seq.{get_or-set_other}
use Rattle.laws.specs.Lowest.{Lowest}
use Rattle.trace.specs.Bounds.{RECORDS}
use Rattle.rows.specs.Rows.{Edges}
use Rattle.rules.specs.inner.ExactWalks.{Walk}
use Rattle.circle.proofs.Tracing.{trace-first, trace-next, trace-lowest, traced}
use Rattle.circle.proofs.trail.follow.Goals.{After-step_to-x}
use Rattle.circle.proofs.trail.follow.Goals as goal

pub loop-i-init : goal.loop-i-init
loop-i-init c =
    let a = c.args in
    let f = c.requires in
    (omega arith, omega arith, f.start, refl, λ p h. refl, trace-first (Edges a.edges.now) a.k a.s a.out.now (omega arith) f.closed)

-- the step from the last place laid
step-low : (c : After-step_to-x)
    → (c.step_to-x.result < RECORDS)
    × Lowest
    (λ y.
    Edges c.args.edges.now c.loop-i.x y
    × Walk (Edges c.args.edges.now) (c.args.k - c.loop-i.i) y
    c.args.s)
    (some c.step_to-x.result)
step-low c =
    let a = c.args in
    trace-lowest a.edges.now a.reach.now a.k a.s c.loop-i.i c.loop-i.x c.loop-i.out c.step_to-x.result c.loop-i.invariant.5 c.requires.reach c.loop-i.invariant.0 (omega arith)
    c.step_to-x.ensures

pub loop-i-preserved : goal.loop-i-preserved
loop-i-preserved c =
    let a = c.args in
    let y = c.step_to-x.result in
    let first = length-set a.out.now 0 a.s in
    let set_long = length-set c.loop-i.out c.loop-i.i y in (
      omega arith,
      omega arith,
      (step-low c).0,
      set_long ∙ c.loop-i.invariant.3,
      λ p h. get_or-set_other c.loop-i.out c.loop-i.i p y 0 (omega arith) ∙ c.loop-i.invariant.4 p h,
      trace-next (Edges a.edges.now) a.k a.s c.loop-i.i c.loop-i.x c.loop-i.out c.loop-i.invariant.5 y c.loop-i.invariant.0 (omega arith) (omega (arith, c.loop-i.invariant.3, c.requires.fits)) (step-low c).1,
    )

pub returns : goal.returns
returns c =
    let a = c.args in
    let long = c.loop-i.invariant.3 ∙ length-set a.out.now 0 a.s in
    record {
      long = long;
      way = traced (Edges a.edges.now) a.k a.s c.loop-i.i c.loop-i.x c.loop-i.out c.loop-i.invariant.5 (omega arith) c.requires.some (omega (arith, c.requires.fits));
      rest = λ p h. c.loop-i.invariant.4 p h ∙ get_or-set_other a.out.now 0 p a.s 0 (omega (arith, c.requires.some));
    }
