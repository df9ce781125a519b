-- `night::runs::put_runs`: the runs from i on are judged, and the reads of those before it stand as they did.
use mathlib.Core.Path.{◌≡◌, subst}
use Prim.Native.Nat.{◌+◌, ◌-◌}
use native.Mathlib.Omega.{arith}
use Rattle.night.proofs.Many.{Judging, judging-start, judging-more}
use Rattle.night.proofs.runs.put_runs.Goals as goal

pub loop-i-init : goal.loop-i-init
loop-i-init c = (omega arith, judging-start c.args.t c.args.model c.args.loads c.args.out.now c.args.runs)

pub put_run-requires : goal.put_run-requires
put_run-requires c =
    (c.requires.0, c.requires.1, c.requires.2, c.requires.3, omega (arith, c.loop-i.invariant.1.long, c.requires.4, c.loop-i.invariant.0, c.loop-i-test.true))

pub loop-i-preserved : goal.loop-i-preserved
loop-i-preserved c =
    let i = c.loop-i.i - 1 in
    let e : c.loop-i.i ≡ i + 1 = omega (arith, c.loop-i-test.true) in (
      omega (arith, c.loop-i.invariant.0),
      judging-more c.args.t c.args.model c.args.loads c.requires.3 c.args.out.now c.loop-i.out _ c.args.runs i c.requires.4 (omega (arith, c.loop-i.invariant.0, c.loop-i-test.true))
          (subst (Judging c.args.t c.args.model c.args.loads c.args.out.now c.loop-i.out c.args.runs) e c.loop-i.invariant.1) c.put_run.ensures,
    )

pub shape_of-out : goal.shape_of-out
shape_of-out c = c.loop-i.invariant.1.long

pub returns : goal.returns
returns c = (c.loop-i.invariant.1.long, λ j h. c.loop-i.invariant.1.judged j (omega (arith, c.loop-i-test.false)) h)
