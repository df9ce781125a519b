-- `pairs::fenced`: no such fence stands at the places passed.
use mathlib.Core.Path.{refl, sym}
use native.Mathlib.Decide.{dec_lt}
use native.Mathlib.Omega.{arith}
use Rattle.laws.specs.Tests.{any}
use Rattle.laws.proofs.Loops.{any-more, any-stops, any-fewer, any-past}
use Rattle.trace.specs.Bounds.{RECORDS}
use Rattle.trace.proofs.Places.{at-past}
use Rattle.pairs.specs.Kept.{fenced}
use Rattle.pairs.proofs.fenced.Goals as goal

pub loop-i-init : goal.loop-i-init
unfolding fenced any
loop-i-init c = refl

pub returns-then-fence-x : goal.returns-then-fence-x
unfolding fenced
returns-then-fence-x c = sym (any-stops _ c.args.y c.loop-i.i (omega arith) (cc))

pub loop-i-preserved : goal.loop-i-preserved
unfolding fenced
loop-i-preserved c = any-more _ _ c.loop-i.invariant (cc)

pub returns : goal.returns
unfolding fenced
returns c =
    let a = c.args in
    let l = c.loop-i in
    elim (dec_lt a.y RECORDS) [
      | yes h ↦ sym (any-fewer _ a.y l.i (omega arith) l.invariant)
      | no h ↦ sym (any-past _ l.i a.y l.invariant (λ k g. rw (at-past a.t (c.well_formed.0.1.1.0.1.0.1) k (omega arith)) refl))
    ]
