-- `trail::closed_at`: no number below s is in a pair with itself.
use mathlib.Core.Path.{sym, ◌∙◌}
use mathlib.Core.Bool.{false≢true}
use native.Mathlib.Omega.{arith}
use borrow.Author.Count.{below_more}
use Rattle.trace.specs.Bounds.{RECORDS}
use Rattle.rows.proofs.Rows.{bit-bounds}
use Rattle.circle.proofs.Lowest.{lowest-found, lowest-past}
use Rattle.circle.proofs.trail.closed_at.Goals as goal

pub loop-s-init : goal.loop-s-init
loop-s-init c = (omega arith, λ y h. absurd (omega arith))

pub returns-then-test : goal.returns-then-test
returns-then-test c =
    let l = c.loop-s in
    lowest-found RECORDS _ l.s (omega arith) l.invariant.1 (sym c.test.ensures ∙ c.if-test.true)

pub loop-s-preserved : goal.loop-s-preserved
loop-s-preserved c =
    let l = c.loop-s in
    (omega arith, below_more _ l.s l.invariant.1 (λ t. false≢true (sym c.if-test.false ∙ c.test.ensures ∙ t)))

pub returns : goal.returns
returns c =
    lowest-past RECORDS _ (λ y t. (bit-bounds c.args.walks.now y y t).0) RECORDS (omega arith) (λ y h. c.loop-s.invariant.1 y (omega (arith, h)))
