-- `trail::least`: no closed walk is shorter than k, and the rows have the walks of length k.
use mathlib.Core.Path.{◌≡◌, sym, ◌∙◌}
use native.Mathlib.Omega.{arith}
use Rattle.rows.specs.Rows.{Edges}
use Rattle.rows.proofs.Whole.{copy-same}
use Rattle.circle.proofs.LeastWalk.{try-first, try-next, try-found, try-past}
use Rattle.circle.proofs.trail.least.Goals as goal

pub loop-k-init : goal.loop-k-init
loop-k-init c =
    let a = c.args in
    let e : c.copy.new.to ≡ a.edges.now = c.copy.ensures ∙ copy-same a.edges.now a.walks.now (c.requires.0 ∙ sym c.requires.1) in
    (omega arith, omega arith, c.copy.auto.to ∙ c.requires.1, c.requires.2, rw e (try-first a.edges.now))

pub returns-then-reflexive : goal.returns-then-reflexive
returns-then-reflexive c =
    let a = c.args in
    try-found (Edges a.edges.now) c.loop-k.k c.loop-k.walks c.loop-k.invariant.4 c.loop-k.invariant.0 (omega arith) (sym c.reflexive.ensures ∙ c.if-reflexive.true)

pub further-requires : goal.further-requires
further-requires c = c.loop-k.invariant.3

pub loop-k-preserved : goal.loop-k-preserved
loop-k-preserved c =
    let a = c.args in
    let long = c.further.auto.next ∙ c.loop-k.invariant.3 in
    let e : c.copy-in-loop-k.new.to ≡ c.further.new.next = c.copy-in-loop-k.ensures ∙ copy-same c.further.new.next c.loop-k.walks (long ∙ sym c.loop-k.invariant.2) in (
      omega arith,
      omega arith,
      c.copy-in-loop-k.auto.to ∙ c.loop-k.invariant.2,
      long,
      rw e (try-next (Edges a.edges.now) c.loop-k.k c.loop-k.walks c.loop-k.invariant.4 c.further.new.next (sym c.reflexive.ensures ∙ c.if-reflexive.false) c.further.ensures),
    )

pub returns : goal.returns
returns c =
    let a = c.args in
    try-past a.edges.now c.loop-k.k c.loop-k.walks (omega arith) c.loop-k.invariant.4
