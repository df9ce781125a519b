-- `rows::pass`: the pairs that lead through k from below x are there.
use mathlib.Core.Path.{◌≡◌, sym, ◌∙◌}
use mathlib.Core.Bool.{false≢true}
use native.Mathlib.Omega.{arith}
use Rattle.rows.specs.Bounds.{WORDS}
use Rattle.rows.specs.inner.AddedPairs.{Added, Row}
use Rattle.rows.proofs.Closing.{pass-none, pass-join, pass-skip, pass-bare, passed}
use Rattle.rows.proofs.Whole.{empty-bit}
use Rattle.rows.proofs.pass.Goals.{else-has, then-has}
use Rattle.rows.proofs.pass.Goals as goal

pub returns-then-within : goal.returns-then-within
returns-then-within c =
    let a = c.args in
    pass-bare a.rows.now a.k (λ j e. false≢true (sym (empty-bit WORDS 0 j) ∙ c.within.ensures.0 c.if-within.true j e))

pub loop-x-init : goal.loop-x-init
loop-x-init c = let a = c.args in (omega arith, pass-none a.rows.now a.k)

pub has-requires : goal.has-requires
has-requires c = omega (arith, c.loop-x.invariant.1.long)

pub join-requires : goal.join-requires
join-requires c = omega (arith, c.loop-x.invariant.1.long)

pub loop-x-preserved : goal.loop-x-preserved
loop-x-preserved c =
    let a = c.args in
    let now = c.loop-x.invariant.1 in (
      omega arith,
      (elim c.if-has.branch [
        | then-has w ↦ let done : Added c.loop-x.rows (Row c.loop-x.rows c.loop-x.x a.k) c.if-has.rows = rw w.rows-is w.join.ensures in
            pass-join a.rows.now c.loop-x.rows a.k c.loop-x.x now c.if-has.rows (sym c.has.ensures ∙ w.if-has.true) done
        | else-has w ↦ let e : c.if-has.rows ≡ c.loop-x.rows = w.rows-is in
            rw e (pass-skip a.rows.now c.loop-x.rows a.k c.loop-x.x now (sym c.has.ensures ∙ w.if-has.false))
      ]),
    )

pub shape_of-rows : goal.shape_of-rows
shape_of-rows c = c.loop-x.invariant.1.long

pub returns : goal.returns
returns c =
    let a = c.args in
    passed a.rows.now c.loop-x.rows a.k c.loop-x.x c.loop-x.invariant.1 a.n c.requires.3 (omega arith)
