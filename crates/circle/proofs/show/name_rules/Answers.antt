-- `show::name_rules`: the first i places have their rules.
use mathlib.Core.Path.{◌≡◌, subst}
use Prim.Native.Nat.{ℕ}
use native.Mathlib.Omega.{arith}
use lib.ListN.{get_or, take}
use lib.Seq.{get_or-take}
use Rattle.trace.specs.Meaning.{frame_of}
use Rattle.rows.specs.Rows.{bit}
use Rattle.rows.specs.Lent.{lent_of}
use Rattle.rules.specs.Rules.{nothing}
use Rattle.rules.specs.Circle.{after}
use Rattle.rules.specs.ShownCircle.{rule?}
use Rattle.circle.specs.inner.NamedRules.{RulesNamed}
use Rattle.circle.proofs.NamedRules.{named_none, named_more}
use Rattle.circle.proofs.show.name_rules.Goals as goal

pub loop-i-init : goal.loop-i-init
loop-i-init c =
    let a = c.args in
    (omega arith, named_none (frame_of a.t) (lent_of a.t a.kept.now) (bit a.chains.now) (take a.len a.operations.now) a.rules.now)

pub next_of-requires : goal.next_of-requires
next_of-requires c = omega arith

pub loop-i-preserved : goal.loop-i-preserved
loop-i-preserved c =
    let a = c.args in
    let f = frame_of a.t in
    let K = lent_of a.t a.kept.now in
    let C = bit a.chains.now in
    let ops = a.operations.now in
    let e : c.lowest_rule_by.result ≡ rule? f K nothing C (get_or (take a.len ops) c.loop-i.i 0) (after (take a.len ops) c.loop-i.i) =
    cc (c.lowest_rule_by.ensures, c.next_of.ensures, get_or-take a.len ops c.loop-i.i 0 (omega arith)) in
    (omega arith, named_more f K C (take a.len ops) a.rules.now c.loop-i.i c.lowest_rule_by.result c.loop-i.rules (omega (arith, c.loop-i.invariant.1.long)) e c.loop-i.invariant.1)

pub returns : goal.returns
returns c =
    let a = c.args in
    let e : c.loop-i.i ≡ a.len = omega arith in
    subst (λ (n : ℕ). RulesNamed (frame_of a.t) (lent_of a.t a.kept.now) (bit a.chains.now) (take a.len a.operations.now) n a.rules.now c.loop-i.rules) e c.loop-i.invariant.1
