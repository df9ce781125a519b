-- `reading::other_side`: the latest open split is turned round.
use mathlib.Core.Path.{◌≡◌, sym, ◌∙◌}
use Prim.Native.Nat.{suc, ◌-◌}
use native.Mathlib.Omega.{arith}
use Rattle.papers.proofs.Branches.{stack-none, stack-turned}
use Rattle.papers.proofs.reading.other_side.Goals as goal

-- src/reading/mod.rt:91:9
pub returns-then-n-eq0 : goal.returns-then-n-eq0
returns-then-n-eq0 c =
    let s = c.args in
    (stack-none s.from.now s.to.now s.other.now s.count (sym c.latest-n.ensures.0 ∙ c.if-n-eq0.true), omega arith)

-- src/reading/mod.rt:85:1
pub returns : goal.returns
returns c =
    let s = c.args in
    let p = c.requires in
    let n = c.latest-n.result in
    let h = c.latest-n.ensures in
    let z = c.if-n-eq0.false in
    let q : suc (n - 1) ≡ n = omega (arith, z) in
    (stack-turned s.from.now s.to.now s.other.now s.count (n - 1) n (sym h.0) q (omega (arith, p.0, h.1, q)) (omega (arith, p.1, h.1, q)) (omega (arith, p.2, h.1, q)), h.1)
