-- `trace::started` meets its contract: an element of the array is set, or none past its end. Assumes nothing.
use mathlib.Core.Path.{refl, sym, ap}
use mathlib.Core.List.{List}
use Prim.Native.Nat.{ℕ}
use native.Mathlib.Omega.{arith}
use lib.Seq.{set_out}
use Rattle.trace.specs.Trace.{started}
use Rattle.trace.proofs.started.Goals as goal

pub returns-then-i-lt-FIRSTS : goal.returns-then-i-lt-FIRSTS
unfolding started
returns-then-i-lt-FIRSTS c = refl

pub returns : goal.returns
unfolding started
returns c =
    let a = c.args in
    ap (λ (v : List ℕ). record { records = a.t.records; len = a.t.len; firsts = v })
    (sym (set_out a.t.firsts a.addr a.value (omega (arith, c.well_formed.0.1.1.1.1.0.1.0.1))))
