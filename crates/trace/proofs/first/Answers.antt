-- `trace::first` meets its contract: an element of the array, or 0 past its end. Assumes nothing.
use mathlib.Core.Path.{refl, sym}
use native.Mathlib.Omega.{arith}
use lib.ListN.{get_or-eq_default}
use Rattle.trace.specs.Trace.{first}
use Rattle.trace.proofs.first.Goals as goal

pub returns-then-i-lt-FIRSTS : goal.returns-then-i-lt-FIRSTS
unfolding first
returns-then-i-lt-FIRSTS c = refl

pub returns : goal.returns
unfolding first
returns c =
    let a = c.args in
    sym (get_or-eq_default a.t.firsts 0 {n = a.addr} (omega (arith, c.well_formed.0.1.1.1.1.0.1.0.1)))
