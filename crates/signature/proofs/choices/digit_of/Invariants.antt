use mathlib.Core.Path.{◌≡◌}
use Prim.Native.Nat.{suc, ◌+◌, ◌≤◌}
use Rattle.signature.specs.Reads.{digit_of}
use Rattle.laws.specs.Places.{pos}
use Rattle.signature.proofs.Passing.{wrote}
use Rattle.signature.proofs.choices.digit_of.Given as goal

abbrev pub invariant-loop-i : goal.invariant-loop-i
invariant-loop-i l = (l.i ≤ l.t.len) × (l.d ≤ suc l.i) × (l.d + pos (wrote l.t l.load l.i) l.value ≡ digit_of l.t l.load l.value)
