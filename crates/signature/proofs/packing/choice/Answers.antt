-- `signature::packing::choice`: the last digit, or that of the read.
use mathlib.Core.Path.{ap, ◌∙◌}
use Prim.Native.Nat.{ℕ, ◌-◌}
use native.Mathlib.Omega.{arith}
use Rattle.signature.specs.Reads.{digit_of}
use Rattle.signature.proofs.Laid.{choice-last, choice-read, range-some}
use Rattle.signature.proofs.packing.choice.Goals as goal

pub overflow_sub-result : goal.overflow_sub-result
overflow_sub-result c = omega (arith, c.range_of.ensures.0, range-some c.args.t c.args.load)

pub returns-then-last : goal.returns-then-last
returns-then-last c = ap (λ (r : ℕ). r - 1) c.range_of.ensures.0 ∙ choice-last c.args.t c.args.last c.args.load c.if-last.true

pub returns : goal.returns
returns c = c.digit_of.ensures ∙ ap (digit_of c.args.t c.args.load) c.read.ensures ∙ choice-read c.args.t c.args.last c.args.load c.if-last.false
