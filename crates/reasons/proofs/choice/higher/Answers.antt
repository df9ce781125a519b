-- `choice::higher`: either way.
use mathlib.Core.Path.{refl}
use mathlib.Core.Logic.{inl, inr}
use native.Mathlib.Omega.{arith}
use Rattle.reasons.proofs.choice.higher.Goals as goal

pub returns-then-a-b : goal.returns-then-a-b
returns-then-a-b c = record { keeps = omega arith; reaches = omega arith; one = inr refl }

pub returns : goal.returns
returns c = record { keeps = omega arith; reaches = omega arith; one = inl refl }
