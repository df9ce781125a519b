-- `desk::heads::byte`: the word shifted down, and what is left of it below a byte's bound.
use mathlib.Core.Path.{refl}
use native.Mathlib.Omega.{arith}
use Rattle.desk.specs.SessionHead.{byte_of}
use Rattle.desk.proofs.heads.byte.Goals as goal

pub overflow_cast-result : goal.overflow_cast-result
overflow_cast-result c = omega arith

pub returns : goal.returns
unfolding byte_of
returns c = refl
