-- `desk::nights::night_code`: by the answer.
use native.Mathlib.Omega.{arith}
use Rattle.desk.proofs.Nightly.{place-low}
use Rattle.desk.proofs.nights.night_code.Goals as goal

pub with_run-requires : goal.with_run-requires
with_run-requires c = omega (arith, c.with_place.ensures, place-low 24 c.in-Err-TooLarge.word (omega arith))
