-- What a record of good numbers gets, test by test.
--
--   joined-tests == the numbers 6, 7 and 8 in their order
use mathlib.Core.Path.{◌≡◌, refl}
use mathlib.Core.Logic.{inl, inr}
use mathlib.Core.Bool.{◌&&◌, cond, So}
use lib.Dec.{eqb, leb}
use Rattle.std.specs.Prelude.{Ok, Err}
use Rattle.laws.proofs.Tests.{test}
use Rattle.trace.specs.Bounds.{RECORDS}
use Rattle.trace.specs.Op.{address, written, writes}
use Rattle.trace.specs.Trace.{first}
use Rattle.trace.specs.WellFormed.{bounded, written_before}
use Rattle.trace.specs.Fault.{fault_of}
use Rattle.trace.specs.declared.Op.{Op}
use Rattle.trace.specs.declared.Trace.{Trace}
use Rattle.reader.specs.Answer.{joined}
use Rattle.reader.specs.declared.Reason.TheVariants.{FirstValue, TooMany, Twice}

pub joined-tests : (t : Trace) (o : Op) → So (bounded o) → joined t o
    ≡ cond (writes o && eqb (written o) (first t (address o))) (Err FirstValue)
    (cond (leb RECORDS t.len) (Err TooMany)
    (cond (writes o && written_before t t.len (address o) (written o)) (Err Twice)
    (Ok o)))
unfolding joined fault_of
joined-tests t o h = rw h (elim (test (writes o && eqb (written o) (first t (address o)))) [
  | inl a ↦ rw a refl
  | inr a ↦ rw a (elim (test (leb RECORDS t.len)) [
    | inl b ↦ rw b refl
    | inr b ↦ rw b (elim (test (writes o && written_before t t.len (address o) (written o))) [ inl c ↦ rw c refl | inr c ↦ rw c refl ])
  ])
])
