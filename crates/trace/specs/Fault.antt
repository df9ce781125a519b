-- What is wrong with one record more. The text, the packed file and a growing session ask it alike.
--
--   fault_number fault == document 01's number of a fault; 0 where nothing is wrong
--   WritesFirst t o == o writes the first value of its address
--   WritesAgain t o == o writes a value that a record of t wrote at its address
--   Wrong fault t o == the case of a fault's number, for o behind the trace t
--   Lower fault t o == no lower number's case holds
--   Earns fault t o == the case holds and no lower number's; nothing is earned where no case holds
--   fault_of t o     == what o earns behind the trace t, by tests
use Rattle.std.specs.Prelude.{◌≡◌, ◌&&◌, cond, ℕ, ◌<◌, ◌≤◌, eqb, leb, Option, Some, None}
use Rattle.std.proofs.Math.Bool.{So}
use Rattle.trace.specs.Bounds.{RECORDS}
use Rattle.trace.specs.Op.{address, written, writes}
use Rattle.trace.specs.Trace.{at, first}
use Rattle.trace.specs.WellFormed.{bounded, written_before}
use Rattle.trace.specs.FormFacts.{Bounded, WritesThere}
use Rattle.trace.specs.declared.Op.{Op}
use Rattle.trace.specs.declared.Trace.{Trace}
use Rattle.trace.specs.declared.Fault.{Fault}
use Rattle.trace.specs.declared.Fault.TheVariants.{PastBound, FirstValue, TooMany, Twice}

abbrev pub fault_number : Option Fault → ℕ
fault_number None = 0
fault_number (Some PastBound) = 4
fault_number (Some FirstValue) = 6
fault_number (Some TooMany) = 7
fault_number (Some Twice) = 8

abbrev pub WritesFirst : Trace → Op → Type 0
WritesFirst t o = So (writes o) × (written o ≡ first t (address o))

abbrev pub WritesAgain : Trace → Op → Type 0
WritesAgain t o = So (writes o) × ((i : ℕ) × (i < t.len) × WritesThere (at t i) (address o) (written o))

abbrev pub Wrong : Option Fault → Trace → Op → Type 0
Wrong None t o = ⊥
Wrong (Some PastBound) t o = Bounded o → ⊥
Wrong (Some FirstValue) t o = WritesFirst t o
Wrong (Some TooMany) t o = RECORDS ≤ t.len
Wrong (Some Twice) t o = WritesAgain t o

abbrev pub Lower : Option Fault → Trace → Op → Type 0
Lower fault t o = (other : Option Fault) → fault_number other < fault_number fault → Wrong other t o → ⊥

abbrev pub Earns : Option Fault → Trace → Op → Type 0
Earns None t o = (fault : Option Fault) → Wrong fault t o → ⊥
Earns (Some PastBound) t o = Wrong (Some PastBound) t o × Lower (Some PastBound) t o
Earns (Some FirstValue) t o = Wrong (Some FirstValue) t o × Lower (Some FirstValue) t o
Earns (Some TooMany) t o = Wrong (Some TooMany) t o × Lower (Some TooMany) t o
Earns (Some Twice) t o = Wrong (Some Twice) t o × Lower (Some Twice) t o

unfoldable pub fault_of : Trace → Op → Option Fault
fault_of t o =
    cond (bounded o)
    (cond (writes o && eqb (written o) (first t (address o))) (Some FirstValue)
    (cond (leb RECORDS t.len) (Some TooMany)
    (cond (writes o && written_before t t.len (address o) (written o)) (Some Twice)
    None)))
    (Some PastBound)
