-- What a single line gets.
--
--   number_of reason  == the documents' number of a reason
--   in_bounds raw     == thread, addresses and values keep their bounds
--   one_address raw   == a swap's two addresses are one
--   op_of raw         == the record that a raw one stands for
--   turn_of o fault   == a record, taken where nothing is wrong with it
--   joined t o        == a record of good numbers behind the trace so far: taken, or why not (6, 7, 8)
--   checked t raw     == a raw record behind the trace so far (4 to 8)
--   late a v          == an init line that gives no first value: 4, or else 17
--   unformed i        == a line of no record's form (3, 4, 17)
--   turned t l        == a line behind the trace so far that gives no first value (2 to 8, 17); the lowest number that applies
--   init_given given l == the address and first value of an init line that gives one: short, ended, in bounds, and no line above gave that address one
use Rattle.std.specs.Prelude.{Bool, true, false, not, ◌&&◌, cond, List, ℕ, eqb, ltb, length, get_or, Option, Some, None, Result, Ok, Err}
use Rattle.trace.specs.Bounds.{THREADS, ADDRESSES, VALUES}
use Rattle.trace.specs.Fault.{fault_of}
use Rattle.trace.specs.declared.Fault.{Fault}
use Rattle.trace.specs.declared.Fault.TheVariants as fault
use Rattle.trace.specs.declared.Op.{Op}
use Rattle.trace.specs.declared.Op.TheVariants as op
use Rattle.trace.specs.declared.Trace.{Trace}
use Rattle.reader.specs.Bounds.{LINE}
use Rattle.text.specs.Lines.{Line}
use Rattle.reader.specs.LineForms.{form_of, init_of}
use Rattle.reader.specs.declared.Init.{Init}
use Rattle.reader.specs.declared.Raw.{Raw}
use Rattle.reader.specs.declared.Raw.TheVariants.{Load, Store, Swap, Fence}
use Rattle.reader.specs.declared.Reason.{Reason}
use Rattle.reader.specs.declared.Reason.TheVariants.{LongText, LongLine, NoForm, PastBound, Addresses, FirstValue, TooMany, Twice, Late}

abbrev pub number_of : Reason → ℕ
number_of LongText = 1
number_of LongLine = 2
number_of NoForm = 3
number_of PastBound = 4
number_of Addresses = 5
number_of FirstValue = 6
number_of TooMany = 7
number_of Twice = 8
number_of Late = 17

abbrev pub in_bounds : Raw → Bool
in_bounds (Load t a r) = ltb t THREADS && ltb a ADDRESSES && ltb r VALUES
in_bounds (Store t a w) = ltb t THREADS && ltb a ADDRESSES && ltb w VALUES
in_bounds (Swap t a r b w) = ltb t THREADS && ltb a ADDRESSES && ltb r VALUES && ltb b ADDRESSES && ltb w VALUES
in_bounds (Fence t) = ltb t THREADS

abbrev pub one_address : Raw → Bool
one_address (Load t a r) = true
one_address (Store t a w) = true
one_address (Swap t a r b w) = eqb a b
one_address (Fence t) = true

abbrev pub op_of : Raw → Op
op_of (Load t a r) = op.Load t a r
op_of (Store t a w) = op.Store t a w
op_of (Swap t a r b w) = op.Swap t a r w
op_of (Fence t) = op.Fence t

abbrev pub turn_of : Op → Option Fault → Result Op Reason
turn_of o None = Ok o
turn_of o (Some fault.PastBound) = Err PastBound
turn_of o (Some fault.FirstValue) = Err FirstValue
turn_of o (Some fault.TooMany) = Err TooMany
turn_of o (Some fault.Twice) = Err Twice

unfoldable pub joined : Trace → Op → Result Op Reason
joined t o = turn_of o (fault_of t o)

unfoldable pub checked : Trace → Raw → Result Op Reason
checked t raw = cond (in_bounds raw) (cond (one_address raw) (joined t (op_of raw)) (Err Addresses)) (Err PastBound)

unfoldable pub late : ℕ → ℕ → Result Op Reason
late a v = cond (ltb a ADDRESSES && ltb v VALUES) (Err Late) (Err PastBound)

abbrev pub unformed : Option Init → Result Op Reason
unformed (Some i) = late i.addr i.value
unformed None = Err NoForm

abbrev pub checked_form : Trace → Option Raw → Option Init → Result Op Reason
checked_form t (Some raw) i = checked t raw
checked_form t None i = unformed i

unfoldable pub turned : Trace → Line → Result Op Reason
turned t l = cond (ltb LINE (length l.bytes)) (Err LongLine) (cond l.ended (checked_form t (form_of l.bytes) (init_of l.bytes)) (Err NoForm))

abbrev pub beginning : List Bool → Option Init → Option Init
beginning given (Some i) = cond (ltb i.addr ADDRESSES && ltb i.value VALUES && not (get_or given i.addr false)) (Some i) None
beginning given None = None

-- `given` has a flag for each address
unfoldable pub init_given : List Bool → Line → Option Init
init_given given l = cond (ltb LINE (length l.bytes)) None (cond l.ended (beginning given (init_of l.bytes)) None)
