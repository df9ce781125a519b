-- A trace as a value.
--
--   at t i        == what stands at place i
--   idle          == what an unused place holds: a fence of thread 0
--   empty         == the trace of no records whose addresses begin at 0
--   started t a v == the trace with v as the first value of address a; past the last address it stays as it is
--   pushed t o    == the trace with one record more; a full trace stays as it is
--   up_to t k      == the trace of the first k records of t
--   first t a     == the value that address a begins with
use Rattle.std.specs.Prelude.{cond, ◌++◌, ℕ, ◌+◌, ◌-◌, ltb, get_or, set, take, replicate}
use Rattle.trace.specs.Bounds.{RECORDS, ADDRESSES}
use Rattle.trace.specs.declared.Op.{Op}
use Rattle.trace.specs.declared.Op.TheVariants.{Load, Fence}
use Rattle.trace.specs.declared.Trace.{Trace}

-- past the array's end the language has the first variant at zeros
abbrev pub at : Trace → ℕ → Op
at t i = (get_or t.records i (record { op = Load 0 0 0 })).op

abbrev pub idle : Op
idle = Fence 0

abbrev pub empty : Trace
empty = record { records = replicate RECORDS (record { op = idle }); len = 0; firsts = replicate ADDRESSES 0 }

unfoldable pub started : Trace → ℕ → ℕ → Trace
started t a v = record { records = t.records; len = t.len; firsts = set t.firsts a v }

unfoldable pub pushed : Trace → Op → Trace
pushed t o = cond (ltb t.len RECORDS) (record { records = set t.records t.len (record { op = o }); len = t.len + 1; firsts = t.firsts }) t

unfoldable pub up_to : Trace → ℕ → Trace
up_to t k = record { records = take k t.records ++ replicate (RECORDS - k) (record { op = idle }); len = k; firsts = t.firsts }

-- past the last address it is 0
unfoldable pub first : Trace → ℕ → ℕ
first t a = get_or t.firsts a 0
