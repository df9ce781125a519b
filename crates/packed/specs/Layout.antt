-- The file of a trace, little endian.
--
--   BYTE          == how many numbers a byte can be
--   VERSION       == the version of the layout
--   HEAD          == how many bytes stand before the entries: mark, version, number of first values, number of records
--   FIRST         == how many bytes a first value has: its address, and the value in two
--   RECORD        == how many bytes a record has
--   MARK          == the three letters that a file begins with, PYR
--   two n         == a number in two bytes, the lower first
--   two_in b i    == the number that two bytes make from place i on
--   kind_byte o   == the number of a record's kind
--   record_of o   == a record: kind, thread, address, 0, value read, value written; what it does not carry is 0
--   first_entry a v == the first value of an address: address, value; nothing where it is 0
--   firsts_of a vs == the first values other than 0, vs being those of address a and up, addresses rising
--   many vs       == how many those are
--   record_bytes rs == records, one behind the other
--   file_head c n == what stands before the entries of c first values and n records
--   size_of c n   == how many bytes a file with c first values and n records has
--   file_of t     == the file of a trace
use Rattle.std.specs.Prelude.{cond, List, [], ◌∷◌, ◌++◌, ℕ, suc, ◌+◌, ◌*◌, ◌/◌, ◌%◌, eqb, get_or, take}
use Rattle.trace.specs.Op.{thread, address, read, written}
use Rattle.trace.specs.declared.Op.{Op}
use Rattle.trace.specs.declared.Op.TheVariants.{Load, Store, Swap, Fence}
use Rattle.trace.specs.declared.Record.{Record}
use Rattle.trace.specs.declared.Trace.{Trace}

abbrev pub BYTE : ℕ
BYTE = 256

abbrev pub VERSION : ℕ
VERSION = 1

abbrev pub HEAD : ℕ
HEAD = 8

abbrev pub FIRST : ℕ
FIRST = 3

abbrev pub RECORD : ℕ
RECORD = 8

abbrev pub MARK : List ℕ
MARK = 0x50 ∷ 0x59 ∷ 0x52 ∷ []

abbrev pub two : ℕ → List ℕ
two n = n % BYTE ∷ n / BYTE ∷ []

abbrev pub two_in : List ℕ → ℕ → ℕ
two_in b i = get_or b i 0 + BYTE * get_or b (i + 1) 0

abbrev pub kind_byte : Op → ℕ
kind_byte (Load t a r) = 0
kind_byte (Store t a w) = 1
kind_byte (Swap t a r w) = 2
kind_byte (Fence t) = 3

abbrev pub record_of : Op → List ℕ
record_of o = kind_byte o ∷ thread o ∷ address o ∷ 0 ∷ two (read o) ++ two (written o)

unfoldable pub first_entry : ℕ → ℕ → List ℕ
first_entry a v = cond (eqb v 0) [] (a ∷ two v)

unfoldable pub firsts_of : ℕ → List ℕ → List ℕ
firsts_of a [] = []
firsts_of a (v ∷ vs) = first_entry a v ++ firsts_of (suc a) vs

unfoldable pub many : List ℕ → ℕ
many [] = 0
many (v ∷ vs) = cond (eqb v 0) (many vs) (suc (many vs))

unfoldable pub record_bytes : List Record → List ℕ
record_bytes [] = []
record_bytes (r ∷ rs) = record_of r.op ++ record_bytes rs

abbrev pub size_of : ℕ → ℕ → ℕ
size_of c n = HEAD + FIRST * c + RECORD * n

abbrev pub file_head : ℕ → ℕ → List ℕ
file_head c n = MARK ++ two VERSION ++ (c ∷ two n)

unfoldable pub file_of : Trace → List ℕ
file_of t = file_head (many t.firsts) t.len ++ (firsts_of 0 t.firsts ++ record_bytes (take t.len t.records))
