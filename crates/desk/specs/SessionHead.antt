-- The bytes of a session: its head, then its trace's packed file.
--
--   Fit s          == the session's trace and model open one, and its pairs stand on it, so that each part fits its bytes
--   FRONT          == how many bytes stand before the table: the model, the count, two for each number of the pairs, and whether it is contradicted
--   TABLE          == how many bytes the held table has: a bit for any two records
--   SESSION-HEAD   == how many bytes a head has
--   pair_number k j == number j of the pairs: of each its first record, then its second
--   pair_byte k i   == byte i of the pairs: of each number the lower byte, then the upper
--   front_at s i    == byte i of the front
--   byte_of w j     == byte j of a word, counted from the lowest
--   table_at held i == byte i of the table: the words of its rows in turn, the lowest byte of each first
--   session_head s  == the head of a session
--   session_bytes s == the bytes of a session
use Rattle.std.proofs.Math.Bool.{So}
use Rattle.std.specs.Prelude.{cond, List, ◌++◌, ℕ, ◌+◌, ◌*◌, ◌-◌, ◌/◌, ◌%◌, ◌^◌, eqb, ltb, get_or}
use Rattle.laws.specs.Sums.{num}
use Rattle.laws.specs.ListOf.{row}
use Rattle.trace.specs.Bounds.{RECORDS}
use Rattle.packed.specs.Layout.{file_of}
use Rattle.session.specs.Bounds.{PAIRS}
use Rattle.session.specs.Stack.{pair_at, Stands}
use Rattle.session.specs.Opening.{openable}
use Rattle.session.specs.declared.Stack.{Stack}
use Rattle.session.specs.declared.Session.{Session}
use Rattle.packed.specs.Layout.{BYTE}

abbrev pub Fit : Session → Type 0
Fit s = So (openable s.trace s.model) × Stands s.trace s.stack

abbrev pub FRONT : ℕ
FRONT = 2 + 4 * PAIRS + 1

abbrev pub TABLE : ℕ
TABLE = RECORDS * RECORDS / 8

abbrev pub SESSION-HEAD : ℕ
SESSION-HEAD = FRONT + TABLE

unfoldable pub pair_number : Stack → ℕ → ℕ
pair_number k j = cond (eqb (j % 2) 0) (pair_at k (j / 2)).first (pair_at k (j / 2)).second

unfoldable pub pair_byte : Stack → ℕ → ℕ
pair_byte k i = cond (eqb (i % 2) 0) (pair_number k (i / 2) % BYTE) (pair_number k (i / 2) / BYTE)

unfoldable pub front_at : Session → ℕ → ℕ
front_at s i =
    cond (eqb i 0) s.model
    (cond (eqb i 1) s.stack.count
    (cond (ltb i (2 + 4 * PAIRS)) (pair_byte s.stack (i - 2))
    (num s.contradicted)))

unfoldable pub byte_of : ℕ → ℕ → ℕ
byte_of w j = w / 2 ^ (8 * j) % BYTE

unfoldable pub table_at : List ℕ → ℕ → ℕ
table_at held i = byte_of (get_or held (i / 8) 0) (i % 8)

unfoldable pub session_head : Session → List ℕ
session_head s = row (front_at s) 0 FRONT ++ row (table_at s.held) 0 TABLE

abbrev pub session_bytes : Session → List ℕ
session_bytes s = session_head s ++ file_of s.trace
