-- The bounds of document 01. A law about a trace names them; no proof writes their numbers.
--
--   RECORDS   == how many records a trace holds at the most
--   THREADS   == threads are numbered below this
--   ADDRESSES == addresses are numbered below this
--   VALUES    == values are below this
use Rattle.std.specs.Prelude.{ℕ}

abbrev pub RECORDS : ℕ
RECORDS = 256

abbrev pub THREADS : ℕ
THREADS = 8

abbrev pub ADDRESSES : ℕ
ADDRESSES = 16

abbrev pub VALUES : ℕ
VALUES = 65536
