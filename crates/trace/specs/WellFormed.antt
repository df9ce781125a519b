-- When a trace is well formed. Reading a value that nobody wrote does not spoil it.
--
--   bounded o             == the numbers of o keep their bounds
--   written_before t n a v == one of the first n records writes v to address a
--   fresh t n o           == o writes neither its address's first value nor one that the first n records wrote there
--   follows t n o         == o may stand after the first n records
--   is_idle o              == o is what an unused place holds
--   well_formed t          == the trace is well formed
use Rattle.std.specs.Prelude.{Bool, not, ◌&&◌, ℕ, eqb, ltb, leb, length}
use Rattle.laws.specs.Tests.{◌⇒◌, all, any}
use Rattle.trace.specs.Bounds.{RECORDS, THREADS, ADDRESSES, VALUES}
use Rattle.trace.specs.Op.{thread, address, read, written, writes, fence, writes_to}
use Rattle.trace.specs.Trace.{at, first}
use Rattle.trace.specs.declared.Op.{Op}
use Rattle.trace.specs.declared.Trace.{Trace}

unfoldable pub bounded : Op → Bool
bounded o = ltb (thread o) THREADS && ltb (address o) ADDRESSES && ltb (read o) VALUES && ltb (written o) VALUES

unfoldable pub written_before : Trace → ℕ → ℕ → ℕ → Bool
written_before t n a v = any n (λ i. writes_to (at t i) a v)

unfoldable pub fresh : Trace → ℕ → Op → Bool
fresh t n o = writes o ⇒ (not (eqb (written o) (first t (address o))) && not (written_before t n (address o) (written o)))

unfoldable pub follows : Trace → ℕ → Op → Bool
follows t n o = bounded o && fresh t n o

unfoldable pub is_idle : Op → Bool
is_idle o = fence o && eqb (thread o) 0

-- the arrays have all their places; at most as many are used; each address begins with a value; each used one may stand where it does; the others are idle
unfoldable pub well_formed : Trace → Bool
well_formed t =
    eqb (length t.records) RECORDS
    && leb t.len RECORDS
    && eqb (length t.firsts) ADDRESSES
    && all ADDRESSES (λ a. ltb (first t a) VALUES)
    && all t.len (λ i. follows t i (at t i))
    && all RECORDS (λ i. leb t.len i ⇒ is_idle (at t i))
