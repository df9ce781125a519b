-- What the tests of WellFormed say, as facts.
--
--   Bounded o         == each number of o keeps its bound
--   WritesThere o a v == o writes v to address a
--   Fresh t n o       == what o writes is neither its address's first value nor written there by one of the first n records
--   Follows t n o     == o may stand after the first n records
--   Form t            == the trace is well formed
use Rattle.std.specs.Prelude.{◌≡◌, ◌≢◌, ℕ, ◌<◌, ◌≤◌, length}
use Rattle.std.proofs.Math.Bool.{So}
use Rattle.trace.specs.Bounds.{RECORDS, THREADS, ADDRESSES, VALUES}
use Rattle.trace.specs.Op.{thread, address, read, written, writes}
use Rattle.trace.specs.Trace.{at, idle, first}
use Rattle.trace.specs.declared.Op.{Op}
use Rattle.trace.specs.declared.Trace.{Trace}

pub record Bounded (o : Op) : Type 0 where
  pub thread-below : thread o < THREADS
  pub address_below : address o < ADDRESSES
  pub read_below : read o < VALUES
  pub written_below : written o < VALUES

pub record WritesThere (o : Op) (a v : ℕ) : Type 0 where
  pub does : So (writes o)
  pub there : address o ≡ a
  pub value : written o ≡ v

pub record Fresh (t : Trace) (n : ℕ) (o : Op) : Type 0 where
  pub later : written o ≢ first t (address o)
  pub once : (j : ℕ) → j < n → WritesThere (at t j) (address o) (written o) → ⊥

pub record Follows (t : Trace) (n : ℕ) (o : Op) : Type 0 where
  pub keeps : Bounded o
  pub fresh : So (writes o) → Fresh t n o

-- the array has all its places; at most as many are used; each used one may stand where it does; the others are idle
pub record Form (t : Trace) : Type 0 where
  pub places : length t.records ≡ RECORDS
  pub fits : t.len ≤ RECORDS
  pub addresses : length t.firsts ≡ ADDRESSES
  pub begins : (a : ℕ) → a < ADDRESSES → first t a < VALUES
  pub used : (i : ℕ) → i < t.len → Follows t i (at t i)
  pub rest : (i : ℕ) → t.len ≤ i → i < RECORDS → at t i ≡ idle
