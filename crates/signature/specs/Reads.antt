-- What the loads and swaps of a test program may have read. A test program is a trace whose recorded reads are not looked at; the reads are a
-- value for each record (a record that does not read has none).
--
--   other t L i    == record i writes L's address and is not L
--   each g is      == g of each
--   values t L     == what L may have read, by digit: the first value, then what the writers of its address wrote, by record number
--   range_of t L    == how many those are
--   digit_of t L v  == the digit of a value; range_of t L where it is none of them
--   value_of t L d  == the value of a digit; 0 past the last one
--   reader t τ L   == L is a load or swap of thread τ
--   readers t τ    == those in program order
--   loads t        == all loads and swaps by record number
--   AllListed t v  == each read is in its list
--   unlisted t v L == that of L is not
use Rattle.std.specs.Prelude.{Bool, not, ◌&&◌, List, [], ◌∷◌, ℕ, ◌<◌, eqb, length, get_or}
use Rattle.std.proofs.Math.Bool.{So}
use Rattle.laws.specs.Picks.{picks}
use Rattle.laws.specs.Places.{pos}
use Rattle.trace.specs.Op.{thread, address, written, reads, writes}
use Rattle.trace.specs.Trace.{at, first}
use Rattle.trace.specs.declared.Trace.{Trace}

unfoldable pub other : Trace → ℕ → ℕ → Bool
other t L i = writes (at t i) && eqb (address (at t i)) (address (at t L)) && not (eqb i L)

unfoldable pub each : (ℕ → ℕ) → List ℕ → List ℕ
each g [] = []
each g (i ∷ is) = g i ∷ each g is

unfoldable pub values : Trace → ℕ → List ℕ
values t L = first t (address (at t L)) ∷ each (λ i. written (at t i)) (picks (other t L) 0 t.len)

abbrev pub range_of : Trace → ℕ → ℕ
range_of t L = length (values t L)

abbrev pub digit_of : Trace → ℕ → ℕ → ℕ
digit_of t L v = pos (values t L) v

abbrev pub value_of : Trace → ℕ → ℕ → ℕ
value_of t L d = get_or (values t L) d 0

unfoldable pub reader : Trace → ℕ → ℕ → Bool
reader t τ L = reads (at t L) && eqb (thread (at t L)) τ

unfoldable pub readers : Trace → ℕ → List ℕ
readers t τ = picks (reader t τ) 0 t.len

unfoldable pub loads : Trace → List ℕ
loads t = picks (λ L. reads (at t L)) 0 t.len

abbrev pub AllListed : Trace → (ℕ → ℕ) → Type 0
AllListed t v = (L : ℕ) → L < t.len → So (reads (at t L)) → digit_of t L (v L) < range_of t L

unfoldable pub unlisted : Trace → (ℕ → ℕ) → ℕ → Bool
unlisted t v L = reads (at t L) && eqb (digit_of t L (v L)) (range_of t L)
