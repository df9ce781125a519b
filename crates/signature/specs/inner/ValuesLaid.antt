-- What was written, laid by address. Only private functions promise this; proofs/ValuesLaid.antt says what it comes to.
--
--   writer_to t a i    == record i writes address a
--   written_by t a i   == what the first i records wrote to address a, by record number
--   written_below t a  == what all records wrote to the addresses below a, one address behind the other
--   own_place t j      == the place there of what record j wrote
--   LaidBefore t a i j == record j has an address below a, or it has a and is one of the first i
--   ValuesPut t a i of own n == n values are laid into of: those below a, and those that the first i records wrote to a. own has the place of what each of these
--                        writers wrote, and RECORDS for a record that does not write
--   ValuesLaid t a x == so it is with x for the addresses below a, and x has where each of them begins
--   AllValues t x    == and so for all addresses
use Rattle.std.specs.Prelude.{◌≡◌, ◌⊎◌, Bool, false, ◌&&◌, List, [], ◌++◌, ℕ, zero, suc, ◌+◌, ◌<◌, eqb, length, get_or, take}
use Rattle.std.proofs.Math.Bool.{So}
use Rattle.trace.specs.Bounds.{RECORDS, ADDRESSES}
use Rattle.trace.specs.Op.{address, written, writes}
use Rattle.trace.specs.Trace.{at}
use Rattle.trace.specs.declared.Trace.{Trace}
use Rattle.laws.specs.Picks.{picks}
use Rattle.signature.specs.Reads.{each}
use Rattle.signature.specs.declared.WrittenValues.{WrittenValues}

unfoldable pub writer_to : Trace → ℕ → ℕ → Bool
writer_to t a i = writes (at t i) && eqb (address (at t i)) a

abbrev pub written_by : Trace → ℕ → ℕ → List ℕ
written_by t a i = each (λ j. written (at t j)) (picks (writer_to t a) 0 i)

unfoldable pub written_below : Trace → ℕ → List ℕ
written_below t zero = []
written_below t (suc a) = written_below t a ++ written_by t a t.len

abbrev pub own_place : Trace → ℕ → ℕ
own_place t j = length (written_below t (address (at t j))) + length (written_by t (address (at t j)) j)

abbrev pub LaidBefore : Trace → ℕ → ℕ → ℕ → Type 0
LaidBefore t a i j = (address (at t j) < a) ⊎ ((address (at t j) ≡ a) × (j < i))

pub record ValuesPut (t : Trace) (a i : ℕ) (of own : List ℕ) (n : ℕ) : Type 0 where
  pub all : take n of ≡ written_below t a ++ written_by t a i
  pub counted : n ≡ length (written_below t a) + length (written_by t a i)
  pub long : length of ≡ RECORDS
  pub wide : length own ≡ RECORDS
  pub owns : (j : ℕ) → j < t.len → So (writes (at t j)) → LaidBefore t a i j → get_or own j 0 ≡ own_place t j
  pub nones : (j : ℕ) → j < t.len → writes (at t j) ≡ false → get_or own j 0 ≡ RECORDS

pub record ValuesLaid (t : Trace) (a : ℕ) (x : WrittenValues) : Type 0 where
  pub put : ValuesPut t a 0 x.of x.own x.count
  pub starts : (b : ℕ) → b < a → get_or x.start b 0 ≡ length (written_below t b)
  pub full : length x.start ≡ ADDRESSES

abbrev pub AllValues : Trace → WrittenValues → Type 0
AllValues t x = ValuesLaid t ADDRESSES x
