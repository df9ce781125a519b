-- Document 02's cases of packing and unpacking, said without the tests of SignatureAnswers.
--
--   Packs t b a      == packing the reads of t into the lent words b is answered a
--   Unpacks t ws b a == unpacking ws into the lent reads b is
use Rattle.std.specs.Prelude.{Result, Ok, Err, ◌≡◌, ◌≢◌, ◌⊎◌, List, ℕ, ◌<◌, ◌≤◌, length, get_or}
use Rattle.std.proofs.Math.Bool.{So}
use Rattle.trace.specs.Op.{reads}
use Rattle.trace.specs.Trace.{at}
use Rattle.trace.specs.FormFacts.{Form}
use Rattle.trace.specs.declared.Trace.{Trace}
use Rattle.signature.specs.Reads.{range_of, digit_of, loads, AllListed}
use Rattle.signature.specs.Signature.{tops}
use Rattle.signature.specs.SignatureAnswers.{read_in}
use Rattle.signature.specs.declared.Reason.{Reason}
use Rattle.signature.specs.declared.Reason.TheVariants.{NotWellFormed, WrongLength, NotListed, TooLarge}

-- the read of L is in its list
abbrev pub Lists : Trace → ℕ → Type 0
Lists t L = digit_of t L (read_in t L) < range_of t L

pub data Packs (t : Trace) (b : List ℕ) : Result (Unit {0}) Reason → Type 0 where
  ten : (Form t → ⊥) → Packs t b (Err NotWellFormed)
  wrong : Form t → length b ≢ length (tops t) → Packs t b (Err WrongLength)
  outside : (L : ℕ) → Form t → length b ≡ length (tops t) → L < t.len → So (reads (at t L)) → (Lists t L → ⊥) → ((j : ℕ) → j < L → So (reads (at t j)) → Lists t j) → Packs t b (Err (NotListed L))
  done : Form t → length b ≡ length (tops t) → AllListed t (read_in t) → Packs t b (Ok tt)

pub data Unpacks (t : Trace) (ws b : List ℕ) : Result (Unit {0}) Reason → Type 0 where
  ten : (Form t → ⊥) → Unpacks t ws b (Err NotWellFormed)
  wrong : Form t → (length ws ≢ length (tops t)) ⊎ (length b ≢ length (loads t)) → Unpacks t ws b (Err WrongLength)
  large : (k : ℕ) → Form t → length ws ≡ length (tops t) → length b ≡ length (loads t) → k < length ws → get_or (tops t) k 0 < get_or ws k 0 → ((j : ℕ) → j < k → get_or ws j 0 ≤ get_or (tops t) j 0) → Unpacks t ws b (Err (TooLarge k))
  done : Form t → length ws ≡ length (tops t) → length b ≡ length (loads t) → ((k : ℕ) → k < length ws → get_or ws k 0 ≤ get_or (tops t) k 0) → Unpacks t ws b (Ok tt)
