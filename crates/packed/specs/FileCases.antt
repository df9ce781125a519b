-- Document 02's cases of a file that is turned back, said without the reader's tests and walks.
--
--   Marked b       == the file has the mark, and is long enough for mark and version
--   firsts_in b, records_in b == how many first values and records its head says
--   Framed b       == mark, version, length and number of records are as they should be
--   address_at b i, value_at b i == the address and the value of first value i
--   low_at b i     == the lowest address that it may have: above the one before
--   NoFirst b i    == it is none: a value 0, or an address that is not above the one before
--   GoodFirst b i  == it is one, and its address keeps its bound
--   values_at b k  == the first values after the first k of them
--   entry_at b k   == the record that record k's bytes are, if any
--   TookFile b k t == all first values and the first k records are good, and give the trace t
--   BackFile b reason line == the file is turned back for a reason, with a line
--   BackWhole b reason line == the same, held to lost cores too: where every record is good, and a core is lost
use Rattle.std.specs.Prelude.{Option, Some, None, Err, ◌≡◌, ◌≢◌, ◌⊎◌, List, ℕ, zero, suc, ◌+◌, ◌*◌, ◌<◌, ◌≤◌, length, get_or, set, drop, replicate}
use Rattle.std.proofs.Math.Bool.{So}
use Rattle.trace.specs.Bounds.{RECORDS, ADDRESSES}
use Rattle.trace.specs.Trace.{pushed}
use Rattle.trace.specs.Fault.{Earns}
use Rattle.trace.specs.WellFormed.{well_formed}
use Rattle.trace.specs.Cores.{Whole}
use Rattle.trace.specs.declared.Op.{Op}
use Rattle.trace.specs.declared.Trace.{Trace}
use Rattle.trace.specs.declared.Fault.{Fault}
use Rattle.packed.specs.Layout.{VERSION, HEAD, FIRST, RECORD, two_in, size_of, file_of}
use Rattle.packed.specs.Entry.{entry_in}
use Rattle.packed.specs.FileRead.{entry_turn, begun_file}
use Rattle.packed.specs.declared.Reason.{Reason}
use Rattle.packed.specs.declared.Reason.TheVariants.{PastBound, TooMany, NoFile, OtherVersion, NoEntry, Lost}

abbrev pub Marked : List ℕ → Type 0
Marked b = (5 ≤ length b) × (get_or b 0 0 ≡ 0x50) × (get_or b 1 0 ≡ 0x59) × (get_or b 2 0 ≡ 0x52)

abbrev pub firsts_in : List ℕ → ℕ
firsts_in b = get_or b 5 0

abbrev pub records_in : List ℕ → ℕ
records_in b = two_in b 6

pub record Framed (b : List ℕ) : Type 0 where
  pub mark : Marked b
  pub version : two_in b 3 ≡ VERSION
  pub size : length b ≡ size_of (firsts_in b) (records_in b)
  pub fits : records_in b ≤ RECORDS

abbrev pub address_at : List ℕ → ℕ → ℕ
address_at b i = get_or b (HEAD + FIRST * i) 0

abbrev pub value_at : List ℕ → ℕ → ℕ
value_at b i = two_in b (HEAD + FIRST * i + 1)

unfoldable pub low_at : List ℕ → ℕ → ℕ
low_at b zero = 0
low_at b (suc i) = address_at b i + 1

abbrev pub NoFirst : List ℕ → ℕ → Type 0
NoFirst b i = (value_at b i ≡ 0) ⊎ (address_at b i < low_at b i)

abbrev pub GoodFirst : List ℕ → ℕ → Type 0
GoodFirst b i = (NoFirst b i → ⊥) × (address_at b i < ADDRESSES)

unfoldable pub values_at : List ℕ → ℕ → List ℕ
values_at b zero = replicate ADDRESSES 0
values_at b (suc i) = set (values_at b i) (address_at b i) (value_at b i)

abbrev pub entry_at : List ℕ → ℕ → Option Op
entry_at b k = entry_in (drop (HEAD + FIRST * firsts_in b + RECORD * k) b)

pub data TookFile (b : List ℕ) : ℕ → Trace → Type 0 where
  none : ((i : ℕ) → i < firsts_in b → GoodFirst b i) → TookFile b 0 (begun_file (values_at b (firsts_in b)))
  next : {k : ℕ} {t : Trace} (o : Op) → TookFile b k t → entry_at b k ≡ Some o → Earns None t o → TookFile b (suc k) (pushed t o)

-- in the order that document 02 gives; of the entries the first bad one from the top, in it 20 before 4, 6 and 8
pub data BackFile (b : List ℕ) : Reason → ℕ → Type 0 where
  unmarked : (Marked b → ⊥) → BackFile b NoFile 0
  version : Marked b → two_in b 3 ≢ VERSION → BackFile b OtherVersion 0
  size : Marked b → two_in b 3 ≡ VERSION → length b ≢ size_of (firsts_in b) (records_in b) → BackFile b NoFile 0
  many : Marked b → two_in b 3 ≡ VERSION → length b ≡ size_of (firsts_in b) (records_in b) → RECORDS < records_in b → BackFile b TooMany (RECORDS + 1)
  no_first : (i : ℕ) → Framed b → i < firsts_in b → ((j : ℕ) → j < i → GoodFirst b j) → NoFirst b i → BackFile b NoEntry 0
  past_first : (i : ℕ) → Framed b → i < firsts_in b → ((j : ℕ) → j < i → GoodFirst b j) → (NoFirst b i → ⊥) → ADDRESSES ≤ address_at b i → BackFile b PastBound 0
  no_record : (k : ℕ) (t : Trace) → Framed b → k < records_in b → TookFile b k t → entry_at b k ≡ None → BackFile b NoEntry (k + 1)
  bad_record : (k : ℕ) (t : Trace) (o : Op) (f : Option Fault) {reason : Reason} → Framed b → k < records_in b → TookFile b k t → entry_at b k ≡ Some o → Earns f t o → entry_turn o f ≡ Err reason → BackFile b reason (k + 1)

-- 22 comes last, outside a record: the file is that of a well formed trace, in which a thread appears and a lower one does not
pub data BackWhole (b : List ℕ) : Reason → ℕ → Type 0 where
  before : {reason : Reason} {line : ℕ} → BackFile b reason line → BackWhole b reason line
  skipped : (t : Trace) → So (well_formed t) → b ≡ file_of t → (Whole t → ⊥) → BackWhole b Lost 0
