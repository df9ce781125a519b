-- The documents' table of what the desk turns back, its numbers 1 to 8 and 17, said without the reader's tests and walks.
--
--   Renders l P          == the line is the rendering of a raw record of which P holds
--   Begins l P           == the line is an init line of whose address and value P holds
--   Past raw             == its thread, an address or a value is past its bound
--   PastInit a v         == the address or the value of an init line is past its bound
--   TwoAddresses raw     == a swap whose two addresses differ
--   Above                == what the lines above a line left: which addresses have an init line, and the trace so far
--   top                  == above the first line: none has, and the trace is empty
--   with_init s a v      == with one init line more
--   grown s o            == with one record more
--   LateInit s a v       == a record stands above, or an init line of this address
--   Case reason s l      == the case of a reason's number: the line l, behind s
--   NoLower reason s l   == no lower number's case holds
--   LowestCase reason s l == the case holds, and no lower number's
--   Free s l             == no case holds
--   Clean s l o          == no case holds, and the line is that of the record o
--   CleanInit s l a v    == no case holds, and the line is the init line of address a and value v
--   Took s ls u          == the lines ls are clean one after another behind s, and leave u
--   ReachesLine n s ls m P == of the lines ls, the first of which is line n, all above line m are clean behind s, and P holds of what they leave and line m
--   AtLine text m P      == the same of a text that is not too long
--   Back text m reason   == the text is turned back for a reason at line m
use Rattle.std.specs.Prelude.{◌≡◌, ◌≢◌, ◌⊎◌, Bool, true, false, List, [], ◌∷◌, ◌++◌, ℕ, ◌+◌, ◌≤◌, ◌<◌, length, get_or, set}
use Rattle.std.proofs.Math.Bool.{So}
use Rattle.trace.specs.Bounds.{RECORDS, THREADS, ADDRESSES, VALUES}
use Rattle.trace.specs.Trace.{empty, started, pushed}
use Rattle.trace.specs.Fault.{WritesFirst, WritesAgain}
use Rattle.trace.specs.declared.Op.{Op}
use Rattle.trace.specs.declared.Trace.{Trace}
use Rattle.reader.specs.Bounds.{TEXT, LINE}
use Rattle.text.specs.Lines.{Line, lines}
use Rattle.reader.specs.LineForms.{render, render_init, render_op}
use Rattle.reader.specs.Answer.{number_of, op_of}
use Rattle.reader.specs.Read.{none}
use Rattle.reader.specs.declared.Raw.{Raw}
use Rattle.reader.specs.declared.Raw.TheVariants.{Load, Store, Swap, Fence}
use Rattle.reader.specs.declared.Reason.{Reason}
use Rattle.reader.specs.declared.Reason.TheVariants.{LongText, LongLine, NoForm, PastBound, Addresses, FirstValue, TooMany, Twice, Late}

abbrev pub Renders : Line → (Raw → Type 0) → Type 0
Renders l P = (raw : Raw) × (l.bytes ≡ render raw) × P raw

abbrev pub Begins : Line → (ℕ → ℕ → Type 0) → Type 0
Begins l P = (a : ℕ) × (v : ℕ) × (l.bytes ≡ render_init a v) × P a v

abbrev pub Past : Raw → Type 0
Past (Load t a r) = ((THREADS ≤ t) ⊎ (ADDRESSES ≤ a)) ⊎ (VALUES ≤ r)
Past (Store t a w) = ((THREADS ≤ t) ⊎ (ADDRESSES ≤ a)) ⊎ (VALUES ≤ w)
Past (Swap t a r b w) = ((((THREADS ≤ t) ⊎ (ADDRESSES ≤ a)) ⊎ (VALUES ≤ r)) ⊎ (ADDRESSES ≤ b)) ⊎ (VALUES ≤ w)
Past (Fence t) = THREADS ≤ t

abbrev pub PastInit : ℕ → ℕ → Type 0
PastInit a v = (ADDRESSES ≤ a) ⊎ (VALUES ≤ v)

abbrev pub TwoAddresses : Raw → Type 0
TwoAddresses (Load t a r) = ⊥
TwoAddresses (Store t a w) = ⊥
TwoAddresses (Swap t a r b w) = a ≢ b
TwoAddresses (Fence t) = ⊥

-- what the lines above a line left: which addresses have a first value of theirs, and the trace
pub record Above : Type 0 where
  pub given : List Bool
  pub trace : Trace

abbrev pub top : Above
top = record { given = none; trace = empty }

abbrev pub with_init : Above → ℕ → ℕ → Above
with_init s a v = record { given = set s.given a true; trace = started s.trace a v }

abbrev pub grown : Above → Op → Above
grown s o = record { given = s.given; trace = pushed s.trace o }

-- an init line behind a record, or a second one of its address
abbrev pub LateInit : Above → ℕ → ℕ → Type 0
LateInit s a v = (0 < s.trace.len) ⊎ So (get_or s.given a false)

-- a text that is too long is no matter of a line
abbrev pub Case : Reason → Above → Line → Type 0
Case LongText s l = ⊥
Case LongLine s l = LINE < length l.bytes
Case NoForm s l = (l.ended ≡ false) ⊎ (((raw : Raw) → l.bytes ≡ render raw → ⊥) × ((a v : ℕ) → l.bytes ≡ render_init a v → ⊥))
Case PastBound s l = Renders l Past ⊎ Begins l PastInit
Case Addresses s l = Renders l TwoAddresses
Case FirstValue s l = Renders l (λ raw. WritesFirst s.trace (op_of raw))
Case TooMany s l = Renders l (λ raw. RECORDS ≤ s.trace.len)
Case Twice s l = Renders l (λ raw. WritesAgain s.trace (op_of raw))
Case Late s l = Begins l (LateInit s)

abbrev pub NoLower : Reason → Above → Line → Type 0
NoLower reason s l = (other : Reason) → number_of other < number_of reason → Case other s l → ⊥

abbrev pub LowestCase : Reason → Above → Line → Type 0
LowestCase reason s l = Case reason s l × NoLower reason s l

abbrev pub Free : Above → Line → Type 0
Free s l = (reason : Reason) → Case reason s l → ⊥

abbrev pub Clean : Above → Line → Op → Type 0
Clean s l o = Free s l × (l.bytes ≡ render_op o)

abbrev pub CleanInit : Above → Line → ℕ → ℕ → Type 0
CleanInit s l a v = Free s l × (l.bytes ≡ render_init a v)

pub data Took : Above → List Line → Above → Type 0 where
  nothing : {s : Above} → Took s [] s
  begin : {s u : Above} {l : Line} {ls : List Line} (a v : ℕ) → CleanInit s l a v → Took (with_init s a v) ls u → Took s (l ∷ ls) u
  next : {s u : Above} {l : Line} {ls : List Line} (o : Op) → Clean s l o → Took (grown s o) ls u → Took s (l ∷ ls) u

pub record ReachesLine (n : ℕ) (s : Above) (ls : List Line) (m : ℕ) (P : Above → Line → Type 0) : Type 0 where
  pub before : List Line
  pub line : Line
  pub after : List Line
  pub above : Above
  pub all : ls ≡ before ++ line ∷ after
  pub place : m ≡ n + length before
  pub took : Took s before above
  pub holds : P above line

-- lines count from 1
abbrev pub AtLine : List ℕ → ℕ → (Above → Line → Type 0) → Type 0
AtLine text m P = (length text ≤ TEXT) × ReachesLine 1 top (lines text) m P

-- number 1 comes first, with line 0; then the first line that is not clean, with the lowest number that applies
pub data Back (text : List ℕ) (m : ℕ) : Reason → Type 0 where
  long : TEXT < length text → m ≡ 0 → Back text m LongText
  line : {reason : Reason} → AtLine text m (LowestCase reason) → Back text m reason
