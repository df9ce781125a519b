-- The texts of a trace: init lines in some order, then its records.
--
--   Begin             == an init line's address and value
--   render_records rs == records one after another, each line ended
--   render_inits is   == the same of init lines
--   first_in is a     == the value that the init lines give address a; 0 where none of them does
--   Apart is          == the init lines are of addresses within the bound, no two of one
--   records_of t      == the used records of a trace
--   TextOf t text     == the text is the trace's: init lines that say its first values, then its records
--   inits_of t        == the first values other than 0, addresses rising
--   render_trace t    == the text of a trace with those init lines
use Rattle.std.specs.Prelude.{◌≡◌, ◌≢◌, cond, List, [], ◌∷◌, ◌++◌, ℕ, zero, suc, ◌<◌, eqb, take}
use Prim.{Unit}
use Rattle.trace.specs.Bounds.{ADDRESSES}
use Rattle.trace.specs.Trace.{first}
use Rattle.trace.specs.declared.Record.{Record}
use Rattle.trace.specs.declared.Trace.{Trace}
use Rattle.text.specs.Bounds.{FEED}
use Rattle.reader.specs.LineForms.{render_init, render_op}

pub record Begin : Type 0 where
  pub address : ℕ
  pub value : ℕ

unfoldable pub render_records : List Record → List ℕ
render_records [] = []
render_records (r ∷ rs) = render_op r.op ++ FEED ∷ render_records rs

unfoldable pub render_inits : List Begin → List ℕ
render_inits [] = []
render_inits (i ∷ is) = render_init i.address i.value ++ FEED ∷ render_inits is

unfoldable pub first_in : List Begin → ℕ → ℕ
first_in [] a = 0
first_in (i ∷ is) a = cond (eqb a i.address) i.value (first_in is a)

-- no init line is of address a
abbrev pub Without : List Begin → ℕ → Type 0
Without [] a = Unit {0}
Without (i ∷ is) a = (a ≢ i.address) × Without is a

abbrev pub Apart : List Begin → Type 0
Apart [] = Unit {0}
Apart (i ∷ is) = (i.address < ADDRESSES) × Without is i.address × Apart is

abbrev pub records_of : Trace → List Record
records_of t = take t.len t.records

pub record TextOf (t : Trace) (text : List ℕ) : Type 0 where
  pub inits : List Begin
  pub apart : Apart inits
  pub firsts : (a : ℕ) → a < ADDRESSES → first_in inits a ≡ first t a
  pub whole : text ≡ render_inits inits ++ render_records (records_of t)

-- of k addresses from a on
unfoldable pub inits_from : Trace → ℕ → ℕ → List Begin
inits_from t a zero = []
inits_from t a (suc k) = cond (eqb (first t a) 0) (inits_from t (suc a) k) (record { address = a; value = first t a } ∷ inits_from t (suc a) k)

abbrev pub inits_of : Trace → List Begin
inits_of t = inits_from t 0 ADDRESSES

abbrev pub render_trace : Trace → List ℕ
render_trace t = render_inits (inits_of t) ++ render_records (records_of t)
