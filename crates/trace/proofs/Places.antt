-- What stands at the places of a trace.
--
--   at-past                                                         == past the array's end stands a load, which writes nothing
--   same-trace                                                      == traces that agree in length, first values and at every place are one
--   empty-rest                                                      == every place of the empty trace is idle
--   pushed_room, pushed-len, pushed-firsts, pushed-places, pushed-last, pushed-other == what pushed gives where there is room, its length, first values and places
--   started-first, started-other                                    == the first values of a trace that was given another
--   up_to-places, up_to-used, up_to-rest                               == the places of the first k records
use mathlib.Core.Path.{◌≡◌, ap, ap₂, sym, ◌∙◌}
use mathlib.Core.Logic.{◌≢◌}
use mathlib.Core.List.{List}
use Prim.Native.Nat.{ℕ, ◌+◌, ◌-◌, ◌<◌, ◌≤◌}
use native.Mathlib.Omega.{arith}
use borrow.Author.Tests.{lt-ltb}
use lib.ListN.{length, take, set, replicate, length-append, length-set, length-replicate, get_or-replicate, get_or-eq_default, get_or-append}
use lib.Seq.{length-take-le, get_or-append-add, get_or-set_same, get_or-set_other, get_or-take, ext_get_or}
use Rattle.trace.specs.Bounds.{RECORDS, ADDRESSES}
use Rattle.trace.specs.Trace.{at, idle, empty, started, pushed, up_to, first}
use Rattle.trace.specs.declared.Op.{Op}
use Rattle.trace.specs.declared.Op.TheVariants.{Load}
use Rattle.trace.specs.declared.Record.{Record}
use Rattle.trace.specs.declared.Trace.{Trace}

abbrev op : Record → Op
op r = r.op

abbrev place : Op → Record
place o = record { op = o }

-- what `at` gives past the array's end
abbrev past : Record
past = place (Load 0 0 0)

pub at-past : (t : Trace) → length t.records ≡ RECORDS → (i : ℕ) → RECORDS ≤ i → at t i ≡ Load 0 0 0
at-past t full i h = ap op (get_or-eq_default t.records past {n = i} (omega arith))

pub same-trace : (t u : Trace) → t.len ≡ u.len → t.firsts ≡ u.firsts → length t.records ≡ RECORDS → length u.records ≡ RECORDS → ((i : ℕ) → i < RECORDS → at t i ≡ at u i) → t ≡ u
same-trace t u n e l m h =
    ap₂ (λ (r : List Record) (k : ℕ). record { records = r; len = k; firsts = t.firsts })
    (ext_get_or past t.records u.records (l ∙ sym m) (λ i b. ap place (h i (omega arith))))
    n
    ∙ ap (λ (v : List ℕ). record { records = u.records; len = u.len; firsts = v }) e

pub empty-rest : (i : ℕ) → i < RECORDS → at empty i ≡ idle
empty-rest i h = ap op (get_or-replicate RECORDS i (place idle) past h)

module _ (t : Trace) (a v : ℕ) where
  pub started-first : length t.firsts ≡ ADDRESSES → a < ADDRESSES → first (started t a v) a ≡ v
  unfolding started first
  started-first full h = get_or-set_same t.firsts a v 0 (omega arith)

  pub started-other : (b : ℕ) → b ≢ a → first (started t a v) b ≡ first t b
  unfolding started first
  started-other b d = get_or-set_other t.firsts a b v 0 d

module _ (t : Trace) (o : Op) (room : t.len < RECORDS) where
  pub pushed_room : pushed t o ≡ record { records = set t.records t.len (place o); len = t.len + 1; firsts = t.firsts }
  unfolding pushed
  pushed_room = simp (lt-ltb t.len RECORDS room)

  pub pushed-len : (pushed t o).len ≡ t.len + 1
  pushed-len = rw pushed_room

  pub pushed-firsts : (pushed t o).firsts ≡ t.firsts
  pushed-firsts = rw pushed_room

  pub pushed-places : length (pushed t o).records ≡ length t.records
  pushed-places = rw pushed_room (length-set t.records t.len (place o))

  pub pushed-last : length t.records ≡ RECORDS → at (pushed t o) t.len ≡ o
  pushed-last full = rw pushed_room (ap op (get_or-set_same t.records t.len (place o) past (omega arith)))

  pub pushed-other : (i : ℕ) → i ≢ t.len → at (pushed t o) i ≡ at t i
  pushed-other i d = rw pushed_room (ap op (get_or-set_other t.records t.len i (place o) past d))

module _ (t : Trace) (full : length t.records ≡ RECORDS) (k : ℕ) (h : k ≤ RECORDS) where
  front : length (take k t.records) ≡ k
  front = length-take-le k t.records (omega arith)

  pub up_to-places : length (up_to t k).records ≡ RECORDS
  unfolding up_to
  up_to-places = rw (length-append, front, length-replicate) (omega arith)

  pub up_to-used : (i : ℕ) → i < k → at (up_to t k) i ≡ at t i
  unfolding up_to
  up_to-used i l =
      ap op (get_or-append (take k t.records) (replicate (RECORDS - k) (place idle)) past i (rw front l) ∙ get_or-take k t.records i past l)

  pub up_to-rest : (i : ℕ) → k ≤ i → i < RECORDS → at (up_to t k) i ≡ idle
  unfolding up_to
  up_to-rest i l b =
      let e : i ≡ length (take k t.records) + (i - k) = rw front (omega arith) in
      rw e
      (ap op (get_or-append-add (take k t.records) (replicate (RECORDS - k) (place idle)) (i - k) past ∙ get_or-replicate (RECORDS - k) (i - k) (place idle) past (omega arith)))
