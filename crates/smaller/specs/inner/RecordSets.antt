-- Sets of records and what goes with a record, as the code holds them.
--
--   Chosen rows x     == x is in the set: a row of bits, the only one
--   ReaderChains f rows == row i of the rows has whoever reads from i, from what reads from it, and so on
--   without_record t k i == the set without record i and what goes with it
--   TriedRecord t m i k l == the set l is k after one look at record i: it goes where it is there and the fault is still there without it
--   LeftOver t m l    == the set l is what is left of the trace
--   NoOrder t m       == the trace has no valid order under the model
--   NO_FAULT          == the number that says that nothing is wrong; how else a trace is faulty no promise asks
--   FaultTold t m r   == the number r says whether the trace has no valid order
use Rattle.std.specs.Prelude.{◌≡◌, ◌↔◌, List, ℕ, ◌<◌, length}
use Rattle.std.proofs.Math.Bool.{So}
use Rattle.laws.specs.Relation.{Chain}
use Rattle.rules.specs.Frame.{Frame, Source}
use Rattle.rules.specs.Order.{Valid}
use Rattle.trace.specs.Meaning.{frame_of}
use Rattle.trace.specs.declared.Trace.{Trace}
use Rattle.rows.specs.Bounds.{WORDS}
use Rattle.rows.specs.Rows.{bit}
use Rattle.pairs.specs.Kept.{kept_of}
use Rattle.parts.specs.Removal.{Set}
use Rattle.parts.specs.inner.RemovalTests.{goes?, cut_away}
use Rattle.parts.specs.CutDown.{Faulty, Left}

abbrev pub Chosen : List ℕ → Set
Chosen rows x = bit rows 0 x

pub record ReaderChains (f : Frame) (rows : List ℕ) : Type 0 where
  pub goes : (i x : ℕ) → So (bit rows i x) ↔ Chain (Source f) i x

abbrev pub without_record : Trace → List ℕ → ℕ → Set
without_record t k i = cut_away (goes? (frame_of t)) (Chosen k) i

pub record TriedRecord (t : Trace) (m i : ℕ) (k l : List ℕ) : Type 0 where
  pub long : length l ≡ WORDS
  pub goes : So (Chosen k i) → Faulty t m (without_record t k i) → (x : ℕ) → x < t.len → Chosen l x ≡ without_record t k i x
  pub stays : (So (Chosen k i) → Faulty t m (without_record t k i) → ⊥) → (x : ℕ) → x < t.len → Chosen l x ≡ Chosen k x

pub record LeftOver (t : Trace) (m : ℕ) (l : List ℕ) : Type 0 where
  pub kept : Set
  pub left : Left t m kept
  pub same : (x : ℕ) → x < t.len → Chosen l x ≡ kept x

abbrev pub NoOrder : Trace → ℕ → Type 0
NoOrder t m = (xs : List ℕ) → Valid (frame_of t) (kept_of m t) xs → ⊥

abbrev pub NO_FAULT : ℕ
NO_FAULT = 0

pub record FaultTold (t : Trace) (m r : ℕ) : Type 0 where
  pub sound : r ≡ NO_FAULT → NoOrder t m → ⊥
  pub faulty : (r ≡ NO_FAULT → ⊥) → NoOrder t m
