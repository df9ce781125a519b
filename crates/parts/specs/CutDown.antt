-- Cutting a fault down, where G i x says that x goes where i goes, and Fault A that what the set A leaves has the fault.
--
--   Removed G A i B       == B is what is left of A when i is removed, with all that goes with it
--   Spare n G Fault A i   == i is one of n records and in A, and its removal keeps the fault
--   CutDown n G Fault A B == B is A cut down: the lowest record whose removal keeps the fault goes, again and again, until there is none
--   Faulty t m A          == the records of A, as a trace of their own, have no valid order under model m
--   Left t m A            == A is what is left of the trace t, cut down under model m
use Rattle.std.specs.Prelude.{◌↔◌, List, ℕ, ◌<◌}
use Rattle.std.proofs.Math.Bool.{So}
use Rattle.std.proofs.Math.Option.{some, none}
use Rattle.laws.specs.Relation.{Rel}
use Rattle.laws.specs.Lowest.{Lowest}
use Rattle.rules.specs.Order.{Valid}
use Rattle.trace.specs.Meaning.{frame_of}
use Rattle.trace.specs.declared.Trace.{Trace}
use Rattle.pairs.specs.Kept.{kept_of}
use Rattle.parts.specs.Removal.{Set, every, Goes}
use Rattle.parts.specs.Picked.{picked}

abbrev pub Removed : Rel → Set → ℕ → Set → Type 0
Removed G A i B = (x : ℕ) → So (B x) ↔ (So (A x) × (G i x → ⊥))

pub record Spare (n : ℕ) (G : Rel) (Fault : Set → Type 0) (A : Set) (i : ℕ) : Type 0 where
  pub below : i < n
  pub there : So (A i)
  pub left : Set
  pub removed : Removed G A i left
  pub fault : Fault left

pub data CutDown (n : ℕ) (G : Rel) (Fault : Set → Type 0) : Set → Set → Type 0 where
  over : {A : Set} → Lowest (Spare n G Fault A) none → CutDown n G Fault A A
  next : {A B : Set} (i : ℕ) (s : Lowest (Spare n G Fault A) (some i)) → CutDown n G Fault s.0.left B → CutDown n G Fault A B

abbrev pub Faulty : Trace → ℕ → Set → Type 0
Faulty t m A = let u = picked t A in (xs : List ℕ) → Valid (frame_of u) (kept_of m u) xs → ⊥

abbrev pub Left : Trace → ℕ → Set → Type 0
Left t m = CutDown t.len (Goes (frame_of t)) (Faulty t m) every
