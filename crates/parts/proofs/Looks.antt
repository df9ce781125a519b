-- Cutting a faulty trace down: what is owed of the result, and that one look at each record finds it.
--
--   left-closed    == what is left has the source of each load and swap that it has
--   left-well, left-firsts == it is well formed, and begins with the same values
--   left-faulty    == it has no valid order
--   left-stuck     == and no single removal from it leaves a trace without one
--   left_one       == there is one such set
--   goes-is, fault-more == what goes, by its test; a fault that more records do not heal
--   Looks i A      == A is what a look at each record below i leaves
--   looks-none, looks-gone, looks-kept, looks-all == no look yet; one that takes its record, one that does not; after all of them
use mathlib.Core.Path.{◌≡◌, refl}
use mathlib.Core.Logic.{◌↔◌}
use mathlib.Core.Bool.{So}
use Prim.Native.Nat.{ℕ, suc, ◌≤◌, ◌<◌}
use native.Mathlib.Omega.{arith}
use Rattle.trace.specs.WellFormed.{well_formed}
use Rattle.trace.specs.Meaning.{frame_of}
use Rattle.rules.specs.Frame.{Frame}
use Rattle.trace.specs.declared.Trace.{Trace}
use Rattle.trace.proofs.Good.{good}
use Rattle.parts.specs.Removal.{Set, every, Goes}
use Rattle.parts.specs.inner.RemovalTests.{goes?}
use Rattle.parts.specs.CutDown.{Removed, Spare, Faulty, Left}
use Rattle.parts.specs.Picked.{picked}
use Rattle.parts.proofs.Removal.{Closed, goes-iff, goes_self, removed-closed}
use Rattle.parts.proofs.Picked.{picks, picked-fault}
use Rattle.parts.proofs.Down as down

module _ (t : Trace) (m : ℕ) where
  -- whoever goes with whom
  abbrev f : Frame
  f = frame_of t

  pub left_one : (A B : Set) → Left t m A → Left t m B → A ≡ B
  left_one A B p q = down.down-one t.len (Goes f) (Faulty t m) p q

  pub left-closed : (A : Set) → Left t m A → Closed f A
  left-closed A p = down.down-keeps t.len (Goes f) (Faulty t m) (Closed f) (removed-closed f) p (λ S L s a. refl)

  pub left-faulty : (A : Set) → Left t m A → Faulty t m every → Faulty t m A
  left-faulty A p = down.down-fault t.len (Goes f) (Faulty t m) p

  pub left-stuck : (A : Set) → Left t m A → (i : ℕ) → i < t.len → So (A i) → (B : Set) → Removed (Goes f) A i B → Faulty t m B → ⊥
  left-stuck A p i h a B r b = down.down-stuck t.len (Goes f) (Faulty t m) p i (record { below = h; there = a; left = B; removed = r; fault = b })

  module _ (w : So (well_formed t)) where
    pub left-well : (A : Set) → So (well_formed (picked t A))
    left-well A = (picks t w A t.len (omega arith)).well

    pub left-firsts : (A : Set) → (picked t A).firsts ≡ t.firsts
    left-firsts A = (picks t w A t.len (omega arith)).firsts

    pub goes-is : (i x : ℕ) → So (goes? f i x) ↔ Goes f i x
    goes-is = goes-iff f (good t w)

    pub fault-more : (A B : Set) → Closed f A → Closed f B → ((x : ℕ) → So (A x) → So (B x)) → Faulty t m A → Faulty t m B
    fault-more A B a b h s = picked-fault t w A B h a m s

    abbrev pub Looks : ℕ → Set → Type 0
    Looks i A = down.Looked t.len (Goes f) (Faulty t m) (goes? f) goes-is (goes_self f) (Closed f) (removed-closed f) fault-more every i A

    pub looks-none : Looks 0 every
    looks-none = down.looked-none t.len (Goes f) (Faulty t m) (goes? f) goes-is (goes_self f) (Closed f) (removed-closed f) fault-more every (λ S L s a. refl)

    pub looks-gone : (A : Set) (i : ℕ) → Looks i A → (s : Spare t.len (Goes f) (Faulty t m) A i) → Looks (suc i) s.left
    looks-gone A i p s = down.looked-gone t.len (Goes f) (Faulty t m) (goes? f) goes-is (goes_self f) (Closed f) (removed-closed f) fault-more every A i p s

    pub looks-kept : (A : Set) (i : ℕ) → Looks i A → (Spare t.len (Goes f) (Faulty t m) A i → ⊥) → Looks (suc i) A
    looks-kept A i p s = down.looked-kept t.len (Goes f) (Faulty t m) (goes? f) goes-is (goes_self f) (Closed f) (removed-closed f) fault-more every A i p s

    pub looks-all : (A : Set) (i : ℕ) → t.len ≤ i → Looks i A → Left t m A
    looks-all A i h p = down.looked-all t.len (Goes f) (Faulty t m) (goes? f) goes-is (goes_self f) (Closed f) (removed-closed f) fault-more every A i h p
