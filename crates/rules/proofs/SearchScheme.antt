-- The search: ready operations only, a loop that may stop early, no dead set twice, no test of a full list.
--
--   Kit              == what a search is made of; its memory holds sets of operations, and may forget
--   KitFits f K H k  == the kit does what a search under the guide H needs, when asked about disciplined lists
--   walk n k below p == the loop at the prefix p: what is not ready is passed over; in the end, or when it may stop, p is noted
--   seek n k d p     == the search below p, where d places are left: the memory after it, and what follows p in the first order found
--   NoneBelow f K H k D == no list whose set is remembered extends to a valid order
--   RightAnswer f K H k p r == r is a memory that is right, and the answer below p
use mathlib.Core.Logic.{◌↔◌, ◌⊎◌}
use mathlib.Core.Bool.{Bool, true, false, So}
use mathlib.Core.List.{List, [], ◌∷◌, ◌++◌}
use mathlib.Core.Option.{Option, none, some}
use Prim.Native.Nat.{ℕ, zero, suc, ◌<◌}
use Rattle.laws.specs.Places.{count}
use Rattle.laws.specs.Relation.{Rel, Table}
use Rattle.laws.specs.Dict.{Answer}
use Rattle.laws.specs.inner.Steps.{Same}
use Rattle.rules.specs.Frame.{Frame}
use Rattle.rules.specs.Order.{Valid}
use Rattle.rules.specs.Ready.{Ready}
use Rattle.rules.specs.inner.Discipline.{Disciplined}
use Rattle.rules.specs.inner.EarlyStop.{Failed}

pub record Kit : Type 1 where
  pub Memo : Type 0
  -- a set is remembered; one more is noted
  pub look : Memo → List ℕ → Bool
  pub note : Memo → List ℕ → Memo
  -- an operation may be placed after a prefix
  pub ready : List ℕ → ℕ → Bool
  -- the loop at a prefix may stop, where these failed
  pub stop : List ℕ → List ℕ → Bool

pub record KitFits (f : Frame) (K : Table) (H : Rel) (k : Kit) : Type 0 where
  pub noted : (D : k.Memo) (q p : List ℕ) → Disciplined f H q → Disciplined f H p → So (k.look (k.note D q) p) → So (k.look D p) ⊎ Same p q
  pub readies : (p : List ℕ) (c : ℕ) → Disciplined f H p → So (k.ready p c) ↔ Ready f H p c
  pub stops : (p F : List ℕ) → Disciplined f H p → Failed f K H p (λ z. 0 < count z F) → So (k.stop p F) → Answer (Valid f K) p none

module _ (n : ℕ) (k : Kit) where
  -- of the j from i on, where F failed and D is remembered
  unfoldable pub walk : (List ℕ → k.Memo → k.Memo × Option (List ℕ)) → List ℕ → ℕ → ℕ → List ℕ → k.Memo → k.Memo × Option (List ℕ)
  walk below p zero i F D = (k.note D p, none)
  walk below p (suc j) i F D = elim (k.ready p i) [
    | false ↦ walk below p j (suc i) F D
    | true ↦ let r = below (p ++ (i ∷ [])) D in elim r.1 [
      | some s ↦ (r.0, some (i ∷ s))
      | none ↦ elim (k.stop p (i ∷ F)) [ true ↦ (k.note r.0 p, none) | false ↦ walk below p j (suc i) (i ∷ F) r.0 ]
    ]
  ]

  unfoldable pub seek : ℕ → List ℕ → k.Memo → k.Memo × Option (List ℕ)
  seek zero p D = (D, some [])
  seek (suc d) p D = elim (k.look D p) [ true ↦ (D, none) | false ↦ walk (seek d) p n 0 [] D ]

module _ (f : Frame) (K : Table) (H : Rel) (k : Kit) where
  abbrev pub NoneBelow : k.Memo → Type 0
  NoneBelow D = (p : List ℕ) → Disciplined f H p → So (k.look D p) → Answer (Valid f K) p none

  abbrev pub RightAnswer : List ℕ → k.Memo × Option (List ℕ) → Type 0
  RightAnswer p r = NoneBelow r.0 × Answer (Valid f K) p r.1
