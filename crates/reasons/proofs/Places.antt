-- Entries of the branch that is kept in arrays, and numbers laid into lent memory.
--
--   place-test               == an entry is x before y, by the arrays
--   place_found, place_none  == the lowest place, as a loop finds it
--   number-found, number-none == its number
--   load_here, load_past     == the lowest load, as a loop finds it
--   open-off₁, open-off₂, open-on == whether a pair is open, part by part
--   sets_more, sets-join     == one number more; some numbers, and then others
use mathlib.Core.Path.{◌≡◌, refl, sym, ap, ◌∙◌}
use mathlib.Core.Bool.{Bool, true, false, So, cond, not, ◌&&◌, ◌||◌, false≢true}
use mathlib.Core.List.{List, [], ◌∷◌, ◌++◌}
use mathlib.Core.Option.{Option, none, some}
use Prim.Native.Nat.{ℕ, suc, ◌+◌, ◌<◌, ◌≤◌}
use native.Mathlib.Nat.{add-zero}
use native.Mathlib.Omega.{arith}
use borrow.Author.Tests.{lt-ltb, le-ltb}
use lib.Dec.{eqb}
use lib.ListN.{length, get_or, set}
use lib.Seq.{sets}
use Rattle.laws.specs.Relation.{Table}
use Rattle.laws.proofs.LowestLoops.{NoneBelow, lowest-found, lowest-nothing}
use Rattle.trace.specs.Bounds.{RECORDS}
use Rattle.rules.specs.Frame.{Frame}
use Rattle.pairs.specs.SourceOf.{source_of}
use Rattle.papers.specs.Paper.{edge_at}
use Rattle.papers.specs.inner.ReaderBranch.{branch_of}
use Rattle.papers.proofs.Branches.{branch-long, branch-at}
use Rattle.reasons.specs.Telling.{entry_place, entry_number, rest_load}

module _ (from to : List ℕ) (n x y : ℕ) where
  abbrev pub Here : ℕ → Bool
  Here i = eqb (edge_at (branch_of from to n) i).from x && eqb (edge_at (branch_of from to n) i).to y

  pub place-test : (i : ℕ) → i < n → Here i ≡ (eqb (get_or from i 0) x && eqb (get_or to i 0) y)
  place-test i h = ap (λ e. eqb e.from x && eqb e.to y) (branch-at from to n i h)

  pub place_found : (i : ℕ) → NoneBelow Here i → i < n → So (Here i) → entry_place (branch_of from to n) x y ≡ i
  unfolding entry_place
  place_found i b h t =
      ap (λ (o : Option ℕ). elim o [ some i ↦ i | none ↦ length (branch_of from to n) ]) (lowest-found Here (length (branch_of from to n)) i b (omega (arith, branch-long from to n)) t)

  pub place_none : (i : ℕ) → NoneBelow Here i → n ≤ i → entry_place (branch_of from to n) x y ≡ n
  unfolding entry_place
  place_none i b h =
      ap (λ (o : Option ℕ). elim o [ some i ↦ i | none ↦ length (branch_of from to n) ]) (lowest-nothing Here (length (branch_of from to n)) i b (omega (arith, branch-long from to n)))
      ∙ branch-long from to n

  pub number-found : (i : ℕ) → i ≡ entry_place (branch_of from to n) x y → i < n → entry_number (branch_of from to n) x y ≡ i
  unfolding entry_number
  number-found i e h =
      let p = entry_place (branch_of from to n) x y in
      ap (λ b. cond b p 0) (lt-ltb p (length (branch_of from to n)) (omega (arith, e, branch-long from to n))) ∙ sym e

  pub number-none : (i : ℕ) → i ≡ entry_place (branch_of from to n) x y → n ≤ i → entry_number (branch_of from to n) x y ≡ 0
  unfolding entry_number
  number-none i e h =
      let p = entry_place (branch_of from to n) x y in
      ap (λ b. cond b p 0) (le-ltb p (length (branch_of from to n)) (omega (arith, e, branch-long from to n)))

pub sets-join : (l : List ℕ) (at : ℕ) (vs ws : List ℕ) → sets (sets l at vs) (at + length vs) ws ≡ sets l at (vs ++ ws)
sets-join l at [] ws = ap (λ k. sets l k ws) (add-zero at)
sets-join l at (v ∷ vs) ws =
    ap (λ k. sets (sets (set l at v) (suc at) vs) k ws) (let q : at + suc (length vs) ≡ suc at + length vs = omega arith in q) ∙ sets-join (set l at v) (suc at) vs ws

pub sets_more : (l : List ℕ) (at : ℕ) (vs : List ℕ) (w : ℕ) → set (sets l at vs) (at + length vs) w ≡ sets l at (vs ++ w ∷ [])
sets_more l at vs w = sets-join l at vs (w ∷ [])

-- the lowest load, as a loop finds it
module _ (f : Frame) (C : Table) (x y : ℕ) where
  abbrev pub Reads : ℕ → Bool
  Reads L = C x L && eqb (source_of f L) y && not (eqb x L)

  pub load_here : (L : ℕ) → NoneBelow Reads L → L < RECORDS → So (Reads L) → L ≡ rest_load f C x y
  unfolding rest_load
  load_here L n h t = sym (ap (λ (o : Option ℕ). elim o [ some L ↦ L | none ↦ RECORDS ]) (lowest-found Reads RECORDS L n h t))

  pub load_past : (L : ℕ) → NoneBelow Reads L → RECORDS ≤ L → RECORDS ≡ rest_load f C x y
  unfolding rest_load
  load_past L n h = sym (ap (λ (o : Option ℕ). elim o [ some L ↦ L | none ↦ RECORDS ]) (lowest-nothing Reads RECORDS L n h))

-- two writers, one of them read from, held neither way: part by part
pub open-off₁ : (w c a b : Bool) → w ≡ false → false ≡ (((w && c) && not a) && not b)
open-off₁ true c a b e = absurd (false≢true (sym e))
open-off₁ false c a b e = refl

pub open-off₂ : (w c a b : Bool) → w ≡ true → So (a || b) → false ≡ (((w && c) && not a) && not b)
open-off₂ false c a b e t = refl
open-off₂ true false a b e t = refl
open-off₂ true true true b e t = refl
open-off₂ true true false true e t = refl
open-off₂ true true false false e t = absurd (false≢true t)

pub open-on : (w c a b : Bool) → w ≡ true → (a || b) ≡ false → c ≡ (((w && c) && not a) && not b)
open-on false c a b e t = absurd (false≢true e)
open-on true false a b e t = refl
open-on true true true b e t = absurd (false≢true (sym t))
open-on true true false true e t = absurd (false≢true (sym t))
open-on true true false false e t = refl
