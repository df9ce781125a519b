-- The ways in which the judge comes to its answer.
--
--   length-told, number-told, repeat-told, turns-told == the length is wrong; a number is bad; a record stands twice; each operation stands there once
--   pair-told, value-told, yes-told  == then a pair is out of turn; a value is wrong; neither
--   no-pair                          == a record that begins a pair out of turn has one
--   good-numbers                     == where no number is bad, each is that of a record
--   nine-told, ten-told, judged-told == the model does not exist; the trace is not well formed; neither
use mathlib.Core.Path.{◌≡◌, refl, sym, ap, ◌∙◌}
use mathlib.Core.Logic.{inl, inr}
use mathlib.Core.Bool.{false, So, false≢true}
use mathlib.Core.List.{List}
use mathlib.Core.Option.{Option, none, some}
use Prim.Native.Nat.{ℕ, ◌≤◌}
use native.Mathlib.Omega.{arith}
use lib.Dec.{eqb, ltb}
use lib.ListN.{length, get_or}
use Rattle.std.specs.Prelude.{Ok, Err}
use Rattle.laws.specs.Relation.{Table}
use Rattle.laws.specs.Lowest.{lowest}
use Rattle.laws.proofs.Tests.{test, so-lt}
use Rattle.trace.specs.Bounds.{RECORDS}
use Rattle.rules.specs.Frame.{Frame}
use Rattle.trace.specs.WellFormed.{well_formed}
use Rattle.trace.specs.Meaning.{frame_of}
use Rattle.trace.specs.declared.Trace.{Trace}
use Rattle.pairs.specs.Kept.{modelled, kept_of}
use Rattle.rules.specs.Ready.{operations}
use Rattle.judge.specs.inner.Positions.{Sited, Numbers, out_at, early_at}
use Rattle.judge.specs.Judged.{bad?, twice?, wrong?, pair_of, turns_by, judged_by, judged_of}
use Rattle.judge.specs.declared.judging.Broken.TheVariants.{NoModel, NotWellFormed, WrongLength, BadNumber, Repeat, OutOfTurn, WrongValue}
use Rattle.pairs.proofs.Found.{lowest-at, lowest-none}
use Rattle.judge.proofs.Positions.{out-sited, early-sited}

pub good-numbers : (t : Trace) → t.len ≤ RECORDS → (xs : List ℕ) → lowest (bad? (frame_of t) xs) (length xs) 0 ≡ none → Numbers xs
unfolding bad? frame_of
good-numbers t fits xs e i l = elim (test (ltb (get_or xs i 0) t.len)) [
  | inl u ↦ omega (arith, (so-lt {m = get_or xs i 0} {n = t.len}).0 u)
  | inr z ↦ absurd (false≢true (sym (rw z at (lowest-none (bad? (frame_of t) xs) (length xs) e i l))))
]

module _ (f : Frame) (K : Table) (xs : List ℕ) where
  pub length-told : eqb (length xs) (operations f) ≡ false → Err WrongLength ≡ judged_by f K xs
  unfolding judged_by
  length-told e = rw e refl

  module _ (e : So (eqb (length xs) (operations f))) where
    pub number-told : (i : ℕ) → lowest (bad? f xs) (length xs) 0 ≡ some i → Err (BadNumber i) ≡ judged_by f K xs
    unfolding judged_by
    number-told i b = rw (e, b) refl

    module _ (b : lowest (bad? f xs) (length xs) 0 ≡ none) where
      pub repeat-told : (x : ℕ) → lowest (twice? xs) f.records 0 ≡ some x → Err (Repeat x) ≡ judged_by f K xs
      unfolding judged_by
      repeat-told x r = rw (e, b, r) refl

      pub turns-told : lowest (twice? xs) f.records 0 ≡ none → turns_by f K xs ≡ judged_by f K xs
      unfolding judged_by turns_by
      turns-told r = rw (e, b, r) refl

  module _ (s : List ℕ) (h : Sited xs s) (fits : f.records ≤ RECORDS) where
    abbrev early : Option ℕ
    early = lowest (early_at K f.records s) f.records 0

    pub pair-told : (x y : ℕ) → early ≡ some x → lowest (out_at K s x) f.records 0 ≡ some y → Err (OutOfTurn x y) ≡ turns_by f K xs
    unfolding turns_by
    pair-told x y e q =
        rw (early-sited xs s h K f.records fits ∙ e) (sym (ap (pair_of x) (out-sited xs s h K f.records fits x (lowest-at _ _ x e).0 ∙ q)))

    pub no-pair : (x : ℕ) → early ≡ some x → lowest (out_at K s x) f.records 0 ≡ none → Ok tt ≡ turns_by f K xs
    unfolding turns_by
    no-pair x e q =
        rw (early-sited xs s h K f.records fits ∙ e) (sym (ap (pair_of x) (out-sited xs s h K f.records fits x (lowest-at _ _ x e).0 ∙ q)))

    pub value-told : early ≡ none → (L : ℕ) → lowest (wrong? f xs) f.records 0 ≡ some L → Err (WrongValue L) ≡ turns_by f K xs
    unfolding turns_by
    value-told e L q = rw (early-sited xs s h K f.records fits ∙ e, q) refl

    pub yes-told : early ≡ none → lowest (wrong? f xs) f.records 0 ≡ none → Ok tt ≡ turns_by f K xs
    unfolding turns_by
    yes-told e q = rw (early-sited xs s h K f.records fits ∙ e, q) refl

module _ (t : Trace) (m : ℕ) (xs : List ℕ) where
  pub nine-told : modelled m ≡ false → Err NoModel ≡ judged_of t m xs
  unfolding judged_of
  nine-told k = rw k refl

  module _ (k : So (modelled m)) where
    pub ten-told : well_formed t ≡ false → Err NotWellFormed ≡ judged_of t m xs
    unfolding judged_of
    ten-told w = rw (k, w) refl

    pub judged-told : So (well_formed t) → judged_by (frame_of t) (kept_of m t) xs ≡ judged_of t m xs
    unfolding judged_of
    judged-told w = rw (k, w) refl
