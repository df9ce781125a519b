-- A verdict in numbers.
--
--   spelled_by, spelled-fits  == by its outcome; its operations have places
--   spelled-laid              == the numbers of a verdict, as the code lays them
--   source-below              == a record that lacks a source is one of the trace
--   Laid os rs out i          == the first i operations and rules stand in their places
--   laid-start, laid_more, laid_end == it is so at first, after one place more, and at the end it is all, with the kind and the count in front
use mathlib.Core.Path.{◌≡◌, refl, sym, ap, ◌∙◌}
use mathlib.Core.Logic.{inl, inr}
use mathlib.Core.Bool.{So}
use mathlib.Core.List.{List, ◌∷◌, ◌++◌}
use Prim.Native.Nat.{ℕ, zero, suc, ◌+◌, ◌-◌, ◌≤◌, ◌<◌}
use native.Mathlib.Decide.{dec_lt}
use native.Mathlib.Omega.{arith}
use borrow.Author.Count.{below_more}
use lib.ListN.{length, get_or, set, length-append, length-set, get_or-append}
use lib.Seq.{ext_get_or, get_or-set_same, get_or-set_other, get_or-append-add}
use Rattle.laws.proofs.Tests.{test}
use Rattle.trace.specs.Bounds.{RECORDS}
use Rattle.trace.specs.Meaning.{frame_of}
use Rattle.trace.specs.WellFormed.{well_formed}
use Rattle.trace.specs.declared.Trace.{Trace}
use Rattle.trace.proofs.Meaning.{reads-iff}
use Rattle.pairs.specs.Kept.{modelled, kept_of}
use Rattle.rules.specs.Verdict as said
use Rattle.pairs.proofs.ValidOrders.{well-fits}
use Rattle.verdict.specs.VerdictOf.{laid, Told}
use Rattle.verdict.specs.declared.Outcome.{Outcome}
use Rattle.verdict.specs.declared.Outcome.TheVariants.{NoSource, Circle, Order, NoneLeft, NoModel, NotWellFormed}
use Rattle.verdict.specs.declared.Verdict.{Verdict}
use Rattle.night.specs.Block.{BLOCK, block_of, lacking_in, told_in_as, told_in, block_in}

pub spelled_by : (v : Verdict) (o : Outcome) → v.outcome ≡ o → told_in_as o v ≡ told_in v
unfolding told_in
spelled_by v o e = ap (λ (o : Outcome). told_in_as o v) (sym e)

pub spelled-fits : (v : Verdict) → v.len ≤ RECORDS → (told_in v).len ≤ RECORDS
unfolding told_in
spelled-fits v h = go v.outcome
  where
    go : (o : Outcome) → (told_in_as o v).len ≤ RECORDS
    go (NoSource x) = omega arith
    go Circle = h
    go Order = h
    go NoneLeft = h
    go NoModel = h
    go NotWellFormed = h

pub spelled-laid : (v : said.Verdict) → block_in (told_in (laid v)) ≡ block_of v
unfolding told_in block_in block_of
spelled-laid (said.no_source x) = refl
spelled-laid (said.circle c rs) = refl
spelled-laid (said.order xs) = refl
spelled-laid said.none_left = refl

module _ (m : ℕ) (t : Trace) (w : So (well_formed t)) where
  below : (v : said.Verdict) → said.Says (frame_of t) (kept_of m t) v → lacking_in (laid v).outcome < RECORDS
  below (said.no_source x) s = let h = ((reads-iff t x).0 s.0.reads).0 in omega (arith, well-fits t w)
  below (said.circle c rs) s = omega arith
  below (said.order xs) s = omega arith
  below said.none_left s = omega arith

  pub source-below : (r : Verdict) → Told t m r → lacking_in r.outcome < RECORDS
  source-below r h = elim (test (modelled m)) [
    | inl k ↦ let (v, s, e) = h.says k w in rw e (below v s)
    | inr k ↦ rw (h.nine k) (omega arith)
  ]

module _ (os rs : List ℕ) where
  pub record Laid (out : List ℕ) (i : ℕ) : Type 0 where
    pub long : length out ≡ BLOCK
    pub operations : (j : ℕ) → j < i → get_or out (2 + j) 0 ≡ get_or os j 0
    pub rules : (j : ℕ) → j < i → get_or out (2 + RECORDS + j) 0 ≡ get_or rs j 0

  pub laid-start : (out : List ℕ) → length out ≡ BLOCK → Laid out 0
  laid-start out l = record { long = l; operations = λ j h. absurd (omega arith); rules = λ j h. absurd (omega arith) }

  module _ (out : List ℕ) (i : ℕ) (p : Laid out i) (h : i < RECORDS) where
    -- one place more
    one : List ℕ
    one = set out (2 + i) (get_or os i 0)

    two : List ℕ
    two = set one (2 + RECORDS + i) (get_or rs i 0)

    one-long : length one ≡ BLOCK
    unfolding one
    one-long = length-set out (2 + i) (get_or os i 0) ∙ p.long

    -- any other place stays
    other : (x : ℕ) → (x ≡ 2 + i → ⊥) → (x ≡ 2 + RECORDS + i → ⊥) → get_or two x 0 ≡ get_or out x 0
    unfolding one two
    other x a b = get_or-set_other (set out (2 + i) (get_or os i 0)) (2 + RECORDS + i) x (get_or rs i 0) 0 b ∙ get_or-set_other out (2 + i) x (get_or os i 0) 0 a

    at-operation : get_or two (2 + i) 0 ≡ get_or os i 0
    unfolding one two
    at-operation = get_or-set_other (set out (2 + i) (get_or os i 0)) (2 + RECORDS + i) (2 + i) (get_or rs i 0) 0 (λ e. omega (arith, e)) ∙ get_or-set_same out (2 + i) (get_or os i 0) 0 (omega (arith, p.long))

    at-rule : get_or two (2 + RECORDS + i) 0 ≡ get_or rs i 0
    unfolding two
    at-rule = get_or-set_same one (2 + RECORDS + i) (get_or rs i 0) 0 (omega (arith, one-long))

    pub laid_more : Laid (set (set out (2 + i) (get_or os i 0)) (2 + RECORDS + i) (get_or rs i 0)) (i + 1)
    unfolding one two
    laid_more = record {
      long = length-set one (2 + RECORDS + i) (get_or rs i 0) ∙ one-long;
      operations = below_more _ _ (λ j l. other (2 + j) (λ e. omega (arith, e)) (λ e. omega (arith, e)) ∙ p.operations j l) at-operation;
      rules = below_more _ _ (λ j l. other (2 + RECORDS + j) (λ e. omega (arith, e)) (λ e. omega (arith, e)) ∙ p.rules j l) at-rule;
    }

  -- the kind and the count in front
  pub laid_end : length os ≡ RECORDS → length rs ≡ RECORDS → (out : List ℕ) (i : ℕ) → Laid out i → RECORDS ≤ i → (k n : ℕ) → set (set out 0 k) 1 n ≡ k ∷ n ∷ os ++ rs
  laid_end lo lr out i p h k n = ext_get_or 0 (set (set out 0 k) 1 n) (k ∷ n ∷ os ++ rs) (omega (arith, long, length-append os rs)) at
    where
      long : length (set (set out 0 k) 1 n) ≡ BLOCK
      long = length-set (set out 0 k) 1 n ∙ length-set out 0 k ∙ p.long

      behind : (x : ℕ) → x < RECORDS + RECORDS → get_or out (2 + x) 0 ≡ get_or (os ++ rs) x 0
      behind x b = elim (dec_lt x RECORDS) [
        | yes l ↦ p.operations x (omega arith) ∙ sym (get_or-append os rs 0 x (omega (arith, lo)))
        | no l ↦
            let y = x - length os in
            let e : x ≡ length os + y = omega (arith, lo) in
            let f : 2 + x ≡ 2 + RECORDS + y = omega (arith, lo) in
            ap (λ (z : ℕ). get_or out z 0) f ∙ p.rules y (omega (arith, lo)) ∙ sym (ap (λ (z : ℕ). get_or (os ++ rs) z 0) e ∙ get_or-append-add os rs y 0)
      ]

      at : (x : ℕ) → x < length (set (set out 0 k) 1 n) → get_or (set (set out 0 k) 1 n) x 0 ≡ get_or (k ∷ n ∷ os ++ rs) x 0
      at zero b = get_or-set_other (set out 0 k) 1 0 n 0 (λ e. omega (arith, e)) ∙ get_or-set_same out 0 k 0 (omega (arith, p.long))
      at (suc zero) b = get_or-set_same (set out 0 k) 1 n 0 (omega (arith, length-set out 0 k, p.long))
      at (suc (suc x)) b =
          let e : suc (suc x) ≡ 2 + x = omega arith in
          get_or-set_other (set out 0 k) 1 (suc (suc x)) n 0 (λ z. omega (arith, z))
          ∙ get_or-set_other out 0 (suc (suc x)) k 0 (λ z. omega (arith, z))
          ∙ ap (λ (y : ℕ). get_or out y 0) e
          ∙ behind x (omega (arith, long))
