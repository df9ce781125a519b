-- What a verdict tells are records of the trace.
--
--   numbers-take == so are the first of them
--   told-numbers == every operation in a verdict is a record's number
use mathlib.Core.Path.{◌≡◌, ap, ◌∙◌}
use mathlib.Core.Logic.{inl, inr}
use mathlib.Core.Bool.{So, false≢true}
use mathlib.Core.List.{List}
use Prim.Native.Nat.{ℕ, ◌+◌, ◌-◌, ◌<◌}
use native.Mathlib.Decide.{dec_lt}
use native.Mathlib.Omega.{arith}
use lib.ListN.{length, get_or, take, replicate, length-take, get_or-append, get_or-eq_default}
use lib.Seq.{get_or-append-add, get_or-take}
use Rattle.laws.specs.Places.{count}
use Rattle.laws.proofs.Places.{count_at}
use Rattle.laws.proofs.Tests.{test}
use Rattle.trace.specs.Bounds.{RECORDS}
use Rattle.trace.specs.Meaning.{frame_of}
use Rattle.trace.specs.WellFormed.{well_formed}
use Rattle.trace.specs.Padded.{padded}
use Rattle.trace.specs.declared.Trace.{Trace}
use Rattle.trace.proofs.Good.{good}
use Rattle.rules.specs.Rules.{Chains, Edge, nothing}
use Rattle.rules.proofs.Circle.{circle-within}
use Rattle.rules.proofs.Ends.{step-within}
use Rattle.pairs.specs.Kept.{modelled, kept_of}
use Rattle.circle.proofs.ShownIn.{zeros}
use Rattle.rules.specs.Verdict as said
use Rattle.pairs.proofs.ValidOrders.{well-fits, well-kept}
use Rattle.verdict.specs.VerdictOf.{RecordNumbers, laid, Told}
use Rattle.verdict.specs.declared.Verdict.{Verdict}

pub numbers-take : (n : ℕ) (xs : List ℕ) → RecordNumbers xs → RecordNumbers (take n xs)
numbers-take n xs h i = elim (dec_lt i n) [
  | yes l ↦ rw (get_or-take n xs i 0 l) (h i)
  | no l ↦ rw (get_or-eq_default (take n xs) 0 {n = i} (omega (arith, length-take n xs))) (omega arith)
]

padded-numbers : (xs : List ℕ) → ((x : ℕ) → 0 < count x xs → x < RECORDS) → RecordNumbers (padded xs)
padded-numbers xs h i = elim (dec_lt i (length xs)) [
  | yes l ↦ rw (get_or-append xs (replicate (RECORDS - length xs) 0) 0 i l) (h (get_or xs i 0) (count_at xs i l))
  | no l ↦
      let k = RECORDS - length xs in
      let at : i ≡ length xs + (i - length xs) = omega arith in
      let z : get_or (padded xs) i 0 ≡ 0 = ap (λ (j : ℕ). get_or (padded xs) j 0) at ∙ get_or-append-add xs (replicate k 0) (i - length xs) 0 ∙ zeros k (i - length xs) in
      omega (arith, z)
]

-- no operation at all
none-numbers : RecordNumbers (replicate RECORDS 0)
none-numbers i = omega (arith, zeros RECORDS i)

module _ (t : Trace) (m : ℕ) where
  says-numbers : So (well_formed t) → (v : said.Verdict) → said.Says (frame_of t) (kept_of m t) v → RecordNumbers (laid v).operations
  unfolding frame_of
  says-numbers w (said.no_source x) s = none-numbers
  says-numbers w (said.circle c rs) s =
      let f = frame_of t in
      let (k, q) = s.1 in
      let joined = step-within f (good t w) (kept_of m t) nothing (well-kept t w m) (λ x y h. absurd (false≢true h)) (Chains f (kept_of m t) nothing k) in
      padded-numbers c (λ x h. omega (arith, circle-within (Edge f (kept_of m t) nothing k) f.records joined c q.shown.0 x h, well-fits t w))
  says-numbers w (said.order xs) s = padded-numbers xs (λ x h. elim (test ((frame_of t).operation x)) [
    | inl o ↦ omega (arith, (good t w).below x o, well-fits t w)
    | inr e ↦ let n : count x xs ≡ 0 = rw e at (s.2.0.all x) in absurd (omega (arith, n))
  ])
  says-numbers w said.none_left s = none-numbers

  pub told-numbers : (r : Verdict) → Told t m r → RecordNumbers r.operations
  told-numbers r h = elim (test (modelled m)) [
    | inr e ↦ rw (h.nine e) none-numbers
    | inl k ↦ elim (test (well_formed t)) [
      | inr e ↦ rw (h.ten k e) none-numbers
      | inl w ↦ let (v, s, e) = h.says k w in rw e (says-numbers w v s)
    ]
  ]
