-- A judgement in numbers.
--
--   judged-below == what comes with a judgement are places and records, so each fits two bytes
--   judged-laid  == its two numbers at the front of a buffer
--   judged-one   == no second answer, and no second state of the buffer
use mathlib.Core.Path.{◌≡◌, refl, sym, ◌∙◌}
use mathlib.Core.Logic.{inl, inr}
use mathlib.Core.Bool.{Bool, true, false, So, cond}
use mathlib.Core.List.{List, [], ◌∷◌, ◌++◌}
use mathlib.Core.Option.{Option, none, some}
use Prim.Native.Nat.{ℕ, ◌≤◌, ◌<◌}
use native.Mathlib.Omega.{arith}
use lib.Dec.{eqb}
use lib.ListN.{length, drop}
use Rattle.std.specs.Prelude.{Result}
use Rattle.laws.specs.Relation.{Table}
use Rattle.laws.specs.Lowest.{lowest}
use Rattle.laws.proofs.Tests.{test, so-eq}
use Rattle.laws.proofs.Sums.{sum_bound}
use Rattle.trace.specs.Bounds.{RECORDS}
use Rattle.rules.specs.Frame.{Frame}
use Rattle.trace.specs.Meaning.{frame_of}
use Rattle.trace.specs.WellFormed.{well_formed}
use Rattle.trace.specs.declared.Trace.{Trace}
use Rattle.pairs.specs.Kept.{modelled, kept_of}
use Rattle.text.specs.Room.{put_at}
use Rattle.text.proofs.Put.{put_front}
use Rattle.rules.specs.Ready.{operations}
use Rattle.judge.specs.Judged.{bad?, twice?, early?, out?, wrong?, pair_of, first_failing, judged_by, judged_of}
use Rattle.judge.specs.declared.judging.Broken.{Broken}
use Rattle.pairs.proofs.ValidOrders.{well-fits}
use Rattle.pairs.proofs.Found.{lowest-at}
use Rattle.desk.specs.VerdictBytes.{wide}
use Rattle.desk.specs.JudgeCall.{JUDGEMENT, concerns, second, Judged}
use Rattle.desk.proofs.Ranked.{ranked-one}

-- both numbers of a judgement
abbrev Small : Result Unit Broken → Type 0
Small j = (concerns j < RECORDS) × (second j < RECORDS)

-- a number that was found, if one was
abbrev Under : Option ℕ → Type 0
Under o = (k : ℕ) → o ≡ some k → k < RECORDS

pair_small : (x : ℕ) (y : Option ℕ) → x < RECORDS → Under y → Small (pair_of x y)
pair_small x (some y) a b = (a, b y refl)
pair_small x none a b = (omega arith, omega arith)

first_small : (b : Bool) (i r x : Option ℕ) (y : ℕ → Option ℕ) (L : Option ℕ)
    → (So b → Under i) → Under r → Under x → ((k : ℕ) → Under (y k)) → Under L → Small (first_failing b i r x y L)
first_small false i r x y L hi hr hx hy hL = (omega arith, omega arith)
first_small true (some i) r x y L hi hr hx hy hL = (hi refl i refl, omega arith)
first_small true none (some r) x y L hi hr hx hy hL = (hr r refl, omega arith)
first_small true none none (some x) y L hi hr hx hy hL = pair_small x (y x) (hx x refl) (hy x)
first_small true none none none y (some L) hi hr hx hy hL = (hL L refl, omega arith)
first_small true none none none y none hi hr hx hy hL = (omega arith, omega arith)

one-or-none : (b : Bool) → cond b 1 0 ≤ 1
one-or-none true = omega arith
one-or-none false = omega arith

module _ (f : Frame) (fits : f.records ≤ RECORDS) (K : Table) (xs : List ℕ) where
  few : operations f ≤ f.records
  unfolding operations
  few = omega (arith, sum_bound f.records 1 (λ x. cond (f.operation x) 1 0) (λ x _. one-or-none (f.operation x)))

  found : (t : ℕ → Bool) → Under (lowest t f.records 0)
  found t k e = omega (arith, (lowest-at t f.records k e).0)

  by-small : Small (judged_by f K xs)
  unfolding judged_by
  by-small =
      let n = f.records in
      first_small (eqb (length xs) (operations f)) (lowest (bad? f xs) (length xs) 0) (lowest (twice? xs) n 0) (lowest (early? K n xs) n 0) (λ x. lowest (out? K xs x) n 0)
      (lowest (wrong? f xs) n 0)
      (λ u k e. omega (arith, (lowest-at (bad? f xs) (length xs) k e).0, (so-eq {m = length xs} {n = operations f}).0 u, few))
      (found (twice? xs)) (found (early? K n xs)) (λ x. found (out? K xs x)) (found (wrong? f xs))

pub judged-below : (t : Trace) (m : ℕ) (xs : List ℕ) → So (well_formed t) → let j = judged_of t m xs in (concerns j < RECORDS) × (second j < RECORDS)
unfolding judged_of frame_of
judged-below t m xs w = elim (test (modelled m)) [
  | inl k ↦ rw (k, w) (by-small (frame_of t) (well-fits t w) (kept_of m t) xs)
  | inr k ↦ rw k (omega arith, omega arith)
]

pub judged-laid : (a b : ℕ) (before : List ℕ) → JUDGEMENT ≤ length before → put_at (wide (a ∷ b ∷ [])) before 0 ≡ wide (a ∷ b ∷ []) ++ drop JUDGEMENT before
unfolding wide
judged-laid a b before h = put_front _ before h

pub judged-one : (text : List ℕ) (m : ℕ) (xs before a b : List ℕ) (r s : ℕ) → Judged text m xs before a r → Judged text m xs before b s → (r ≡ s) × (a ≡ b)
judged-one text m xs before = ranked-one text m JUDGEMENT _ before (λ r s a b p q. (p.0 ∙ sym q.0, p.1 ∙ sym q.1))
