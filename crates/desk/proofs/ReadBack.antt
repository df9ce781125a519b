-- The verdict's bytes lose nothing.
--
--   verdict-says == read back, the answer and the bytes about a good text tell the verdict on its trace, as document 01 says it
use mathlib.Core.Path.{◌≡◌, refl, sym, ap, ap₂, ◌∙◌, subst}
use mathlib.Core.Bool.{So, false≢true}
use mathlib.Core.List.{List, [], ◌∷◌}
use Prim.Native.Nat.{ℕ, ◌+◌, ◌*◌, ◌/◌, ◌%◌, ◌-◌, ◌≤◌}
use native.Mathlib.Omega.{arith}
use lib.ListN.{length, get_or, take, drop, replicate, length-append, length-replicate}
use lib.Seq.{take_at, drop_at}
use Rattle.trace.specs.Bounds.{RECORDS}
use Rattle.trace.specs.Meaning.{frame_of}
use Rattle.trace.specs.WellFormed.{well_formed}
use Rattle.trace.specs.Padded.{padded}
use Rattle.trace.specs.declared.Trace.{Trace}
use Rattle.trace.proofs.Good.{good}
use Rattle.pairs.specs.Kept.{modelled, kept_of}
use Rattle.rules.specs.Rules.{Chains, Edge, nothing}
use Rattle.rules.proofs.Circle.{shown-short}
use Rattle.rules.proofs.Ends.{step-within}
use Rattle.rules.specs.Verdict as said
use Rattle.pairs.proofs.ValidOrders.{well-fits, well-kept, valid-short}
use Rattle.reader.specs.Whole.{read_whole}
use Rattle.reader.proofs.Whole.{whole-well}
use Rattle.desk.specs.AnswerNumbers.{answer_to}
use Rattle.desk.specs.Text.{text_number}
use Rattle.desk.specs.VerdictBytes.{VERDICT, wide, operations_of, rules_in, verdict_bytes, VerdictAnswered}
use Rattle.desk.proofs.VerdictReadBack.{narrow, told_bytes, heard}
use Rattle.desk.proofs.Spelling.{wide-long}

-- the lists of a verdict have places, and a circle has a rule for each of its edges
abbrev Fits : said.Verdict → Type 0
Fits (said.no_source x) = Unit {0}
Fits (said.circle c rs) = (length c ≤ RECORDS) × (length rs ≡ length c)
Fits (said.order xs) = length xs ≤ RECORDS
Fits said.none_left = Unit {0}

module _ (m : ℕ) (t : Trace) (w : So (well_formed t)) where
  says-fits : (v : said.Verdict) → said.Says (frame_of t) (kept_of m t) v → Fits v
  unfolding frame_of
  says-fits (said.no_source x) s = tt
  says-fits (said.circle c rs) s =
      let f = frame_of t in
      let (k, q) = s.1 in
      let C = Chains f (kept_of m t) nothing k in
      let short = shown-short (Edge f (kept_of m t) nothing k) f.records (step-within f (good t w) (kept_of m t) nothing (well-kept t w m) (λ x y h. absurd (false≢true h)) C) c q.shown in
      (omega (arith, well-fits t w), q.rules.long)
  says-fits (said.order xs) s = omega (arith, valid-short (frame_of t) (good t w) (kept_of m t) xs s.2.0, well-fits t w)
  says-fits said.none_left s = tt

padded-long : (xs : List ℕ) → length xs ≤ RECORDS → length (padded xs) ≡ RECORDS
padded-long xs h = omega (arith, length-append xs (replicate (RECORDS - length xs) 0), length-replicate {A = ℕ} (RECORDS - length xs) 0)

-- a number is what its two bytes say
narrow_wide : (ns : List ℕ) → narrow (wide ns) ≡ ns
unfolding narrow wide
narrow_wide [] = refl
narrow_wide (n ∷ ns) = ap₂ ◌∷◌ (let e : n % 256 + 256 * (n / 256) ≡ n = omega arith in e) (narrow_wide ns)

-- the lists that are told have places
lists-fit : (v : said.Verdict) → Fits v → (length (operations_of v) ≤ RECORDS) × (length (rules_in v) ≤ RECORDS)
lists-fit (said.no_source x) h = (omega arith, omega arith)
lists-fit (said.circle c rs) h = (h.0, omega (arith, h.0, h.1))
lists-fit (said.order xs) h = (h, omega arith)
lists-fit said.none_left h = (omega arith, omega arith)

module _ (v : said.Verdict) (h : Fits v) where
  -- the count and the operations in numbers, and how many bytes they have
  abbrev numbers : List ℕ
  numbers = length (operations_of v) ∷ padded (operations_of v)

  numbers-long : length (wide numbers) ≡ 2 + 2 * RECORDS
  numbers-long = omega (arith, wide-long numbers, padded-long (operations_of v) (lists-fit v h).0)

  bytes-long : length (verdict_bytes v) ≡ VERDICT
  unfolding verdict_bytes
  bytes-long = omega (arith, length-append (wide numbers) (padded (rules_in v)), numbers-long, padded-long (rules_in v) (lists-fit v h).1)

  told_back : told_bytes (verdict_bytes v) ≡ numbers
  unfolding verdict_bytes
  told_back = ap narrow (take_at (wide numbers) (padded (rules_in v)) (2 + 2 * RECORDS) numbers-long) ∙ narrow_wide numbers

  rules-back : drop (2 + 2 * RECORDS) (verdict_bytes v) ≡ padded (rules_in v)
  unfolding verdict_bytes
  rules-back = drop_at (wide numbers) (padded (rules_in v)) (2 + 2 * RECORDS) numbers-long

-- the first of a padded list
padded-back : (xs : List ℕ) (n : ℕ) → length xs ≡ n → take n (padded xs) ≡ xs
padded-back xs n e = take_at xs (replicate (RECORDS - length xs) 0) n e

heard-back : (v : said.Verdict) → Fits v → heard (answer_to v) (verdict_bytes v) ≡ v
unfolding heard
heard-back (said.no_source x) h = ap (λ (ns : List ℕ). said.no_source (get_or ns 1 0)) (told_back (said.no_source x) h)
heard-back (said.circle c rs) h =
    let v = said.circle c rs in
    ap₂ (λ (ns bytes : List ℕ). said.circle (take (get_or ns 0 0) (drop 1 ns)) (take (get_or ns 0 0) bytes)) (told_back v h) (rules-back v h)
    ∙ ap₂ said.circle (padded-back c (length c) refl) (padded-back rs (length c) h.1)
heard-back (said.order xs) h = ap (λ (ns : List ℕ). said.order (take (get_or ns 0 0) (drop 1 ns))) (told_back (said.order xs) h) ∙ ap said.order (padded-back xs (length xs) refl)
heard-back said.none_left h = refl

module _ (text : List ℕ) (m : ℕ) (before after : List ℕ) (r : ℕ) (h : VerdictAnswered text m before after r) where
  -- the trace that the text writes
  abbrev trace : Trace
  trace = (read_whole text).trace

  pub verdict-says : text_number text ≡ 0 → So (modelled m) → VERDICT ≤ length before → said.Says (frame_of trace) (kept_of m trace) (heard r (take VERDICT after))
  verdict-says z k l =
      let (v, s, e, f) = h.says z k l in
      let fits = says-fits m trace (whole-well text) v s in
      let front = ap (take VERDICT) f ∙ take_at (verdict_bytes v) (drop VERDICT before) VERDICT (bytes-long v fits) in
      let same : heard r (take VERDICT after) ≡ v = ap₂ heard e front ∙ heard-back v fits in
      subst (said.Says (frame_of trace) (kept_of m trace)) (sym same) s
