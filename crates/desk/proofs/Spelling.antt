-- A verdict in bytes: how it is spelled, laid down, and read off a text.
--
--   wide-long, wide-more     == how many bytes numbers have; one number more behind them
--   spelled_by, spelled-fits == by its outcome; its operations have places
--   spelled-laid, answer-laid == the bytes of a verdict, as the code lays them, and its answer by the outcome
--   below, source-below      == a record that lacks a source is one of the trace
--   laid-down                == a count, operations and rules put one behind the other
--   told-good                == what is answered and left in the buffer, where nothing is wrong
--   answered-one             == no second answer, and no second state of the buffer
use mathlib.Core.Path.{◌≡◌, refl, sym, ap, ◌∙◌}
use mathlib.Core.Logic.{inl, inr}
use mathlib.Core.Bool.{So}
use mathlib.Core.List.{List, [], ◌∷◌, ◌++◌}
use Prim.Native.Nat.{ℕ, ◌+◌, ◌*◌, ◌/◌, ◌%◌, ◌≤◌, ◌<◌}
use native.Mathlib.Numerals.{add-one}
use native.Mathlib.Omega.{arith}
use lib.ListN.{length, get_or, take, drop, length-append}
use lib.Seq.{take-suc}
use Rattle.laws.proofs.Tests.{test}
use Rattle.trace.specs.Bounds.{RECORDS}
use Rattle.trace.specs.WellFormed.{well_formed}
use Rattle.trace.specs.declared.Trace.{Trace}
use Rattle.trace.proofs.Meaning.{reads-iff}
use Rattle.text.specs.Room.{put_at}
use Rattle.text.proofs.Put.{put_front, put_then}
use Rattle.reader.specs.Whole.{read_whole}
use Rattle.reader.proofs.Whole.{whole-well}
use Rattle.pairs.specs.Kept.{modelled, kept_of}
use Rattle.trace.specs.Meaning.{frame_of}
use Rattle.rules.specs.Verdict as said
use Rattle.pairs.proofs.ValidOrders.{well-fits}
use Rattle.rules.proofs.Says.{verdict-one}
use Rattle.verdict.specs.VerdictOf.{laid, Told}
use Rattle.verdict.specs.declared.Outcome.{Outcome}
use Rattle.verdict.specs.declared.Outcome.TheVariants.{NoSource, Circle, Order, NoneLeft, NoModel, NotWellFormed}
use Rattle.verdict.specs.declared.Verdict.{Verdict}
use Rattle.desk.specs.AnswerNumbers.{answer_to, outcome_number}
use Rattle.desk.specs.Text.{text_number}
use Rattle.desk.specs.VerdictBytes.{VERDICT, wide, verdict_bytes, VerdictAnswered}
use Rattle.desk.specs.inner.SpelledVerdict.{lacking, spelled_as, spelled, laid_out}
use Rattle.desk.proofs.Ranked.{ranked-says, ranked-one}

pub wide-long : (ns : List ℕ) → length (wide ns) ≡ 2 * length ns
unfolding wide
wide-long [] = refl
wide-long (n ∷ ns) = omega (arith, wide-long ns)

wide-snoc : (ns : List ℕ) (n : ℕ) → wide (ns ++ (n ∷ [])) ≡ wide ns ++ (n % 256 ∷ n / 256 ∷ [])
unfolding wide
wide-snoc [] n = refl
wide-snoc (m ∷ ns) n = ap (λ (l : List ℕ). m % 256 ∷ m / 256 ∷ l) (wide-snoc ns n)

pub wide-more : (ns : List ℕ) (i : ℕ) → i < length ns → wide (take (i + 1) ns) ≡ wide (take i ns) ++ (get_or ns i 0 % 256 ∷ get_or ns i 0 / 256 ∷ [])
wide-more ns i h = rw (add-one, take-suc ns i 0 h) (wide-snoc (take i ns) (get_or ns i 0))

pub spelled_by : (v : Verdict) (o : Outcome) → v.outcome ≡ o → spelled_as o v ≡ spelled v
unfolding spelled
spelled_by v o e = ap (λ (o : Outcome). spelled_as o v) (sym e)

pub spelled-fits : (v : Verdict) → v.len ≤ RECORDS → (spelled v).len ≤ RECORDS
unfolding spelled
spelled-fits v h = go v.outcome
  where
    go : (o : Outcome) → (spelled_as o v).len ≤ RECORDS
    go (NoSource x) = omega arith
    go Circle = h
    go Order = h
    go NoneLeft = h
    go NoModel = h
    go NotWellFormed = h

pub spelled-laid : (v : said.Verdict) → laid_out (spelled (laid v)) ≡ verdict_bytes v
unfolding spelled laid_out verdict_bytes
spelled-laid (said.no_source x) = refl
spelled-laid (said.circle c rs) = refl
spelled-laid (said.order xs) = refl
spelled-laid said.none_left = refl

pub answer-laid : (v : said.Verdict) → outcome_number (laid v).outcome ≡ answer_to v
answer-laid (said.no_source x) = refl
answer-laid (said.circle c rs) = refl
answer-laid (said.order xs) = refl
answer-laid said.none_left = refl

module _ (m : ℕ) (t : Trace) (w : So (well_formed t)) where
  pub below : (v : said.Verdict) → said.Says (frame_of t) (kept_of m t) v → lacking (laid v).outcome < RECORDS
  below (said.no_source x) s = let h = ((reads-iff t x).0 s.0.reads).0 in omega (arith, well-fits t w)
  below (said.circle c rs) s = omega arith
  below (said.order xs) s = omega arith
  below said.none_left s = omega arith

  pub source-below : (r : Verdict) → Told t m r → lacking r.outcome < RECORDS
  source-below r h = elim (test (modelled m)) [
    | inl k ↦ let (v, s, e) = h.says k w in rw e (below v s)
    | inr k ↦ rw (h.nine k) (omega arith)
  ]

module _ (os rs : List ℕ) (n : ℕ) (long : length os ≡ RECORDS) (long' : length rs ≡ RECORDS) where
  pub laid-down : (before : List ℕ) → VERDICT ≤ length before
      → put_at rs (put_at (wide os) (put_at (wide (n ∷ [])) before 0) 2) (2 + 2 * RECORDS) ≡ (wide (n ∷ os) ++ rs) ++ drop VERDICT before
  unfolding wide
  laid-down before h =
      let count = wide (n ∷ []) in
      let many : length (wide os) ≡ 2 * RECORDS = omega (arith, wide-long os) in
      let all : length (wide (n ∷ os) ++ rs) ≡ VERDICT = omega (arith, length-append (wide (n ∷ os)) rs) in
      ap (λ (o : List ℕ). put_at rs o (2 + 2 * RECORDS)) (put_then count (wide os) before 0 (omega arith))
      ∙ ap (put_at rs (put_at (wide (n ∷ os)) before 0)) (let e : 2 + 2 * RECORDS ≡ 0 + length (wide (n ∷ os)) = omega arith in e)
      ∙ put_then (wide (n ∷ os)) rs before 0 (omega arith)
      ∙ put_front (wide (n ∷ os) ++ rs) before (omega arith)
      ∙ ap (λ (k : ℕ). (wide (n ∷ os) ++ rs) ++ drop k before) all

pub told-good : (text : List ℕ) (m : ℕ) (before : List ℕ) → text_number text ≡ 0 → So (modelled m) → VERDICT ≤ length before → (r : Verdict) → Told (read_whole text).trace m r
    → VerdictAnswered text m before (laid_out (spelled r) ++ drop VERDICT before) (outcome_number r.outcome)
told-good text m before z k h r t =
    let (v, s, e) = t.says k (whole-well text) in
    ranked-says text m VERDICT _ before z k h _ _ (
      v,
      s,
      ap (λ (r : Verdict). outcome_number r.outcome) e ∙ answer-laid v,
      ap (λ (r : Verdict). laid_out (spelled r) ++ drop VERDICT before) e ∙ ap (λ (bytes : List ℕ). bytes ++ drop VERDICT before) (spelled-laid v),
    )

pub answered-one : (text : List ℕ) (m : ℕ) (before a b : List ℕ) (r s : ℕ) → VerdictAnswered text m before a r → VerdictAnswered text m before b s → (r ≡ s) × (a ≡ b)
answered-one text m before = ranked-one text m VERDICT _ before (λ r s a b p q. one p q)
  where
    t : Trace
    t = (read_whole text).trace

    one : {r s : ℕ} {a b : List ℕ} → (v : said.Verdict) × said.Says (frame_of t) (kept_of m t) v × (r ≡ answer_to v) × (a ≡ verdict_bytes v ++ drop VERDICT before)
        → (v : said.Verdict) × said.Says (frame_of t) (kept_of m t) v × (s ≡ answer_to v) × (b ≡ verdict_bytes v ++ drop VERDICT before) → (r ≡ s) × (a ≡ b)
    one (v, x, e, f) (u, y, i, j) =
        let same = verdict-one (frame_of t) (kept_of m t) v u x y in
        (e ∙ ap answer_to same ∙ sym i, f ∙ ap (λ (v : said.Verdict). verdict_bytes v ++ drop VERDICT before) same ∙ sym j)
