-- A limited verdict in bytes.
--
--   shown-fits, shown-below == its operations have places; a record that lacks a source is one of the trace
--   laid-behind  == a count laid behind the bytes of a verdict
--   limited-good == what is answered and left in the buffer, where nothing is wrong
--   limited-one  == no second answer, and no second state of the buffer
use mathlib.Core.Path.{◌≡◌, refl, sym, ap, ◌∙◌}
use mathlib.Core.Logic.{inl, inr}
use mathlib.Core.Bool.{So}
use mathlib.Core.List.{List, ◌++◌}
use Prim.Native.Nat.{ℕ, ◌+◌, ◌≤◌, ◌<◌}
use native.Mathlib.Omega.{arith}
use lib.ListN.{length, drop, length-append}
use Rattle.laws.proofs.Tests.{test}
use Rattle.trace.specs.Bounds.{RECORDS}
use Rattle.trace.specs.Meaning.{frame_of}
use Rattle.trace.specs.WellFormed.{well_formed}
use Rattle.trace.specs.declared.Trace.{Trace}
use Rattle.text.specs.Room.{put_at}
use Rattle.text.proofs.Put.{put_front, put_then}
use Rattle.reader.specs.Whole.{read_whole}
use Rattle.reader.proofs.Whole.{whole-well}
use Rattle.pairs.specs.Kept.{modelled, kept_of}
use Rattle.rules.specs.Verdict as verdict
use Rattle.plain.specs.Limited as said
use Rattle.plain.proofs.Limited.{limits-one}
use Rattle.limited.specs.LimitedVerdict.{laid_limit, ToldLimited}
use Rattle.limited.specs.declared.Limit.{Limit}
use Rattle.desk.specs.Text.{text_number}
use Rattle.desk.specs.VerdictBytes.{VERDICT, wide, verdict_bytes}
use Rattle.desk.specs.inner.SpelledVerdict.{lacking, spelled, laid_out}
use Rattle.desk.specs.Limits.{LIMITED, eight, answer_at, verdict_in, count_in, bytes_at, limit_number, shown, LimitAnswered}
use Rattle.desk.proofs.Ranked.{ranked-says, ranked-one}
use Rattle.desk.proofs.Spelling.{below, spelled-laid, answer-laid}

pub eight-long : (n : ℕ) → length (eight n) ≡ 8
unfolding eight wide
eight-long n = refl

module _ (m : ℕ) (t : Trace) (w : So (well_formed t)) where
  below_at : (l : ℕ) (a : said.Limited) → said.Limits (frame_of t) (kept_of m t) l a → lacking (shown (laid_limit a)).outcome < RECORDS
  below_at l (said.decided v n) s = below m t w v s.0
  below_at l (said.undecided n) s = omega arith

  pub shown-below : (l : ℕ) (r : Limit) → ToldLimited t m l r → lacking (shown r).outcome < RECORDS
  shown-below l r h = elim (test (modelled m)) [
    | inl k ↦ let (a, s, e) = h.says k w in rw e (below_at l a s)
    | inr k ↦ rw (h.nine k) (omega arith)
  ]

-- the verdict is laid, then the count behind it
pub laid-behind : (word before : List ℕ) (n : ℕ) → length word ≡ VERDICT → LIMITED ≤ length before → put_at (eight n) (word ++ drop VERDICT before) VERDICT ≡ (word ++ eight n) ++ drop LIMITED before
laid-behind word before n l h =
    let front : word ++ drop VERDICT before ≡ put_at word before 0 = ap (λ (k : ℕ). word ++ drop k before) (sym l) ∙ sym (put_front word before (omega arith)) in
    let all : length (word ++ eight n) ≡ LIMITED = omega (arith, length-append word (eight n), eight-long n) in
    ap (λ (o : List ℕ). put_at (eight n) o VERDICT) front
    ∙ ap (put_at (eight n) (put_at word before 0)) (let e : VERDICT ≡ 0 + length word = omega arith in e)
    ∙ put_then word (eight n) before 0 (omega (arith, eight-long n))
    ∙ put_front (word ++ eight n) before (omega arith)
    ∙ ap (λ (k : ℕ). (word ++ eight n) ++ drop k before) all

-- of what is laid, its number, its bytes and its count
number_at : (a : said.Limited) → limit_number (laid_limit a).outcome ≡ answer_at a
number_at (said.decided v n) = answer-laid v
number_at (said.undecided n) = refl

bytes-at : (a : said.Limited) → laid_out (spelled (shown (laid_limit a))) ≡ verdict_bytes (verdict_in a)
bytes-at (said.decided v n) = spelled-laid v
bytes-at (said.undecided n) = spelled-laid verdict.none_left

count_at : (a : said.Limited) → (laid_limit a).steps ≡ count_in a
count_at (said.decided v n) = refl
count_at (said.undecided n) = refl

pub limited-good : (text : List ℕ) (m l : ℕ) (before : List ℕ) → text_number text ≡ 0 → So (modelled m) → LIMITED ≤ length before → (r : Limit) → ToldLimited (read_whole text).trace m l r
    → LimitAnswered text m l before ((laid_out (spelled (shown r)) ++ eight r.steps) ++ drop LIMITED before) (limit_number r.outcome)
limited-good text m l before z k h r t =
    let (a, s, e) = t.says k (whole-well text) in
    ranked-says text m LIMITED _ before z k h _ _ (
      a,
      s,
      ap (λ (r : Limit). limit_number r.outcome) e ∙ number_at a,
      ap (λ (r : Limit). (laid_out (spelled (shown r)) ++ eight r.steps) ++ drop LIMITED before) e
          ∙ ap (λ (bytes : List ℕ). (bytes ++ eight (laid_limit a).steps) ++ drop LIMITED before) (bytes-at a)
          ∙ ap (λ (n : ℕ). (verdict_bytes (verdict_in a) ++ eight n) ++ drop LIMITED before) (count_at a),
    )

pub limited-one : (text : List ℕ) (m l : ℕ) (before a b : List ℕ) (r s : ℕ) → LimitAnswered text m l before a r → LimitAnswered text m l before b s → (r ≡ s) × (a ≡ b)
limited-one text m l before = ranked-one text m LIMITED _ before (λ r s a b p q. one p q)
  where
    t : Trace
    t = (read_whole text).trace

    one : {r s : ℕ} {a b : List ℕ} → (v : said.Limited) × said.Limits (frame_of t) (kept_of m t) l v × (r ≡ answer_at v) × (a ≡ bytes_at v ++ drop LIMITED before)
        → (v : said.Limited) × said.Limits (frame_of t) (kept_of m t) l v × (s ≡ answer_at v) × (b ≡ bytes_at v ++ drop LIMITED before) → (r ≡ s) × (a ≡ b)
    one (v, x, e, f) (u, y, i, j) =
        let same = limits-one (frame_of t) (kept_of m t) l v u x y in
        (e ∙ ap answer_at same ∙ sym i, f ∙ ap (λ (v : said.Limited). bytes_at v ++ drop LIMITED before) same ∙ sym j)
