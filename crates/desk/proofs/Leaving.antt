-- What is left of a faulty trace, in numbers and bytes.
--
--   left-long    == how many bytes an answer has
--   lines-there  == a text that was written into a buffer of RENDER bytes
--   no-space, space == what is answered where there is no room for it, and where there is
--   heading-few  == what comes in front is no more than the records that a trace may have
--   left_laid    == two numbers, old numbers and a text put one behind the other
--   left-said    == what is answered and left in the buffer, where nothing is wrong with the text and the model
--   smaller-one  == no second answer, and no second state of the buffer
use mathlib.Core.Path.{◌≡◌, sym, ap, ◌∙◌}
use mathlib.Core.Logic.{inl, inr}
use mathlib.Core.Bool.{Bool, true, false, So, cond}
use mathlib.Core.List.{List, [], ◌∷◌, ◌++◌}
use Prim.Native.Nat.{ℕ, ◌+◌, ◌*◌, ◌≤◌, ◌<◌}
use native.Mathlib.Omega.{arith}
use lib.ListN.{length, take, drop, replicate, length-append, length-replicate}
use lib.Seq.{take_at}
use borrow.Author.Tests.{le-leb, lt-leb}
use Rattle.trace.specs.Bounds.{RECORDS}
use Rattle.trace.specs.Meaning.{frame_of}
use Rattle.trace.specs.WellFormed.{well_formed}
use Rattle.trace.specs.declared.Trace.{Trace}
use Rattle.trace.proofs.Meaning.{reads-iff}
use Rattle.laws.proofs.Tests.{test}
use Rattle.text.specs.Room.{has_room, put_at, behind}
use Rattle.text.proofs.Put.{behind-room, put-none, put_front, put_then}
use Rattle.reader.specs.Whole.{read_whole}
use Rattle.reader.specs.TextOf.{render_trace}
use Rattle.pairs.specs.Kept.{modelled, kept_of}
use Rattle.rules.specs.Verdict.{Verdict, no_source, circle, order, none_left, Says}
use Rattle.pairs.proofs.ValidOrders.{well-fits}
use Rattle.parts.proofs.Alike.{picked-few}
use Rattle.report.specs.Bounds.{RENDER}
use Rattle.smaller.specs.Smaller.{By, ToldSmaller}
use Rattle.smaller.specs.declared.Smaller.{Smaller}
use Rattle.smaller.proofs.Unique.{told-one}
use Rattle.desk.specs.AnswerNumbers.{NO-ROOM}
use Rattle.desk.specs.Text.{text_number}
use Rattle.desk.specs.VerdictBytes.{wide}
use Rattle.desk.specs.Cuts.{LEFT, smaller_number, heading, left_bytes, CutAnswered}
use Rattle.desk.proofs.Ranked.{ranked-says, ranked-one}
use Rattle.desk.proofs.Spelling.{wide-long}

pub left-long : (s : Smaller) → length s.olds ≡ RECORDS → length (left_bytes s) ≡ LEFT + length (render_trace s.trace)
unfolding left_bytes
left-long s h =
    let lines = render_trace s.trace in
    let numbers = heading s.answer s.trace.len ∷ length lines ∷ s.olds in
    length-append (wide numbers) lines ∙ omega (arith, wide-long numbers)

pub lines-there : (text : List ℕ) (n : ℕ) (lines : List ℕ) → length text ≤ RENDER → n ≡ behind text (replicate RENDER 0) 0 → lines ≡ put_at text (replicate RENDER 0) 0
    → (n ≡ length text) × (take n lines ≡ text)
lines-there text n lines h e d =
    let room = length-replicate {A = ℕ} RENDER 0 in
    let same : n ≡ length text = omega (arith, e, behind-room text (replicate RENDER 0) 0 (omega arith)) in (
      same,
      ap (take n) (d ∙ put_front text (replicate RENDER 0) (omega arith)) ∙ take_at text (drop (length text) (replicate RENDER 0)) n (sym same),
    )

module _ (s : Smaller) (full : length s.olds ≡ RECORDS) (before : List ℕ) where
  pub no-space : length before < LEFT + length (render_trace s.trace)
      → (NO-ROOM ≡ cond (has_room (left_bytes s) before 0) (smaller_number s.answer) NO-ROOM) × (before ≡ put_at (left_bytes s) before 0)
  no-space h =
      let e : has_room (left_bytes s) before 0 ≡ false = lt-leb (0 + length (left_bytes s)) (length before) (omega (arith, left-long s full)) in
      (ap (λ (b : Bool). cond b (smaller_number s.answer) NO-ROOM) (sym e), sym (put-none (left_bytes s) before 0 (omega (arith, left-long s full))))

  pub space : LEFT + length (render_trace s.trace) ≤ length before → smaller_number s.answer ≡ cond (has_room (left_bytes s) before 0) (smaller_number s.answer) NO-ROOM
  space h =
      let e : has_room (left_bytes s) before 0 ≡ true = le-leb (0 + length (left_bytes s)) (length before) (omega (arith, left-long s full)) in
      ap (λ (b : Bool). cond b (smaller_number s.answer) NO-ROOM) (sym e)

module _ (m : ℕ) (t : Trace) (w : So (well_formed t)) where
  -- what comes in front
  abbrev Few : Smaller → Type 0
  Few s = heading s.answer s.trace.len ≤ RECORDS

  by-few : (v : Verdict) → Says (frame_of t) (kept_of m t) v → (s : Smaller) → By t m v s → Few s
  by-few (no_source x) h s e = let l = ((reads-iff t x).0 h.0.reads).0 in rw e (omega (arith, well-fits t w))
  by-few (circle c rs) h s (A, l, e) = rw e (omega (arith, picked-few t A t.len, well-fits t w))
  by-few (order xs) h s e = rw e (omega arith)
  by-few none_left h s (A, l, e) = rw e (omega (arith, picked-few t A t.len, well-fits t w))

  pub heading-few : (s : Smaller) → ToldSmaller t m s → Few s
  heading-few s h = elim (test (modelled m)) [
    | inl k ↦ let (v, q, b) = h.says k w in by-few v q s b
    | inr k ↦ rw (h.nine k) (omega arith)
  ]

pub left_laid : (a b : ℕ) (ns lines before : List ℕ) → length ns ≡ RECORDS → LEFT + length lines ≤ length before
    → put_at lines (put_at (wide ns) (put_at (wide (a ∷ b ∷ [])) before 0) 4) LEFT ≡ put_at (wide (a ∷ b ∷ ns) ++ lines) before 0
unfolding wide
left_laid a b ns lines before long h =
    let front = wide (a ∷ b ∷ []) in
    let many : length (wide ns) ≡ 2 * RECORDS = omega (arith, wide-long ns) in
    ap (λ (o : List ℕ). put_at lines o LEFT) (put_then front (wide ns) before 0 (omega arith))
    ∙ ap (put_at lines (put_at (wide (a ∷ b ∷ ns)) before 0)) (let e : LEFT ≡ 0 + length (wide (a ∷ b ∷ ns)) = omega arith in e)
    ∙ put_then (wide (a ∷ b ∷ ns)) lines before 0 (omega arith)

pub left-said : (text : List ℕ) (m : ℕ) (before : List ℕ) → text_number text ≡ 0 → So (modelled m) → (s : Smaller) → ToldSmaller (read_whole text).trace m s → (after : List ℕ) (r : ℕ)
    → r ≡ cond (has_room (left_bytes s) before 0) (smaller_number s.answer) NO-ROOM → after ≡ put_at (left_bytes s) before 0 → CutAnswered text m before after r
left-said text m before z k s told after r e d = ranked-says text m 0 _ before z k (omega arith) after r (s, told, e, d)

pub smaller-one : (text : List ℕ) (m : ℕ) (before a b : List ℕ) (r s : ℕ) → CutAnswered text m before a r → CutAnswered text m before b s → (r ≡ s) × (a ≡ b)
smaller-one text m before = ranked-one text m 0 _ before (λ r s a b p q. one p q)
  where
    t : Trace
    t = (read_whole text).trace

    one : {r s : ℕ} {a b : List ℕ}
        → (x : Smaller) × ToldSmaller t m x × (r ≡ cond (has_room (left_bytes x) before 0) (smaller_number x.answer) NO-ROOM) × (a ≡ put_at (left_bytes x) before 0)
        → (x : Smaller) × ToldSmaller t m x × (s ≡ cond (has_room (left_bytes x) before 0) (smaller_number x.answer) NO-ROOM) × (b ≡ put_at (left_bytes x) before 0)
        → (r ≡ s) × (a ≡ b)
    one (x, p, e, f) (y, q, i, j) =
        let same = told-one t m x y p q in (
          e ∙ ap (λ (x : Smaller). cond (has_room (left_bytes x) before 0) (smaller_number x.answer) NO-ROOM) same ∙ sym i,
          f ∙ ap (λ (x : Smaller). put_at (left_bytes x) before 0) same ∙ sym j,
        )
