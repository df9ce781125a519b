-- The part of a text from the start to the end of its bad line is the bad line.
--
--   line-long, line-told == the line of a text that is too long, and of one that is not
--   start-on, end-told   == where the next line starts, and where a line ends, from where it starts
--   start_none, start-line, end_none, end_line == both by the line's number
--   start-end, end-text == the part stands in the text
--   start-told, end_same == both by the line in a reading
--   part-bad            == its bytes are those of the line that the reader turns back; none where no line is to blame
use mathlib.Core.Path.{◌≡◌, refl, sym, ap, ◌∙◌}
use mathlib.Core.Logic.{inl, inr}
use mathlib.Core.Bool.{Bool, true}
use mathlib.Core.List.{List, [], ◌∷◌}
use Prim.Native.Nat.{ℕ, zero, suc, ◌+◌, ◌-◌, ◌≤◌, ◌<◌}
use native.Mathlib.Numerals.{add-one}
use native.Mathlib.Decide.{dec_lt}
use native.Mathlib.Omega.{arith}
use borrow.Author.Tests.{lt-ltb, le-ltb, le-leb, lt-leb, eq-eqb, ne_eqb}
use lib.Dec.{ltb}
use lib.ListN.{length, set, take, drop}
use Rattle.std.specs.Prelude.{Option, Some, None, Result, Ok, Err}
use Rattle.laws.proofs.Tests.{test}
use Rattle.trace.specs.Trace.{empty, started, pushed}
use Rattle.trace.specs.declared.Op.{Op}
use Rattle.trace.specs.declared.Trace.{Trace}
use Rattle.text.specs.Lines.{Line, lines, line_at, end_at, next_at}
use Rattle.text.proofs.Lines.{end-within, line-part, lines-on, lines-over}
use Rattle.reader.specs.Answer.{turned, init_given}
use Rattle.reader.specs.Bounds.{TEXT}
use Rattle.reader.specs.Read.{none, read_lines, read_inits, read_text, bad_lines, bad_inits, bad_line_of}
use Rattle.reader.specs.declared.Init.{Init}
use Rattle.reader.specs.declared.Reason.{Reason}
use Rattle.reader.proofs.Walks.{read_taken, bad-taken, read-refused, bad-refused, read-begun, bad-begun, read_left, bad-left}
use Rattle.reader.specs.declared.Reading.{Reading}
use Rattle.reader.specs.BadLine.{line_in, bad_line_number, passed, line_start, line_end, start_of, end_of}

module _ (text : List ℕ) where
  -- the line behind the one at a place
  next-in : (at : ℕ) → at ≤ length text → next_at text at ≤ length text
  unfolding next_at
  next-in at h = elim (dec_lt at (length text)) [
    | no g ↦ rw (le-leb (length text) at (omega arith)) h
    | yes g ↦ rw (lt-leb (length text) at g) (elim (dec_lt (end_at text at) (length text)) [
      | yes e ↦ rw (lt-ltb (end_at text at) (length text) e) (omega arith)
      | no e ↦ rw (le-ltb (end_at text at) (length text) (omega arith)) (end-within text at h)
    ])
  ]

  passed-in : (n : ℕ) → passed text n ≤ length text
  unfolding passed
  passed-in zero = omega arith
  passed-in (suc n) = next-in (passed text n) (passed-in n)

  -- the lines behind the line at a place
  next-lines : (at : ℕ) → at < length text → lines (drop (next_at text at) text) ≡ lines (drop (end_at text at + 1) text)
  unfolding next_at
  next-lines at h = rw (lt-leb (length text) at h) (elim (dec_lt (end_at text at) (length text)) [
    | yes e ↦ rw (lt-ltb (end_at text at) (length text) e)
    | no e ↦ rw (le-ltb (end_at text at) (length text) (omega arith)) (lines-over text (end_at text at) (omega arith) ∙ sym (lines-over text (end_at text at + 1) (omega arith)))
  ])

  -- the lines behind the first of those from a line's place on
  rest_lines : (k : ℕ) (l : Line) (ls : List Line) → lines (drop (passed text k) text) ≡ l ∷ ls → lines (drop (passed text (suc k)) text) ≡ ls
  unfolding passed
  rest_lines k l ls e = elim (dec_lt (passed text k) (length text)) [
    | no g ↦ let z : ◌≡◌ {A = ℕ} 0 1 = cc (lines-over text (passed text k) (omega arith)) in absurd (omega arith)
    | yes g ↦
        let both = sym (lines-on text (passed text k) g) ∙ e in
        let rest : lines (drop (end_at text (passed text k) + 1) text) ≡ ls = cc in
        next-lines (passed text k) g ∙ rest
  ]

  -- what a line's number tells of a part of the text: it is the line with that number, the empty part for 0
  record Tells (n : ℕ) (part : List ℕ) : Type 0 where
    none : n ≡ 0 → part ≡ []
    some : 0 < n → part ≡ line_at text (passed text (n - 1))

  -- line by line: the bad one among those from a place on has the number that the reader gives it
  walk : (ls : List Line) (t : Trace) (k : ℕ) → lines (drop (passed text k) text) ≡ ls → Tells (line_in (read_lines (k + 1) t ls).answer) (bad_lines t ls)
  unfolding read_lines bad_lines passed
  walk [] t k e = record { none = λ _. refl; some = λ h. absurd (omega arith) }
  walk (l ∷ ls) t k e = elim (dec_lt (passed text k) (length text)) [
    | no g ↦ let z : ◌≡◌ {A = ℕ} 0 1 = cc (lines-over text (passed text k) (omega arith)) in absurd (omega arith)
    | yes g ↦
        let both = sym (lines-on text (passed text k) g) ∙ e in
        let rest : lines (drop (end_at text (passed text k) + 1) text) ≡ ls = cc in
        let same : record { bytes = line_at text (passed text k); ended = ltb (end_at text (passed text k)) (length text) } ≡ l = cc in
        go (ap (λ (l : Line). l.bytes) same) (λ o. walk ls (pushed t o) (k + 1) (rw add-one (next-lines (passed text k) g ∙ rest))) (turned t l) refl
  ]
    where
      go : line_at text (passed text k) ≡ l.bytes
          → ((o : Op) → Tells (line_in (read_lines (k + 1 + 1) (pushed t o) ls).answer) (bad_lines (pushed t o) ls))
          → (r : Result Op Reason) → turned t l ≡ r → Tells (line_in (read_lines (k + 1) t (l ∷ ls)).answer) (bad_lines t (l ∷ ls))
      go b f (Ok o) q = rw (read_taken t l ls o q (k + 1), bad-taken t l ls o q) (f o)
      go b f (Err reason) q =
          rw (read-refused t l ls reason q (k + 1), bad-refused t l ls reason q)
          record { none = λ z. absurd (omega arith); some = λ _. sym b ∙ ap (λ (n : ℕ). line_at text (passed text n)) (let z : k ≡ k + 1 - 1 = omega arith in z) }

  -- the same where init lines may come
  walk-inits : (ls : List Line) (given : List Bool) (t : Trace) (k : ℕ) → lines (drop (passed text k) text) ≡ ls → Tells (line_in (read_inits (k + 1) given t ls).answer) (bad_inits given t ls)
  unfolding read_inits bad_inits passed
  walk-inits [] given t k e = record { none = λ _. refl; some = λ h. absurd (omega arith) }
  walk-inits (l ∷ ls) given t k e = go (λ a v. walk-inits ls (set given a true) (started t a v) (k + 1) (rw add-one (rest_lines k l ls e))) (init_given given l) refl
    where
      go : ((a v : ℕ) → Tells (line_in (read_inits (k + 1 + 1) (set given a true) (started t a v) ls).answer) (bad_inits (set given a true) (started t a v) ls))
          → (i : Option Init) → init_given given l ≡ i → Tells (line_in (read_inits (k + 1) given t (l ∷ ls)).answer) (bad_inits given t (l ∷ ls))
      go f (Some i) q = rw (read-begun t l ls given i.addr i.value q (k + 1), bad-begun t l ls given i.addr i.value q) (f i.addr i.value)
      go f None q = rw (read_left t l ls given q (k + 1), bad-left t l ls given q) (walk (l ∷ ls) t k e)

  tells : Tells (bad_line_number text) (bad_line_of text)
  unfolding read_text bad_line_of passed
  tells = elim (test (ltb TEXT (length text))) [
    | inl e ↦ rw e record { none = λ _. refl; some = λ h. absurd (omega arith) }
    | inr e ↦ rw e (walk-inits (lines text) none empty 0 refl)
  ]

  pub line-long : TEXT < length text → bad_line_number text ≡ 0
  unfolding read_text
  line-long h = rw (lt-ltb TEXT (length text) h)

  pub line-told : length text ≤ TEXT → (r : Reading) → r ≡ read_inits 1 none empty (lines text) → line_in r.answer ≡ bad_line_number text
  unfolding read_text
  line-told h r e = rw (le-ltb TEXT (length text) h) (ap (λ (r : Reading). line_in r.answer) e)

  -- a line that is not the last: the next one starts behind its feed
  pub start-on : (n at end : ℕ) → 0 < n → at ≡ line_start text n → end ≡ end_at text at → end + 1 < length text → end + 1 ≡ line_start text (n + 1)
  unfolding passed next_at
  start-on n at end h s e l =
      let m : suc (n - 1) ≡ n + 1 - 1 = omega arith in
      let g : end + 1 ≡ next_at text at = rw (lt-leb (length text) at (omega arith), sym e, lt-ltb end (length text) (omega arith)) in
      g ∙ ap (next_at text) s ∙ ap (passed text) m

  pub end-told : (n at end : ℕ) → 0 < n → at ≡ line_start text n → end ≡ end_at text at → end ≡ line_end text n
  unfolding line_end
  end-told n at end h s e = rw (ne_eqb n 0 (λ z. omega arith)) (e ∙ ap (end_at text) s)

  pub start_none : bad_line_number text ≡ 0 → start_of text ≡ 0
  unfolding start_of passed
  start_none e = rw e

  pub start-line : (n : ℕ) → n ≡ bad_line_number text → start_of text ≡ passed text (n - 1)
  unfolding start_of
  start-line n e = rw e

  pub end_none : bad_line_number text ≡ 0 → end_of text ≡ 0
  unfolding end_of line_end
  end_none e = rw (eq-eqb (bad_line_number text) 0 e)

  pub end_line : 0 < bad_line_number text → end_of text ≡ end_at text (start_of text)
  unfolding end_of line_end start_of
  end_line h = rw (ne_eqb (bad_line_number text) 0 (λ e. omega arith))

  pub start-end : start_of text ≤ end_of text
  start-end = elim (dec_lt 0 (bad_line_number text)) [
    | yes h ↦ omega (arith, end_line h)
    | no h ↦ omega (arith, start_none (omega arith), end_none (omega arith))
  ]

  pub end-text : end_of text ≤ length text
  unfolding start_of
  end-text = elim (dec_lt 0 (bad_line_number text)) [
    | yes h ↦ omega (arith, end_line h, end-within text (start_of text) (passed-in (bad_line_number text - 1)))
    | no h ↦ omega (arith, end_none (omega arith))
  ]

  pub start-told : (n : ℕ) → n ≡ bad_line_number text → line_start text n ≡ start_of text
  unfolding start_of
  start-told n e = ap (line_start text) e

  pub end_same : (n : ℕ) → n ≡ bad_line_number text → line_end text n ≡ end_of text
  unfolding end_of
  end_same n e = ap (line_end text) e

  pub part-bad : take (end_of text - start_of text) (drop (start_of text) text) ≡ bad_line_of text
  part-bad = elim (dec_lt 0 (bad_line_number text)) [
    | yes h ↦ line-part text (start_of text) (end_of text) (end_line h) ∙ ap (line_at text) (start-line (bad_line_number text) refl) ∙ sym (tells.some h)
    | no h ↦ let z : bad_line_number text ≡ 0 = omega arith in rw (end_none z, start_none z) (sym (tells.none z))
  ]
