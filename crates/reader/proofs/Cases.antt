-- Each number is given exactly in its case.
--
--   number-one        == two reasons with one number are one
--   turned-refused    == a line is refused for a reason exactly when it is the lowest whose case holds
--   turned_taken      == a line is taken exactly when no case holds, and as the record that it renders
--   refused-exactly   == a text is refused for a reason at a line exactly when it is turned back so
--   one, .., eight, seventeen == the same in the words of the table, number by number
--   read-good         == a text is read exactly when it is not too long and all its lines are clean
--   part_at           == the part beside a refusal is the line that is turned back
--   part-long, part-good == it is empty where the text is too long or good
use Rattle.std.specs.Prelude.{Option, Some, None, Result, Ok, Err}
use mathlib.Core.Path.{◌≡◌, refl, sym, ap, subst, ◌∙◌}
use mathlib.Core.Logic.{◌↔◌, ◌⊎◌, inl, inr}
use mathlib.Core.Bool.{Bool, true, false, ◌&&◌, cond, So, false≢true}
use mathlib.Core.List.{List, [], ◌∷◌, ◌++◌, append-nil}
use Prim.Native.Nat.{ℕ, suc, ◌+◌, ◌≤◌, ◌<◌}
use native.Mathlib.Decide.{dec_lt}
use native.Mathlib.Omega.{arith}
use lib.Dec.{eqb, ltb}
use lib.ListN.{length, get_or, replicate}
use borrow.Author.Tests.{ltb-false, lt-ltb, le-ltb, eqb-true, eq-eqb, eqb-false, ne_eqb}
use Rattle.laws.proofs.Tests.{test, and-iff, same-iff, so-eq, so-lt, so-le, three as which, last?}
use Rattle.trace.specs.Bounds.{RECORDS, ADDRESSES, VALUES}
use Rattle.trace.specs.Op.{address, written}
use Rattle.trace.specs.Trace.{started, pushed}
use Rattle.trace.specs.Fault.{WritesFirst, WritesAgain}
use Rattle.trace.specs.declared.Op.{Op}
use Rattle.trace.specs.declared.Trace.{Trace}
use Rattle.trace.proofs.Places.{pushed-len}
use Rattle.trace.proofs.WellFormed.{bounded-iff, written-before-iff}
use Rattle.reader.specs.Bounds.{TEXT, LINE}
use Rattle.text.specs.Lines.{Line, lines}
use Rattle.reader.specs.LineForms.{render, render_init, form_of, init_of, raw_of}
use Rattle.reader.specs.declared.Init.{Init}
use Rattle.reader.specs.Answer.{number_of, in_bounds, one_address, op_of, joined, checked, late, unformed, checked_form, turned, init_given}
use Rattle.reader.specs.Read.{refusal, read_lines, read_inits, read_text, bad_lines, bad_inits, bad_line_of}
use Rattle.reader.specs.Cases.{Renders, Begins, Past, PastInit, TwoAddresses, Above, top, with_init, grown, LateInit, Case, NoLower, LowestCase, Free, Clean, CleanInit, Took, nothing, begin, next, ReachesLine, AtLine, Back, long, line}
use Rattle.reader.specs.declared.Raw.{Raw}
use Rattle.reader.specs.declared.Raw.TheVariants.{Load, Store, Swap, Fence}
use Rattle.reader.specs.declared.Reason.{Reason}
use Rattle.reader.specs.declared.Reason.TheVariants.{LongText, LongLine, NoForm, PastBound, Addresses, FirstValue, TooMany, Twice, Late}
use Rattle.reader.specs.declared.Answer.{Answer}
use Rattle.reader.specs.declared.Answer.TheVariants as answer
use Rattle.reader.specs.declared.Reading.{Reading}
use Rattle.reader.proofs.Bounded.{in-bounds-iff}
use Rattle.reader.proofs.Steps.{joined-tests}
use Rattle.reader.proofs.Begins.{Good, begins-good, good-begins, begins-none}
use Rattle.reader.proofs.Walks.{read_taken, bad-taken, read-refused, bad-refused, read-begun, bad-begun, read_left, bad-left}
use Rattle.reader.proofs.Rendering.{form-only, no-form, render-one, render-op-one, init-only, init-none, init-one, no-init}

-- the reason of a number
abbrev reason_of : ℕ → Reason
reason_of k = get_or (LongText ∷ LongText ∷ LongLine ∷ NoForm ∷ PastBound ∷ Addresses ∷ FirstValue ∷ TooMany ∷ Twice ∷ replicate 8 LongText ++ (Late ∷ [])) k LongText

number-back : (reason : Reason) → reason_of (number_of reason) ≡ reason
number-back LongText = refl
number-back LongLine = refl
number-back NoForm = refl
number-back PastBound = refl
number-back Addresses = refl
number-back FirstValue = refl
number-back TooMany = refl
number-back Twice = refl
number-back Late = refl

pub number-one : (r s : Reason) → number_of r ≡ number_of s → r ≡ s
number-one r s e = sym (number-back r) ∙ ap reason_of e ∙ number-back s

-- the first and the last number of the reader
number-range : (reason : Reason) → (number_of LongText ≤ number_of reason) × ((number_of reason ≤ number_of Twice) ⊎ (reason ≡ Late))
number-range LongText = (omega arith, inl (omega arith))
number-range LongLine = (omega arith, inl (omega arith))
number-range NoForm = (omega arith, inl (omega arith))
number-range PastBound = (omega arith, inl (omega arith))
number-range Addresses = (omega arith, inl (omega arith))
number-range FirstValue = (omega arith, inl (omega arith))
number-range TooMany = (omega arith, inl (omega arith))
number-range Twice = (omega arith, inl (omega arith))
number-range Late = (omega arith, inr refl)

-- ---- what the tests say
out-iff : {a b : Bool} {A B : Type 0} → (a ≡ false) ↔ A → (b ≡ false) ↔ B → (a && b ≡ false) ↔ (A ⊎ B)
out-iff {a = true} p q = (λ t. inr (q.0 t), λ t. elim t [ inl u ↦ absurd (false≢true (sym (p.1 u))) | inr u ↦ q.1 u ])
out-iff {a = false} p q = (λ t. inl (p.0 refl), λ t. refl)

so-ge : {m n : ℕ} → (ltb m n ≡ false) ↔ (n ≤ m)
so-ge {m} {n} = (ltb-false m n, le-ltb m n)

pub past-iff : (raw : Raw) → (in_bounds raw ≡ false) ↔ Past raw
past-iff (Load t a r) = out-iff (out-iff so-ge so-ge) so-ge
past-iff (Store t a w) = out-iff (out-iff so-ge so-ge) so-ge
past-iff (Swap t a r b w) = out-iff (out-iff (out-iff (out-iff so-ge so-ge) so-ge) so-ge) so-ge
past-iff (Fence t) = so-ge

two-iff : (raw : Raw) → (one_address raw ≡ false) ↔ TwoAddresses raw
two-iff (Load t a r) = (λ t. false≢true (sym t), λ u. absurd u)
two-iff (Store t a w) = (λ t. false≢true (sym t), λ u. absurd u)
two-iff (Swap t a r b w) = (eqb-false a b, ne_eqb a b)
two-iff (Fence t) = (λ t. false≢true (sym t), λ u. absurd u)

-- a swap of one address is that of a record
raw-op : (raw : Raw) → So (one_address raw) → raw ≡ raw_of (op_of raw)
raw-op (Load t a r) h = refl
raw-op (Store t a w) h = refl
raw-op (Swap t a r b w) h = ap (λ b. Swap t a r b w) (sym (eqb-true a b h))
raw-op (Fence t) h = refl

-- ---- a line

-- what a turn says of its line
data Verdict (s : Above) (l : Line) : Result Op Reason → Type 0 where
  clean : {o : Op} → Clean s l o → Verdict s l (Ok o)
  bad : {reason : Reason} → LowestCase reason s l → Verdict s l (Err reason)

module _ (s : Above) (l : Line) where
  abbrev t : Trace
  t = s.trace

  -- all numbers below n are past
  abbrev Under : ℕ → Type 0
  Under n = (other : Reason) → number_of other < n → Case other s l → ⊥

  past_one : (reason : Reason) → (Case reason s l → ⊥) → NoLower reason s l → Under (suc (number_of reason))
  past_one reason c low other h k = elim (last? h) [ inl q ↦ c (subst (λ r. Case r s l) (number-one other reason q) k) | inr m ↦ low other m k ]

  module _ (reason : Reason) {rest : Result Op Reason} (low : NoLower reason s l) (next : Under (suc (number_of reason)) → Verdict s l rest) where
    when : {b : Bool} → So b ↔ Case reason s l → Verdict s l (cond b (Err reason) rest)
    when {b = true} c = bad (c.0 refl, low)
    when {b = false} c = next (past_one reason (λ k. false≢true (c.1 k)) low)

    unless : {b : Bool} → (b ≡ false) ↔ Case reason s l → Verdict s l (cond b rest (Err reason))
    unless {b = true} c = next (past_one reason (λ k. false≢true (sym (c.1 k))) low)
    unless {b = false} c = bad (c.0 refl, low)

  -- a line that renders one raw record says what holds of that one
  module _ (raw : Raw) (e : l.bytes ≡ render raw) where
    says : {A : Type 0} (P : Raw → Type 0) → A ↔ P raw → A ↔ Renders l P
    says P f = (λ a. (raw, e, f.0 a), λ k. f.1 (subst P (render-one k.0 raw (sym k.1 ∙ e)) k.2))

    -- no number is left
    clean-right : So (one_address raw) → Under (suc (number_of Twice)) → Clean s l (op_of raw)
    clean-right h low = (
      λ reason c. elim (number-range reason).1 [
        | inl r ↦ low reason (omega arith) c
        | inr r ↦ let (a, v, q, _) = subst (λ r. Case r s l) r c in no-init raw a v (sym e ∙ q)
      ],
      e ∙ ap render (raw-op raw h),
    )

    -- numbers 6 to 8
    joined-right : So (one_address raw) → So (in_bounds raw) → NoLower FirstValue s l → Verdict s l (joined t (op_of raw))
    joined-right h k low =
        let o = op_of raw in
        subst (Verdict s l) (sym (joined-tests t o ((bounded-iff o).1 ((in-bounds-iff o).0 (subst (λ r. So (in_bounds r)) (raw-op raw h) k)))))
        (when FirstValue low
        (λ low. when TooMany low
        (λ low. when Twice low
        (λ low. clean (clean-right h low))
        (says (λ raw. WritesAgain t (op_of raw)) (and-iff same-iff (written-before-iff t t.len (address o) (written o)))))
        (says (λ raw. RECORDS ≤ t.len) so-le))
        (says (λ raw. WritesFirst t (op_of raw)) (and-iff same-iff so-eq)))

    -- numbers 4 and 5
    checked-right : NoLower PastBound s l → Verdict s l (checked t raw)
    unfolding checked
    checked-right low =
        let two = says TwoAddresses (two-iff raw) in
        let four = past-says (says Past (past-iff raw)) in
        unless PastBound low
        (λ low. unless Addresses low
        (λ low. joined-right
        (elim (test (one_address raw)) [ inl h ↦ h | inr h ↦ absurd (low Addresses (omega arith) (two.0 h)) ])
        (elim (test (in_bounds raw)) [ inl h ↦ h | inr h ↦ absurd (low PastBound (omega arith) (four.0 h)) ])
        low)
        two)
        four
      where
        -- a line of a record is no init line
        past-says : {A : Type 0} → A ↔ Renders l Past → A ↔ Case PastBound s l
        past-says i = (λ a. inl (i.0 a), λ k. elim k [ inl p ↦ i.1 p | inr (a, v, q, _) ↦ absurd (no-init raw a v (sym e ∙ q)) ])

  -- an init line: numbers 4 and 17
  module _ (a v : ℕ) (e : l.bytes ≡ render_init a v) where
    no-raw : {P : Raw → Type 0} → Renders l P → ⊥
    no-raw k = no-init k.0 a v (sym k.1 ∙ e)

    past-init : ((ltb a ADDRESSES && ltb v VALUES) ≡ false) ↔ PastInit a v
    past-init = out-iff so-ge so-ge

    four-init : ((ltb a ADDRESSES && ltb v VALUES) ≡ false) ↔ Case PastBound s l
    four-init = (
      λ p. inr (a, v, e, past-init.0 p),
      λ c. elim c [
        | inl k ↦ absurd (no-raw k)
        | inr (b, w, q, p) ↦ let k = init-one b w a v (sym q ∙ e) in past-init.1 (elim p [ inl h ↦ inl (omega (arith, k.0)) | inr h ↦ inr (omega (arith, k.1)) ])
      ],
    )

    -- what is left of an init line that earns none of 2, 3, 4
    good : Under (suc (number_of PastBound)) → get_or s.given a false ≡ false → Good s.given l a v
    good low q =
        let b : (a < ADDRESSES) × (v < VALUES) = elim (test (ltb a ADDRESSES && ltb v VALUES)) [ inl h ↦ (and-iff so-lt so-lt).0 h | inr h ↦ absurd (low PastBound (omega arith) (four-init.0 h)) ] in
        record {
          text = e;
          short = elim (dec_lt LINE (length l.bytes)) [ yes h ↦ absurd (low LongLine (omega arith) h) | no h ↦ omega arith ];
          whole = elim (test l.ended) [ inl h ↦ h | inr h ↦ absurd (low NoForm (omega arith) (inl h)) ];
          address = b.0;
          value = b.1;
          once = q;
        }

    late-right : (Good s.given l a v → 0 < t.len) → NoLower PastBound s l → Verdict s l (late a v)
    unfolding late
    late-right stuck low = unless PastBound low (λ low. bad ((a, v, e, why low), below low)) four-init
      where
        why : Under (suc (number_of PastBound)) → LateInit s a v
        why low = elim (test (get_or s.given a false)) [ inl h ↦ inr h | inr h ↦ inl (stuck (good low h)) ]

        below : Under (suc (number_of PastBound)) → NoLower Late s l
        below low LongText h c = c
        below low LongLine h c = low LongLine (omega arith) c
        below low NoForm h c = low NoForm (omega arith) c
        below low PastBound h c = low PastBound (omega arith) c
        below low Addresses h c = no-raw c
        below low FirstValue h c = no-raw c
        below low TooMany h c = no-raw c
        below low Twice h c = no-raw c
        below low Late h c = omega arith

  -- no init line that stands here gives a first value, unless a record stands above
  abbrev Stuck : Type 0
  Stuck = (a v : ℕ) → Good s.given l a v → 0 < t.len

  unformed-right : Stuck → NoLower NoForm s l → l.ended ≡ true → form_of l.bytes ≡ None → (i : Option Init) → init_of l.bytes ≡ i → Verdict s l (unformed i)
  unformed-right stuck low p q (Some i) r =
      let e = init-only l.bytes i.addr i.value r in
      late-right i.addr i.value e (stuck i.addr i.value) (past_one NoForm (λ c. elim c [ inl f ↦ false≢true (sym f ∙ p) | inr n ↦ n.1 i.addr i.value e ]) low)
  unformed-right stuck low p q None r = bad {reason = NoForm} (inr ((no-form l.bytes).0 q, init-none l.bytes r), low)

  -- number 3
  form-right : Stuck → NoLower NoForm s l → (b : Bool) → l.ended ≡ b → (f : Option Raw) → form_of l.bytes ≡ f → Verdict s l (cond b (checked_form t f (init_of l.bytes)) (Err NoForm))
  form-right stuck low true p (Some raw) q = let e = form-only l.bytes raw q in checked-right raw e (past_one NoForm (λ c. elim c [ inl f ↦ false≢true (sym f ∙ p) | inr n ↦ n.0 raw e ]) low)
  form-right stuck low true p None q = unformed-right stuck low p q (init_of l.bytes) refl
  form-right stuck low false p f q = bad (inl p, low)

  turned_right : Stuck → Verdict s l (turned t l)
  unfolding turned
  turned_right stuck = when LongLine (past_one LongText (λ c. c) (λ other h. let r = number-range other in absurd (omega arith))) (λ low. form-right stuck low l.ended refl (form_of l.bytes) refl) so-lt

  -- a good init line that stands at the top earns no number, and the other way round
  pub good-free : (a v : ℕ) → Good s.given l a v → t.len ≡ 0 → Free s l
  good-free a v g n LongText c = c
  good-free a v g n LongLine c = let h = g.short in omega arith
  good-free a v g n NoForm (inl c) = false≢true (sym c ∙ g.whole)
  good-free a v g n NoForm (inr c) = c.1 a v g.text
  good-free a v g n PastBound c = false≢true (sym ((four-init a v g.text).1 c) ∙ (and-iff so-lt so-lt).1 (g.address, g.value))
  good-free a v g n Addresses c = no-raw a v g.text c
  good-free a v g n FirstValue c = no-raw a v g.text c
  good-free a v g n TooMany c = no-raw a v g.text c
  good-free a v g n Twice c = no-raw a v g.text c
  good-free a v g n Late (b, w, q, inl c) = omega arith
  good-free a v g n Late (b, w, q, inr c) = false≢true (sym g.once ∙ subst (λ b. So (get_or s.given b false)) (init-one b w a v (sym q ∙ g.text)).0 c)

  pub free-good : (a v : ℕ) → CleanInit s l a v → Good s.given l a v × (t.len ≡ 0)
  free-good a v c = (
    good a v c.1 (λ other h. c.0 other) (elim (test (get_or s.given a false)) [ inl h ↦ absurd (c.0 Late (a, v, c.1, inr h)) | inr h ↦ h ]),
    elim (dec_lt 0 t.len) [ yes h ↦ absurd (c.0 Late (a, v, c.1, inl h)) | no h ↦ omega arith ],
  )

  pub turned-refused : Stuck → (reason : Reason) → (turned t l ≡ Err reason) ↔ LowestCase reason s l
  turned-refused stuck reason = (λ e. lowest (subst (Verdict s l) e (turned_right stuck)), λ c. go c (turned t l) (turned_right stuck))
    where
      lowest : Verdict s l (Err reason) → LowestCase reason s l
      lowest (bad c) = c

      go : LowestCase reason s l → (w : Result Op Reason) → Verdict s l w → w ≡ Err reason
      go c (Ok o) (clean d) = absurd (d.0 reason c.0)
      go c (Err other) (bad d) = elim (which (number_of other) (number_of reason)) [
        | inl h ↦ absurd (c.1 other h d.0)
        | inr h ↦ elim h [ inl q ↦ ap Err (number-one other reason q) | inr m ↦ absurd (d.1 reason m c.0) ]
      ]

  pub turned_taken : Stuck → (o : Op) → (turned t l ≡ Ok o) ↔ Clean s l o
  turned_taken stuck o = (λ e. cleaned (subst (Verdict s l) e (turned_right stuck)), λ c. go c (turned t l) (turned_right stuck))
    where
      cleaned : Verdict s l (Ok o) → Clean s l o
      cleaned (clean c) = c

      go : Clean s l o → (w : Result Op Reason) → Verdict s l w → w ≡ Ok o
      go c (Err reason) (bad d) = absurd (c.0 reason d.0)
      go c (Ok p) (clean d) = ap Ok (render-op-one p o (sym d.1 ∙ c.1))

  -- where a line is judged without regard to init lines
  clean-stuck : (o : Op) → Clean s l o → Stuck
  clean-stuck o c a v g = absurd (no-init (raw_of o) a v (sym c.1 ∙ g.text))

  bad-stuck : (reason : Reason) → LowestCase reason s l → Stuck
  bad-stuck reason c a v g = elim (dec_lt 0 t.len) [ yes h ↦ h | no h ↦ absurd (good-free a v g (omega arith) reason c.0) ]

  -- each line is one of three
  pub data Which : Type 0 where
    record-line : (o : Op) → Clean s l o → Which
    init-line : (a v : ℕ) → CleanInit s l a v → Which
    bad-line : (reason : Reason) → LowestCase reason s l → Which

  judged : Stuck → Which
  judged stuck = go (turned t l) (turned_right stuck)
    where
      go : (w : Result Op Reason) → Verdict s l w → Which
      go (Ok o) (clean c) = record-line o c
      go (Err reason) (bad c) = bad-line reason c

  pub each : Which
  each = elim (dec_lt 0 t.len) [
    | yes h ↦ judged (λ a v g. h)
    | no h ↦ go (omega arith) (init_given s.given l) refl
  ]
    where
      go : t.len ≡ 0 → (i : Option Init) → init_given s.given l ≡ i → Which
      go n (Some i) q = let g = begins-good s.given l i.addr i.value q in init-line i.addr i.value (good-free i.addr i.value g n, g.text)
      go n None q = judged (λ a v g. absurd (begins-none s.given l q a v g))

-- ---- a text
abbrev pub good_of : Trace → Reading
good_of t = record { answer = answer.Good; trace = t }

abbrev answer-of : Reading → Answer
answer-of r = r.answer

-- the rest of a text: as long as no record stands above, init lines may come
abbrev pub read_on : ℕ → Above → List Line → Reading
read_on n s ls = cond (eqb s.trace.len 0) (read_inits n s.given s.trace ls) (read_lines n s.trace ls)

abbrev bad_on : Above → List Line → List ℕ
bad_on s ls = cond (eqb s.trace.len 0) (bad_inits s.given s.trace ls) (bad_lines s.trace ls)

-- a record makes the trace longer, or it is full
pushed-full : (t : Trace) (o : Op) → RECORDS ≤ t.len → pushed t o ≡ t
unfolding pushed
pushed-full t o h = rw (le-ltb t.len RECORDS h)

some-record : (t : Trace) (o : Op) → 0 < (pushed t o).len
some-record t o = elim (dec_lt t.len RECORDS) [ yes h ↦ rw (pushed-len t o h) (omega arith) | no h ↦ rw (pushed-full t o (omega arith)) (omega arith) ]

pub read-end : (n : ℕ) (s : Above) → read_on n s [] ≡ good_of s.trace
unfolding read_inits read_lines
read-end n s = elim (test (eqb s.trace.len 0)) [ inl e ↦ rw e refl | inr e ↦ rw e refl ]

bad-end : (s : Above) → bad_on s [] ≡ []
unfolding bad_inits bad_lines
bad-end s = elim (test (eqb s.trace.len 0)) [ inl e ↦ rw e refl | inr e ↦ rw e refl ]

module _ (s : Above) (l : Line) (ls : List Line) where
  -- no first value is given here
  left : Stuck s l → So (eqb s.trace.len 0) → init_given s.given l ≡ None
  left stuck e = go (init_given s.given l) refl
    where
      go : (i : Option Init) → init_given s.given l ≡ i → i ≡ None
      go (Some i) q = let h = stuck i.addr i.value (begins-good s.given l i.addr i.value q) in absurd (omega (arith, eqb-true s.trace.len 0 e))
      go None q = refl

  stuck-reads : Stuck s l → (n : ℕ) → read_on n s (l ∷ ls) ≡ read_lines n s.trace (l ∷ ls)
  stuck-reads stuck n = elim (test (eqb s.trace.len 0)) [
    | inl e ↦ rw e (read_left s.trace l ls s.given (left stuck e) n)
    | inr e ↦ rw e refl
  ]

  stuck-bad : Stuck s l → bad_on s (l ∷ ls) ≡ bad_lines s.trace (l ∷ ls)
  stuck-bad stuck = elim (test (eqb s.trace.len 0)) [
    | inl e ↦ rw e (bad-left s.trace l ls s.given (left stuck e))
    | inr e ↦ rw e refl
  ]

  -- a record
  module _ (o : Op) (c : Clean s l o) where
    behind : eqb (pushed s.trace o).len 0 ≡ false
    behind = ne_eqb (pushed s.trace o).len 0 (λ e. omega (arith, some-record s.trace o))

    pub read-clean : (n : ℕ) → read_on n s (l ∷ ls) ≡ read_on (n + 1) (grown s o) ls
    read-clean n = let k = clean-stuck s l o c in stuck-reads k n ∙ read_taken s.trace l ls o ((turned_taken s l k o).1 c) n ∙ rw behind refl

    bad-clean : bad_on s (l ∷ ls) ≡ bad_on (grown s o) ls
    bad-clean = let k = clean-stuck s l o c in stuck-bad k ∙ bad-taken s.trace l ls o ((turned_taken s l k o).1 c) ∙ rw behind refl

  -- an init line
  module _ (a v : ℕ) (c : CleanInit s l a v) where
    nothing_yet : eqb s.trace.len 0 ≡ true
    nothing_yet = eq-eqb s.trace.len 0 (free-good s l a v c).1

    pub read-init : (n : ℕ) → read_on n s (l ∷ ls) ≡ read_on (n + 1) (with_init s a v) ls
    unfolding started
    read-init n = rw nothing_yet (read-begun s.trace l ls s.given a v (good-begins s.given l a v (free-good s l a v c).0) n)

    bad-init : bad_on s (l ∷ ls) ≡ bad_on (with_init s a v) ls
    unfolding started
    bad-init = rw nothing_yet (bad-begun s.trace l ls s.given a v (good-begins s.given l a v (free-good s l a v c).0))

  -- a bad line
  module _ (reason : Reason) (c : LowestCase reason s l) where
    pub read-bad : (n : ℕ) → read_on n s (l ∷ ls) ≡ refusal reason n
    read-bad n = let k = bad-stuck s l reason c in stuck-reads k n ∙ read-refused s.trace l ls reason ((turned-refused s l k reason).1 c) n

    bad-bad : bad_on s (l ∷ ls) ≡ l.bytes
    bad-bad = let k = bad-stuck s l reason c in stuck-bad k ∙ bad-refused s.trace l ls reason ((turned-refused s l k reason).1 c)

-- clean lines are passed over
took-reads : {s u : Above} {ls : List Line} → Took s ls u → (n : ℕ) (rest : List Line) → read_on n s (ls ++ rest) ≡ read_on (n + length ls) u rest
took-reads (nothing {s}) n rest = ap (λ k. read_on k s rest) (let q : n ≡ n + 0 = omega arith in q)
took-reads (begin {s} {u} {l} {ls} a v c k) n rest =
    read-init s l (ls ++ rest) a v c n ∙ took-reads k (n + 1) rest ∙ ap (λ m. read_on m u rest) (let q : n + 1 + length ls ≡ n + suc (length ls) = omega arith in q)
took-reads (next {s} {u} {l} {ls} o c k) n rest =
    read-clean s l (ls ++ rest) o c n ∙ took-reads k (n + 1) rest ∙ ap (λ m. read_on m u rest) (let q : n + 1 + length ls ≡ n + suc (length ls) = omega arith in q)

took-bad : {s u : Above} {ls : List Line} → Took s ls u → (rest : List Line) → bad_on s (ls ++ rest) ≡ bad_on u rest
took-bad nothing rest = refl
took-bad (begin {s} {u} {l} {ls} a v c k) rest = bad-init s l (ls ++ rest) a v c ∙ took-bad k rest
took-bad (next {s} {u} {l} {ls} o c k) rest = bad-clean s l (ls ++ rest) o c ∙ took-bad k rest

-- one clean line more above
further : {n m : ℕ} {s u : Above} {l : Line} {ls : List Line} {P : Above → Line → Type 0} → ((ks : List Line) (w : Above) → Took u ks w → Took s (l ∷ ks) w) → ReachesLine (n + 1) u ls m P → ReachesLine n s (l ∷ ls) m P
further {l} more r = record {
  before = l ∷ r.before;
  line = r.line;
  after = r.after;
  above = r.above;
  all = ap (λ ks. l ∷ ks) r.all;
  place = omega (arith, r.place);
  took = more r.before r.above r.took;
  holds = r.holds;
}

stops : (n : ℕ) (s : Above) (ls : List Line) (reason : Reason) (m : ℕ) → read_on n s ls ≡ refusal reason m → ReachesLine n s ls m (LowestCase reason)
stops n s [] reason m e = let f = ap answer-of (sym (read-end n s) ∙ e) in let z : ◌≡◌ {A = ℕ} 0 1 = cc in absurd (omega arith)
stops n s (l ∷ ls) reason m e = go (each s l) (λ o. stops (n + 1) (grown s o) ls reason m) (λ a v. stops (n + 1) (with_init s a v) ls reason m)
  where
    go : Which s l → ((o : Op) → read_on (n + 1) (grown s o) ls ≡ refusal reason m → ReachesLine (n + 1) (grown s o) ls m (LowestCase reason))
        → ((a v : ℕ) → read_on (n + 1) (with_init s a v) ls ≡ refusal reason m → ReachesLine (n + 1) (with_init s a v) ls m (LowestCase reason)) → ReachesLine n s (l ∷ ls) m (LowestCase reason)
    go (record-line o c) more first = further (λ ks w. next o c) (more o (sym (read-clean s l ls o c n) ∙ e))
    go (init-line a v c) more first = further (λ ks w. begin a v c) (first a v (sym (read-init s l ls a v c n) ∙ e))
    go (bad-line other c) more first =
        let f = ap answer-of (sym (read-bad s l ls other c n) ∙ e) in
        let q : other ≡ reason = cc in
        let p : n ≡ m = cc in
        record {
          before = [];
          line = l;
          after = ls;
          above = s;
          all = refl;
          place = omega arith;
          took = nothing;
          holds = subst (λ r. LowestCase r s l) q c;
        }

abbrev Goes : Above → List Line → Trace → Type 0
Goes s ls t = (u : Above) × Took s ls u × (u.trace ≡ t)

goes : (n : ℕ) (s : Above) (ls : List Line) (t : Trace) → read_on n s ls ≡ good_of t → Goes s ls t
goes n s [] t e = (s, nothing, ap (λ (r : Reading). r.trace) (sym (read-end n s) ∙ e))
goes n s (l ∷ ls) t e = go (each s l) (λ o. goes (n + 1) (grown s o) ls t) (λ a v. goes (n + 1) (with_init s a v) ls t)
  where
    go : Which s l → ((o : Op) → read_on (n + 1) (grown s o) ls ≡ good_of t → Goes (grown s o) ls t)
        → ((a v : ℕ) → read_on (n + 1) (with_init s a v) ls ≡ good_of t → Goes (with_init s a v) ls t) → Goes s (l ∷ ls) t
    go (record-line o c) more first = let g = more o (sym (read-clean s l ls o c n) ∙ e) in (g.0, next o c g.1, g.2)
    go (init-line a v c) more first = let g = first a v (sym (read-init s l ls a v c n) ∙ e) in (g.0, begin a v c g.1, g.2)
    go (bad-line other c) more first = let f = ap answer-of (sym (read-bad s l ls other c n) ∙ e) in let z : ◌≡◌ {A = ℕ} 0 1 = cc in absurd (omega arith)

stopped : {n : ℕ} {s : Above} {ls : List Line} {reason : Reason} {m : ℕ} → ReachesLine n s ls m (LowestCase reason) → read_on n s ls ≡ refusal reason m
stopped {n} {reason} r = rw r.all (took-reads r.took n (r.line ∷ r.after) ∙ read-bad r.above r.line r.after reason r.holds (n + length r.before) ∙ rw r.place refl)

gone : {s u : Above} {ls : List Line} → Took s ls u → (n : ℕ) → read_on n s ls ≡ good_of u.trace
gone {s} {u} {ls} k n = ap (read_on n s) (sym (append-nil ls)) ∙ took-reads k n [] ∙ read-end (n + length ls) u

module _ (text : List ℕ) where
  pub read-long : TEXT < length text → read_text text ≡ refusal LongText 0
  unfolding read_text
  read-long h = rw (lt-ltb TEXT (length text) h)

  pub read-lines : length text ≤ TEXT → read_text text ≡ read_on 1 top (lines text)
  unfolding read_text
  read-lines h = rw (le-ltb TEXT (length text) h)

  pub refused-exactly : (reason : Reason) (m : ℕ) → (read_text text ≡ refusal reason m) ↔ Back text m reason
  refused-exactly reason m = (to (dec_lt TEXT (length text)), from)
    where
      to : Dec (TEXT < length text) → read_text text ≡ refusal reason m → Back text m reason
      to (yes h) e =
          let f = ap answer-of (sym (read-long h) ∙ e) in
          let s : LongText ≡ reason = cc in
          subst (Back text m) s (long h (cc))
      to (no h) e = let g : length text ≤ TEXT = omega arith in line (g, stops 1 top (lines text) reason m (sym (read-lines g) ∙ e))

      from : {reason : Reason} → Back text m reason → read_text text ≡ refusal reason m
      from (long h q) = read-long h ∙ rw q
      from (line r) = read-lines r.0 ∙ stopped r.1

  pub read-good : (t : Trace) → (read_text text ≡ good_of t) ↔ ((length text ≤ TEXT) × ((u : Above) × Took top (lines text) u × (u.trace ≡ t)))
  read-good t = (to (dec_lt TEXT (length text)), λ b. read-lines b.0 ∙ gone b.1.1 1 ∙ ap good_of b.1.2)
    where
      to : Dec (TEXT < length text) → read_text text ≡ good_of t → (length text ≤ TEXT) × Goes top (lines text) t
      to (yes h) e =
          let f = ap answer-of (sym (read-long h) ∙ e) in
          let z : ◌≡◌ {A = ℕ} 0 1 = cc in
          absurd (omega arith)
      to (no h) e = let g : length text ≤ TEXT = omega arith in (g, goes 1 top (lines text) t (sym (read-lines g) ∙ e))

  -- ---- the part
  pub part-long : TEXT < length text → bad_line_of text ≡ []
  unfolding bad_line_of
  part-long h = rw (lt-ltb TEXT (length text) h)

  part-lines : length text ≤ TEXT → bad_line_of text ≡ bad_on top (lines text)
  unfolding bad_line_of
  part-lines h = rw (le-ltb TEXT (length text) h)

  pub part_at : (reason : Reason) (m : ℕ) (r : AtLine text m (LowestCase reason)) → bad_line_of text ≡ r.1.line.bytes
  part_at reason m r =
      let k = r.1 in
      part-lines r.0 ∙ rw k.all (took-bad k.took (k.line ∷ k.after) ∙ bad-bad k.above k.line k.after reason k.holds)

  pub part-good : (t : Trace) → read_text text ≡ good_of t → bad_line_of text ≡ []
  part-good t e = let b = (read-good t).0 e in part-lines b.0 ∙ ap (bad_on top) (sym (append-nil (lines text))) ∙ took-bad b.1.1 [] ∙ bad-end b.1.0

  -- ---- the table, number by number
  only-line : (reason : Reason) → number_of LongText < number_of reason → (m : ℕ) → (read_text text ≡ refusal reason m) ↔ AtLine text m (LowestCase reason)
  only-line reason h m = let b = refused-exactly reason m in (λ e. of h (b.0 e), λ r. b.1 (line r))
    where
      of : {reason : Reason} → number_of LongText < number_of reason → Back text m reason → AtLine text m (LowestCase reason)
      of h (long g q) = absurd (omega arith)
      of h (line r) = r

  module _ (m : ℕ) where
    pub one : (read_text text ≡ refusal LongText m) ↔ ((TEXT < length text) × (m ≡ 0))
    one = let b = refused-exactly LongText m in (λ e. of (b.0 e), λ r. b.1 (long r.0 r.1))
      where
        of : Back text m LongText → (TEXT < length text) × (m ≡ 0)
        of (long h q) = (h, q)
        of (line r) = absurd r.1.holds.0

    pub two : (read_text text ≡ refusal LongLine m) ↔ AtLine text m (λ s l. (LINE < length l.bytes) × NoLower LongLine s l)
    two = only-line LongLine (omega arith) m

    pub three : (read_text text ≡ refusal NoForm m)
        ↔ AtLine text m (λ s l. ((l.ended ≡ false) ⊎ (((raw : Raw) → l.bytes ≡ render raw → ⊥) × ((a v : ℕ) → l.bytes ≡ render_init a v → ⊥))) × NoLower NoForm s l)
    three = only-line NoForm (omega arith) m

    pub four : (read_text text ≡ refusal PastBound m) ↔ AtLine text m (λ s l. (Renders l Past ⊎ Begins l PastInit) × NoLower PastBound s l)
    four = only-line PastBound (omega arith) m

    pub five : (read_text text ≡ refusal Addresses m) ↔ AtLine text m (λ s l. Renders l TwoAddresses × NoLower Addresses s l)
    five = only-line Addresses (omega arith) m

    pub six : (read_text text ≡ refusal FirstValue m)
        ↔ AtLine text m (λ s l. Renders l (λ raw. WritesFirst s.trace (op_of raw)) × NoLower FirstValue s l)
    six = only-line FirstValue (omega arith) m

    pub seven : (read_text text ≡ refusal TooMany m) ↔ AtLine text m (λ s l. Renders l (λ raw. RECORDS ≤ s.trace.len) × NoLower TooMany s l)
    seven = only-line TooMany (omega arith) m

    pub eight : (read_text text ≡ refusal Twice m)
        ↔ AtLine text m (λ s l. Renders l (λ raw. WritesAgain s.trace (op_of raw)) × NoLower Twice s l)
    eight = only-line Twice (omega arith) m

    pub seventeen : (read_text text ≡ refusal Late m) ↔ AtLine text m (λ s l. Begins l (LateInit s) × NoLower Late s l)
    seventeen = only-line Late (omega arith) m
