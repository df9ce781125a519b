-- What is written is read back, and whatever is read is well formed.
--
--   clean-follows  == the record of a clean line may follow, and there is room for it
--   follows-clean  == the line of a record that may follow, with room for it, is clean
--   text-short     == no text of a well formed trace is too long
--   text-read      == reading a text of a well formed trace gives that trace
--   own-text, round_trip == the text with the values other than 0 is one of them
--   read-well      == the trace that comes back is always well formed
--   read-text      == a text that is read is a text of the trace
--   read-exactly   == so a text is read as a trace exactly when the trace is well formed and the text is one of its own
--   no-inits       == a text without init lines is read record by record from the empty trace
use mathlib.Core.Path.{◌≡◌, refl, sym, ap, subst, ◌∙◌}
use mathlib.Core.Logic.{◌↔◌, inl, inr}
use mathlib.Core.Bool.{Bool, true, false, So, false≢true}
use mathlib.Core.List.{List, [], ◌∷◌, ◌++◌, append_assoc, append-nil}
use Prim.{tt}
use Prim.Native.Nat.{ℕ, zero, suc, ◌+◌, ◌*◌, ◌≤◌, ◌<◌}
use native.Mathlib.Numerals.{add-one}
use native.Mathlib.Decide.{dec_lt}
use native.Mathlib.Omega.{arith}
use lib.ListN.{length, get_or, replicate, take, drop, length-append, length-set, length-replicate, drop_of_length-le}
use lib.Seq.{drop-cons, get_or-take, get_or-set_same, get_or-set_other, length-take-le, take-suc-set, ext_get_or}
use borrow.Author.Tests.{eq-eqb, ne_eqb}
use Rattle.laws.proofs.Tests.{test, eq?}
use Rattle.trace.specs.Bounds.{RECORDS, ADDRESSES}
use Rattle.trace.specs.Trace.{at, empty, started, pushed, up_to, first}
use Rattle.trace.specs.WellFormed.{well_formed}
use Rattle.trace.specs.Fault.{WritesFirst, WritesAgain}
use Rattle.trace.specs.FormFacts.{Bounded, Follows, Form}
use Rattle.trace.specs.declared.Op.{Op}
use Rattle.trace.specs.declared.Op.TheVariants as op
use Rattle.trace.specs.declared.Record.{Record}
use Rattle.trace.specs.declared.Trace.{Trace}
use Rattle.trace.proofs.Places.{same-trace, empty-rest, started-first, started-other, pushed_room, pushed-firsts, up_to-places, up_to-rest}
use Rattle.trace.proofs.WellFormed.{follows-iff, form-iff}
use Rattle.trace.proofs.Growth.{empty-well, started-well, pushed-well, up_to-all, up_to-len, up_to-firsts, up_to-more, up_to-follows}
use Rattle.reader.specs.Bounds.{TEXT}
use Rattle.text.specs.Bounds.{FEED}
use Rattle.text.specs.Lines.{Line, lines}
use Rattle.reader.specs.LineForms.{render_init, raw_of, render_op}
use Rattle.std.specs.Prelude.{Option, Some, None}
use Rattle.reader.specs.Answer.{in_bounds, op_of, init_given}
use Rattle.reader.specs.Read.{none, read_lines, read_inits, read_text}
use Rattle.reader.specs.Cases.{Renders, Past, TwoAddresses, Above, top, with_init, grown, Case, Free, Clean, CleanInit, Took, nothing, begin, next}
use Rattle.reader.specs.TextOf.{Begin, render_records, render_inits, Without, Apart, records_of, TextOf, inits_of, render_trace}
use Rattle.reader.specs.declared.Raw.{Raw}
use Rattle.reader.specs.declared.Init.{Init}
use Rattle.reader.specs.declared.Reason.{Reason}
use Rattle.reader.specs.declared.Reason.TheVariants.{LongText, LongLine, NoForm, PastBound, Addresses, FirstValue, TooMany, Twice, Late}
use Rattle.reader.specs.declared.Answer.TheVariants as answer
use Rattle.reader.specs.declared.Reading.{Reading}
use Rattle.reader.proofs.Rendering.{no-init, render-one, render-feed, op-raw, LONGEST, render-long}
use Rattle.reader.proofs.Bounded.{in-bounds-iff}
use Rattle.reader.proofs.Begins.{Good, begins-good}
use Rattle.reader.proofs.Walks.{read_left}
use Rattle.reader.proofs.Lined.{lines-line, join, join-lines}
use Rattle.reader.proofs.Inits.{Low, start_all, Open, first_or, first-or, without-first, first-low, first-start, start-firsts, start-records, start-len, begun-len, inits-few, inits-length, took-inits, apart_from, first-from}
use Rattle.reader.proofs.Cases.{past-iff, Which, record-line, init-line, bad-line, each, free-good, read_on, read-end, read-clean, read-init, read-bad, read-long, read-lines, read-good}

pub clean-follows : (s : Above) (l : Line) (o : Op) → Clean s l o → (s.trace.len < RECORDS) × Follows s.trace s.trace.len o
clean-follows s l o c = (
  room,
  record {
    keeps = keeps;
    fresh = λ w. record {
      later = λ q. c.0 FirstValue (raw_of o, c.1, subst (WritesFirst t) (sym (op-raw o)) (w, q));
      once = λ j h x. c.0 Twice (raw_of o, c.1, subst (WritesAgain t) (sym (op-raw o)) (w, (j, h, x)));
    };
  },
)
  where
    t : Trace
    t = s.trace

    room : t.len < RECORDS
    room = elim (dec_lt t.len RECORDS) [ yes h ↦ h | no h ↦ absurd (c.0 TooMany (raw_of o, c.1, omega arith)) ]

    keeps : Bounded o
    keeps = elim (test (in_bounds (raw_of o))) [ inl s ↦ (in-bounds-iff o).0 s | inr s ↦ absurd (c.0 PastBound (inl (raw_of o, c.1, (past-iff (raw_of o)).0 s))) ]

-- the line of a record
abbrev line_of : Op → Line
line_of o = record { bytes = render_op o; ended = true }

one_address : (o : Op) → TwoAddresses (raw_of o) → ⊥
one_address (op.Load t a r) c = c
one_address (op.Store t a w) c = c
one_address (op.Swap t a r w) c = c refl
one_address (op.Fence t) c = c

pub follows-clean : (s : Above) (o : Op) → s.trace.len < RECORDS → Follows s.trace s.trace.len o → Clean s (line_of o) o
follows-clean s o room f = (never, refl)
  where
    t : Trace
    t = s.trace

    -- what the line says is said of the record's own raw form
    own : (P : Raw → Type 0) → Renders (line_of o) P → P (raw_of o)
    own P k = subst P (sym (render-one (raw_of o) k.0 k.1)) k.2

    never : (reason : Reason) → Case reason s (line_of o) → ⊥
    never LongText c = c
    never LongLine c = omega (arith, render-long o f.keeps)
    never NoForm (inl e) = false≢true (sym e)
    never NoForm (inr n) = n.0 (raw_of o) refl
    never PastBound (inr (a, v, q, _)) = no-init (raw_of o) a v q
    never PastBound (inl c) = false≢true (sym ((past-iff (raw_of o)).1 (own Past c)) ∙ (in-bounds-iff o).1 f.keeps)
    never Addresses c = one_address o (own TwoAddresses c)
    never FirstValue c = let k = subst (WritesFirst t) (op-raw o) (own (λ raw. WritesFirst t (op_of raw)) c) in (f.fresh k.0).later k.1
    never TooMany c = let h = c.2 in omega arith
    never Twice c = let k = subst (WritesAgain t) (op-raw o) (own (λ raw. WritesAgain t (op_of raw)) c) in (f.fresh k.0).once k.1.0 k.1.1 k.1.2
    never Late (a, v, q, _) = no-init (raw_of o) a v q

-- a list of one value, whatever place is asked
same-all : {A : Type 0} (n a : ℕ) (x : A) → get_or (replicate n x) a x ≡ x
same-all zero a x = refl
same-all (suc n) zero x = refl
same-all (suc n) (suc a) x = same-all n a x

-- ---- a well formed trace
module _ (t : Trace) (w : So (well_formed t)) where
  form : Form t
  form = (form-iff t).0 w

  abbrev used : List Record
  used = take t.len t.records

  -- what stands past the array's end
  abbrev past : Record
  past = record { op = op.Load 0 0 0 }

  used-length : length used ≡ t.len
  used-length = length-take-le t.len t.records (let a = form.places in let b = form.fits in omega arith)

  -- record k and those behind it
  abbrev from : ℕ → List ℕ
  from k = render_records (drop k used)

  from_next : (k : ℕ) → k < t.len → from k ≡ render_op (at t k) ++ FEED ∷ from (suc k)
  unfolding render_records
  from_next k h =
      ap render_records (drop-cons used k past (let l = used-length in omega arith)) ∙ ap (λ r. render_op r.op ++ FEED ∷ from (suc k)) (get_or-take t.len t.records k past h)

  from-none : (k : ℕ) → k ≡ t.len → from k ≡ []
  unfolding render_records
  from-none k e = ap render_records (drop_of_length-le used {i = k} (let l = used-length in omega arith))

  from-length : (j k : ℕ) → k + j ≡ t.len → length (from k) ≤ j * suc LONGEST
  from-length zero k e = rw (from-none k (omega arith)) (omega arith)
  from-length (suc j) k e =
      rw (from_next k (omega arith), length-append)
      (omega (arith, render-long (at t k) (form.used k (omega arith)).keeps, from-length j (suc k) (omega arith)))

  -- with the records from k on behind the first k
  abbrev behind : List Bool → ℕ → Above
  behind given k = record { given = given; trace = up_to t k }

  took-all : (given : List Bool) (j k : ℕ) → k + j ≡ t.len → Took (behind given k) (lines (from k)) (record { given = given; trace = t })
  unfolding lines
  took-all given zero k e = let q : k ≡ t.len = omega arith in rw (from-none k q, q, up_to-all t w) nothing
  took-all given (suc j) k e =
      let h : k < t.len = omega arith in
      let n = up_to-len t k in
      let room : (up_to t k).len < RECORDS = omega (arith, form.fits) in
      let f : Follows (up_to t k) (up_to t k).len (at t k) = subst (λ m. Follows (up_to t k) m (at t k)) (sym n) ((follows-iff (up_to t k) k (at t k)).0 (up_to-follows t w k h)) in
      let rest : Took (grown (behind given k) (at t k)) (lines (from (suc k))) (record { given = given; trace = t }) = rw (up_to-more t w k h) (took-all given j (suc k) (omega arith)) in
      rw (from_next k h, lines-line (render_op (at t k)) (from (suc k)) (render-feed (raw_of (at t k))))
      (next (at t k) (follows-clean (behind given k) (at t k) room f) rest)

  module _ (text : List ℕ) (x : TextOf t text) where
    abbrev is : List Begin
    is = x.inits

    low : Low is
    low = first-low is x.apart (λ a h. rw (first-or is a, x.firsts a h) (form.begins a h))

    fresh : Open none is
    fresh a h = absurd (false≢true (sym (same-all ADDRESSES a false) ∙ h))

    few-lines : length is ≤ ADDRESSES
    few-lines = inits-few is none (length-replicate {A = Bool} ADDRESSES false) x.apart fresh

    pub text-short : length text ≤ TEXT
    text-short =
        rw (x.whole, length-append (render_inits is) (render_records (records_of t)))
        (omega (arith, inits-length is x.apart low, few-lines, from-length t.len 0 (omega arith), form.fits))

    -- what the init lines leave is the trace before its first record
    same-firsts : (start_all top is).trace.firsts ≡ (up_to t 0).firsts
    unfolding first
    same-firsts = ext_get_or 0 (start_all top is).trace.firsts (up_to t 0).firsts (size ∙ sym (ap length (up_to-firsts t 0) ∙ form.addresses)) each_first
      where
        size : length (start_all top is).trace.firsts ≡ ADDRESSES
        size = start-firsts is top ∙ length-replicate {A = ℕ} ADDRESSES 0

        each_first : (i : ℕ) → i < length (start_all top is).trace.firsts → get_or (start_all top is).trace.firsts i 0 ≡ get_or (up_to t 0).firsts i 0
        each_first i h =
            first-start is top x.apart (length-replicate {A = ℕ} ADDRESSES 0) i
            ∙ ap (λ d. first_or is d i) (same-all ADDRESSES i 0)
            ∙ first-or is i
            ∙ x.firsts i (omega (arith, size))
            ∙ ap (λ (v : List ℕ). get_or v i 0) (sym (up_to-firsts t 0))

    started-is : (start_all top is).trace ≡ up_to t 0
    started-is =
        same-trace (start_all top is).trace (up_to t 0) (start-len is top ∙ sym (up_to-len t 0)) same-firsts
        (ap (λ (rs : List Record). length rs) (start-records is top) ∙ ((form-iff empty).0 empty-well).places)
        (up_to-places t form.places 0 (omega arith))
        (λ i h. ap (λ (rs : List Record). (get_or rs i past).op) (start-records is top) ∙ empty-rest i h ∙ sym (up_to-rest t form.places 0 (omega arith) i (omega arith) h))

    pub text-read : read_text text ≡ record { answer = answer.Good; trace = t }
    text-read =
        let given = (start_all top is).given in
        let rest : Took (start_all top is) (lines (render_records (records_of t))) (record { given = given; trace = t }) = subst (λ (u : Trace). Took (record { given = given; trace = u }) (lines (from 0)) (record { given = given; trace = t })) (sym started-is) (took-all given t.len 0 (omega arith)) in
        let all : Took top (lines text) (record { given = given; trace = t }) = subst (λ (bs : List ℕ). Took top (lines bs) (record { given = given; trace = t })) (sym x.whole) (took-inits is top (record { given = given; trace = t }) (render_records (records_of t)) refl (length-replicate {A = Bool} ADDRESSES false) x.apart low fresh rest) in
        (read-good text t).1 (text-short, (record { given = given; trace = t }, all, refl))

  -- the text with the values other than 0, addresses rising, is one of them
  pub own-text : TextOf t (render_trace t)
  own-text = record {
    inits = inits_of t;
    apart = apart_from t ADDRESSES 0 (omega arith);
    firsts = λ a h. sym (first-or (inits_of t) a) ∙ first-from t ADDRESSES 0 a (omega arith) (omega arith);
    whole = refl;
  }

  pub round_trip : read_text (render_trace t) ≡ record { answer = answer.Good; trace = t }
  round_trip = text-read (render_trace t) own-text

-- ---- any text
begun-well : (s : Above) (l : Line) (a v : ℕ) → CleanInit s l a v → So (well_formed s.trace) → So (well_formed (with_init s a v).trace)
begun-well s l a v c w = let g = free-good s l a v c in started-well s.trace a v g.1 g.0.value w

grown-well : (s : Above) (l : Line) (o : Op) → Clean s l o → So (well_formed s.trace) → So (well_formed (grown s o).trace)
grown-well s l o c w = let f = clean-follows s l o c in pushed-well s.trace o f.0 w ((follows-iff s.trace s.trace.len o).1 f.1)

reads-well : (n : ℕ) (s : Above) (ls : List Line) → So (well_formed s.trace) → So (well_formed (read_on n s ls).trace)
reads-well n s [] w = rw (read-end n s) w
reads-well n s (l ∷ ls) w = go (each s l) (λ o. reads-well (n + 1) (grown s o) ls) (λ a v. reads-well (n + 1) (with_init s a v) ls)
  where
    go : Which s l → ((o : Op) → So (well_formed (grown s o).trace) → So (well_formed (read_on (n + 1) (grown s o) ls).trace))
        → ((a v : ℕ) → So (well_formed (with_init s a v).trace) → So (well_formed (read_on (n + 1) (with_init s a v) ls).trace)) → So (well_formed (read_on n s (l ∷ ls)).trace)
    go (record-line o c) more first = rw (read-clean s l ls o c n) (more o (grown-well s l o c w))
    go (init-line a v c) more first = rw (read-init s l ls a v c n) (first a v (begun-well s l a v c w))
    go (bad-line reason c) more first = rw (read-bad s l ls reason c n) empty-well

pub read-well : (text : List ℕ) → So (well_formed (read_text text).trace)
read-well text = elim (dec_lt TEXT (length text)) [
  | yes h ↦ rw (read-long text h) empty-well
  | no h ↦ rw (read-lines text (omega arith)) (reads-well 1 top (lines text) empty-well)
]

-- ---- what was read is written again
records-snoc : (rs : List Record) (r : Record) → render_records (rs ++ (r ∷ [])) ≡ render_records rs ++ (render_op r.op ++ FEED ∷ [])
unfolding render_records
records-snoc [] r = refl
records-snoc (q ∷ rs) r = rw (records-snoc rs r) (sym (append_assoc (render_op q.op) (FEED ∷ render_records rs) (render_op r.op ++ FEED ∷ [])))

pushed-text : (t : Trace) (o : Op) → t.len < RECORDS → length t.records ≡ RECORDS → render_records (records_of (pushed t o)) ≡ render_records (records_of t) ++ (render_op o ++ FEED ∷ [])
pushed-text t o room full =
    rw (pushed_room t o room, add-one, take-suc-set t.records t.len (record { op = o }) (omega arith)) (records-snoc (take t.len t.records) (record { op = o }))

-- what clean lines wrote, behind what stood above
record Written (s : Above) (ls : List Line) (u : Above) : Type 0 where
  inits : List Begin
  apart : Apart inits
  fresh : Open s.given inits
  firsts : (a : ℕ) → a < ADDRESSES → first u.trace a ≡ first_or inits (first s.trace a) a
  whole : render_inits inits ++ render_records (records_of u.trace) ≡ render_records (records_of s.trace) ++ join ls

ended : (s : Above) (l : Line) → Free s l → l.ended ≡ true
ended s l free = elim (test l.ended) [ inl h ↦ h | inr h ↦ absurd (free NoForm (inl h)) ]

no-records : (t : Trace) → t.len ≡ 0 → render_records (records_of t) ≡ []
unfolding render_records
no-records t e = rw e refl

written_none : (s : Above) → Written s [] s
unfolding render_inits
written_none s = record {
  inits = [];
  apart = tt;
  fresh = λ a h. tt;
  firsts = λ a h. refl;
  whole = sym (append-nil (render_records (records_of s.trace)));
}

written-init : (s u : Above) (l : Line) (ls : List Line) (a v : ℕ) → CleanInit s l a v → So (well_formed s.trace) → length s.given ≡ ADDRESSES → Written (with_init s a v) ls u → Written s (l ∷ ls) u
unfolding render_inits
written-init s u l ls a v c w full x = record {
  inits = i ∷ x.inits;
  apart = (g.0.address, x.fresh a (get_or-set_same s.given a true false (omega (arith, g.0.address))), x.apart);
  fresh = λ b h. (
    λ e. false≢true (sym g.0.once ∙ subst (λ b. So (get_or s.given b false)) e h),
    x.fresh b (elim (eq? b a) [
      | inl e ↦ rw e (get_or-set_same s.given a true false (omega (arith, g.0.address)))
      | inr d ↦ get_or-set_other s.given a b true false d ∙ h
    ]),
  );
  firsts = firsts;
  whole =
      append_assoc (render_init a v) (FEED ∷ render_inits x.inits) (render_records (records_of u.trace))
      ∙ ap (λ bs. render_init a v ++ (FEED ∷ bs)) (x.whole ∙ ap (λ bs. bs ++ join ls) (no-records (with_init s a v).trace (begun-len s a v ∙ g.1)))
      ∙ rw (no-records s.trace g.1, c.1, ended s l c.0) refl;
}
  where
    g : Good s.given l a v × (s.trace.len ≡ 0)
    g = free-good s l a v c

    i : Begin
    i = record { address = a; value = v }

    firsts : (b : ℕ) → b < ADDRESSES → first u.trace b ≡ first_or (i ∷ x.inits) (first s.trace b) b
    firsts b h = x.firsts b h ∙ elim (eq? b a) [
      | inl e ↦
          rw (eq-eqb b a e)
          (without-first x.inits (first (started s.trace a v) b) b (subst (Without x.inits) (sym e) (x.fresh a (get_or-set_same s.given a true false (omega (arith, g.0.address)))))
          ∙ ap (first (started s.trace a v)) e ∙ started-first s.trace a v ((form-iff s.trace).0 w).addresses g.0.address)
      | inr d ↦ rw (ne_eqb b a d, started-other s.trace a v b d) refl
    ]

written-record : (s u : Above) (l : Line) (ls : List Line) (o : Op) → Clean s l o → So (well_formed s.trace) → Written (grown s o) ls u → Written s (l ∷ ls) u
unfolding first
written-record s u l ls o c w x = record {
  inits = x.inits;
  apart = x.apart;
  fresh = x.fresh;
  firsts = λ a h. x.firsts a h ∙ ap (λ (v : List ℕ). first_or x.inits (get_or v a 0) a) (pushed-firsts s.trace o room);
  whole = x.whole ∙ ap (λ bs. bs ++ join ls) (pushed-text s.trace o room ((form-iff s.trace).0 w).places) ∙ rw (ended s l c.0, c.1) (simp append_assoc);
}
  where
    room : s.trace.len < RECORDS
    room = (clean-follows s l o c).0

written : {s u : Above} {ls : List Line} → Took s ls u → So (well_formed s.trace) → length s.given ≡ ADDRESSES → Written s ls u
written (nothing {s}) w full = written_none s
written (begin {s} {u} {l} {ls} a v c k) w full = written-init s u l ls a v c w full (written k (begun-well s l a v c w) (length-set s.given a true ∙ full))
written (next {s} {u} {l} {ls} o c k) w full = written-record s u l ls o c w (written k (grown-well s l o c w) full)

pub read-text : (text : List ℕ) (t : Trace) → read_text text ≡ record { answer = answer.Good; trace = t } → TextOf t text
unfolding render_records first
read-text text t e =
    let b = (read-good text t).0 e in
    let x = written b.1.1 empty-well (length-replicate {A = Bool} ADDRESSES false) in
    subst (λ t. TextOf t text) b.1.2 (record {
      inits = x.inits;
      apart = x.apart;
      firsts = λ a h. sym (x.firsts a h ∙ ap (λ d. first_or x.inits d a) (same-all ADDRESSES a 0) ∙ first-or x.inits a);
      whole = sym (x.whole ∙ join-lines text);
    })

pub read-exactly : (text : List ℕ) (t : Trace) → (read_text text ≡ record { answer = answer.Good; trace = t }) ↔ (So (well_formed t) × TextOf t text)
read-exactly text t = (λ e. (subst (λ (r : Reading). So (well_formed r.trace)) e (read-well text), read-text text t e), λ p. text-read t p.0 text p.1)

-- ---- a text of records alone
abbrev NoInit : List ℕ → Type 0
NoInit text = (before after : List Line) (l : Line) → lines text ≡ before ++ l ∷ after → (a v : ℕ) → l.bytes ≡ render_init a v → ⊥

pub no-inits : (text : List ℕ) → length text ≤ TEXT → NoInit text → read_text text ≡ read_lines 1 empty (lines text)
unfolding read_inits read_lines
no-inits text h n = read-lines text h ∙ go (lines text) refl
  where
    go : (ls : List Line) → lines text ≡ ls → read_inits 1 none empty ls ≡ read_lines 1 empty ls
    go [] e = refl
    go (l ∷ ls) e = on (init_given none l) refl
      where
        on : (i : Option Init) → init_given none l ≡ i → read_inits 1 none empty (l ∷ ls) ≡ read_lines 1 empty (l ∷ ls)
        on (Some i) q = absurd (n [] ls l e i.addr i.value (begins-good none l i.addr i.value q).text)
        on None q = read_left empty l ls none q 1
