-- A record more on a session in lent bytes, and the record that waits there.
--
--   taken_not, taken-done == a record that a session does not take, and one that it takes
--   shorter-none          == bytes too few for a record hold no session before it
--   add-unlike, add_none, add-of == the answer and the lent bytes, by what stands before the last eight of them and by what was given
--   file-pushed           == one record more is eight bytes more
--   grown-answer, grown-bytes == on the bytes of an intact session with eight more, whatever they are: the answer is the session's, and where the record is
--                                taken they are all the bytes of the longer session
--   waiting-below         == a record that waits has a number of two bytes
--   waiting_turned, waiting-short, waiting-done == the answer and the lent room
use mathlib.Core.Path.{◌≡◌, refl, sym, ap, ap₂, ◌∙◌}
use mathlib.Core.Logic.{◌≢◌, inl, inr}
use mathlib.Core.Bool.{Bool, false, So, cond}
use mathlib.Core.List.{List, [], ◌∷◌, ◌++◌, append-nil}
use Prim.Native.Nat.{ℕ, ◌+◌, ◌-◌, ◌<◌, ◌≤◌}
use native.Mathlib.Omega.{arith}
use lib.Dec.{eqb}
use lib.ListN.{length, drop, drop_of_length-le, length-append}
use lib.Seq.{take_at, length-take-le}
use borrow.Author.Tests.{eq-eqb, ne_eqb, le-leb, lt-leb}
use Rattle.std.specs.Prelude.{Option, Some, None}
use Rattle.laws.specs.Lowest.{Lowest}
use Rattle.laws.proofs.Tests.{eq?}
use Rattle.text.specs.Room.{put_at}
use Rattle.text.proofs.Put.{put_front}
use Rattle.trace.specs.Bounds.{RECORDS}
use Rattle.trace.specs.Trace.{pushed}
use Rattle.trace.specs.WellFormed.{well_formed}
use Rattle.trace.specs.Meaning.{frame_of}
use Rattle.trace.specs.declared.Op.{Op}
use Rattle.trace.specs.declared.Trace.{Trace}
use Rattle.trace.proofs.Good.{good}
use Rattle.trace.proofs.Places.{pushed-len, pushed-firsts}
use Rattle.trace.proofs.WellFormed.{form-iff}
use Rattle.packed.specs.Layout.{RECORD, many, size_of, file_of}
use Rattle.packed.specs.FileRead.{file_reason_number}
use Rattle.packed.specs.declared.Reason.TheVariants.{NoEntry}
use Rattle.packed.proofs.FileLaid.{file-long}
use Rattle.rules.specs.Missing.{Missing}
use Rattle.pairs.proofs.ValidOrders.{well-fits}
use Rattle.session.specs.Opening.{is_done}
use Rattle.session.specs.Closings.{Closings}
use Rattle.session.specs.Session.{Intact}
use Rattle.session.specs.Entries.{joins, add_of, waiting_of}
use Rattle.session.specs.Numbers.{reason_number, waits?, adds, awaits}
use Rattle.session.specs.declared.Reason.TheVariants.{Unlike}
use Rattle.session.specs.declared.Answer.{Answer}
use Rattle.session.specs.declared.Answer.TheVariants.{Done, Held, NotHeld, Contradicted, Waits, Refused}
use Rattle.session.specs.declared.Session.{Session}
use Rattle.session.specs.declared.Reply.{Reply}
use Rattle.session.proofs.Openings.{openable-iff}
use Rattle.session.proofs.Joining.{joined-follows, joined-opens}
use Rattle.session.proofs.Lasting.{act-trace}
use Rattle.session.proofs.Promises.{waiting-lowest}
use Rattle.desk.specs.AnswerNumbers.{NO-ROOM}
use Rattle.desk.specs.VerdictBytes.{wide}
use Rattle.desk.specs.Runs.{PLACE}
use Rattle.desk.specs.SessionHead.{SESSION-HEAD, session_head, session_bytes}
use Rattle.desk.specs.SessionBytes.{session_in, like}
use Rattle.desk.specs.SessionCalls.{code_of, answer_in, bytes_in}
use Rattle.desk.specs.Grown.{shorter, add_answer, add_bytes, record_in, waiting_answer, waiting_bytes}
use Rattle.desk.proofs.HeadBytes.{head-long}
use Rattle.desk.proofs.Keeping.{unlike-short, named-intact}
use Rattle.desk.proofs.Acting.{answer-like, bytes-like, answer-unlike, answer-act, bytes-act, code-done, add-joins, add_done}

-- what a record more leaves of lent bytes
abbrev left : Closings → Session → Op → List ℕ → List ℕ
left C s o b = cond (eqb (code_of (add_of C s o).answer) 0) (put_at (session_bytes (add_of C s o).session) b 0) b

module _ (C : Closings) (s : Session) (o : Op) (b : List ℕ) (n : ℕ) (e : n ≡ code_of (add_of C s o).answer) where
  pub taken_not : n ≢ 0 → (n ≡ code_of (add_of C s o).answer) × (b ≡ left C s o b)
  taken_not d = (e, sym (ap (λ (x : Bool). cond x (put_at (session_bytes (add_of C s o).session) b 0) b) (ne_eqb _ 0 (λ z. d (e ∙ z)))))

  pub taken-done : n ≡ 0 → (last : List ℕ) → last ≡ put_at (session_bytes (add_of C s o).session) b 0 → (n ≡ code_of (add_of C s o).answer) × (last ≡ left C s o b)
  taken-done z last q = (e, q ∙ sym (ap (λ (x : Bool). cond x (put_at (session_bytes (add_of C s o).session) b 0) b) (eq-eqb _ 0 (sym e ∙ z))))

module _ (C : Closings) (b : List ℕ) where
  pub shorter-none : length b < RECORD → like C (shorter b) ≡ false
  shorter-none h = unlike-short C (shorter b) (omega (arith, length-take-le (length b - RECORD) b (omega arith)))

  pub add-unlike : like C (shorter b) ≡ false → (x : Option Op) → (reason_number Unlike ≡ add_answer C b x) × (b ≡ add_bytes C b x)
  add-unlike n (Some o) =
      let e = answer-unlike C (shorter b) (adds o) n in
      (sym e, sym (ap (λ (k : ℕ). cond (eqb k 0) (put_at (bytes_in C (shorter b) (adds o)) b 0) b) e))
  add-unlike n None = (sym (ap (λ (x : Bool). cond x (file_reason_number NoEntry) (reason_number Unlike)) n), refl)

  module _ (l : So (like C (shorter b))) where
    pub add_none : (file_reason_number NoEntry ≡ add_answer C b None) × (b ≡ add_bytes C b None)
    add_none = (sym (ap (λ (x : Bool). cond x (file_reason_number NoEntry) (reason_number Unlike)) l), refl)

    module _ (o : Op) where
      -- the session before the last eight bytes, and what it answers
      abbrev here : Session
      here = session_in C (shorter b)

      answers : answer_in C (shorter b) (adds o) ≡ code_of (add_of C here o).answer
      answers = answer-like C (shorter b) (adds o) l

      -- where the record is taken, the bytes of the longer session
      lays : code_of (add_of C here o).answer ≡ 0 → session_bytes (add_of C here o).session ≡ bytes_in C (shorter b) (adds o)
      lays z =
          let j : So (joins here.trace o) = sym (add-joins C (shorter b) o) ∙ code-done (add_of C here o).answer z in
          ap (λ (t : Trace). session_head (add_of C here o).session ++ file_of t) (act-trace C here (named-intact C (shorter b)) (adds o) ∙ ap (λ (x : Bool). cond x (pushed here.trace o) here.trace) j)
          ∙ sym (bytes-like C (shorter b) (adds o) l ∙ ap (λ (x : Bool). session_head (add_of C here o).session ++ cond x (file_of (pushed here.trace o)) (drop SESSION-HEAD (shorter b))) j)

      pub add-of : (s : Session) → s ≡ here → (n : ℕ) (last : List ℕ) → (n ≡ code_of (add_of C s o).answer) × (last ≡ left C s o b) → (n ≡ add_answer C b (Some o)) × (last ≡ add_bytes C b (Some o))
      add-of s e n last p = (p.0 ∙ ap (λ (x : Session). code_of (add_of C x o).answer) e ∙ sym answers, p.1 ∙ ap (λ (x : Session). left C x o b) e ∙ same)
        where
          same : left C here o b ≡ add_bytes C b (Some o)
          same = elim (eq? (code_of (add_of C here o).answer) 0) [
            | inl z ↦
                ap (λ (x : Bool). cond x (put_at (session_bytes (add_of C here o).session) b 0) b) (eq-eqb _ 0 z)
                ∙ ap (λ (w : List ℕ). put_at w b 0) (lays z)
                ∙ sym (ap (λ (x : Bool). cond x (put_at (bytes_in C (shorter b) (adds o)) b 0) b) (eq-eqb _ 0 (answers ∙ z)))
            | inr d ↦
                ap (λ (x : Bool). cond x (put_at (session_bytes (add_of C here o).session) b 0) b) (ne_eqb _ 0 d)
                ∙ sym (ap (λ (x : Bool). cond x (put_at (bytes_in C (shorter b) (adds o)) b 0) b) (ne_eqb _ 0 (λ z. d (sym answers ∙ z))))
          ]

-- ---- the bytes of an intact session, and eight more
pub file-pushed : (t : Trace) (o : Op) → So (well_formed t) → So (well_formed (pushed t o)) → t.len < RECORDS → length (file_of (pushed t o)) ≡ length (file_of t) + RECORD
file-pushed t o w w' room =
    let f = (form-iff t).0 w in
    let g = (form-iff (pushed t o)).0 w' in
    file-long (pushed t o) (omega (arith, g.places, g.fits))
    ∙ ap₂ size_of (ap many (pushed-firsts t o room)) (pushed-len t o room)
    ∙ (let e : size_of (many t.firsts) (t.len + 1) ≡ size_of (many t.firsts) t.len + RECORD = omega arith in e)
    ∙ ap (λ (k : ℕ). k + RECORD) (sym (file-long t (omega (arith, f.places, f.fits))))

module _ (C : Closings) (s : Session) (i : Intact C s) (o : Op) (x : List ℕ) (l : length x ≡ RECORD) where
  -- the lent bytes
  abbrev lent : List ℕ
  lent = session_bytes s ++ x

  shorter-own : shorter lent ≡ session_bytes s
  shorter-own = take_at (session_bytes s) x (length lent - RECORD) (omega (arith, length-append (session_bytes s) x))

  pub grown-answer : add_answer C lent (Some o) ≡ code_of (add_of C s o).answer
  grown-answer = ap (λ (b : List ℕ). answer_in C b (adds o)) shorter-own ∙ answer-act C s i (adds o)

  bytes-long : (u : Session) → length (session_bytes u) ≡ SESSION-HEAD + length (file_of u.trace)
  bytes-long u = length-append (session_head u) (file_of u.trace) ∙ ap (λ (n : ℕ). n + length (file_of u.trace)) (head-long u)

  pub grown-bytes : (add_of C s o).answer ≡ Done → add_bytes C lent (Some o) ≡ session_bytes (add_of C s o).session
  unfolding add_of joins
  grown-bytes d =
      let z : code_of (add_of C s o).answer ≡ 0 = ap code_of d in
      let w = ((openable-iff s.trace s.model).0 i.opens).form in
      let e : (add_of C s o).session.trace ≡ pushed s.trace o = act-trace C s i (adds o) ∙ ap (λ (b : Bool). cond b (pushed s.trace o) s.trace) joined in
      let n : length (session_bytes (add_of C s o).session) ≡ length lent = bytes-long (add_of C s o).session ∙ ap (λ (t : Trace). SESSION-HEAD + length (file_of t)) e
      ∙ (let p = file-pushed s.trace o w ((openable-iff (pushed s.trace o) s.model).0 (joined-opens s.trace o joined s.model i.opens)).form (joined-follows s.trace o joined).0 in omega (arith, bytes-long s, length-append (session_bytes s) x)) in
      ap (λ (b : Bool). cond b (put_at (bytes_in C (shorter lent) (adds o)) lent 0) lent) (eq-eqb _ 0 (grown-answer ∙ z))
      ∙ ap (λ (b : List ℕ). put_at b lent 0) (ap (λ (b : List ℕ). bytes_in C b (adds o)) shorter-own ∙ bytes-act C s i (adds o))
      ∙ put_front (session_bytes (add_of C s o).session) lent (omega arith)
      ∙ ap (λ (r : List ℕ). session_bytes (add_of C s o).session ++ r) (drop_of_length-le lent {i = length (session_bytes (add_of C s o).session)} (omega arith))
      ∙ append-nil (session_bytes (add_of C s o).session)
    where
      joined : So (joins s.trace o)
      joined = add_done C s i o (ap is_done d)

-- ---- the record that waits
module _ (C : Closings) (b : List ℕ) (out : List ℕ) where
  pub waiting-below : record_in (waiting_of C (session_in C b)).answer < RECORDS
  unfolding frame_of
  waiting-below = go (waiting_of C (session_in C b)).answer (waiting-lowest (session_in C b) C (named-intact C b))
    where
      t : Trace
      t = (session_in C b).trace

      w : So (well_formed t)
      w = ((openable-iff t (session_in C b).model).0 (named-intact C b).opens).form

      go : (a : Answer) → Lowest (Missing (frame_of t)) (waits? a) → record_in a < RECORDS
      go Done l = omega arith
      go Held l = omega arith
      go NotHeld l = omega arith
      go Contradicted l = omega arith
      go (Waits x) l = let h = (good t w).below x ((good t w).reads x l.0.reads) in let f = well-fits t w in omega arith
      go (Refused r) l = omega arith

  pub waiting_turned : like C b ≡ false → (reason_number Unlike ≡ waiting_answer C b out) × (out ≡ waiting_bytes C b out)
  unfolding waiting_answer waiting_bytes
  waiting_turned n = (rw n refl, rw n refl)

  module _ (l : So (like C b)) where
    pub waiting-short : length out < PLACE → (NO-ROOM ≡ waiting_answer C b out) × (out ≡ waiting_bytes C b out)
    unfolding waiting_answer waiting_bytes
    waiting-short h = let e = lt-leb PLACE (length out) h in (rw (l, e) refl, rw (l, e) refl)

    pub waiting-done : PLACE ≤ length out → (r : Reply) → r ≡ waiting_of C (session_in C b) → (code_of r.answer ≡ waiting_answer C b out) × (wide (record_in r.answer ∷ []) ++ drop PLACE out ≡ waiting_bytes C b out)
    unfolding waiting_answer waiting_bytes
    waiting-done h r e =
        let k = le-leb PLACE (length out) h in (
          rw (l, k) (ap (λ (x : Reply). code_of x.answer) e ∙ sym (answer-like C b awaits l)),
          rw (l, k) (ap (λ (x : Reply). wide (record_in x.answer ∷ []) ++ drop PLACE out) e),
        )
