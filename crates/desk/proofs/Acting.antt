-- What calls on a session in bytes come to.
--
--   answer-like, bytes-like, answer-unlike, bytes-unlike == a call by whether the bytes are those of a session
--   lent-like, lent-session == what a function learns of lent bytes
--   act-turned              == a call on bytes that are not those of a session
--   act-leaves, act-answers, act-lays == one on bytes that are
--   answer-act, bytes-act   == one on the bytes of an intact session
--   bytes-after             == any list of calls, adding among them: the bytes of the session after them
--   code-done, done-code    == an answer is 0 exactly where the call was done
--   given                   == every answer but 0 leaves the bytes as given
use mathlib.Core.Path.{◌≡◌, refl, sym, ap, ap₂, ◌∙◌, subst}
use mathlib.Core.Logic.{◌≢◌, inl, inr}
use mathlib.Core.Bool.{Bool, true, false, So, cond, false≢true}
use mathlib.Core.List.{List, [], ◌∷◌, ◌++◌}
use Prim.Native.Nat.{ℕ, ◌≤◌}
use native.Mathlib.Omega.{arith}
use lib.ListN.{length, drop}
use Rattle.laws.proofs.Tests.{off, test}
use Rattle.trace.specs.Trace.{pushed}
use Rattle.trace.specs.declared.Op.{Op}
use Rattle.trace.specs.declared.Trace.{Trace}
use Rattle.packed.specs.Layout.{file_of}
use Rattle.session.specs.Opening.{is_done}
use Rattle.session.specs.Closings.{Closings}
use Rattle.session.specs.Session.{Intact}
use Rattle.session.specs.Entries.{joins, add_of}
use Rattle.session.specs.Numbers.{reason_number, Act, supposes, takes_back, asks, adds, awaits, reply_of}
use Rattle.session.specs.Calls.{session_after, recorded}
use Rattle.session.specs.declared.Reason.TheVariants.{NoModel, NotWellFormed, Unlike, NoOperation, OneRecord, TooManyPairs, NoPair, PastBound, FirstValue, TooMany, Twice}
use Rattle.session.specs.declared.Answer.{Answer}
use Rattle.session.specs.declared.Answer.TheVariants.{Done, Held, NotHeld, Contradicted, Waits, Refused}
use Rattle.session.specs.declared.Session.{Session}
use Rattle.session.specs.declared.Reply.{Reply}
use Rattle.session.proofs.Sessions.{intact-iff}
use Rattle.session.proofs.Answering.{add-fault}
use Rattle.session.proofs.Standing.{act-stays}
use Rattle.session.proofs.Lasting.{act-intact, act-trace}
use Rattle.desk.specs.SessionHead.{Fit, SESSION-HEAD, session_head, session_bytes}
use Rattle.desk.specs.SessionBytes.{file_in, session_in, like, session_of}
use Rattle.desk.specs.SessionCalls.{code_of, answer_in, file_after, bytes_in, bytes_after}
use Rattle.desk.specs.declared.sessions.Lent.{Lent}
use Rattle.desk.proofs.HeadBytes.{intact-fit}
use Rattle.desk.proofs.Keeping.{On, on-own, like-parts, like-same, named-intact, file-again, session-again, like-again}

module _ (C : Closings) (b : List ℕ) (a : Act) where
  pub answer-like : So (like C b) → answer_in C b a ≡ code_of (reply_of C (session_in C b) a).answer
  unfolding answer_in
  answer-like s = rw s refl

  pub bytes-like : So (like C b) → bytes_in C b a ≡ session_head (reply_of C (session_in C b) a).session ++ file_after C b a
  unfolding bytes_in
  bytes-like s = rw s refl

  pub answer-unlike : like C b ≡ false → answer_in C b a ≡ reason_number Unlike
  unfolding answer_in
  answer-unlike n = rw n refl

  pub bytes-unlike : like C b ≡ false → bytes_in C b a ≡ b
  unfolding bytes_in
  bytes-unlike n = rw n refl

module _ (C : Closings) (b : List ℕ) (f : Lent) (e : f ≡ session_of C b) where
  pub lent-like : f.like ≡ like C b
  unfolding session_of
  lent-like = ap (λ (l : Lent). l.like) e

  pub lent-session : So f.like → f.session ≡ session_in C b
  unfolding session_of
  lent-session s = let l : So (like C b) = sym lent-like ∙ s in ap (λ (l : Lent). l.session) e ∙ (rw l refl)

  pub act-turned : f.like ≡ false → (a : Act) → (reason_number Unlike ≡ answer_in C b a) × (b ≡ bytes_in C b a)
  act-turned n a = let u = sym lent-like ∙ n in (sym (answer-unlike C b a u), sym (bytes-unlike C b a u))

  module _ (s : So f.like) (a : Act) (r : Reply) (q : r ≡ reply_of C f.session a) where
    -- what the call got, on the session that the bytes name
    named : r ≡ reply_of C (session_in C b) a
    named = q ∙ ap (λ (x : Session). reply_of C x a) (lent-session s)

    pub act-leaves : Fit r.session × (SESSION-HEAD ≤ length b)
    act-leaves = (subst (λ (x : Reply). Fit x.session) (sym named) (intact-fit C _ (act-intact C (session_in C b) (named-intact C b) a)), ((like-parts C b).0 (sym lent-like ∙ s)).long)

    pub act-answers : code_of r.answer ≡ answer_in C b a
    act-answers = ap (λ (x : Reply). code_of x.answer) named ∙ sym (answer-like C b a (sym lent-like ∙ s))

    pub act-lays : file_in b ≡ file_after C b a → session_head r.session ++ drop SESSION-HEAD b ≡ bytes_in C b a
    act-lays e = ap₂ (λ (x : Reply) (f : List ℕ). session_head x.session ++ f) named e ∙ sym (bytes-like C b a (sym lent-like ∙ s))

module _ (C : Closings) (s : Session) (i : Intact C s) where
  -- it stands on its own file
  o : On C s (file_of s.trace)
  o = on-own C s i

  -- its file stays, but for a record that is added
  file-recorded : (a : Act) → file_after C (session_bytes s) a ≡ file_of (recorded s.trace a)
  file-recorded (supposes x y) = file-again s (file_of s.trace)
  file-recorded takes_back = file-again s (file_of s.trace)
  file-recorded (asks x y) = file-again s (file_of s.trace)
  file-recorded (adds p) =
      ap₂ (λ (x : Session) (f : List ℕ). cond (joins x.trace p) (file_of (pushed x.trace p)) f) (session-again s (file_of s.trace) C o) (file-again s (file_of s.trace))
      ∙ either (joins s.trace p)
    where
      either : (b : Bool) → cond b (file_of (pushed s.trace p)) (file_of s.trace) ≡ file_of (cond b (pushed s.trace p) s.trace)
      either true = refl
      either false = refl
  file-recorded awaits = file-again s (file_of s.trace)

  module _ (a : Act) where
    pub answer-act : answer_in C (session_bytes s) a ≡ code_of (reply_of C s a).answer
    answer-act = answer-like C (session_bytes s) a (like-again s (file_of s.trace) C o) ∙ ap (λ (x : Session). code_of (reply_of C x a).answer) (session-again s (file_of s.trace) C o)

    pub bytes-act : bytes_in C (session_bytes s) a ≡ session_bytes (reply_of C s a).session
    bytes-act =
        bytes-like C (session_bytes s) a (like-again s (file_of s.trace) C o)
        ∙ ap₂ (λ (x : Session) (t : List ℕ). session_head (reply_of C x a).session ++ t) (session-again s (file_of s.trace) C o) (file-recorded a)
        ∙ ap (λ (t : Trace). session_head (reply_of C s a).session ++ file_of t) (sym (act-trace C s i a))

pub bytes-after : (C : Closings) (cs : List Act) (s : Session) → Intact C s → bytes_after C (session_bytes s) cs ≡ session_bytes (session_after C s cs)
unfolding bytes_after session_after
bytes-after C [] s i = refl
bytes-after C (a ∷ cs) s i = ap (λ (b : List ℕ). bytes_after C b cs) (bytes-act C s i a) ∙ bytes-after C cs (reply_of C s a).session (act-intact C s i a)

-- an answer is 0 exactly where the call was done
pub code-done : (a : Answer) → code_of a ≡ 0 → So (is_done a)
code-done Done e = refl
code-done Held e = absurd (omega arith)
code-done NotHeld e = absurd (omega arith)
code-done Contradicted e = absurd (omega arith)
code-done (Waits x) e = absurd (omega arith)
code-done (Refused NoModel) e = absurd (omega arith)
code-done (Refused NotWellFormed) e = absurd (omega arith)
code-done (Refused Unlike) e = absurd (omega arith)
code-done (Refused NoOperation) e = absurd (omega arith)
code-done (Refused OneRecord) e = absurd (omega arith)
code-done (Refused TooManyPairs) e = absurd (omega arith)
code-done (Refused NoPair) e = absurd (omega arith)
code-done (Refused PastBound) e = absurd (omega arith)
code-done (Refused FirstValue) e = absurd (omega arith)
code-done (Refused TooMany) e = absurd (omega arith)
code-done (Refused Twice) e = absurd (omega arith)

pub done-code : (a : Answer) → So (is_done a) → code_of a ≡ 0
done-code Done s = refl
done-code Held s = absurd (false≢true s)
done-code NotHeld s = absurd (false≢true s)
done-code Contradicted s = absurd (false≢true s)
done-code (Waits x) s = absurd (false≢true s)
done-code (Refused r) s = absurd (false≢true s)

-- a record is taken exactly where nothing is wrong with it
pub add-joins : (C : Closings) (b : List ℕ) (p : Op) → is_done (add_of C (session_in C b) p).answer ≡ joins (session_in C b).trace p
unfolding add_of joins
add-joins C b p = ap is_done (add-fault C (session_in C b) p ((intact-iff C (session_in C b)).1 (named-intact C b)))

pub add_done : (C : Closings) (s : Session) → Intact C s → (p : Op) → So (is_done (add_of C s p).answer) → So (joins s.trace p)
unfolding add_of joins
add_done C s i p d = sym (ap is_done (add-fault C s p ((intact-iff C s).1 i))) ∙ d

-- so the file stays where a call is not done
file-stays : (C : Closings) (b : List ℕ) (a : Act) → is_done (reply_of C (session_in C b) a).answer ≡ false → file_after C b a ≡ file_in b
file-stays C b (supposes x y) n = refl
file-stays C b takes_back n = refl
file-stays C b (asks x y) n = refl
file-stays C b (adds p) n = ap (λ (x : Bool). cond x (file_of (pushed (session_in C b).trace p)) (file_in b)) (sym (add-joins C b p) ∙ n)
file-stays C b awaits n = refl

pub given : (C : Closings) (b : List ℕ) (a : Act) → answer_in C b a ≢ 0 → bytes_in C b a ≡ b
given C b a n = elim (test (like C b)) [
  | inl l ↦
      let d = off (λ d. n (answer-like C b a l ∙ done-code (reply_of C (session_in C b) a).answer d)) in
      bytes-like C b a l ∙ ap₂ (λ (x : Session) (f : List ℕ). session_head x ++ f) (act-stays C (session_in C b) a d) (file-stays C b a d) ∙ like-same C b l
  | inr u ↦ bytes-unlike C b a u
]
