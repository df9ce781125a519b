-- A session in bytes.
--
--   like-parts, like-same  == what the test of bytes says: they are the head of the session that they name, then its file
--   behind                 == the file, as a part of the bytes
--   kept-like, kept-unlike == the session that bytes are, or none
--   unlike-short, unlike-file, unlike-made, unlike-head == the test fails at one of its parts
--   named-intact, named-trace == the session that bytes name
--   file-again, session-again, like-again == the bytes of an intact session are like, and name that session
--   on-own, session-bytes  == an intact session stands on its trace's file, and its bytes name it
--   like-own, like-exactly == bytes are like exactly where they are those of an intact session, the one that they name
--   bytes_one, session-one == equal sessions are equal bytes: of intact sessions, and of bytes that are like
use mathlib.Core.Path.{◌≡◌, refl, sym, ap, ap₂, ◌∙◌, subst}
use mathlib.Core.Logic.{◌≢◌, ◌↔◌}
use mathlib.Core.Bool.{Bool, true, false, So, false≢true}
use mathlib.Core.List.{List, ◌++◌}
use Prim.Native.Nat.{ℕ, ◌+◌, ◌*◌, ◌-◌, ◌/◌, ◌%◌, ◌<◌, ◌≤◌}
use native.Mathlib.Omega.{arith}
use lib.ListN.{length, get_or, take, drop, take-append-drop, length-append, length-drop, get_or-append}
use lib.Seq.{take_all, take_at, drop_at, ext_get_or}
use Rattle.laws.specs.ListOf.{row}
use Rattle.laws.proofs.Tests.{off, and-iff, same-iff, so-le, so-eq}
use Rattle.laws.proofs.Alike.{alike-iff}
use Rattle.laws.proofs.Rows.{row-long, row-place}
use Rattle.packed.specs.Layout.{file_of, BYTE}
use Rattle.packed.specs.FileRead.{read_file}
use Rattle.packed.specs.declared.Reason.TheVariants.{PastBound, FirstValue, TooMany, Twice, NoFile, OtherVersion, NoEntry, Lost}
use Rattle.packed.specs.declared.Answer.{Answer}
use Rattle.packed.specs.declared.Answer.TheVariants as told
use Rattle.packed.specs.declared.Reading.{Reading}
use Rattle.packed.proofs.Codec.{Bytes, bytes_drop}
use Rattle.packed.proofs.RoundTrip.{read-file, file-only}
use Rattle.trace.specs.WellFormed.{well_formed}
use Rattle.trace.specs.declared.Trace.{Trace}
use Rattle.session.specs.Bounds.{PAIRS}
use Rattle.session.specs.Stack.{unused, pair_at, standing}
use Rattle.session.specs.Opening.{is_done}
use Rattle.session.specs.Closings.{Closings}
use Rattle.session.specs.Session.{afresh, Intact, blank}
use Rattle.session.specs.Entries.{afresh_of}
use Rattle.session.specs.declared.Answer.TheVariants.{Done}
use Rattle.session.specs.declared.Pair.{Pair}
use Rattle.session.specs.declared.Stack.{Stack}
use Rattle.session.specs.declared.Session.{Session}
use Rattle.session.specs.declared.Reply.{Reply}
use Rattle.session.proofs.Pairs.{stands-iff}
use Rattle.session.proofs.Openings.{openable-iff}
use Rattle.session.proofs.Sessions.{intact-stands}
use Rattle.session.proofs.Answering.{afresh-done, afresh-allows}
use Rattle.session.proofs.Lasting.{made-intact}
use Rattle.desk.specs.File.{file_number_in, file_number}
use Rattle.desk.specs.SessionHead.{FRONT, TABLE, SESSION-HEAD, pair_number, front_at, table_at, session_head, session_bytes}
use Rattle.desk.specs.SessionBytes.{file_in, two_bytes_in, pair_in, stack_in, made_in, session_in, like, session_of}
use Rattle.desk.specs.declared.sessions.Lent.{Lent}
use Rattle.desk.proofs.HeadBytes.{number-first, number-second, byte-lower, byte-upper, front-model, front-count, front-pair, head-long}

-- whether bytes are those of a session, and which
abbrev both : Bool → Session → Lent
both l s = record { like = l; session = s }

-- all that stands behind the head
pub behind : (b : List ℕ) → take (length b - SESSION-HEAD) (drop SESSION-HEAD b) ≡ file_in b
behind b = take_all (length b - SESSION-HEAD) (drop SESSION-HEAD b) (omega (arith, length-drop SESSION-HEAD b))

module _ (C : Closings) (b : List ℕ) where
  -- the parts of the test
  pub record Parts : Type 0 where
    pub long : SESSION-HEAD ≤ length b
    pub good : file_number (file_in b) ≡ 0
    pub done : So (is_done (made_in C b).answer)
    pub head : session_head (session_in C b) ≡ take SESSION-HEAD b

  pub like-parts : So (like C b) ↔ Parts
  unfolding like
  like-parts =
      let i = and-iff (and-iff (and-iff so-le so-eq) same-iff) (alike-iff (session_head (session_in C b)) (take SESSION-HEAD b)) in (
        λ s. let p = i.0 s in record { long = p.0.0.0; good = p.0.0.1; done = p.0.1; head = p.1 },
        λ p. i.1 (((p.long, p.good), p.done), p.head),
      )

  pub like-same : So (like C b) → session_head (session_in C b) ++ file_in b ≡ b
  like-same s = ap (λ (h : List ℕ). h ++ file_in b) (like-parts.0 s).head ∙ take-append-drop SESSION-HEAD b

  pub kept-like : So (like C b) → (s : Session) → s ≡ session_in C b → both true s ≡ session_of C b
  unfolding session_of
  kept-like l s e = rw l (ap (both true) e)

  pub kept-unlike : like C b ≡ false → (r : Lent) → (r.like ≡ false) × (r.session ≡ blank C) → r ≡ session_of C b
  unfolding session_of
  kept-unlike n r e = rw n (ap₂ both e.0 e.1)

  -- what a function that looks at the parts in turn learns
  pub unlike-short : length b < SESSION-HEAD → like C b ≡ false
  unlike-short h = off (λ l. let g = (like-parts.0 l).long in omega arith)

  pub unlike-file : file_number (file_in b) ≢ 0 → like C b ≡ false
  unlike-file d = off (λ l. d (like-parts.0 l).good)

  pub unlike-made : is_done (made_in C b).answer ≡ false → like C b ≡ false
  unlike-made n = off (λ l. false≢true (sym n ∙ (like-parts.0 l).done))

  pub unlike-head : (session_head (session_in C b) ≡ take SESSION-HEAD b → ⊥) → like C b ≡ false
  unlike-head d = off (λ l. d (like-parts.0 l).head)

  -- what bytes name is intact, whatever they are
  pub named-intact : Intact C (session_in C b)
  unfolding made_in
  named-intact = made-intact C (read_file (file_in b)).trace (get_or b 0 0) (stack_in b)

  pub named-trace : So (is_done (made_in C b).answer) → (session_in C b).trace ≡ (read_file (file_in b)).trace
  unfolding made_in afresh
  named-trace d =
      let t = (read_file (file_in b)).trace in
      sym (ap (λ (r : Reply). r.session.trace) (afresh-done C t (get_or b 0 0) (stack_in b) (afresh-allows C t (get_or b 0 0) (stack_in b) d) (afresh C t (get_or b 0 0) (standing (stack_in b))) refl))

-- a reading without a number is good
good-answer : (r : Reading) → file_number_in r.answer ≡ 0 → r ≡ record { answer = told.Good; trace = r.trace }
good-answer r z = ap (λ (a : Answer). record { answer = a; trace = r.trace }) (go r.answer z)
  where
    go : (a : Answer) → file_number_in a ≡ 0 → a ≡ told.Good
    go told.Good e = refl
    go (told.Refused PastBound n) e = absurd (omega arith)
    go (told.Refused FirstValue n) e = absurd (omega arith)
    go (told.Refused TooMany n) e = absurd (omega arith)
    go (told.Refused Twice n) e = absurd (omega arith)
    go (told.Refused NoFile n) e = absurd (omega arith)
    go (told.Refused OtherVersion n) e = absurd (omega arith)
    go (told.Refused NoEntry n) e = absurd (omega arith)
    go (told.Refused Lost n) e = absurd (omega arith)

-- an intact session on the trace of a good file
pub record On (C : Closings) (s : Session) (file : List ℕ) : Type 0 where
  pub intact : Intact C s
  pub good : file_number file ≡ 0
  pub trace : s.trace ≡ (read_file file).trace

module _ (s : Session) (file : List ℕ) where
  -- the bytes of the session
  abbrev whole : List ℕ
  whole = session_head s ++ file

  pub file-again : file_in whole ≡ file
  file-again = drop_at (session_head s) file SESSION-HEAD (head-long s)

  front-place : (j : ℕ) → j < FRONT → get_or whole j 0 ≡ front_at s j
  unfolding session_head
  front-place j h =
      let n = row-long (front_at s) 0 FRONT in
      get_or-append (session_head s) file 0 j (omega (arith, head-long s))
      ∙ get_or-append (row (front_at s) 0 FRONT) (row (table_at s.held) 0 TABLE) 0 j (omega arith)
      ∙ row-place (front_at s) 0 FRONT j h

  -- two bytes of the front are a number of the pairs
  number-again : (j : ℕ) → j < 2 * PAIRS → two_bytes_in whole (2 + 2 * j) ≡ pair_number s.stack j
  unfolding two_bytes_in
  number-again j h =
      let k = s.stack in
      let l : (2 + 2 * j - 2) / 2 ≡ j = omega arith in
      let u : (2 + 2 * j + 1 - 2) / 2 ≡ j = omega arith in
      let z : pair_number k j % BYTE + BYTE * (pair_number k j / BYTE) ≡ pair_number k j = omega arith in
      ap₂ (λ (x y : ℕ). x + BYTE * y)
      (front-place (2 + 2 * j) (omega arith)
      ∙ front-pair s (2 + 2 * j) (λ e. omega arith) (λ e. omega arith) (omega arith)
      ∙ byte-lower k (2 + 2 * j - 2) (omega arith)
      ∙ ap (λ (i : ℕ). pair_number k i % BYTE) l)
      (front-place (2 + 2 * j + 1) (omega arith)
      ∙ front-pair s (2 + 2 * j + 1) (λ e. omega arith) (λ e. omega arith) (omega arith)
      ∙ byte-upper k (2 + 2 * j + 1 - 2) (λ e. omega arith)
      ∙ ap (λ (i : ℕ). pair_number k i / BYTE) u)
      ∙ z

  pair-again : (i : ℕ) → i < PAIRS → pair_in whole i ≡ pair_at s.stack i
  unfolding pair_in
  pair-again i h =
      let k = s.stack in
      let e : 2 * i / 2 ≡ i = omega arith in
      let o : (2 * i + 1) / 2 ≡ i = omega arith in
      let f : 2 + 4 * i ≡ 2 + 2 * (2 * i) = omega arith in
      let g : 4 + 4 * i ≡ 2 + 2 * (2 * i + 1) = omega arith in
      ap₂ (λ (x y : ℕ). record { first = x; second = y })
      (ap (two_bytes_in whole) f ∙ number-again (2 * i) (omega arith) ∙ number-first k (2 * i) (omega arith) ∙ ap (λ (j : ℕ). (pair_at k j).first) e)
      (ap (two_bytes_in whole) g ∙ number-again (2 * i + 1) (omega arith) ∙ number-second k (2 * i + 1) (λ z. omega arith) ∙ ap (λ (j : ℕ). (pair_at k j).second) o)

  stack-again : length s.stack.pairs ≡ PAIRS → stack_in whole ≡ s.stack
  unfolding stack_in
  stack-again l =
      ap₂ (λ (ps : List Pair) (n : ℕ). record { pairs = ps; count = n })
      (ext_get_or unused (row (pair_in whole) 0 PAIRS) s.stack.pairs (row-long (pair_in whole) 0 PAIRS ∙ sym l)
      (λ i h. let m : i < PAIRS = omega (arith, row-long (pair_in whole) 0 PAIRS) in row-place (pair_in whole) unused PAIRS i m ∙ pair-again i m))
      (front-place 1 (omega arith) ∙ front-count s 1 refl)

  module _ (C : Closings) (o : On C s file) where
    made_again : made_in C whole ≡ record { answer = Done; session = s }
    unfolding made_in
    made_again =
        let i = o.intact in
        let k = intact-stands C s i in
        ap (λ (t : Trace). afresh_of C t (get_or whole 0 0) (stack_in whole)) (ap (λ (x : List ℕ). (read_file x).trace) file-again ∙ sym o.trace)
        ∙ ap₂ (λ (m : ℕ) (q : Stack). afresh_of C s.trace m q) (front-place 0 (omega arith) ∙ front-model s 0 refl) (stack-again k.long)
        ∙ sym (afresh-done C s.trace s.model s.stack ((and-iff same-iff (stands-iff s.trace s.stack)).1 (i.opens, k)) s i.same)

    pub session-again : session_in C whole ≡ s
    session-again = ap (λ (r : Reply). r.session) made_again

    pub like-again : So (like C whole)
    like-again = (like-parts C whole).1 (record {
      long = omega (arith, length-append (session_head s) file, head-long s);
      good = ap file_number file-again ∙ o.good;
      done = ap (λ (r : Reply). is_done r.answer) made_again;
      head = ap session_head session-again ∙ sym (take_at (session_head s) file SESSION-HEAD (head-long s));
    })

-- a session's own file
module _ (C : Closings) (s : Session) (i : Intact C s) where
  own : So (well_formed s.trace)
  own = ((openable-iff s.trace s.model).0 i.opens).form

  pub on-own : On C s (file_of s.trace)
  on-own =
      let r = read-file s.trace own in
      record { intact = i; good = ap (λ (x : Reading). file_number_in x.answer) r; trace = sym (ap (λ (x : Reading). x.trace) r) }

  -- of bytes, it is the only one that the session stands on
  own-only : (file : List ℕ) → Bytes file → On C s file → file ≡ file_of s.trace
  own-only file h o =
      let e = good-answer (read_file file) o.good in
      (file-only file (read_file file).trace h e).1 ∙ ap file_of (sym o.trace)

  pub session-bytes : session_in C (session_bytes s) ≡ s
  session-bytes = session-again s (file_of s.trace) C on-own

pub like-own : (C : Closings) (b : List ℕ) → Bytes b → So (like C b) → b ≡ session_bytes (session_in C b)
like-own C b h l =
    let p = (like-parts C b).0 l in
    let o : On C (session_in C b) (file_in b) = record { intact = named-intact C b; good = p.good; trace = named-trace C b p.done } in
    sym (like-same C b l) ∙ ap (λ (f : List ℕ). session_head (session_in C b) ++ f) (own-only C (session_in C b) (named-intact C b) (file_in b) (bytes_drop SESSION-HEAD b h) o)

pub like-exactly : (C : Closings) (b : List ℕ) → Bytes b → So (like C b) ↔ ((s : Session) × Intact C s × (b ≡ session_bytes s))
like-exactly C b h = (
  λ l. (session_in C b, named-intact C b, like-own C b h l),
  λ w. subst (λ (x : List ℕ). So (like C x)) (sym w.2) (like-again w.0 (file_of w.0.trace) C (on-own C w.0 w.1)),
)

pub bytes_one : (C : Closings) (s s' : Session) → Intact C s → Intact C s' → (s ≡ s') ↔ (session_bytes s ≡ session_bytes s')
bytes_one C s s' i i' = (ap session_bytes, λ e. sym (session-bytes C s i) ∙ ap (λ (b : List ℕ). session_in C b) e ∙ session-bytes C s' i')

pub session-one : (C : Closings) (b b' : List ℕ) → Bytes b → Bytes b' → So (like C b) → So (like C b') → session_in C b ≡ session_in C b' → b ≡ b'
session-one C b b' h h' l l' e = like-own C b h l ∙ ap session_bytes e ∙ sym (like-own C b' h' l')
