-- What opening a session into lent bytes comes to.
--
--   bad-number, bad-session, good-number, good-session == by whether what was read is good
--   session-intact == the session laid down is intact
--   opened-trace   == where one is opened it is on the trace that was read
--   well-ten       == a well formed trace never opens as 10
--   never-ten, file-never-ten == so 10 never comes for a text, nor for a packed file
--   open-turned, open_done, no_room == the answer, as the entry learns it
--   opened-bytes   == the bytes of an opened session
--   after-bytes    == opened bytes after any calls, adding among them, are those of the session made afresh on the records so far with the pairs still
--                     standing
--   again-bytes    == hence those of opening afresh on the records so far and supposing the pairs still standing in turn
use mathlib.Core.Path.{◌≡◌, refl, sym, ap, ap₂, ◌∙◌, subst}
use mathlib.Core.Logic.{◌≢◌, inl, inr}
use mathlib.Core.Bool.{false, So}
use mathlib.Core.List.{List, [], ◌++◌, append-nil}
use Prim.Native.Nat.{ℕ, ◌+◌}
use native.Mathlib.Omega.{arith}
use lib.Dec.{leb}
use lib.ListN.{length, drop_of_length-le, length-append}
use borrow.Author.Tests.{eq-eqb, ne_eqb}
use Rattle.laws.proofs.Tests.{eq?, test}
use Rattle.text.specs.Room.{put_at}
use Rattle.text.proofs.Put.{put_front}
use Rattle.packed.specs.Layout.{file_of}
use Rattle.packed.specs.declared.Reason.TheVariants as reason
use Rattle.packed.specs.declared.Answer as packed
use Rattle.packed.specs.declared.Answer.TheVariants as unpacked
use Rattle.packed.proofs.Codec.{Bytes}
use Rattle.packed.proofs.WholeFile as files
use Rattle.packed.specs.WholeFile as whole
use Rattle.trace.specs.WellFormed.{well_formed}
use Rattle.trace.specs.declared.Trace.{Trace}
use Rattle.reader.specs.Whole.{read_whole}
use Rattle.reader.specs.declared.Reason.TheVariants.{LongText, LongLine, NoForm, PastBound, Addresses, FirstValue, TooMany, Twice, Late}
use Rattle.reader.specs.declared.Answer as told
use Rattle.reader.specs.declared.Answer.TheVariants as turned
use Rattle.reader.proofs.Whole.{whole-well}
use Rattle.pairs.specs.Kept.{modelled}
use Rattle.session.specs.Opening.{opening_of, openable}
use Rattle.session.specs.Closings.{Closings}
use Rattle.session.specs.Session.{afresh, Intact, blank}
use Rattle.session.specs.Entries.{open_of}
use Rattle.session.specs.Numbers.{Act}
use Rattle.session.specs.Calls.{session_after, recorded_after, standing_after, suppose_all}
use Rattle.session.specs.declared.Reason.TheVariants.{NoModel}
use Rattle.session.specs.declared.Answer.TheVariants.{Done, Refused}
use Rattle.session.specs.declared.Session.{Session}
use Rattle.session.proofs.Openings.{opening-nine, opening-asks}
use Rattle.session.proofs.Standing.{opened, after-opened, after-again}
use Rattle.session.proofs.Lasting.{blank-intact, opened-intact}
use Rattle.desk.specs.AnswerNumbers.{NO-ROOM}
use Rattle.desk.specs.Text.{number_in, text_number}
use Rattle.desk.specs.SessionHead.{SESSION-HEAD, session_head, session_bytes}
use Rattle.desk.specs.SessionCalls.{code_of, bytes_after}
use Rattle.desk.specs.File.{file_number_in}
use Rattle.desk.specs.Packs.{whole_number, whole_trace}
use Rattle.desk.specs.OpenedBytes.{room_to_open, open_number, open_session, open_answer, open_bytes}
use Rattle.desk.proofs.HeadBytes.{head-long}
use Rattle.desk.proofs.Acting.{bytes-after, code-done}

module _ (n : ℕ) (trace : Trace) (m : ℕ) where
  module _ (g : n ≡ 0) where
    pub good-number : open_number n trace m ≡ code_of (opening_of trace m)
    unfolding open_number
    good-number = rw (eq-eqb _ _ g) refl

    pub good-session : (C : Closings) → open_session C n trace m ≡ (open_of C trace m).session
    unfolding open_session
    good-session C = rw (eq-eqb _ _ g) refl

  module _ (d : n ≢ 0) where
    pub bad-number : open_number n trace m ≡ n
    unfolding open_number
    bad-number = rw (ne_eqb _ _ d) refl

    pub bad-session : (C : Closings) → open_session C n trace m ≡ blank C
    unfolding open_session
    bad-session C = rw (ne_eqb _ _ d) refl

  pub session-intact : (C : Closings) → Intact C (open_session C n trace m)
  session-intact C = elim (eq? n 0) [
    | inl g ↦ subst (λ (s : Session). Intact C s) (sym (good-session g C)) (opened-intact C trace m)
    | inr d ↦ subst (λ (s : Session). Intact C s) (sym (bad-session d C)) (blank-intact C)
  ]

  -- an opened session is on the trace that was read
  pub opened-trace : open_number n trace m ≡ 0 → (C : Closings) → (open_session C n trace m).trace ≡ trace
  unfolding openable afresh
  opened-trace z C = elim (eq? n 0) [
    | inl g ↦ ap (λ (s : Session). s.trace) (good-session g C ∙ opened C trace m (code-done (opening_of trace m) (sym (good-number g) ∙ z)))
    | inr d ↦ absurd (d (sym (bad-number d) ∙ z))
  ]

  module _ (b : List ℕ) where
    pub open-turned : open_number n trace m ≢ 0 → open_answer n trace m b ≡ open_number n trace m
    unfolding open_answer
    open-turned d = rw (ne_eqb (open_number n trace m) 0 d) refl

    module _ (z : open_number n trace m ≡ 0) (C : Closings) where
      -- room for the session is room for a head and the file
      same-room : leb (length (session_bytes (open_session C n trace m))) (length b) ≡ room_to_open trace b
      same-room =
          let s = open_session C n trace m in
          ap (λ (n : ℕ). leb n (length b)) (length-append (session_head s) (file_of s.trace) ∙ ap₂ (λ (n : ℕ) (t : Trace). n + length (file_of t)) (head-long s) (opened-trace z C))

      pub open_done : So (leb (length (session_bytes (open_session C n trace m))) (length b)) → open_answer n trace m b ≡ 0
      unfolding open_answer
      open_done r = let y : So (room_to_open trace b) = sym same-room ∙ r in rw (eq-eqb (open_number n trace m) 0 z, y) refl

      pub no_room : leb (length (session_bytes (open_session C n trace m))) (length b) ≡ false → open_answer n trace m b ≡ NO-ROOM
      unfolding open_answer
      no_room r = let y : room_to_open trace b ≡ false = sym same-room ∙ r in rw (eq-eqb (open_number n trace m) 0 z, y) refl

    module _ (C : Closings) (g : n ≡ 0) (o : So (openable trace m)) (l : length b ≡ SESSION-HEAD + length (file_of trace)) where
      -- the opened session, and its trace
      abbrev first : Session
      first = (open_of C trace m).session

      on-trace : first.trace ≡ trace
      unfolding afresh
      on-trace = ap (λ (s : Session). s.trace) (opened C trace m o)

      pub opened-bytes : open_bytes C n trace m b ≡ session_bytes first
      unfolding open_bytes
      opened-bytes =
          let k : length (session_bytes first) ≡ length b = length-append (session_head first) (file_of first.trace) ∙ ap₂ (λ (n : ℕ) (t : Trace). n + length (file_of t)) (head-long first) on-trace ∙ sym l in
          ap (λ (s : Session). put_at (session_bytes s) b 0) (good-session g C)
          ∙ put_front (session_bytes first) b (omega arith)
          ∙ ap (λ (r : List ℕ). session_bytes first ++ r) (drop_of_length-le b {i = length (session_bytes first)} (omega arith))
          ∙ append-nil (session_bytes first)

      run : (cs : List Act) → bytes_after C (open_bytes C n trace m b) cs ≡ session_bytes (session_after C first cs)
      run cs = ap (λ (x : List ℕ). bytes_after C x cs) opened-bytes ∙ bytes-after C cs first (opened-intact C trace m)

      pub after-bytes : (cs : List Act) → bytes_after C (open_bytes C n trace m b) cs ≡ session_bytes (afresh C (recorded_after trace cs) m (standing_after trace [] cs))
      after-bytes cs = run cs ∙ ap session_bytes (after-opened C trace m o cs)

      pub again-bytes : (cs : List Act) → bytes_after C (open_bytes C n trace m b) cs ≡ bytes_after C (session_bytes (open_of C (recorded_after trace cs) m).session) (suppose_all (standing_after trace [] cs))
      again-bytes cs =
          let u = recorded_after trace cs in
          run cs ∙ ap session_bytes (after-again C trace m o cs) ∙ sym (bytes-after C (suppose_all (standing_after trace [] cs)) (open_of C u m).session (opened-intact C u m))

-- a trace that was read is well formed, so that 10 never comes
well-ten : (t : Trace) (m : ℕ) → So (well_formed t) → code_of (opening_of t m) ≡ 10 → ⊥
well-ten t m w e = elim (test (modelled m)) [
  | inl h ↦ let q : code_of Done ≡ 10 = sym (ap code_of (opening-asks t m h w)) ∙ e in omega arith
  | inr n ↦ let q : code_of (Refused NoModel) ≡ 10 = sym (ap code_of (opening-nine t m n)) ∙ e in omega arith
]

ten : (n : ℕ) (t : Trace) (m : ℕ) → So (well_formed t) → (n ≡ 10 → ⊥) → open_number n t m ≢ 10
ten n t m w h z = elim (eq? n 0) [ inl g ↦ well-ten t m w (sym (good-number n t m g) ∙ z) | inr d ↦ h (sym (bad-number n t m d) ∙ z) ]

pub never-ten : (text : List ℕ) (m : ℕ) → open_number (text_number text) (read_whole text).trace m ≢ 10
never-ten text m = ten (text_number text) (read_whole text).trace m (whole-well text) (bad-ten (read_whole text).answer)
  where
    bad-ten : (a : told.Answer) → number_in a ≡ 10 → ⊥
    bad-ten turned.Good e = omega arith
    bad-ten (turned.Refused LongText n) e = omega arith
    bad-ten (turned.Refused LongLine n) e = omega arith
    bad-ten (turned.Refused NoForm n) e = omega arith
    bad-ten (turned.Refused PastBound n) e = omega arith
    bad-ten (turned.Refused Addresses n) e = omega arith
    bad-ten (turned.Refused FirstValue n) e = omega arith
    bad-ten (turned.Refused TooMany n) e = omega arith
    bad-ten (turned.Refused Twice n) e = omega arith
    bad-ten (turned.Refused Late n) e = omega arith
    bad-ten turned.Lost e = omega arith

pub file-never-ten : (b : List ℕ) → Bytes b → (m : ℕ) → open_number (whole_number b) (whole_trace b) m ≢ 10
file-never-ten b h m = ten (whole_number b) (whole_trace b) m (files.whole-well b h) (bad-ten (whole.read_whole_file b).answer)
  where
    bad-ten : (a : packed.Answer) → file_number_in a ≡ 10 → ⊥
    bad-ten unpacked.Good e = omega arith
    bad-ten (unpacked.Refused reason.PastBound n) e = omega arith
    bad-ten (unpacked.Refused reason.FirstValue n) e = omega arith
    bad-ten (unpacked.Refused reason.TooMany n) e = omega arith
    bad-ten (unpacked.Refused reason.Twice n) e = omega arith
    bad-ten (unpacked.Refused reason.NoFile n) e = omega arith
    bad-ten (unpacked.Refused reason.OtherVersion n) e = omega arith
    bad-ten (unpacked.Refused reason.NoEntry n) e = omega arith
    bad-ten (unpacked.Refused reason.Lost n) e = omega arith
