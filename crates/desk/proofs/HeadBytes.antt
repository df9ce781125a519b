-- The bytes of a session's head, place by place, and that each is a byte.
--
--   intact-fit                      == an intact session fits
--   count_room, pair-below          == the numbers of a session that fits are small
--   number-first, number-second     == the numbers of a pair
--   byte-lower, byte-upper          == the bytes of a number
--   number-below                    == a number of a session that fits is a record's
--   front-model, front-count, front-pair, front-word == the bytes of the front
--   head-long                       == how many bytes a head has
--   room-behind                     == how many bytes are left for the table
--   laid, laid-alone                == the front and the table laid down in turn are the head
use mathlib.Core.Path.{◌≡◌, refl, sym, ap, ap₂, ◌∙◌, subst}
use mathlib.Core.Logic.{◌≢◌, inl, inr}
use mathlib.Core.List.{List, ◌++◌, append_assoc, append-nil}
use Prim.Native.Nat.{ℕ, ◌+◌, ◌*◌, ◌-◌, ◌/◌, ◌%◌, ◌<◌, ◌≤◌}
use native.Mathlib.Decide.{dec_lt}
use native.Mathlib.Omega.{arith}
use lib.ListN.{length, take, drop, drop_of_length-le, length-append, length-drop}
use lib.Seq.{take_all, take_at, drop_at, drop-drop}
use borrow.Author.Tests.{eq-eqb, ne_eqb, lt-ltb, le-ltb}
use Rattle.laws.specs.Sums.{num}
use Rattle.laws.specs.ListOf.{row}
use Rattle.laws.proofs.Tests.{eq?}
use Rattle.laws.proofs.Rows.{row-long}
use Rattle.trace.specs.Bounds.{RECORDS}
use Rattle.trace.proofs.WellFormed.{form-iff}
use Rattle.trace.proofs.Meaning.{operation-iff}
use Rattle.session.specs.Bounds.{PAIRS}
use Rattle.session.specs.Stack.{pair_at}
use Rattle.session.specs.Closings.{Closings}
use Rattle.session.specs.Session.{Intact}
use Rattle.session.specs.declared.Pair.{Pair}
use Rattle.session.specs.declared.Stack.{Stack}
use Rattle.session.specs.declared.Session.{Session}
use Rattle.session.proofs.Pairs.{supposable-iff}
use Rattle.session.proofs.Openings.{openable-iff}
use Rattle.session.proofs.Sessions.{intact-stands}
use Rattle.desk.specs.SessionHead.{Fit, FRONT, TABLE, SESSION-HEAD, pair_number, pair_byte, front_at, table_at, session_head}
use Rattle.packed.specs.Layout.{BYTE}

pub intact-fit : (C : Closings) (s : Session) → Intact C s → Fit s
intact-fit C s i = (i.opens, intact-stands C s i)

module _ (s : Session) (i : Fit s) where
  pub count_room : s.stack.count ≤ PAIRS
  count_room = i.1.room

  -- an operation of the trace
  below : (x : ℕ) → x < s.trace.len → x < RECORDS
  below x h = let f = ((form-iff s.trace).0 ((openable-iff s.trace s.model).0 i.0).form).fits in omega arith

  pub pair-below : (j : ℕ) → j < PAIRS → ((pair_at s.stack j).first < RECORDS) × ((pair_at s.stack j).second < RECORDS)
  pair-below j h = elim (dec_lt j s.stack.count) [
    | yes l ↦
        let o = ((supposable-iff s.trace (pair_at s.stack j)).0 (i.1.used j l)).0 in
        (below _ ((operation-iff s.trace _).0 o.0).0, below _ ((operation-iff s.trace _).0 o.1).0)
    | no l ↦
        let e = i.1.rest j (omega arith) h in
        (subst (λ (p : Pair). p.first < RECORDS) (sym e) (omega arith), subst (λ (p : Pair). p.second < RECORDS) (sym e) (omega arith))
  ]

module _ (k : Stack) (i : ℕ) where
  pub number-first : i % 2 ≡ 0 → pair_number k i ≡ (pair_at k (i / 2)).first
  unfolding pair_number
  number-first e = rw (eq-eqb _ _ e) refl

  pub number-second : i % 2 ≢ 0 → pair_number k i ≡ (pair_at k (i / 2)).second
  unfolding pair_number
  number-second d = rw (ne_eqb _ _ d) refl

  pub byte-lower : i % 2 ≡ 0 → pair_byte k i ≡ pair_number k (i / 2) % BYTE
  unfolding pair_byte
  byte-lower e = rw (eq-eqb _ _ e) refl

  pub byte-upper : i % 2 ≢ 0 → pair_byte k i ≡ pair_number k (i / 2) / BYTE
  unfolding pair_byte
  byte-upper d = rw (ne_eqb _ _ d) refl

pub number-below : (s : Session) → Fit s → (j : ℕ) → j < 2 * PAIRS → pair_number s.stack j < RECORDS
number-below s f j h = elim (eq? (j % 2) 0) [
  | inl e ↦ rw (number-first s.stack j e) (pair-below s f (j / 2) (omega arith)).0
  | inr d ↦ rw (number-second s.stack j d) (pair-below s f (j / 2) (omega arith)).1
]

module _ (s : Session) (i : ℕ) where
  pub front-model : i ≡ 0 → front_at s i ≡ s.model
  unfolding front_at
  front-model e = rw (eq-eqb i 0 e) refl

  pub front-count : i ≡ 1 → front_at s i ≡ s.stack.count
  unfolding front_at
  front-count e = rw (ne_eqb i 0 (λ z. omega arith), eq-eqb i 1 e) refl

  module _ (a : i ≢ 0) (b : i ≢ 1) where
    pub front-pair : i < 2 + 4 * PAIRS → front_at s i ≡ pair_byte s.stack (i - 2)
    unfolding front_at
    front-pair h = rw (ne_eqb i 0 a, ne_eqb i 1 b, lt-ltb i (2 + 4 * PAIRS) h) refl

    pub front-word : 2 + 4 * PAIRS ≤ i → front_at s i ≡ num s.contradicted
    unfolding front_at
    front-word h = rw (ne_eqb i 0 a, ne_eqb i 1 b, le-ltb i (2 + 4 * PAIRS) h) refl

module _ (s : Session) where
  -- the two parts of a head
  abbrev front : List ℕ
  front = row (front_at s) 0 FRONT

  abbrev table : List ℕ
  table = row (table_at s.held) 0 TABLE

  pub head-long : length (session_head s) ≡ SESSION-HEAD
  unfolding session_head
  head-long = length-append front table ∙ ap₂ ◌+◌ (row-long (front_at s) 0 FRONT) (row-long (table_at s.held) 0 TABLE)

  -- behind the front there is room for the table
  pub room-behind : (before mid : List ℕ) → mid ≡ front ++ drop FRONT before → SESSION-HEAD ≤ length before → TABLE ≤ length (take (length mid - FRONT) (drop FRONT mid))
  room-behind before mid e h =
      let n = length-drop FRONT mid in
      subst (λ (l : List ℕ). TABLE ≤ length l) (sym (take_all (length mid - FRONT) (drop FRONT mid) (omega arith)))
      (omega (arith, ap length e, length-append front (drop FRONT before), length-drop FRONT before, row-long (front_at s) 0 FRONT))

  module _ (before mid last : List ℕ) (e : mid ≡ front ++ drop FRONT before) (q : last ≡ table ++ drop TABLE (take (length mid - FRONT) (drop FRONT mid))) where
    -- behind the front, all is lent for the table
    lent : last ++ drop (length mid - FRONT) (drop FRONT mid) ≡ table ++ drop TABLE (drop FRONT mid)
    lent =
        let n : length (drop FRONT mid) ≤ length mid - FRONT = omega (arith, length-drop FRONT mid) in
        ap₂ ◌++◌ (q ∙ ap (λ (r : List ℕ). table ++ drop TABLE r) (take_all (length mid - FRONT) (drop FRONT mid) n)) (drop_of_length-le (drop FRONT mid) {i = length mid - FRONT} n)
        ∙ append-nil (table ++ drop TABLE (drop FRONT mid))

    pub laid : take FRONT mid ++ (last ++ drop (length mid - FRONT) (drop FRONT mid)) ≡ session_head s ++ drop SESSION-HEAD before
    unfolding session_head
    laid =
        ap₂ ◌++◌
        (ap (take FRONT) e ∙ take_at front (drop FRONT before) FRONT (row-long (front_at s) 0 FRONT))
        (lent ∙ ap (λ (r : List ℕ). table ++ drop TABLE r) (ap (drop FRONT) e ∙ drop_at front (drop FRONT before) FRONT (row-long (front_at s) 0 FRONT)))
        ∙ ap (λ (r : List ℕ). front ++ (table ++ r)) (drop-drop TABLE FRONT before)
        ∙ sym (append_assoc front table (drop SESSION-HEAD before))

  -- bytes that are as many as a head has are the head
  pub laid-alone : (before last : List ℕ) → length before ≤ SESSION-HEAD → last ≡ session_head s ++ drop SESSION-HEAD before → last ≡ session_head s
  laid-alone before last h q = q ∙ ap (λ (r : List ℕ). session_head s ++ r) (drop_of_length-le before {i = SESSION-HEAD} h) ∙ append-nil (session_head s)
