-- A file laid down piece by piece.
--
--   first-none, first_some               == the bytes of one first value
--   firsts-long, firsts_more, firsts-room == the bytes of first values; one address more; those before an address have room
--   many-zero, many-other, many-small     == how many they are
--   records-long, records-more           == the bytes of records; one more
--   file-long                            == how many bytes a file has
--   put-nothing                          == nothing put down leaves all as it was
--   first-still, first-down              == one first value put down, or none
--   firsts-fit, firsts-step, records-step == there is room for the next first value; it is put down; a record is
--   places, len-fits, many-fits          == the numbers of a well formed trace
--   room-firsts, room-records            == there is room for what is still to be put down
--   laid                                 == head, first values and records put down in turn are the file
--   wrote-ten, wrote-short, wrote-done   == what the writer answers, with the tests that lead to it
use mathlib.Core.Path.{◌≡◌, refl, sym, ap, ap₂, ◌∙◌}
use mathlib.Core.Logic.{◌≢◌}
use mathlib.Core.Bool.{Bool, true, false, cond, So}
use mathlib.Core.List.{List, [], ◌∷◌, ◌++◌, append_assoc, append-nil}
use Prim.Native.Nat.{ℕ, suc, ◌+◌, ◌*◌, ◌<◌, ◌≤◌}
use native.Mathlib.Numerals.{add-one}
use native.Mathlib.Omega.{arith}
use lib.Dec.{eqb}
use borrow.Author.Tests.{eq-eqb, ne_eqb, le-leb, lt-leb}
use lib.ListN.{length, get_or, take, drop, length-append, take-append-drop}
use lib.Seq.{take-suc, length-take-le, paste-zero}
use Rattle.std.specs.Prelude.{Ok, Err}
use Rattle.text.specs.Room.{put_at, behind}
use Rattle.text.proofs.Put.{put-paste, put_front, put_then, length-put, behind-room}
use Rattle.trace.specs.Bounds.{RECORDS, ADDRESSES}
use Rattle.trace.specs.declared.Op.TheVariants.{Load}
use Rattle.trace.specs.declared.Record.{Record}
use Rattle.trace.specs.declared.Trace.{Trace}
use Rattle.trace.specs.WellFormed.{well_formed}
use Rattle.trace.proofs.WellFormed.{form-iff}
use Rattle.packed.specs.Write.{wrote_of, left_of}
use Rattle.packed.specs.declared.Unwritten.TheVariants.{NotWellFormed, NoRoom}
use Rattle.packed.specs.Layout.{HEAD, FIRST, RECORD, two, record_of, first_entry, firsts_of, many, record_bytes, size_of, file_head, file_of}

module _ (a v : ℕ) where
  pub first-none : v ≡ 0 → first_entry a v ≡ []
  unfolding first_entry
  first-none e = rw (eq-eqb v 0 e) refl

  pub first_some : v ≢ 0 → first_entry a v ≡ a ∷ two v
  unfolding first_entry
  first_some d = rw (ne_eqb v 0 d) refl

pub firsts-append : (a : ℕ) (us vs : List ℕ) → firsts_of a (us ++ vs) ≡ firsts_of a us ++ firsts_of (a + length us) vs
unfolding firsts_of
firsts-append a [] vs = let z : a ≡ a + 0 = omega arith in ap (λ (k : ℕ). firsts_of k vs) z
firsts-append a (u ∷ us) vs =
    let z : suc a + length us ≡ a + suc (length us) = omega arith in
    ap (λ (l : List ℕ). first_entry a u ++ l) (firsts-append (suc a) us vs ∙ ap (λ (k : ℕ). firsts_of (suc a) us ++ firsts_of k vs) z)
    ∙ sym (append_assoc (first_entry a u) (firsts_of (suc a) us) (firsts_of (a + suc (length us)) vs))

pub firsts-long : (a : ℕ) (vs : List ℕ) → length (firsts_of a vs) ≡ FIRST * many vs
unfolding first_entry firsts_of many
firsts-long a [] = refl
firsts-long a (v ∷ vs) = go (eqb v 0) (firsts-long (suc a) vs)
  where
    go : (z : Bool) → length (firsts_of (suc a) vs) ≡ FIRST * many vs → length (cond z [] (a ∷ two v) ++ firsts_of (suc a) vs) ≡ FIRST * cond z (many vs) (suc (many vs))
    go true e = e
    go false e = omega (arith, e)

pub many-small : (vs : List ℕ) → many vs ≤ length vs
unfolding many
many-small [] = omega arith
many-small (v ∷ vs) = go (eqb v 0) (many-small vs)
  where
    go : (z : Bool) → many vs ≤ length vs → cond z (many vs) (suc (many vs)) ≤ suc (length vs)
    go true h = omega arith
    go false h = omega arith

many-snoc : (us : List ℕ) (v : ℕ) → many (us ++ (v ∷ [])) ≡ many us + cond (eqb v 0) 0 1
unfolding many
many-snoc [] v = go (eqb v 0)
  where
    go : (z : Bool) → ◌≡◌ {A = ℕ} (cond z 0 1) (0 + cond z 0 1)
    go true = refl
    go false = refl
many-snoc (u ∷ us) v = go (eqb u 0) (many-snoc us v)
  where
    go : (z : Bool) → many (us ++ (v ∷ [])) ≡ many us + cond (eqb v 0) 0 1 → cond z (many (us ++ (v ∷ []))) (suc (many (us ++ (v ∷ [])))) ≡ cond z (many us) (suc (many us)) + cond (eqb v 0) 0 1
    go true e = e
    go false e = omega (arith, e)

module _ (vs : List ℕ) (a : ℕ) (h : a < length vs) where
  -- one more is one more
  next : take (a + 1) vs ≡ take a vs ++ (get_or vs a 0 ∷ [])
  next = rw (add-one, take-suc vs a 0 h)

  more : many (take (a + 1) vs) ≡ many (take a vs) + cond (eqb (get_or vs a 0) 0) 0 1
  more = ap many next ∙ many-snoc (take a vs) (get_or vs a 0)

  pub many-zero : get_or vs a 0 ≡ 0 → many (take (a + 1) vs) ≡ many (take a vs)
  many-zero e = more ∙ (rw (eq-eqb (get_or vs a 0) 0 e) (omega arith))

  pub many-other : get_or vs a 0 ≢ 0 → many (take (a + 1) vs) ≡ many (take a vs) + 1
  many-other d = more ∙ (rw (ne_eqb (get_or vs a 0) 0 d) refl)

  pub firsts_more : firsts_of 0 (take (a + 1) vs) ≡ firsts_of 0 (take a vs) ++ first_entry a (get_or vs a 0)
  unfolding firsts_of
  firsts_more =
      let l : 0 + length (take a vs) ≡ a = omega (arith, length-take-le a vs (omega arith)) in
      ap (firsts_of 0) next
      ∙ firsts-append 0 (take a vs) (get_or vs a 0 ∷ [])
      ∙ ap (λ (k : ℕ). firsts_of 0 (take a vs) ++ firsts_of k (get_or vs a 0 ∷ [])) l
      ∙ ap (λ (r : List ℕ). firsts_of 0 (take a vs) ++ r) (append-nil (first_entry a (get_or vs a 0)))

pub firsts-room : (vs : List ℕ) (a : ℕ) → length (firsts_of 0 (take a vs)) ≤ length (firsts_of 0 vs)
firsts-room vs a =
    omega (
      arith,
      ap (λ (l : List ℕ). length (firsts_of 0 l)) (take-append-drop a vs),
      ap length (firsts-append 0 (take a vs) (drop a vs)),
      length-append (firsts_of 0 (take a vs)) (firsts_of (0 + length (take a vs)) (drop a vs)),
    )

pub records-long : (rs : List Record) → length (record_bytes rs) ≡ RECORD * length rs
unfolding record_bytes
records-long [] = refl
records-long (r ∷ rs) = omega (arith, length-append (record_of r.op) (record_bytes rs), records-long rs)

pub records-snoc : (rs : List Record) (r : Record) → record_bytes (rs ++ (r ∷ [])) ≡ record_bytes rs ++ record_of r.op
unfolding record_bytes
records-snoc [] r = append-nil (record_of r.op)
records-snoc (q ∷ rs) r = ap (λ (l : List ℕ). record_of q.op ++ l) (records-snoc rs r) ∙ sym (append_assoc (record_of q.op) (record_bytes rs) (record_of r.op))

pub records-more : (rs : List Record) (i : ℕ) → i < length rs → record_bytes (take (i + 1) rs) ≡ record_bytes (take i rs) ++ record_of (get_or rs i (record { op = Load 0 0 0 })).op
records-more rs i h = rw (add-one, take-suc rs i (record { op = Load 0 0 0 }) h) (records-snoc (take i rs) (get_or rs i (record { op = Load 0 0 0 })))

pub records-taken : (rs : List Record) (i : ℕ) → i ≤ length rs → length (record_bytes (take i rs)) ≡ RECORD * i
records-taken rs i h = records-long (take i rs) ∙ ap (λ (k : ℕ). RECORD * k) (length-take-le i rs h)

pub file-long : (t : Trace) → t.len ≤ length t.records → length (file_of t) ≡ size_of (many t.firsts) t.len
unfolding file_of
file-long t h =
    let fs = firsts_of 0 t.firsts in
    let rs = record_bytes (take t.len t.records) in
    omega (arith, length-append (file_head (many t.firsts) t.len) (fs ++ rs), length-append fs rs, firsts-long 0 t.firsts, records-taken t.records t.len h)

pub put-nothing : (out : List ℕ) (at : ℕ) → at ≤ length out → out ≡ put_at [] out at
put-nothing out at h = paste-zero out at [] ∙ sym (put-paste [] out at (omega arith))

module _ (a v : ℕ) (out : List ℕ) (at : ℕ) where
  pub first-still : v ≡ 0 → at + length (first_entry a v) ≤ length out → (at ≡ at + length (first_entry a v)) × (out ≡ put_at (first_entry a v) out at)
  first-still e h =
      let n = first-none a v e in
      let l : length (first_entry a v) ≡ 0 = ap length n in
      (omega arith, put-nothing out at (omega arith) ∙ ap (λ (w : List ℕ). put_at w out at) (sym n))

  pub first-down : v ≢ 0 → at + length (first_entry a v) ≤ length out → (r : ℕ) (now : List ℕ) → r ≡ behind (a ∷ two v) out at → now ≡ put_at (a ∷ two v) out at
      → (r ≡ at + length (first_entry a v)) × (now ≡ put_at (first_entry a v) out at)
  first-down d h r now e q =
      let n = first_some a v d in
      let l : length (first_entry a v) ≡ 3 = ap length n in
      (e ∙ behind-room (a ∷ two v) out at (omega arith) ∙ omega arith, q ∙ ap (λ (w : List ℕ). put_at w out at) (sym n))

module _ (vs : List ℕ) (a : ℕ) (h : a < length vs) (before out : List ℕ) (at : ℕ) (room : HEAD + length (firsts_of 0 vs) ≤ length before)
    (o : out ≡ put_at (firsts_of 0 (take a vs)) before HEAD) (p : at ≡ HEAD + length (firsts_of 0 (take a vs))) where
  -- those before an address, and its own
  both : length (firsts_of 0 (take (a + 1) vs)) ≡ length (firsts_of 0 (take a vs)) + length (first_entry a (get_or vs a 0))
  both = ap length (firsts_more vs a h) ∙ length-append (firsts_of 0 (take a vs)) (first_entry a (get_or vs a 0))

  pub firsts-fit : at + length (first_entry a (get_or vs a 0)) ≤ length out
  firsts-fit = omega (arith, both, firsts-room vs (a + 1), ap length o, length-put (firsts_of 0 (take a vs)) before HEAD)

  pub firsts-step : (r : ℕ) (now : List ℕ) → r ≡ at + length (first_entry a (get_or vs a 0)) → now ≡ put_at (first_entry a (get_or vs a 0)) out at
      → (r ≡ HEAD + length (firsts_of 0 (take (a + 1) vs))) × (now ≡ put_at (firsts_of 0 (take (a + 1) vs)) before HEAD)
  firsts-step r now e q =
      let word = firsts_of 0 (take a vs) in
      let next = first_entry a (get_or vs a 0) in (
        omega (arith, both, e, p),
        q
            ∙ ap₂ (λ (x : List ℕ) (k : ℕ). put_at next x k) o p
            ∙ put_then word next before HEAD (omega (arith, both, firsts-room vs (a + 1)))
            ∙ ap (λ (w : List ℕ). put_at w before HEAD) (sym (firsts_more vs a h)),
      )

pub records-step : (rs : List Record) (i : ℕ) → i < length rs → (before out now : List ℕ) (from : ℕ) → from + RECORD * (i + 1) ≤ length before → out ≡ put_at (record_bytes (take i rs)) before from
    → now ≡ put_at (record_of (get_or rs i (record { op = Load 0 0 0 })).op) out (from + RECORD * i) → now ≡ put_at (record_bytes (take (i + 1) rs)) before from
records-step rs i h before out now from room e q =
    let word = record_bytes (take i rs) in
    let next = record_of (get_or rs i (record { op = Load 0 0 0 })).op in
    let long : length word ≡ RECORD * i = records-taken rs i (omega arith) in
    q
    ∙ ap (λ (o : List ℕ). put_at next o (from + RECORD * i)) e
    ∙ ap (put_at next (put_at word before from)) (let s : from + RECORD * i ≡ from + length word = omega arith in s)
    ∙ put_then word next before from (omega arith)
    ∙ ap (λ (w : List ℕ). put_at w before from) (sym (records-more rs i h))

-- ---- a well formed trace
module _ (t : Trace) (w : So (well_formed t)) where
  -- all records have places
  pub places : t.len ≤ length t.records
  places = let f = (form-iff t).0 w in omega (arith, f.places, f.fits)

  pub len-fits : t.len ≤ RECORDS
  len-fits = ((form-iff t).0 w).fits

  pub many-fits : many t.firsts ≤ ADDRESSES
  many-fits = omega (arith, many-small t.firsts, ((form-iff t).0 w).addresses)

  module _ (c : ℕ) (e : c ≡ many t.firsts) (before : List ℕ) (room : size_of (many t.firsts) t.len ≤ length before) (a : List ℕ) (p : a ≡ put_at (file_head c t.len) before 0) where
    pub room-firsts : HEAD + length (firsts_of 0 t.firsts) ≤ length a
    room-firsts = omega (arith, ap length p, length-put (file_head c t.len) before 0, firsts-long 0 t.firsts)

    module _ (b : List ℕ) (at : ℕ) (q : b ≡ put_at (firsts_of 0 t.firsts) a HEAD) (k : at ≡ HEAD + length (firsts_of 0 t.firsts)) where
      pub room-records : at + RECORD * t.len ≤ length b
      room-records = omega (arith, ap length p, length-put (file_head c t.len) before 0, ap length q, length-put (firsts_of 0 t.firsts) a HEAD, firsts-long 0 t.firsts)

      pub laid : (now : List ℕ) → now ≡ put_at (record_bytes (take t.len t.records)) b at → now ≡ file_of t ++ drop (length (file_of t)) before
      unfolding file_of
      laid now r =
          let head = file_head (many t.firsts) t.len in
          let fs = firsts_of 0 t.firsts in
          let rs = record_bytes (take t.len t.records) in
          let fl = firsts-long 0 t.firsts in
          let rl = records-taken t.records t.len places in
          let hl = length-append head fs in
          let whole : length (head ++ (fs ++ rs)) ≤ length before = omega (arith, length-append head (fs ++ rs), length-append fs rs) in
          let head-down : a ≡ put_at head before 0 = p ∙ ap (λ (n : ℕ). put_at (file_head n t.len) before 0) e in
          let two_down : b ≡ put_at (head ++ fs) before 0 = q ∙ ap (λ (o : List ℕ). put_at fs o HEAD) head-down ∙ put_then head fs before 0 (omega arith) in
          let place : at ≡ 0 + length (head ++ fs) = omega arith in
          r
          ∙ ap₂ (λ (o : List ℕ) (i : ℕ). put_at rs o i) two_down place
          ∙ put_then (head ++ fs) rs before 0 (omega arith)
          ∙ ap (λ (x : List ℕ). put_at x before 0) (append_assoc head fs rs)
          ∙ put_front (head ++ (fs ++ rs)) before whole

-- ---- what the writer answers
module _ (t : Trace) (b : List ℕ) where
  pub wrote-ten : well_formed t ≡ false → (Err NotWellFormed ≡ wrote_of t b) × (b ≡ left_of t b)
  unfolding wrote_of left_of
  wrote-ten n = ((rw n refl), (rw n refl))

  module _ (w : So (well_formed t)) (size : ℕ) (e : size ≡ size_of (many t.firsts) t.len) where
    whole : size ≡ length (file_of t)
    whole = e ∙ sym (file-long t (places t w))

    pub wrote-short : length b < size → (Err NoRoom ≡ wrote_of t b) × (b ≡ left_of t b)
    unfolding wrote_of left_of
    wrote-short h = let n = lt-leb (length (file_of t)) (length b) (omega (arith, whole)) in ((rw (w, n) refl), (rw (w, n) refl))

    pub wrote-done : size ≤ length b → (now : List ℕ) → now ≡ file_of t ++ drop (length (file_of t)) b → (Ok size ≡ wrote_of t b) × (now ≡ left_of t b)
    unfolding wrote_of left_of
    wrote-done h now q = let y = le-leb (length (file_of t)) (length b) (omega (arith, whole)) in ((rw (w, y) (ap Ok whole)), (rw (w, y) q))
