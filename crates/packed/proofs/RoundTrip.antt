-- A file and its trace.
--
--   read-file    == reading the file of a well formed trace gives it back
--   file-only    == what is read is well formed, and the bytes are its file
--   file-exactly == a file reads as a trace exactly when the trace is well formed and the file is its own
--   files-one    == two well formed traces are equal exactly when their files are
use mathlib.Core.Path.{◌≡◌, refl, sym, ap, ap₂, ◌∙◌}
use mathlib.Core.Logic.{◌↔◌, inl, inr}
use mathlib.Core.Bool.{So}
use mathlib.Core.List.{List, [], ◌++◌}
use Prim.Native.Nat.{ℕ, ◌+◌, ◌*◌, ◌/◌, ◌%◌}
use native.Mathlib.Decide.{dec_lt}
use native.Mathlib.Omega.{arith}
use lib.ListN.{length, get_or, take, drop, replicate, length-drop}
use lib.Seq.{drop_at, drop-drop}
use borrow.Author.Tests.{le-leb}
use Rattle.laws.proofs.Tests.{test, eq?, and-iff, so-le, so-eq}
use Rattle.trace.specs.Bounds.{RECORDS, ADDRESSES}
use Rattle.trace.specs.WellFormed.{well_formed}
use Rattle.trace.specs.declared.Trace.{Trace}
use Rattle.trace.proofs.WellFormed.{form-iff}
use Rattle.trace.proofs.Growth.{empty-well, up_to-none}
use Rattle.packed.specs.Layout.{BYTE, VERSION, HEAD, FIRST, two_in, firsts_of, many, record_bytes, size_of, file_head, file_of}
use Rattle.packed.specs.FileRead.{begun_file, good, read_firsts, read_records, then_records, read_entries, marked, read_file}
use Rattle.packed.specs.declared.Answer.{Answer}
use Rattle.packed.specs.declared.Answer.TheVariants.{Good, Refused}
use Rattle.packed.specs.declared.Reading.{Reading}
use Rattle.packed.proofs.Codec.{Bytes, bytes_drop, two_back, lower, upper, eight}
use Rattle.packed.proofs.Framing.{file-unmarked, file-version, file-size, file-many, file-entries}
use Rattle.packed.proofs.FileLaid.{firsts-long, file-long, places, len-fits}
use Rattle.packed.proofs.Firsts.{never, firsts-read, firsts-only, firsts-well}
use Rattle.packed.proofs.Records.{read-records, records-only}

module _ (t : Trace) (w : So (well_formed t)) where
  -- its parts
  abbrev fs : List ℕ
  fs = firsts_of 0 t.firsts

  abbrev rs : List ℕ
  rs = record_bytes (take t.len t.records)

  size : length (file_of t) ≡ size_of (many t.firsts) t.len
  size = file-long t (places t w)

  has-mark : So (marked (file_of t))
  unfolding file_of
  has-mark = rw (le-leb 5 (length (file_head (many t.firsts) t.len ++ (fs ++ rs))) (omega (arith, size))) refl

  has-version : two_in (file_of t) 3 ≡ VERSION
  unfolding file_of
  has-version = refl

  has-firsts : get_or (file_of t) 5 0 ≡ many t.firsts
  unfolding file_of
  has-firsts = refl

  has-records : two_in (file_of t) 6 ≡ t.len
  unfolding file_of
  has-records = two_back t.len

  behind-head : drop HEAD (file_of t) ≡ fs ++ rs
  unfolding file_of
  behind-head = refl

  behind-firsts : drop (HEAD + FIRST * many t.firsts) (file_of t) ≡ rs
  behind-firsts =
      sym (drop-drop (FIRST * many t.firsts) HEAD (file_of t))
      ∙ ap (drop (FIRST * many t.firsts)) behind-head
      ∙ drop_at fs rs (FIRST * many t.firsts) (firsts-long 0 t.firsts)

  firsts-back : read_firsts (many t.firsts) 0 (replicate ADDRESSES 0) (drop HEAD (file_of t)) ≡ good (begun_file t.firsts)
  firsts-back =
      let n : length t.firsts ≡ ADDRESSES = ((form-iff t).0 w).addresses in
      ap₂ (λ (k : ℕ) (b : List ℕ). read_firsts (many t.firsts) 0 (replicate k 0) b) (sym n) behind-head
      ∙ firsts-read t.firsts [] rs 0 0 refl (omega arith) (omega arith)

  entries-back : read_entries (file_of t) (many t.firsts) t.len ≡ good t
  unfolding read_entries
  entries-back =
      ap₂ (λ (r : Reading) (b : List ℕ). then_records r.answer r b t.len) firsts-back behind-firsts
      ∙ ap (λ (u : Trace). read_records u rs t.len) (sym (up_to-none t))
      ∙ read-records t w t.len 0 (omega arith)

  pub read-file : read_file (file_of t) ≡ good t
  read-file =
      file-entries (file_of t) has-mark has-version (size ∙ sym (ap₂ size_of has-firsts has-records)) (omega (arith, has-records, len-fits t w))
      ∙ ap₂ (read_entries (file_of t)) has-firsts has-records
      ∙ entries-back

-- what was read is good, with its trace
good-with : (r : Reading) → r.answer ≡ Good → r ≡ good r.trace
good-with r e = ap (λ (a : Answer). record { answer = a; trace = r.trace }) e

module _ (b : List ℕ) (u : Trace) (h : Bytes b) (m : So (marked b)) (v : two_in b 3 ≡ VERSION) (l : length b ≡ size_of (get_or b 5 0) (two_in b 6)) where
  -- how many first values and records the head says
  abbrev c : ℕ
  c = get_or b 5 0

  abbrev n : ℕ
  n = two_in b 6

  abbrev first : Reading
  first = read_firsts c 0 (replicate ADDRESSES 0) (drop HEAD b)

  -- the head is the bytes that it should be
  head-own : b ≡ file_head c n ++ drop HEAD b
  head-own =
      let p = (and-iff (and-iff (and-iff (so-le {m = 5} {n = length b}) so-eq) so-eq) so-eq).0 m in
      let e0 : get_or b 0 0 ≡ 0x50 = p.0.0.1 in
      let e1 : get_or b 1 0 ≡ 0x59 = p.0.1 in
      let e2 : get_or b 2 0 ≡ 0x52 = p.1 in
      let e3 : get_or b 3 0 ≡ 1 = lower (get_or b 3 0) (get_or b 4 0) (h 3) ∙ ap (λ (k : ℕ). k % BYTE) v in
      let e4 : get_or b 4 0 ≡ 0 = upper (get_or b 3 0) (get_or b 4 0) (h 3) ∙ ap (λ (k : ℕ). k / BYTE) v in
      let e6 : get_or b 6 0 ≡ n % BYTE = lower (get_or b 6 0) (get_or b 7 0) (h 6) in
      let e7 : get_or b 7 0 ≡ n / BYTE = upper (get_or b 6 0) (get_or b 7 0) (h 6) in
      eight b (omega (arith, l)) ∙ cc

  records-own : first.answer ≡ Good → read_records first.trace (drop (HEAD + FIRST * c) b) n ≡ good u → So (well_formed u) × (b ≡ file_of u)
  unfolding file_of record_bytes
  records-own g q =
      let e = good-with first g in
      let d = length-drop HEAD b in
      let f = firsts-only c 0 ADDRESSES [] (drop HEAD b) first.trace refl refl (bytes_drop HEAD b h) (omega (arith, l)) e in
      let k = firsts-well c 0 (replicate ADDRESSES 0) (drop HEAD b) first.trace empty-well (bytes_drop HEAD b h) e in
      let r = records-only n first.trace (drop (HEAD + FIRST * c) b) u k (bytes_drop (HEAD + FIRST * c) b h) (omega (arith, l, length-drop (HEAD + FIRST * c) b)) q in
      let vs : u.firsts ≡ f.tail = r.firsts ∙ ap (λ (t : Trace). t.firsts) f.all in
      let z : first.trace.len ≡ 0 = ap (λ (t : Trace). t.len) f.all in
      let len : u.len ≡ n = omega (arith, r.len) in
      let rest : drop (FIRST * c) (drop HEAD b) ≡ record_bytes (take u.len u.records) = drop-drop (FIRST * c) HEAD b ∙ sym (r.bytes ∙ ap (λ (t : Trace). record_bytes (take t.len t.records) ++ drop (HEAD + FIRST * c) b) f.all ∙ none) in (
        r.well,
        head-own
            ∙ ap₂ (λ (i j : ℕ). file_head i j ++ drop HEAD b) (f.count ∙ ap many (sym vs)) (sym len)
            ∙ ap (λ (x : List ℕ). file_head (many u.firsts) u.len ++ x) (f.bytes ∙ ap₂ (λ (x y : List ℕ). firsts_of 0 x ++ y) (sym vs) rest),
      )
    where
      none : record_bytes [] ++ drop (HEAD + FIRST * c) b ≡ drop (HEAD + FIRST * c) b
      none = refl

  entries-own : read_entries b c n ≡ good u → So (well_formed u) × (b ≡ file_of u)
  unfolding read_entries
  entries-own = go first.answer refl
    where
      go : (a : Answer) → first.answer ≡ a → then_records first.answer first (drop (HEAD + FIRST * c) b) n ≡ good u → So (well_formed u) × (b ≡ file_of u)
      go Good e q = records-own e (ap (λ (a : Answer). then_records a first (drop (HEAD + FIRST * c) b) n) (sym e) ∙ q)
      go (Refused reason line) e q =
          let s : first ≡ good u = ap (λ (a : Answer). then_records a first (drop (HEAD + FIRST * c) b) n) (sym e) ∙ q in
          let x : ◌≡◌ {A = Answer} (Refused reason line) Good = sym e ∙ ap (λ (r : Reading). r.answer) s in
          let z : ◌≡◌ {A = ℕ} 0 1 = cc in
          absurd (omega arith)

pub file-only : (b : List ℕ) (u : Trace) → Bytes b → read_file b ≡ good u → So (well_formed u) × (b ≡ file_of u)
file-only b u h q = elim (test (marked b)) [
  | inr m ↦ absurd (never (sym (file-unmarked b m) ∙ q))
  | inl m ↦ elim (eq? (two_in b 3) VERSION) [
    | inr v ↦ absurd (never (sym (file-version b m v) ∙ q))
    | inl v ↦ elim (eq? (length b) (size_of (get_or b 5 0) (two_in b 6))) [
      | inr l ↦ absurd (never (sym (file-size b m v l) ∙ q))
      | inl l ↦ elim (dec_lt RECORDS (two_in b 6)) [
        | yes g ↦ absurd (never (sym (file-many b m v l g) ∙ q))
        | no g ↦ entries-own b u h m v l (sym (file-entries b m v l (omega arith)) ∙ q)
      ]
    ]
  ]
]

pub file-exactly : (b : List ℕ) (t : Trace) → Bytes b → (read_file b ≡ good t) ↔ (So (well_formed t) × (b ≡ file_of t))
file-exactly b t h = (file-only b t h, λ p. ap read_file p.1 ∙ read-file t p.0)

pub files-one : (t u : Trace) → So (well_formed t) → So (well_formed u) → (t ≡ u) ↔ (file_of t ≡ file_of u)
files-one t u w x = (ap file_of, λ e. ap (λ (r : Reading). r.trace) (sym (read-file t w) ∙ ap read_file e ∙ read-file u x))
