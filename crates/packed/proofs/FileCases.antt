-- A file is turned back exactly in the cases of document 02.
--
--   told         == a file is read, or a case holds
--   back-told    == where a case holds, the file is turned back for it
--   back-exactly == a reason and a line are given exactly in their case
use mathlib.Core.Path.{◌≡◌, refl, sym, ap, ap₂, ◌∙◌, subst}
use mathlib.Core.Logic.{◌↔◌, ◌⊎◌, inl, inr}
use mathlib.Core.Bool.{Bool, true, false, So, ◌||◌}
use mathlib.Core.List.{List}
use Prim.Native.Nat.{ℕ, zero, suc, ◌+◌, ◌*◌, ◌-◌, ◌<◌, ◌≤◌}
use native.Mathlib.Numerals.{add-one}
use native.Mathlib.Decide.{dec_lt}
use native.Mathlib.Omega.{arith}
use lib.Dec.{eqb, ltb}
use lib.ListN.{length, get_or, drop, replicate}
use Rattle.std.specs.Prelude.{Option, Some, None, Err}
use Rattle.laws.proofs.Tests.{test, off, eq?, last?, and-iff, or-iff, so-le, so-eq, so-lt}
use Rattle.trace.specs.Bounds.{RECORDS, ADDRESSES}
use Rattle.trace.specs.Trace.{pushed}
use Rattle.trace.specs.Fault.{Earns, fault_of}
use Rattle.trace.specs.declared.Op.{Op}
use Rattle.trace.specs.declared.Trace.{Trace}
use Rattle.trace.specs.declared.Fault.{Fault}
use Rattle.trace.specs.declared.Fault.TheVariants as fault
use Rattle.trace.proofs.Faults.{fault-exactly, fault-none}
use Rattle.trace.proofs.Places.{pushed-len}
use Rattle.packed.specs.Layout.{VERSION, HEAD, FIRST, RECORD, two_in, size_of}
use Rattle.packed.specs.FileRead.{entry_turn, turned_entry, turned_bytes, begun_file, good, back, read_firsts, read_records, then_records, read_entries, marked, read_file}
use Rattle.packed.specs.FileCases.{Marked, firsts_in, records_in, Framed, address_at, value_at, low_at, NoFirst, GoodFirst, values_at, entry_at, TookFile, BackFile, none, next, unmarked, version, size, many, no_first, past_first, no_record, bad_record}
use Rattle.packed.specs.declared.Reason.{Reason}
use Rattle.packed.specs.declared.Reason.TheVariants.{PastBound, FirstValue, TooMany, Twice, NoFile, OtherVersion, NoEntry}
use Rattle.packed.specs.declared.Answer.{Answer}
use Rattle.packed.specs.declared.Answer.TheVariants as answer
use Rattle.packed.specs.declared.Reading.{Reading}
use Rattle.packed.proofs.Steps.{first-bad, first_past, first_next, first-over, record-taken, record-back, record-over}
use Rattle.packed.proofs.Framing.{file-unmarked, file-version, file-size, file-many, file-entries}
use Rattle.packed.proofs.Records.{taken-turned}

marked-iff : (b : List ℕ) → So (marked b) ↔ Marked b
marked-iff b =
    let i = and-iff (and-iff (and-iff (so-le {m = 5} {n = length b}) (so-eq {m = get_or b 0 0} {n = 0x50})) (so-eq {m = get_or b 1 0} {n = 0x59})) (so-eq {m = get_or b 2 0} {n = 0x52}) in
    (λ s. let p = i.0 s in (p.0.0.0, p.0.0.1, p.0.1, p.1), λ p. i.1 (((p.0, p.1), p.2), p.3))

module _ (b : List ℕ) where
  -- ---- first values
  abbrev c : ℕ
  c = firsts_in b

  abbrev n : ℕ
  n = records_in b

  test_iff : (i : ℕ) → So (eqb (value_at b i) 0 || ltb (address_at b i) (low_at b i)) ↔ NoFirst b i
  test_iff i = or-iff so-eq so-lt

  -- good ones are put down one after another
  walk : (i : ℕ) → i ≤ c → ((j : ℕ) → j < i → GoodFirst b j) → read_firsts (c - i) (low_at b i) (values_at b i) (drop (HEAD + FIRST * i) b) ≡ read_firsts c 0 (replicate ADDRESSES 0) (drop HEAD b)
  unfolding low_at values_at
  walk zero h g = let z : c - 0 ≡ c = omega arith in ap (λ (k : ℕ). read_firsts k 0 (replicate ADDRESSES 0) (drop HEAD b)) z
  walk (suc i) h g =
      let (f, l) = g i (omega arith) in
      ap₂ (λ (x y : ℕ). read_firsts (c - x) (address_at b i + 1) (values_at b (suc i)) (drop (HEAD + FIRST * y) b)) (sym (add-one i)) (sym (add-one i))
      ∙ sym (first_next c i (low_at b i) (values_at b i) b (omega arith) (value_at b i) refl (off (λ t. f ((test_iff i).0 t))) l)
      ∙ walk i (omega arith) (λ j k. g j (omega arith))

  first-told : (k : ℕ) → ((i : ℕ) → i < k → GoodFirst b i) ⊎ ((i : ℕ) × (i < k) × ((j : ℕ) → j < i → GoodFirst b j) × (NoFirst b i ⊎ ((NoFirst b i → ⊥) × (ADDRESSES ≤ address_at b i))))
  first-told zero = inl (λ i h. absurd (omega arith))
  first-told (suc k) = elim (first-told k) [
    | inr p ↦ inr (p.0, omega (arith, p.1), p.2, p.3)
    | inl g ↦ elim (test (eqb (value_at b k) 0 || ltb (address_at b k) (low_at b k))) [
      | inl t ↦ inr (k, omega arith, g, inl ((test_iff k).0 t))
      | inr t ↦ elim (dec_lt (address_at b k) ADDRESSES) [
        | yes l ↦ inl (λ i h. elim (last? {i = i} {n = k} h) [ inl e ↦ subst (GoodFirst b) (sym e) (not t, l) | inr m ↦ g i m ])
        | no l ↦ inr (k, omega arith, g, inr (not t, omega arith))
      ]
    ]
  ]
    where
      not : (eqb (value_at b k) 0 || ltb (address_at b k) (low_at b k)) ≡ false → NoFirst b k → ⊥
      not t f = let z : ◌≡◌ {A = Bool} false true = sym t ∙ (test_iff k).1 f in let y : ◌≡◌ {A = ℕ} 0 1 = cc in omega arith

  -- ---- records
  abbrev from : ℕ
  from = HEAD + FIRST * c

  took-firsts : {k : ℕ} {t : Trace} → TookFile b k t → (i : ℕ) → i < c → GoodFirst b i
  took-firsts (none g) = g
  took-firsts (next o w e f) = took-firsts w

  took-len : {k : ℕ} {t : Trace} → TookFile b k t → t.len ≡ k
  took-len (none g) = refl
  took-len (next {k} {t} o w e f) = let r = ((fault-none t o).0 ((fault-exactly t o None).1 f)).0 in omega (arith, pushed-len t o r, took-len w)

  -- those that were taken are behind the first values
  stroll : {k : ℕ} {t : Trace} → TookFile b k t → k ≤ n → read_records t (drop (from + RECORD * k) b) (n - k) ≡ read_records (begun_file (values_at b c)) (drop from b) n
  stroll (none g) h = let z : from + RECORD * 0 ≡ from = omega arith in let y : n - 0 ≡ n = omega arith in ap₂ (λ (i k : ℕ). read_records (begun_file (values_at b c)) (drop i b) k) z y
  stroll (next {k} {t} o w e f) h =
      ap₂ (λ (x y : ℕ). read_records (pushed t o) (drop (from + RECORD * x) b) (n - y)) (sym (add-one k)) (sym (add-one k))
      ∙ sym (record-taken t b from n k (omega arith) o (taken-turned t (drop (from + RECORD * k) b) o e ((fault-exactly t o None).1 f)))
      ∙ stroll w (omega arith)

  -- what is wrong with record k behind the trace t
  abbrev Bad : ℕ → Trace → Type 0
  Bad k t = (entry_at b k ≡ None) ⊎ ((o : Op) × (f : Option Fault) × (reason : Reason) × (entry_at b k ≡ Some o) × Earns f t o × (entry_turn o f ≡ Err reason))

  record-told : (k : ℕ) (t : Trace) → TookFile b k t → ((u : Trace) × TookFile b (suc k) u) ⊎ Bad k t
  record-told k t w = go (entry_at b k) refl
    where
      by-fault : (o : Op) → entry_at b k ≡ Some o → (f : Option Fault) → fault_of t o ≡ f → ((u : Trace) × TookFile b (suc k) u) ⊎ Bad k t
      by-fault o e None f = inl (pushed t o, next o w e ((fault-exactly t o None).0 f))
      by-fault o e (Some fault.PastBound) f = inr (inr (o, (Some fault.PastBound), PastBound, e, (fault-exactly t o (Some fault.PastBound)).0 f, refl))
      by-fault o e (Some fault.FirstValue) f = inr (inr (o, (Some fault.FirstValue), FirstValue, e, (fault-exactly t o (Some fault.FirstValue)).0 f, refl))
      by-fault o e (Some fault.TooMany) f = inr (inr (o, (Some fault.TooMany), TooMany, e, (fault-exactly t o (Some fault.TooMany)).0 f, refl))
      by-fault o e (Some fault.Twice) f = inr (inr (o, (Some fault.Twice), Twice, e, (fault-exactly t o (Some fault.Twice)).0 f, refl))

      go : (x : Option Op) → entry_at b k ≡ x → ((u : Trace) × TookFile b (suc k) u) ⊎ Bad k t
      go (Some o) e = by-fault o e (fault_of t o) refl
      go None e = inr (inl e)

  records-told : ((i : ℕ) → i < c → GoodFirst b i) → (k : ℕ) → ((t : Trace) × TookFile b k t) ⊎ ((i : ℕ) × (t : Trace) × (i < k) × TookFile b i t × Bad i t)
  records-told g zero = inl (begun_file (values_at b c), none g)
  records-told g (suc k) = elim (records-told g k) [
    | inr p ↦ inr (p.0, p.1, omega (arith, p.2), p.3, p.4)
    | inl p ↦ elim (record-told k p.0 p.1) [ inl q ↦ inl q | inr q ↦ inr (k, p.0, omega arith, p.1, q) ]
  ]

  -- ---- both
  module _ (fr : Framed b) where
    entries : read_file b ≡ read_entries b c n
    entries = file-entries b ((marked-iff b).1 fr.mark) fr.version fr.size fr.fits

    -- first values that are turned back end the reading
    stops : (reason : Reason) → read_firsts c 0 (replicate ADDRESSES 0) (drop HEAD b) ≡ back reason 0 → read_file b ≡ back reason 0
    unfolding read_entries
    stops reason e = entries ∙ ap (λ (r : Reading). then_records r.answer r (drop from b) n) e

    -- and good ones are followed by the records
    goes_on : ((i : ℕ) → i < c → GoodFirst b i) → read_file b ≡ read_records (begun_file (values_at b c)) (drop from b) n
    unfolding read_entries
    goes_on g = entries ∙ ap (λ (r : Reading). then_records r.answer r (drop from b) n) (sym (walk c (omega arith) g) ∙ first-over c c (low_at b c) (values_at b c) b (omega arith))

    takes : (t : Trace) → TookFile b n t → read_file b ≡ good t
    takes t w = goes_on (took-firsts w) ∙ sym (stroll w (omega arith)) ∙ record-over t b from n n (omega arith)

    turns : (k : ℕ) (t : Trace) (reason : Reason) → k < n → TookFile b k t → turned_bytes t (drop (from + RECORD * k) b) ≡ Err reason → read_file b ≡ back reason (k + 1)
    turns k t reason h w q =
        goes_on (took-firsts w) ∙ sym (stroll w (omega arith)) ∙ record-back t b from n k h reason q ∙ ap (λ (l : ℕ). back reason (l + 1)) (took-len w)

    framed-told : ((t : Trace) × (read_file b ≡ good t)) ⊎ ((reason : Reason) × (line : ℕ) × BackFile b reason line)
    framed-told = elim (first-told c) [
      | inr p ↦ elim p.3 [ inl f ↦ inr (NoEntry, 0, no_first p.0 fr p.1 p.2 f) | inr f ↦ inr (PastBound, 0, past_first p.0 fr p.1 p.2 f.0 f.1) ]
      | inl g ↦ elim (records-told g n) [
        | inl p ↦ inl (p.0, takes p.0 p.1)
        | inr p ↦ elim p.4 [
          | inl e ↦ inr (NoEntry, p.0 + 1, no_record p.0 p.1 fr p.2 p.3 e)
          | inr q ↦ inr (q.2, p.0 + 1, bad_record p.0 p.1 q.0 q.1 fr p.2 p.3 q.3 q.4 q.5)
        ]
      ]
    ]

  pub told : ((t : Trace) × (read_file b ≡ good t)) ⊎ ((reason : Reason) × (line : ℕ) × BackFile b reason line)
  told = elim (test (marked b)) [
    | inr m ↦ inr (NoFile, 0, unmarked (λ k. let z : ◌≡◌ {A = Bool} false true = sym m ∙ (marked-iff b).1 k in let y : ◌≡◌ {A = ℕ} 0 1 = cc in omega arith))
    | inl m ↦ let k = (marked-iff b).0 m in elim (eq? (two_in b 3) VERSION) [
      | inr v ↦ inr (OtherVersion, 0, version k v)
      | inl v ↦ elim (eq? (length b) (size_of c n)) [
        | inr l ↦ inr (NoFile, 0, size k v l)
        | inl l ↦ elim (dec_lt RECORDS n) [
          | yes h ↦ inr (TooMany, RECORDS + 1, many k v l h)
          | no h ↦ framed-told (record { mark = k; version = v; size = l; fits = omega arith })
        ]
      ]
    ]
  ]

  pub back-told : (reason : Reason) (line : ℕ) → BackFile b reason line → read_file b ≡ back reason line
  unfolding turned_bytes
  back-told reason line (unmarked d) = file-unmarked b (off (λ s. d ((marked-iff b).0 s)))
  back-told reason line (version m d) = file-version b ((marked-iff b).1 m) d
  back-told reason line (size m v d) = file-size b ((marked-iff b).1 m) v d
  back-told reason line (many m v l h) = file-many b ((marked-iff b).1 m) v l h
  back-told reason line (no_first i fr h g f) =
      stops fr NoEntry (sym (walk i (omega arith) g) ∙ first-bad c i (low_at b i) (values_at b i) b h (value_at b i) refl ((test_iff i).1 f))
  back-told reason line (past_first i fr h g d l) =
      stops fr PastBound (sym (walk i (omega arith) g) ∙ first_past c i (low_at b i) (values_at b i) b h (value_at b i) refl (off (λ t. d ((test_iff i).0 t))) l)
  back-told reason line (no_record k t fr h w e) = turns fr k t NoEntry h w (ap (turned_entry t) e)
  back-told reason line (bad_record k t o f fr h w e q r) = turns fr k t reason h w (ap (turned_entry t) e ∙ ap (entry_turn o) ((fault-exactly t o f).1 q) ∙ r)

  pub back-exactly : (reason : Reason) (line : ℕ) → ((read_file b).answer ≡ answer.Refused reason line) ↔ BackFile b reason line
  back-exactly reason line = (
    λ e. elim told [
      | inl p ↦
          let z : ◌≡◌ {A = Answer} answer.Good (answer.Refused reason line) = sym (ap (λ (r : Reading). r.answer) p.1) ∙ e in
          let y : ◌≡◌ {A = ℕ} 0 1 = cc in
          absurd (omega arith)
      | inr p ↦
          let z : ◌≡◌ {A = Answer} (answer.Refused p.0 p.1) (answer.Refused reason line) = sym (ap (λ (r : Reading). r.answer) (back-told p.0 p.1 p.2)) ∙ e in
          let x : p.0 ≡ reason = cc in
          let y : p.1 ≡ line = cc in
          subst (λ (l : ℕ). BackFile b reason l) y (subst (λ (r : Reason). BackFile b r p.1) x p.2)
    ],
    λ k. ap (λ (r : Reading). r.answer) (back-told reason line k),
  )
