-- The text of a trace, a byte of a form and a record at a time.
--
--   decimal-value == how many digits a value has at the most
--   fill_none, fill_more == a form that is done, and one byte of it more
--   inits-none, inits-more == init lines that are done, and one address more
--   records-more  == one record more
use mathlib.Core.Path.{◌≡◌, refl, sym, ap, ap₂, ◌∙◌}
use mathlib.Core.Bool.{Bool, true, false, cond}
use mathlib.Core.List.{List, [], ◌∷◌, ◌++◌, append_assoc}
use Prim.Native.Nat.{ℕ, suc, ◌+◌, ◌≤◌, ◌<◌}
use native.Mathlib.Nat.{add-zero}
use native.Mathlib.Numerals.{add-one}
use native.Mathlib.Omega.{arith}
use lib.Dec.{eqb}
use lib.ListN.{length, get_or, take, drop}
use lib.Seq.{take-suc, drop-cons, drop-drop, drop-length, get_or-drop}
use Rattle.trace.specs.Bounds.{VALUES}
use Rattle.trace.specs.declared.Op.TheVariants.{Load}
use Rattle.trace.specs.declared.Record.{Record}
use Rattle.text.specs.Bounds.{FEED}
use Rattle.text.specs.Number.{decimal}
use Rattle.text.specs.Template.{HOLE, fill}
use Rattle.text.proofs.Decimal.{decimal-length}
use Rattle.reader.specs.LineForms.{render_op}
use Rattle.trace.specs.Trace.{first}
use Rattle.trace.specs.declared.Trace.{Trace}
use Rattle.reader.specs.LineForms.{render_init}
use Rattle.reader.specs.TextOf.{Begin, render_records, render_inits, inits_from}
use Rattle.report.specs.Bounds.{VALUE}

pub decimal-value : (n : ℕ) → n < VALUES → length (decimal n) ≤ VALUE
decimal-value n h = decimal-length VALUE n (omega arith) (omega arith)

pub fill_none : (form ns : List ℕ) (k : ℕ) → k ≡ length form → fill (drop k form) ns ≡ []
unfolding fill
fill_none form ns k e = rw (e, drop-length form) refl

fill_step :
    (form numbers : List ℕ) (k n : ℕ) → k < length form
    → fill (drop k form) (drop n numbers) ≡ cond (eqb (get_or form k 0) HOLE) (decimal (get_or numbers n 0)) (get_or form k 0 ∷ []) ++ fill (drop (k + 1) form) (drop (cond (eqb (get_or form k 0) HOLE) (n + 1) n) numbers)
unfolding fill
fill_step form numbers k n h = rw (add-one, drop-cons form k 0 h) (go (eqb b HOLE))
  where
    b : ℕ
    b = get_or form k 0

    rest : List ℕ
    rest = drop (suc k) form

    go : (hole : Bool) → cond hole (decimal (get_or (drop n numbers) 0 0) ++ fill rest (drop 1 (drop n numbers))) (b ∷ fill rest (drop n numbers))
        ≡ cond hole (decimal (get_or numbers n 0)) (b ∷ []) ++ fill rest (drop (cond hole (n + 1) n) numbers)
    go true = ap₂ (λ (v : ℕ) (l : List ℕ). decimal v ++ fill rest l) (get_or-drop n numbers 0 0 ∙ ap (λ (i : ℕ). get_or numbers i 0) (add-zero n)) (drop-drop 1 n numbers)
    go false = refl

-- what is written with one byte of the form more, told the number it takes and which one is next
pub fill_more :
    (form numbers done : List ℕ) (k n v q : ℕ) → k < length form → v ≡ get_or numbers n 0 → q ≡ cond (eqb (get_or form k 0) HOLE) (n + 1) n → done ++ fill (drop k form) (drop n numbers) ≡ fill form numbers
    → (done ++ cond (eqb (get_or form k 0) HOLE) (decimal v) (get_or form k 0 ∷ [])) ++ fill (drop (k + 1) form) (drop q numbers) ≡ fill form numbers
fill_more form numbers done k n v q h e f i =
    let b = get_or form k 0 in
    append_assoc done (cond (eqb b HOLE) (decimal v) (b ∷ [])) (fill (drop (k + 1) form) (drop q numbers))
    ∙ ap (λ (l : List ℕ). done ++ l) (ap₂ (λ (v q : ℕ). cond (eqb b HOLE) (decimal v) (b ∷ []) ++ fill (drop (k + 1) form) (drop q numbers)) e f ∙ sym (fill_step form numbers k n h))
    ∙ i

pub inits-none : (t : Trace) (a k : ℕ) → k ≡ 0 → render_inits (inits_from t a k) ≡ []
unfolding render_inits inits_from
inits-none t a k e = rw e refl

-- what is written with the init line of one address more, told its value
pub inits-more :
    (t : Trace) (whole done : List ℕ) (a k v : ℕ) → v ≡ first t a → done ++ render_inits (inits_from t a (suc k)) ≡ whole
    → (done ++ cond (eqb v 0) [] (render_init a v ++ FEED ∷ [])) ++ render_inits (inits_from t (a + 1) k) ≡ whole
unfolding render_inits inits_from
inits-more t whole done a k v e i =
    append_assoc done (cond (eqb v 0) [] (render_init a v ++ FEED ∷ [])) (render_inits (inits_from t (a + 1) k))
    ∙ ap (λ (l : List ℕ). done ++ l) (rw (e, add-one) (go (eqb (first t a) 0)))
    ∙ i
  where
    rest : List Begin
    rest = inits_from t (suc a) k

    go : (b : Bool) → cond b [] (render_init a (first t a) ++ FEED ∷ []) ++ render_inits rest ≡ render_inits (cond b rest (record { address = a; value = first t a } ∷ rest))
    go true = refl
    go false = append_assoc (render_init a (first t a)) (FEED ∷ []) (render_inits rest)

-- a line of one record
one-record : (r : Record) → render_records (r ∷ []) ≡ render_op r.op ++ FEED ∷ []
unfolding render_records
one-record r = refl

records-join : (rs ss : List Record) → render_records (rs ++ ss) ≡ render_records rs ++ render_records ss
unfolding render_records
records-join [] ss = refl
records-join (r ∷ rs) ss = ap (λ (l : List ℕ). render_op r.op ++ FEED ∷ l) (records-join rs ss) ∙ sym (append_assoc (render_op r.op) (FEED ∷ render_records rs) (render_records ss))

pub records-more : (rs : List Record) (i : ℕ) → i < length rs
    → render_records (take (i + 1) rs) ≡ render_records (take i rs) ++ (render_op (get_or rs i (record { op = Load 0 0 0 })).op ++ FEED ∷ [])
records-more rs i h =
    rw (add-one, take-suc rs i (record { op = Load 0 0 0 }) h)
    (records-join (take i rs) _ ∙ ap (λ (l : List ℕ). render_records (take i rs) ++ l) (one-record (get_or rs i (record { op = Load 0 0 0 }))))
