-- Templates: `found` takes exactly the lines that `fill` makes.
--
--   holes ts         == how many numbers a template wants
--   nothing          == a list of length 0 is empty
--   found_number     == a hole takes a written number, and what follows goes on
--   found-fill       == what is found fills the template to the very line
--   clear ts         == behind each hole the template ends, or goes on with a byte that is neither a digit nor a hole
--   apart ts us      == two templates have another byte at the same place, and no hole there
--   found-same       == a filled template is found again
--   found-apart      == a filled template is not found by one apart from it
--   fill-count       == a byte that is no digit stands in a filled template no more often than in the template
--   widths ns        == how many digits the numbers have together
--   fill-length      == how long a filled template is
use mathlib.Core.Path.{◌≡◌, refl, sym, ap, ◌∙◌}
use mathlib.Core.Logic.{inl, inr}
use mathlib.Core.Bool.{Bool, true, false, not, ◌&&◌, cond, So, false≢true}
use mathlib.Core.List.{List, [], ◌∷◌, ◌++◌}
use Prim.Native.Nat.{ℕ, suc, ◌+◌, ◌≤◌}
use native.Mathlib.Nat.{suc_inj}
use native.Mathlib.Omega.{arith}
use lib.Dec.{eqb}
use lib.ListN.{length, get_or, drop, length-append}
use lib.Seq.{drop-append_seam}
use borrow.Author.Tests.{eqb-true, eqb-false, eq-eqb, ne_eqb, not-true}
use Rattle.laws.specs.Tests.{◌⇒◌}
use Rattle.laws.specs.Places.{count}
use Rattle.laws.proofs.Counts.{count-append}
use Rattle.laws.proofs.Places.{count-le}
use Rattle.laws.proofs.Tests.{and-iff, imp-iff, same-iff, test}
use Rattle.text.specs.Number.{is_digit, digits, decimal}
use Rattle.text.specs.Template.{HOLE, fill, Hit, hit, miss, also, begins, found}
use Rattle.text.proofs.Decimal.{decimal-value, decimal-number, digits_decimal, decimal-digits, digits-only, digits-split, digits-count}

pub found_number : (n : ℕ) (ts rest : List ℕ) → digits rest ≡ [] → found (HOLE ∷ ts) (decimal n ++ rest) ≡ also n (found ts rest)
unfolding found
found_number n ts rest e = rw (digits_decimal n rest e, decimal-number n, decimal-value n, drop-append_seam (decimal n) rest)

abbrev pub holes : List ℕ → ℕ
holes [] = 0
holes (t ∷ ts) = cond (eqb t HOLE) (suc (holes ts)) (holes ts)

-- what a hit says of its parts
cond-hit : {b : Bool} {h : Hit} {ns : List ℕ} → cond b h miss ≡ hit ns → So b × (h ≡ hit ns)
cond-hit {b = true} e = (refl, e)
cond-hit {b = false} e = let z : ◌≡◌ {A = ℕ} 0 1 = cc in absurd (omega arith)

also-hit : (n : ℕ) (h : Hit) (ns : List ℕ) → also n h ≡ hit ns → (ms : List ℕ) × (h ≡ hit ms) × (ns ≡ n ∷ ms)
also-hit n (hit ms) ns e = (ms, refl, cc)
also-hit n miss ns e = let z : ◌≡◌ {A = ℕ} 0 1 = cc in absurd (omega arith)

begins-first : (t : ℕ) (text : List ℕ) → So (begins t text) → text ≡ t ∷ drop 1 text
unfolding begins
begins-first t [] h = absurd (false≢true h)
begins-first t (b ∷ bs) h = ap (λ c. c ∷ bs) (eqb-true b t h)

pub nothing : (text : List ℕ) → length text ≡ 0 → text ≡ []
nothing [] e = refl
nothing (b ∷ bs) e = absurd (omega arith)

pub found-fill : (ts text ns : List ℕ) → found ts text ≡ hit ns → (text ≡ fill ts ns) × (length ns ≡ holes ts)
unfolding found fill
found-fill [] text ns e =
    let p = cond-hit {b = eqb (length text) 0} {h = hit []} e in
    let q : ns ≡ [] = cc in
    (nothing text (eqb-true (length text) 0 p.0), ap length q)
found-fill (t ∷ ts) text ns e = elim (test (eqb t HOLE)) [
  | inl h ↦
      let p = cond-hit (rw h at e) in
      let q = also-hit _ _ ns p.1 in
      let r = found-fill ts _ q.0 q.1 in
      rw (h, q.2) (digits-split text ∙ rw (← r.0, ← digits-only text p.0), ap suc r.1)
  | inr h ↦
      let p = cond-hit (rw h at e) in
      let r = found-fill ts (drop 1 text) ns p.1 in
      rw h (begins-first t text p.0 ∙ ap (λ cs. t ∷ cs) r.0, r.1)
]

-- ---- filled templates

-- a number may end before this
abbrev ends : List ℕ → Bool
ends [] = true
ends (u ∷ us) = not (eqb u HOLE) && not (is_digit u)

abbrev pub clear : List ℕ → Bool
clear [] = true
clear (u ∷ us) = (eqb u HOLE ⇒ ends us) && clear us

abbrev pub apart : List ℕ → List ℕ → Bool
apart [] us = false
apart (t ∷ ts) [] = false
apart (t ∷ ts) (u ∷ us) = cond (eqb t u) (apart ts us) (not (eqb t HOLE) && not (eqb u HOLE))

both-not : {a b : Bool} → So (not a && not b) → (a ≡ false) × (b ≡ false)
both-not {a = true} t = absurd (false≢true t)
both-not {a = false} t = (refl, not-true _ t)

ends-digits : (us ns : List ℕ) → So (ends us) → digits (fill us ns) ≡ []
unfolding fill digits
ends-digits [] ns h = refl
ends-digits (u ∷ us) ns h = let p = both-not {a = eqb u HOLE} {b = is_digit u} h in rw (p.0, p.1)

behind : (u : ℕ) (us : List ℕ) → So (clear (u ∷ us)) → (So (eqb u HOLE) → So (ends us)) × So (clear us)
behind u us h = (and-iff {a = eqb u HOLE ⇒ ends us} (imp-iff same-iff) same-iff).0 h

-- a list that is not empty
some : (ns : List ℕ) {k : ℕ} → length ns ≡ suc k → (ns ≡ get_or ns 0 0 ∷ drop 1 ns) × (length (drop 1 ns) ≡ k)
some [] e = absurd (omega arith)
some (n ∷ ns) e = (refl, suc_inj e)

pub found-same : (ts ns : List ℕ) → So (clear ts) → length ns ≡ holes ts → found ts (fill ts ns) ≡ hit ns
unfolding found fill begins
found-same [] ns c l = ap hit (sym (nothing ns l))
found-same (t ∷ ts) ns c l =
    let p = behind t ts c in
    elim (test (eqb t HOLE)) [
      | inl h ↦
          let n = get_or ns 0 0 in
          let r = some ns (rw h at l) in
          rw h (found_number n ts (fill ts (drop 1 ns)) (ends-digits ts (drop 1 ns) (p.0 h)) ∙ ap (also n) (found-same ts (drop 1 ns) p.1 r.1) ∙ ap hit (sym r.0))
      | inr h ↦ rw (h, eq-eqb t t refl) (found-same ts ns p.1 (rw h at l))
    ]

pub found-apart : (ts us ns : List ℕ) → So (clear us) → So (apart ts us) → found ts (fill us ns) ≡ miss
unfolding found fill begins
found-apart [] us ns c a = absurd (false≢true a)
found-apart (t ∷ ts) [] ns c a = absurd (false≢true a)
found-apart (t ∷ ts) (u ∷ us) ns c a =
    let p = behind u us c in
    elim (test (eqb t u)) [
      | inl q ↦
          let r = eqb-true t u q in
          elim (test (eqb u HOLE)) [
            | inl h ↦
                let n = get_or ns 0 0 in
                rw (r, h) (found_number n ts (fill us (drop 1 ns)) (ends-digits us (drop 1 ns) (p.0 h)) ∙ ap (also n) (found-apart ts us (drop 1 ns) p.1 (rw q at a)))
            | inr h ↦ rw (r, h, eq-eqb u u refl) (found-apart ts us ns p.1 (rw q at a))
          ]
      | inr q ↦
          let r = both-not {a = eqb t HOLE} {b = eqb u HOLE} (rw q at a) in
          rw (r.0, r.1, ne_eqb u t (λ e. eqb-false t u q (sym e)))
    ]

pub fill-count : (b : ℕ) → is_digit b ≡ false → (ts ns : List ℕ) → count b (fill ts ns) ≤ count b ts
unfolding fill count
fill-count b d [] ns = omega arith
fill-count b d (t ∷ ts) ns = elim (test (eqb t HOLE)) [
  | inl h ↦
      let n = get_or ns 0 0 in
      rw h (omega (arith, count-append b (decimal n) (fill ts (drop 1 ns)), digits-count b d (decimal n) (decimal-digits n), fill-count b d ts (drop 1 ns), count-le b t ts))
  | inr h ↦ rw h (go (eqb b t) (fill-count b d ts ns))
]
  where
    go : (e : Bool) → count b (fill ts ns) ≤ count b ts → cond e (suc (count b (fill ts ns))) (count b (fill ts ns)) ≤ cond e (suc (count b ts)) (count b ts)
    go true r = omega arith
    go false r = r

abbrev pub widths : List ℕ → ℕ
widths [] = 0
widths (n ∷ ns) = length (decimal n) + widths ns

pub fill-length : (ts ns : List ℕ) → length ns ≡ holes ts → length (fill ts ns) + holes ts ≡ length ts + widths ns
unfolding fill
fill-length [] ns l = rw (nothing ns l)
fill-length (t ∷ ts) ns l = elim (test (eqb t HOLE)) [
  | inl h ↦
      let r = some ns (rw h at l) in
      let w = ap widths r.0 in
      rw h (omega (arith, length-append (decimal (get_or ns 0 0)) (fill ts (drop 1 ns)), fill-length ts (drop 1 ns) r.1))
  | inr h ↦ rw h (omega (arith, fill-length ts ns (rw h at l)))
]
