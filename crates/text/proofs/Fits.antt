-- A template against a line, one byte of the template after another.
--
--   begins-at, begins-past             == what a text begins with from a place on
--   step-number                        == a hole takes the number at its place
--   step-there, step_other, step_past  == a byte that stands for itself: it is there, another one is, the line is over
--   step-missing, step-hole, step-byte == what one step says of all that is left
--   fit-end, fit-over                  == no template is left: the line must be over too
--   number_is                          == each place holds the number found there, cut
use mathlib.Core.Path.{◌≡◌, refl, sym, ap, ◌∙◌}
use mathlib.Core.Logic.{inl, inr}
use mathlib.Core.Bool.{Bool, true, false, cond}
use mathlib.Core.List.{List, [], ◌∷◌, map}
use Prim.Native.Nat.{ℕ, suc, ◌+◌, ◌-◌, ◌<◌, ◌≤◌}
use native.Mathlib.Numerals.{add-one}
use native.Mathlib.Omega.{arith}
use borrow.Author.Tests.{eq-eqb, ne_eqb}
use lib.Dec.{eqb}
use native.Mathlib.Decide.{dec_lt}
use lib.ListN.{length, drop, get_or, set, length-drop, drop_of_length-le, length-set, replicate, get_or-replicate, get_or-map, get_or-eq_default}
use lib.Seq.{drop-cons, drop-drop, sets, get_or-set_other, get_or-set_same}
use Rattle.std.specs.Prelude.{Some, None, Option}
use Rattle.laws.proofs.Tests.{eq?}
use Rattle.text.specs.Number.{digits, value, is_number, cut, number_at, run}
use Rattle.text.specs.Template.{HOLE, NUMBERS, Hit, hit, miss, also, begins, found, step_at, fit_from}
use Rattle.text.specs.declared.Run.{Run}

-- what a text begins with from a place on
pub begins-at : (t : ℕ) (s : List ℕ) (i : ℕ) → i < length s → begins t (drop i s) ≡ eqb (get_or s i 0) t
unfolding begins
begins-at t s i h = rw (drop-cons s i 0 h)

pub begins-past : (t : ℕ) (s : List ℕ) (i : ℕ) → length s ≤ i → begins t (drop i s) ≡ false
unfolding begins
begins-past t s i h = rw (drop_of_length-le s h)

-- the two answers of a step differ
apart {ℓ} : {A : Type ℓ} {v e : ℕ} → None ≡ Some (run v e) → A
apart q = let z : ◌≡◌ {A = ℕ} 0 1 = cc in absurd (omega arith)

miss-if : (b : Bool) (n : Option Run) (h : Hit) → ((v e : ℕ) × (n ≡ Some (run v e))) → None ≡ cond b n None → cond b h miss ≡ miss
miss-if true n h w q = apart (q ∙ w.2)
miss-if false n h w q = refl

hit-if : (b : Bool) {v e v' e' : ℕ} (h : Hit) → Some (run v e) ≡ cond b (Some (run v' e')) None → (cond b h miss ≡ h) × (v ≡ v') × (e ≡ e')
hit-if true {v} {e} {v'} {e'} h q = let r : run v e ≡ run v' e' = cc in (refl, ap (λ (r : Run). r.value) r, ap (λ (r : Run). r.end) r)
hit-if false h q = apart (sym q)

module _ (t : ℕ) (line : List ℕ) (at : ℕ) where
  hole-step : t ≡ HOLE → step_at t line at ≡ cond (is_number (digits (drop at line))) (Some (run (cut (value 0 (digits (drop at line)))) (at + length (digits (drop at line))))) None
  unfolding step_at number_at
  hole-step h = rw (eq-eqb t HOLE h)

  byte_step : (t ≡ HOLE → ⊥) → step_at t line at ≡ cond (begins t (drop at line)) (Some (run 0 (at + 1))) None
  unfolding step_at
  byte_step h = rw (ne_eqb t HOLE h)

  pub step-number : t ≡ HOLE → number_at line at ≡ step_at t line at
  unfolding step_at
  step-number h = rw (eq-eqb t HOLE h)

  pub step-there : (t ≡ HOLE → ⊥) → at < length line → get_or line at 0 ≡ t → Some (run 0 (at + 1)) ≡ step_at t line at
  step-there h b e = rw (byte_step h, begins-at t line at b, eq-eqb (get_or line at 0) t e)

  pub step_other : (t ≡ HOLE → ⊥) → at < length line → (get_or line at 0 ≡ t → ⊥) → None ≡ step_at t line at
  step_other h b e = rw (byte_step h, begins-at t line at b, ne_eqb (get_or line at 0) t e)

  pub step_past : (t ≡ HOLE → ⊥) → length line ≤ at → None ≡ step_at t line at
  step_past h b = rw (byte_step h, begins-past t line at b)

module _ (t : ℕ) (ts line : List ℕ) (at : ℕ) where
  hole-found : t ≡ HOLE → found (t ∷ ts) (drop at line) ≡ cond (is_number (digits (drop at line))) (also (value 0 (digits (drop at line))) (found ts (drop (length (digits (drop at line))) (drop at line)))) miss
  unfolding found
  hole-found h = rw (eq-eqb t HOLE h)

  byte-found : (t ≡ HOLE → ⊥) → found (t ∷ ts) (drop at line) ≡ cond (begins t (drop at line)) (found ts (drop 1 (drop at line))) miss
  unfolding found
  byte-found h = rw (ne_eqb t HOLE h)

  pub step-missing : None ≡ step_at t line at → found (t ∷ ts) (drop at line) ≡ miss
  step-missing q =
      elim (eq? t HOLE) [
        | inl h ↦ hole-found h ∙ miss-if (is_number (digits (drop at line))) (Some (run (cut (value 0 (digits (drop at line)))) (at + length (digits (drop at line))))) _ (_, _, refl) (q ∙ hole-step t line at h)
        | inr h ↦ byte-found h ∙ miss-if (begins t (drop at line)) (Some (run 0 (at + 1))) _ (_, _, refl) (q ∙ byte_step t line at h)
      ]

  -- a hole: the number goes into the next place
  pub step-hole : t ≡ HOLE → (n : ℕ) (places : List ℕ) {v e : ℕ} → Some (run v e) ≡ step_at t line at
      → fit_from (n + 1) (set places n v) (found ts (drop e line)) ≡ fit_from n places (found (t ∷ ts) (drop at line))
  step-hole h n places {v} {e} q =
      let p = hit-if (is_number (digits (drop at line))) (also (value 0 (digits (drop at line))) (found ts (drop (length (digits (drop at line))) (drop at line)))) (q ∙ hole-step t line at h) in
      rw (p.1, p.2, hole-found h, p.0, drop-drop (length (digits (drop at line))) at line, add-one n) (place (found ts (drop (at + length (digits (drop at line))) line)))
    where
      place : (r : Hit) → fit_from (suc n) (set places n (cut (value 0 (digits (drop at line))))) r ≡ fit_from n places (also (value 0 (digits (drop at line))) r)
      place (hit ns) = refl
      place miss = refl

  -- any other byte stands for itself
  pub step-byte : (t ≡ HOLE → ⊥) → {v e : ℕ} → Some (run v e) ≡ step_at t line at → found ts (drop e line) ≡ found (t ∷ ts) (drop at line)
  step-byte h {v} {e} q =
      let p = hit-if (begins t (drop at line)) (found ts (drop 1 (drop at line))) (q ∙ byte_step t line at h) in
      rw (p.2, byte-found h, p.0, drop-drop 1 at line) refl

module _ (line : List ℕ) (at n : ℕ) (places : List ℕ) where
  pub fit-end : length line ≤ at → Some places ≡ fit_from n places (found [] (drop at line))
  unfolding found
  fit-end h = rw (eq-eqb (length (drop at line)) 0 (omega (arith, length-drop at line)))

  pub fit-over : at < length line → None ≡ fit_from n places (found [] (drop at line))
  unfolding found
  fit-over h = rw (ne_eqb (length (drop at line)) 0 (λ e. omega (arith, length-drop at line)))

-- places below the first that is set stay
sets_below : (vs l : List ℕ) (j i : ℕ) → i < j → get_or (sets l j vs) i 0 ≡ get_or l i 0
sets_below [] l j i h = refl
sets_below (v ∷ vs) l j i h = sets_below vs (set l j v) (suc j) i (omega arith) ∙ get_or-set_other l j i v 0 (λ e. omega arith)

-- from there on they hold the numbers, and 0 past them
sets-from : (vs l : List ℕ) (j i : ℕ) → ((k : ℕ) → j ≤ k → get_or l k 0 ≡ 0) → j ≤ i → i < length l → get_or (sets l j vs) i 0 ≡ get_or vs (i - j) 0
sets-from [] l j i z h b = z i h
sets-from (v ∷ vs) l j i z h b =
    elim (eq? i j) [
      | inl e ↦ sets_below vs (set l j v) (suc j) i (omega arith) ∙ ap (λ (k : ℕ). get_or (set l j v) k 0) e ∙ get_or-set_same l j v 0 (omega arith) ∙ ap (λ (k : ℕ). get_or (v ∷ vs) k 0) (let q : 0 ≡ i - j = omega arith in q)
      | inr d ↦ sets-from vs (set l j v) (suc j) i (λ k c. get_or-set_other l j k v 0 (λ e. omega arith) ∙ z k (omega arith)) (omega arith) (omega (arith, length-set l j v))
          ∙ ap (λ (k : ℕ). get_or (v ∷ vs) k 0) (let q : suc (i - suc j) ≡ i - j = omega arith in q)
    ]

pub number_is : (ns : List ℕ) (i : ℕ) → i < NUMBERS → get_or (sets (replicate NUMBERS 0) 0 (map cut ns)) i 0 ≡ cut (get_or ns i 0)
number_is ns i h =
    sets-from (map cut ns) (replicate NUMBERS 0) 0 i zeros (omega arith) (omega arith)
    ∙ ap (λ (k : ℕ). get_or (map cut ns) k 0) (let q : i - 0 ≡ i = omega arith in q)
    ∙ get_or-map cut ns i 0
  where
    zeros : (k : ℕ) → 0 ≤ k → ◌≡◌ {A = ℕ} (get_or (replicate NUMBERS 0) k 0) 0
    zeros k c = elim (dec_lt k NUMBERS) [ yes l ↦ get_or-replicate NUMBERS k 0 0 l | no l ↦ get_or-eq_default (replicate NUMBERS 0) 0 {n = k} (omega arith) ]
