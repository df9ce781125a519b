-- A night's worth of runs over a text.
--
--   run-yes, run-no, place-low == a number with its run, or alone; a number with a word above it is small
--   night-wrong, night-good    == the answer where the text is turned back, and where it is good
--   nighted-one                == no second answer, and no second state of the lent memory
use mathlib.Core.Path.{◌≡◌, refl, sym, ap, ◌∙◌, subst}
use mathlib.Core.Logic.{inl, inr}
use mathlib.Core.Bool.{Bool, true, false, cond}
use mathlib.Core.List.{List}
use Prim.Native.Nat.{ℕ, ◌+◌, ◌*◌, ◌<◌, ◌≤◌}
use native.Mathlib.Omega.{arith}
use lib.Dec.{ltb}
use borrow.Author.Tests.{lt-ltb, le-ltb, ltb-true}
use Rattle.std.specs.Prelude.{Result}
use Rattle.laws.proofs.Tests.{eq?}
use Rattle.trace.specs.Bounds.{RECORDS}
use Rattle.trace.specs.declared.Trace.{Trace}
use Rattle.reader.specs.Whole.{read_whole}
use Rattle.night.specs.Night.{Nights}
use Rattle.night.specs.declared.Reason.{Reason}
use Rattle.night.proofs.Unique.{nights-one}
use Rattle.desk.specs.Text.{text_number}
use Rattle.desk.specs.Signed.{with_place}
use Rattle.desk.specs.Nights.{PLACES, RUNS, with_run, night_code, Nighted}

module _ (n i : ℕ) where
  pub run-yes : i < RUNS → n + PLACES * i ≡ with_run n i
  unfolding with_run
  run-yes h = ap (λ (b : Bool). cond b (n + PLACES * i) n) (sym (lt-ltb i RUNS h))

  pub run-no : RUNS ≤ i → n ≡ with_run n i
  unfolding with_run
  run-no h = ap (λ (b : Bool). cond b (n + PLACES * i) n) (sym (le-ltb i RUNS h))

pub place-low : (n k : ℕ) → n < 256 → with_place n k < PLACES
unfolding with_place
place-low n k h = go (ltb k RECORDS) refl
  where
    go : (b : Bool) → ltb k RECORDS ≡ b → cond b (n + 256 * k) n < PLACES
    go true e = omega (arith, ltb-true k RECORDS e)
    go false e = omega arith

module _ (text : List ℕ) (m : ℕ) (ws before : List ℕ) where
  pub night-wrong : 0 < text_number text → (r : ℕ) → r ≡ text_number text → Nighted text m ws before before r
  night-wrong h r e = record { wrong = λ _. (e, refl); good = λ z. absurd (omega (arith, z)) }

  pub night-good : text_number text ≡ 0 → (t : Trace) → t ≡ (read_whole text).trace → (after : List ℕ) (a : Result (Unit {0}) Reason) → Nights t m ws before after a → (r : ℕ) → r ≡ night_code a → Nighted text m ws before after r
  night-good z t e after a p r c = record { wrong = λ h. absurd (omega (arith, z)); good = λ _. (a, subst (λ (t : Trace). Nights t m ws before after a) e p, c) }

  pub nighted-one : (a b : List ℕ) (r s : ℕ) → Nighted text m ws before a r → Nighted text m ws before b s → (r ≡ s) × (a ≡ b)
  nighted-one a b r s p q = elim (eq? (text_number text) 0) [
    | inl z ↦
        let (x, u, e) = p.good z in
        let (y, v, f) = q.good z in
        let one = nights-one (read_whole text).trace m ws before a b x y u v in
        (e ∙ ap night_code one.0 ∙ sym f, one.1)
    | inr d ↦
        let u = p.wrong (omega arith) in
        let v = q.wrong (omega arith) in
        (u.0 ∙ sym v.0, u.1 ∙ sym v.1)
  ]
