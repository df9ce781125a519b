-- Digits seen from one byte further on, and numbers that are cut.
--
--   digits-on, digits-stop, digits-none == the run of digits at a place
--   cut-value                         == cutting before more digits follow changes nothing
--   run_from s i a                    == the run at place i behind the number a
--   run_on, run-stop, run_none        == one byte more of a run; its end
--   no_number, a-number               == when a run of digits is a number
--   number-missing, number-there      == the two answers of `number_at`
--   number-known, number-unknown      == what each of them says of the run
use mathlib.Core.Path.{◌≡◌, refl, sym, ap, ap₂, ◌∙◌}
use mathlib.Core.Logic.{◌⊎◌, ⊎_elim}
use mathlib.Core.Bool.{Bool, true, false, cond}
use mathlib.Core.List.{List, [], ◌∷◌}
use Prim.Native.Nat.{ℕ, ◌+◌, ◌*◌, ◌-◌, ◌<◌, ◌≤◌}
use native.Mathlib.Numerals.{add-one}
use native.Mathlib.Decide.{dec_lt}
use native.Mathlib.Omega.{arith}
use borrow.Author.Tests.{eq-eqb, ne_eqb}
use lib.ListN.{length, drop, get_or, drop_of_length-le}
use lib.Seq.{drop-cons}
use Rattle.std.specs.Prelude.{Some, None}
use Rattle.trace.specs.Bounds.{VALUES}
use Rattle.text.specs.Number.{is_digit, digits, value, is_number, cut, run_at, number_at, run}
use Rattle.text.specs.declared.Run.{Run}

module _ (s : List ℕ) (i : ℕ) where
  pub digits-on : i < length s → is_digit (get_or s i 0) ≡ true → digits (drop i s) ≡ get_or s i 0 ∷ digits (drop (i + 1) s)
  unfolding digits
  digits-on h e = rw (add-one i, drop-cons s i 0 h) (rw e)

  pub digits-stop : i < length s → is_digit (get_or s i 0) ≡ false → digits (drop i s) ≡ []
  unfolding digits
  digits-stop h e = rw (drop-cons s i 0 h) (rw e)

  pub digits-none : length s ≤ i → digits (drop i s) ≡ []
  unfolding digits
  digits-none h = rw (drop_of_length-le s h)

pub cut-value : (ds : List ℕ) (a : ℕ) → cut (value (cut a) ds) ≡ cut (value a ds)
unfolding value
cut-value [] a = omega arith
cut-value (d ∷ ds) a =
    let x = cut a * 10 + (d - 48) in
    let y = a * 10 + (d - 48) in
    let same : cut x ≡ cut y = omega arith in
    sym (cut-value ds x) ∙ ap (λ (n : ℕ). cut (value n ds)) same ∙ cut-value ds y

abbrev pub run_from : List ℕ → ℕ → ℕ → Run
run_from s i a = record { value = cut (value a (digits (drop i s))); end = i + length (digits (drop i s)) }

-- a run is made of its two parts
run-path : {a b : ℕ} {d e : ℕ} → a ≡ b → d ≡ e → ◌≡◌ {A = Run} (record { value = a; end = d }) (record { value = b; end = e })
run-path p q = λ k. record { value = p k; end = q k }

module _ (s : List ℕ) (i a : ℕ) where
  pub run_on : i < length s → is_digit (get_or s i 0) ≡ true → run_from s (i + 1) (cut (a * 10 + (get_or s i 0 - 48))) ≡ run_from s i a
  unfolding value
  run_on h e =
      let o = digits-on s i h e in
      let l = ap length o in
      run-path
      (cut-value (digits (drop (i + 1) s)) (a * 10 + (get_or s i 0 - 48)) ∙ sym (ap (λ (ds : List ℕ). cut (value a ds)) o))
      (let q : i + 1 + length (digits (drop (i + 1) s)) ≡ i + length (digits (drop i s)) = omega arith in q)

  ends : a ≤ VALUES → digits (drop i s) ≡ [] → record { value = a; end = i } ≡ run_from s i a
  unfolding value
  ends b e = rw e (run-path (let q : a ≡ cut a = omega arith in q) (let q : i ≡ i + 0 = omega arith in q))

  pub run-stop : a ≤ VALUES → i < length s → is_digit (get_or s i 0) ≡ false → record { value = a; end = i } ≡ run_from s i a
  run-stop b h e = ends b (digits-stop s i h e)

  pub run_none : a ≤ VALUES → length s ≤ i → record { value = a; end = i } ≡ run_from s i a
  run_none b h = ends b (digits-none s i h)

no_number : (ds : List ℕ) → (length ds ≡ 0) ⊎ ((1 < length ds) × (get_or ds 0 0 ≡ 48)) → is_number ds ≡ false
unfolding is_number
no_number [] w = refl
no_number (d ∷ []) w = ⊎_elim (λ e. absurd (omega arith)) (λ p. let h = p.0 in absurd (omega arith)) w
no_number (d ∷ e ∷ ds) w = ⊎_elim (λ z. absurd (omega arith)) (λ p. rw (eq-eqb d 48 p.1)) w

a-number : (ds : List ℕ) → 0 < length ds → (get_or ds 0 0 ≡ 48 → ⊥) ⊎ (length ds ≤ 1) → is_number ds ≡ true
unfolding is_number
a-number [] h w = absurd (omega arith)
a-number (d ∷ []) h w = refl
a-number (d ∷ e ∷ ds) h w = ⊎_elim (λ n. rw (ne_eqb d 48 n)) (λ l. absurd (omega arith)) w

module _ (s : List ℕ) (at : ℕ) where
  -- a place where digits begin is one of the text, and the first of them stands there
  pub first-digit : 0 < length (digits (drop at s)) → (at < length s) × (get_or (digits (drop at s)) 0 0 ≡ get_or s at 0)
  first-digit p = go (dec_lt at (length s))
    where
      here : at < length s → (t : Bool) → is_digit (get_or s at 0) ≡ t → get_or (digits (drop at s)) 0 0 ≡ get_or s at 0
      here h true e = rw (digits-on s at h e)
      here h false e = let z = ap length (digits-stop s at h e) in absurd (omega arith)

      go : Dec (at < length s) → (at < length s) × (get_or (digits (drop at s)) 0 0 ≡ get_or s at 0)
      go (yes h) = (h, here h (is_digit (get_or s at 0)) refl)
      go (no h) = let z = ap length (digits-none s at (omega arith)) in absurd (omega arith)

  pub number-missing : (length (digits (drop at s)) ≡ 0) ⊎ ((1 < length (digits (drop at s))) × (get_or (digits (drop at s)) 0 0 ≡ 48)) → None ≡ number_at s at
  unfolding number_at
  number-missing w = rw (no_number (digits (drop at s)) w)

  pub number-there : (r : Run) → r ≡ run_at s at → 0 < length (digits (drop at s)) → (get_or (digits (drop at s)) 0 0 ≡ 48 → ⊥) ⊎ (length (digits (drop at s)) ≤ 1)
      → Some (run r.value r.end) ≡ number_at s at
  unfolding number_at
  number-there r e h w = rw (a-number (digits (drop at s)) h w) (ap₂ (λ (n e : ℕ). Some (run n e)) (ap (λ (r : Run). r.value) e) (ap (λ (r : Run). r.end) e))

  -- and what each answer says of the run
  pub number-known : {v e : ℕ} → Some (run v e) ≡ number_at s at → (is_number (digits (drop at s)) ≡ true) × (v ≡ cut (value 0 (digits (drop at s)))) × (e ≡ at + length (digits (drop at s)))
  unfolding number_at
  number-known {v} {e} q = go (is_number (digits (drop at s))) refl q
    where
      go : (b : Bool) → is_number (digits (drop at s)) ≡ b → Some (run v e) ≡ cond b (Some (run (cut (value 0 (digits (drop at s)))) (at + length (digits (drop at s))))) None
          → (is_number (digits (drop at s)) ≡ true) × (v ≡ cut (value 0 (digits (drop at s)))) × (e ≡ at + length (digits (drop at s)))
      go true h q =
          let r : run v e ≡ run (cut (value 0 (digits (drop at s)))) (at + length (digits (drop at s))) = cc in
          (h, ap (λ (r : Run). r.value) r, ap (λ (r : Run). r.end) r)
      go false h q = let z : ◌≡◌ {A = ℕ} 0 1 = cc in absurd (omega arith)

  pub number-unknown : None ≡ number_at s at → is_number (digits (drop at s)) ≡ false
  unfolding number_at
  number-unknown q = go (is_number (digits (drop at s))) refl q
    where
      go : (b : Bool) → is_number (digits (drop at s)) ≡ b → None ≡ cond b (Some (run (cut (value 0 (digits (drop at s)))) (at + length (digits (drop at s))))) None → is_number (digits (drop at s)) ≡ false
      go true h q = let z : ◌≡◌ {A = ℕ} 0 1 = cc in absurd (omega arith)
      go false h q = h
