-- The circle that is found by walks is the one shown.
--
--   way-run, way-first  == the lowest steps lead there, and no steps that do are earlier in the dictionary
--   way-shown           == of the least length, from the lowest operation on, by the lowest steps: the circle shown
--   traced-shown        == the same for a list that is known place by place, as a loop fills it
--   follow-way          == `follow` takes the lowest steps
--   shown-computed      == `shown?` is the circle shown
use mathlib.Core.Path.{◌≡◌, refl, sym, ap, subst}
use mathlib.Core.Logic.{◌≢◌, ◌⊎◌, inl, inr, ◌↔◌}
use mathlib.Core.Bool.{So, ◌&&◌}
use mathlib.Core.List.{List, [], ◌∷◌}
use mathlib.Core.Option.{Option, none, some}
use Prim.Native.Nat.{ℕ, zero, suc, ◌+◌, ◌≤◌, ◌<◌}
use native.Mathlib.Omega.{arith}
use lib.ListN.{length, get_or}
use Rattle.laws.specs.Tests.{any}
use Rattle.laws.specs.Relation.{Rel, Table}
use Rattle.laws.specs.Dict.{◌≼◌}
use Rattle.laws.specs.Lowest.{Lowest, lowest}
use Rattle.laws.proofs.Tests.{and-iff, so-any, three, eq?}
use Rattle.laws.proofs.Lowest.{lowest-iff}
use Rattle.rules.specs.Circle.{Run, Circle, ◌⊑◌, Shown}
use Rattle.rules.specs.inner.ExactWalks.{Walk, NoShorter, Way, Traced}
use Rattle.rules.specs.ComputedWalks.{walk?, follow, shown?}
use Rattle.rules.proofs.ExactWalks.{run-walk, walk-within, walk-iff, no-shorter-none}

module _ (E : Rel) where
  pub way-run : (s x : ℕ) (xs : List ℕ) → Way E s x xs → Run E x xs s
  way-run s x [] w = w
  way-run s x (y ∷ ys) w = (w.0.0.0, way-run s y ys w.1)

  pub way-first : (s x : ℕ) (xs ys : List ℕ) → length xs ≡ length ys → Way E s x xs → Run E x ys s → xs ≼ ys
  way-first s x [] ys l w r = tt
  way-first s x (y ∷ xs) [] l w r = absurd (omega arith)
  way-first s x (y ∷ xs) (z ∷ ys) l w r = go (eq? y z) (λ q. way-first s y xs ys (omega arith) w.1 q)
    where
      low : y ≤ z
      low = w.0.1 z (r.0, subst (λ (j : ℕ). Walk E (suc j) z s) (let q : length ys ≡ length xs = omega arith in q) (run-walk E z ys s r.1))

      go : (y ≡ z) ⊎ (y ≢ z) → (Run E y ys s → xs ≼ ys) → (y ∷ xs) ≼ (z ∷ ys)
      go (inl e) f = inr (e, f (subst (λ (z : ℕ). Run E z ys s) (sym e) r.1))
      go (inr d) f = inl (omega (arith, low))

  pub way-shown : (s : ℕ) (xs : List ℕ) → NoShorter E (suc (length xs)) → Lowest (λ x. Walk E (suc (length xs)) x x) (some s) → Way E s s xs → Shown E (some (s ∷ xs))
  unfolding NoShorter
  way-shown s xs h low w = (way-run s s xs w, best)
    where
      best : (d : List ℕ) → Circle E d → (s ∷ xs) ⊑ d
      best [] c = absurd c
      best (y ∷ ys) c = go (three (length xs) (length ys))
        where
          same : length xs ≡ length ys → (s ∷ xs) ≼ (y ∷ ys)
          same e = elim (eq? s y) [
            | inl q ↦ inr (q, way-first s s xs ys e w (subst (λ (y : ℕ). Run E y ys y) (sym q) c))
            | inr d ↦ inl (omega (arith, low.1 y (subst (λ (j : ℕ). Walk E (suc j) y y) (sym e) (run-walk E y ys y c))))
          ]

          go : (length xs < length ys) ⊎ ((length xs ≡ length ys) ⊎ (length ys < length xs)) → (s ∷ xs) ⊑ (y ∷ ys)
          go (inl l) = inl (omega arith)
          go (inr (inl e)) = inr (omega arith, same e)
          go (inr (inr l)) = absurd (h (suc (length ys)) y (omega arith) (omega arith) (run-walk E y ys y c))

  -- place by place
  traced-way : (s x : ℕ) (xs : List ℕ) → Walk E (suc (length xs)) x s
      → ((i j : ℕ) → i + suc j ≡ length xs → Lowest (λ y. E (get_or (x ∷ xs) i 0) y × Walk E (suc j) y s) (some (get_or xs i 0))) → Way E s x xs
  traced-way s x [] w h = subst (E x) w.2 w.1
  traced-way s x (y ∷ ys) w h = let l = h 0 (length ys) (omega arith) in (l, traced-way s y ys l.0.1 (λ i j e. h (suc i) j (omega arith)))

  pub traced-shown : (k s : ℕ) (c : List ℕ) → 0 < k → NoShorter E k → Lowest (λ x. Walk E k x x) (some s) → Traced E k s c → Shown E (some c)
  traced-shown k s [] p h low t = absurd (omega arith)
  traced-shown k s (x ∷ xs) p h low t = way-shown x xs (subst (NoShorter E) (sym t.long) h) least (traced-way x x xs least.0 steps)
    where
      least : Lowest (λ x. Walk E (suc (length xs)) x x) (some x)
      least = subst (λ (s : ℕ). Lowest (λ x. Walk E (suc (length xs)) x x) (some s)) (sym t.begins) (subst (λ (k : ℕ). Lowest (λ x. Walk E k x x) (some s)) (sym t.long) low)

      steps : (i j : ℕ) → i + suc j ≡ length xs → Lowest (λ y. E (get_or (x ∷ xs) i 0) y × Walk E (suc j) y x) (some (get_or xs i 0))
      steps i j e = subst (λ (s : ℕ). Lowest (λ y. E (get_or (x ∷ xs) i 0) y × Walk E (suc j) y s) (some (get_or xs i 0))) (sym t.begins) (t.steps i j (omega (arith, t.long)))

module _ (E : Rel) (n : ℕ) (rows : (x y : ℕ) → E x y → (x < n) × (y < n)) (e : Table) (q : (x y : ℕ) → So (e x y) ↔ E x y) where
  pub follow-way : (s j x : ℕ) → Walk E (suc j) x s → (length (follow n e s j x) ≡ j) × Way E s x (follow n e s j x)
  unfolding follow
  follow-way s zero x v = (refl, subst (E x) v.2 v.1)
  follow-way s (suc j) x v = go (lowest (λ y. e x y && walk? n e (suc j) y s) n 0) next (follow-way s j)
    where
      next : Lowest (λ y. E x y × Walk E (suc j) y s) (lowest (λ y. e x y && walk? n e (suc j) y s) n 0)
      next = lowest-iff _ (λ y. E x y × Walk E (suc j) y s) n (λ y l. and-iff (q x y) (walk-iff E n rows e q (suc j) y s l (walk-within E n rows (suc j) x s v).1))
          (λ y a. (rows x y a.0).1) n 0 (omega arith) (λ y a. omega arith)

      go : (o : Option ℕ) → Lowest (λ y. E x y × Walk E (suc j) y s) o → ((y : ℕ) → Walk E (suc j) y s → (length (follow n e s j y) ≡ j) × Way E s y (follow n e s j y))
          → (length {A = ℕ} (elim o [ some y ↦ y ∷ follow n e s j y | none ↦ [] ]) ≡ suc j) × Way E s x (elim o [ some y ↦ y ∷ follow n e s j y | none ↦ [] ])
      go (some y) low r =
          let (l, w) = r y low.0.1 in
          (ap suc l, (subst (λ (i : ℕ). Lowest (λ z. E x z × Walk E (suc i) z s) (some y)) (sym l) low, w))
      go none low r = absurd (low v.0 (v.1, v.2))

  pub shown-computed : Shown E (shown? n e)
  unfolding shown? NoShorter
  shown-computed = go (lowest (λ j. any n (λ x. walk? n e (suc j) x x)) n 0) (lowest-iff _ Closed n some_walk (λ j a. a.0) n 0 (omega arith) (λ y a. omega arith))
    where
      -- a closed walk of a length that is tried
      Closed : ℕ → Type 0
      Closed j = (j < n) × ((x : ℕ) × Walk E (suc j) x x)

      some_walk : (j : ℕ) → j < n → So (any n (λ x. walk? n e (suc j) x x)) ↔ Closed j
      some_walk j l =
          let a = so-any n (λ x. walk? n e (suc j) x x) in
          (λ t. let (x, b, w) = a.0 t in (l, (x, (walk-iff E n rows e q (suc j) x x b b).0 w)), λ c. let (x, w) = c.1 in let b = (walk-within E n rows j x x w).0 in a.1 (x, b, (walk-iff E n rows e q (suc j) x x b b).1 w))

      -- nothing is closed below j, so no closed walk is shorter
      no-shorter : (j : ℕ) → j ≤ n → ((i : ℕ) → Closed i → j ≤ i) → NoShorter E (suc j)
      no-shorter j l h zero x p b w = omega arith
      no-shorter j l h (suc i) x p b w = omega (arith, h i (omega arith, (x, w)))

      go : (o : Option ℕ) → Lowest Closed o
          → Shown E (elim o [
            | some j ↦ elim (lowest (λ x. walk? n e (suc j) x x) n 0) [ some s ↦ some (s ∷ follow n e s j s) | none ↦ none ]
            | none ↦ none
          ])
      go (some j) low = begin (lowest (λ x. walk? n e (suc j) x x) n 0)
          (lowest-iff _ (λ x. Walk E (suc j) x x) n (λ x l. walk-iff E n rows e q (suc j) x x l l) (λ x w. (walk-within E n rows j x x w).0) n 0 (omega arith) (λ y a. omega arith))
        where
          begin : (o : Option ℕ) → Lowest (λ x. Walk E (suc j) x x) o → Shown E (elim o [ some s ↦ some (s ∷ follow n e s j s) | none ↦ none ])
          begin (some s) at =
              let (l, w) = follow-way s j s at.0 in
              way-shown E s (follow n e s j s) (subst (λ (i : ℕ). NoShorter E (suc i)) (sym l) (no-shorter j (omega (arith, low.0.0)) low.1))
              (subst (λ (i : ℕ). Lowest (λ x. Walk E (suc i) x x) (some s)) (sym l) at) w
          begin none at = absurd (at low.0.1.0 low.0.1.1)
      go none low = no-shorter-none E n rows (suc n) (omega arith) (no-shorter n (omega arith) (λ i c. absurd (low i c)))
