-- How the loop of the search goes on, within a budget.
--
--   looped-none                  == at first
--   looped-skip                  == past a number that may not be next
--   looped-failed                == past one below which the search came to its end
--   looped-found, looped-end     == to an order, or to its end
--   looped-spent, looped-over    == over the budget: nothing is left for one step more, or not enough below it
use mathlib.Core.Path.{◌≡◌, refl, ap, ◌∙◌}
use mathlib.Core.Bool.{Bool, true, false, So}
use mathlib.Core.List.{List, [], ◌∷◌, ◌++◌}
use mathlib.Core.Option.{Option, none, some}
use Prim.Native.Nat.{ℕ, suc, ◌+◌, ◌-◌, ◌<◌, ◌≤◌}
use native.Mathlib.Omega.{arith}
use Rattle.laws.specs.Relation.{Table}
use Rattle.rules.specs.Frame.{Frame}
use Rattle.plain.specs.Plain.{next?, tries, plain}
use Rattle.plain.specs.inner.BudgetedWalk.{steps_ahead, Looped}

-- steps are added up
more : (u v : ℕ) (r : ℕ × Option (List ℕ)) → steps_ahead u (steps_ahead v r) ≡ steps_ahead (u + v) r
more u v r = let e : u + (v + r.0) ≡ u + v + r.0 = omega arith in ap (λ (n : ℕ). (n, r.1)) e

module _ (f : Frame) (K : Table) (d : ℕ) (p : List ℕ) where
  -- what the loop does from y on
  abbrev From : ℕ → ℕ → ℕ × Option (List ℕ)
  From j y = tries f K (plain f K d) p j y

  pub looped-none : Looped f K d p 0 0
  looped-none =
      let e : f.records ≡ f.records - 0 = omega arith in
      let z : (From (f.records - 0) 0).0 ≡ 0 + (From (f.records - 0) 0).0 = omega arith in
      ap (λ (j : ℕ). From j 0) e ∙ ap (λ (n : ℕ). (n, (From (f.records - 0) 0).1)) z

  -- one turn
  turn : (y : ℕ) → y < f.records → From (f.records - y) y ≡ From (suc (f.records - suc y)) y
  turn y h = let e : f.records - y ≡ suc (f.records - suc y) = omega arith in ap (λ (j : ℕ). From j y) e

  skip-turn : (j y : ℕ) → next? f K p y ≡ false → From (suc j) y ≡ From j (suc y)
  unfolding tries
  skip-turn j y e = ap (λ (b : Bool). elim b [
    | false ↦ From j (suc y)
    | true ↦ let r = plain f K d (p ++ (y ∷ [])) in elim r.1 [ some s ↦ (suc r.0, some (y ∷ s)) | none ↦ let q = From j (suc y) in (suc r.0 + q.0, q.1) ]
  ]) e

  -- what comes of a turn that looks below y
  abbrev Took : ℕ → ℕ → ℕ × Option (List ℕ) → ℕ × Option (List ℕ)
  Took j y r = elim r.1 [ some s ↦ (suc r.0, some (y ∷ s)) | none ↦ let q = From j (suc y) in (suc r.0 + q.0, q.1) ]

  take-turn : (j y : ℕ) (r : ℕ × Option (List ℕ)) → So (next? f K p y) → plain f K d (p ++ (y ∷ [])) ≡ r → From (suc j) y ≡ Took j y r
  unfolding tries
  take-turn j y r e q =
      ap (λ (b : Bool). elim b [ false ↦ From j (suc y) | true ↦ Took j y (plain f K d (p ++ (y ∷ []))) ]) e ∙ ap (Took j y) q

  took-steps : (j y : ℕ) (r : ℕ × Option (List ℕ)) → r.0 < (Took j y r).0
  took-steps j y (n, some s) = omega arith
  took-steps j y (n, none) = omega arith

  module _ (u y : ℕ) (l : Looped f K d p u y) where
    pub looped-skip : y < f.records → next? f K p y ≡ false → Looped f K d p u (suc y)
    looped-skip h e = l ∙ ap (steps_ahead u) (turn y h ∙ skip-turn (f.records - suc y) y e)

    taken : y < f.records → So (next? f K p y) → (r : ℕ × Option (List ℕ)) → plain f K d (p ++ (y ∷ [])) ≡ r → From f.records 0 ≡ steps_ahead u (Took (f.records - suc y) y r)
    taken h e r q = l ∙ ap (steps_ahead u) (turn y h ∙ take-turn (f.records - suc y) y r e q)

    pub looped-failed : y < f.records → So (next? f K p y) → (c : ℕ) → plain f K d (p ++ (y ∷ [])) ≡ (c, none) → Looped f K d p (u + suc c) (suc y)
    looped-failed h e c q = taken h e (c, none) q ∙ more u (suc c) (From (f.records - suc y) (suc y))

    pub looped-found : y < f.records → So (next? f K p y) → (c : ℕ) (s : List ℕ) → plain f K d (p ++ (y ∷ [])) ≡ (c, some s) → plain f K (suc d) p ≡ (u + suc c, some (y ∷ s))
    unfolding plain
    looped-found h e c s q = taken h e (c, some s) q

    pub looped-over : y < f.records → So (next? f K p y) → (left : ℕ) → left < (plain f K d (p ++ (y ∷ []))).0 → u + suc left < (plain f K (suc d) p).0
    unfolding plain
    looped-over h e left o =
        let t = taken h e (plain f K d (p ++ (y ∷ []))) refl in
        omega (arith, ap (λ (r : ℕ × Option (List ℕ)). r.0) t, took-steps (f.records - suc y) y (plain f K d (p ++ (y ∷ []))), o)

    pub looped-spent : y < f.records → So (next? f K p y) → u < (plain f K (suc d) p).0
    unfolding plain
    looped-spent h e =
        let t = taken h e (plain f K d (p ++ (y ∷ []))) refl in
        omega (arith, ap (λ (r : ℕ × Option (List ℕ)). r.0) t, took-steps (f.records - suc y) y (plain f K d (p ++ (y ∷ []))))

    pub looped-end : f.records ≤ y → plain f K (suc d) p ≡ (u, none)
    unfolding plain tries
    looped-end h =
        let e : f.records - y ≡ 0 = omega arith in
        let z : u + 0 ≡ u = omega arith in
        l ∙ ap (λ (j : ℕ). steps_ahead u (From j y)) e ∙ ap (λ (n : ℕ). (n, none)) z
