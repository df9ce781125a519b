-- Edges that a branch names, and chains of its entries.
--
--   inside-iff                == whether an edge is named
--   chained-one, chained_more == a named edge is a chain, and goes in front of one
--   named-grow, named-last    == what is named stays so, and one edge more is
--   named-cases               == what a branch with one edge more names
use mathlib.Core.Path.{◌≡◌, refl, sym, ap, ◌∙◌, subst}
use mathlib.Core.Logic.{◌↔◌, ◌⊎◌, inl, inr}
use mathlib.Core.Bool.{Bool, true, false, So, ◌&&◌, false≢true}
use mathlib.Core.List.{List, [], ◌∷◌, ◌++◌}
use mathlib.Core.Option.{Option, none}
use Prim.Native.Nat.{ℕ, ◌<◌}
use native.Mathlib.Decide.{dec_lt}
use native.Mathlib.Omega.{arith}
use lib.Dec.{eqb, ltb}
use lib.ListN.{length, get_or, length-append, get_or-append}
use Rattle.laws.proofs.Tests.{and-iff, any-iff, so-eq, so-lt}
use Rattle.papers.specs.Paper.{Claim, edge_at, named, leads, arrives, chained}
use Rattle.reasons.specs.inner.Fair.{Named}
use Rattle.reasons.specs.Telling.{inside}

pub inside-iff : (E : List Claim) (x y : ℕ) → So (inside E x y) ↔ Named E x y
unfolding inside
inside-iff E x y = any-iff (λ i. and-iff so-eq so-eq)

leads-at : (E : List Claim) (i : ℕ) (is : List ℕ) (x : ℕ) → i < length E → (edge_at E i).from ≡ x → leads E (i ∷ is) x ≡ leads E is (edge_at E i).to
unfolding leads
leads-at E i is x h e = go (ltb i (length E) && eqb (edge_at E i).from x) ((and-iff so-lt so-eq).1 (h, e))
  where
    go : (b : Bool) → So b → elim b [ true ↦ leads E is (edge_at E i).to | false ↦ none ] ≡ leads E is (edge_at E i).to
    go true t = refl
    go false t = absurd (false≢true t)

module _ (E : List Claim) (i x y : ℕ) (h : i < length E) (a : (edge_at E i).from ≡ x) (b : (edge_at E i).to ≡ y) where
  pub chained-one : So (chained E (i ∷ []) x y)
  unfolding chained leads
  chained-one = subst (λ (o : Option ℕ). So (arrives o y)) (sym (leads-at E i [] x h a)) (so-eq.1 b)

  pub chained_more : (z j : ℕ) (is : List ℕ) → So (chained E (j ∷ is) y z) → So (chained E (i ∷ j ∷ is) x z)
  unfolding chained
  chained_more z j is t = subst (λ (o : Option ℕ). So (arrives o z)) (sym (leads-at E i (j ∷ is) x h a)) (subst (λ (w : ℕ). So (arrives (leads E (j ∷ is) w) z)) (sym b) t)

pub named-grow : (E F : List Claim) (x y : ℕ) → Named E x y → Named (E ++ F) x y
named-grow E F x y (i, h, (a, b)) =
    let q = get_or-append E F (record { from = 0; to = 0 }) i h in
    (i, omega (arith, length-append E F), (ap (λ e. e.from) q ∙ a, ap (λ e. e.to) q ∙ b))

last-at : (E : List Claim) (e d : Claim) → get_or (E ++ e ∷ []) (length E) d ≡ e
last-at [] e d = refl
last-at (c ∷ E) e d = last-at E e d

pub named-last : (E : List Claim) (x y : ℕ) → Named (named E x y) x y
named-last E x y =
    let q = last-at E (record { from = x; to = y }) (record { from = 0; to = 0 }) in
    (length E, omega (arith, length-append E (record { from = x; to = y } ∷ [])), (ap (λ e. e.from) q, ap (λ e. e.to) q))

pub named-cases : (E : List Claim) (x y a b : ℕ) → Named (named E x y) a b → Named E a b ⊎ ((x ≡ a) × (y ≡ b))
named-cases E x y a b (i, h, (p, q)) = elim (dec_lt i (length E)) [
  | yes l ↦ let e = get_or-append E (record { from = x; to = y } ∷ []) (record { from = 0; to = 0 }) i l in inl (i, l, (ap (λ e. e.from) (sym e) ∙ p, ap (λ e. e.to) (sym e) ∙ q))
  | no l ↦ let j : i ≡ length E = omega (arith, length-append E (record { from = x; to = y } ∷ [])) in
      let e = ap (edge_at (named E x y)) j ∙ last-at E (record { from = x; to = y }) (record { from = 0; to = 0 }) in
      inr (ap (λ e. e.from) (sym e) ∙ p, ap (λ e. e.to) (sym e) ∙ q)
]
