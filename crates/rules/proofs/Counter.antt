-- Why kept pairs must join operations: two fences and a table that keeps them in order.
--
--   counter == nothing is contradicted, no source is missing, what is held orders every two operations and the empty list has all of them, yet no list is a valid order
use mathlib.Core.Path.{◌≡◌, refl}
use mathlib.Core.Bool.{false, ◌&&◌, false≢true}
use mathlib.Core.List.{List, []}
use Prim.Native.Nat.{ℕ}
use native.Mathlib.Omega.{arith}
use lib.ListN.{get_or}
use lib.Dec.{eqb}
use Rattle.laws.specs.Places.{pos, count}
use Rattle.laws.specs.Relation.{Table, ◌⊆◌, Transitive}
use Rattle.laws.proofs.Tests.{and-iff, so-eq}
use Rattle.laws.proofs.Places.{pos-le, count_at}
use Rattle.rules.specs.Frame.{Frame, Good}
use Rattle.rules.specs.Order.{Once, Valid}
use Rattle.rules.specs.Rules.{Gives, rule1, rule2, rule3, rule4, rule5, rule6, rule7, rule8, Step, Held, Contradicted, nothing}
use Rattle.rules.specs.Missing.{Sourced}
use Rattle.rules.proofs.ClearOrders.{Total}
use Rattle.rules.proofs.Rounds.{held-least}

abbrev pub fences : Frame
fences = record {
  records = 2;
  operation = λ x. false;
  reads = λ x. false;
  writes = λ x. false;
  address = λ x. 0;
  read = λ x. 0;
  written = λ x. 0;
  first = λ a. 0;
  earlier = λ x y. false;
}

abbrev pub fences_kept : Table
fences_kept x y = eqb x 0 && eqb y 1

fences-good : Good fences
fences-good = record {
  below = λ x t. absurd (false≢true t);
  reads = λ x t. t;
  writes = λ x t. t;
  fresh = λ x t. absurd (false≢true t);
  once = λ x y t. absurd (false≢true t);
}

fences-held : Held fences fences_kept nothing ⊆ (λ x y. (x ≡ 0) × (y ≡ 1))
unfolding Transitive
fences-held = held-least fences fences_kept nothing (λ x y. (x ≡ 0) × (y ≡ 1)) (λ x y z a b. (a.0, b.1)) closed
  where
    closed : Step fences fences_kept nothing (λ x y. (x ≡ 0) × (y ≡ 1)) ⊆ (λ x y. (x ≡ 0) × (y ≡ 1))
    closed x y s = go s.1
      where
        go : {r : ℕ} → Gives fences fences_kept nothing (λ x y. (x ≡ 0) × (y ≡ 1)) x y r → (x ≡ 0) × (y ≡ 1)
        go (rule1 k) = (and-iff so-eq so-eq).0 k
        go (rule2 s n) = absurd (false≢true s.reads)
        go (rule3 L s w d o) = absurd (false≢true w.writes)
        go (rule4 s) = absurd (false≢true s.reads)
        go (rule5 s o) = absurd (false≢true s.reads)
        go (rule6 L s w d h) = absurd (false≢true w.writes)
        go (rule7 S s w d h) = absurd (false≢true w.writes)
        go (rule8 k) = absurd (false≢true k)

pub counter : Good fences × (Contradicted fences fences_kept nothing → ⊥) × Sourced fences × Total fences (Held fences fences_kept nothing) × Once fences []
    × ((xs : List ℕ) → Valid fences fences_kept xs → ⊥)
unfolding count
counter = (
  fences-good,
  λ c. let h = fences-held c.0 c.0 c.1 in omega (arith, h.0, h.1),
  λ L m. false≢true m.reads,
  λ x y t. absurd (false≢true t),
  λ x. refl,
  λ xs v. let h = v.kept 0 1 refl in omega (arith, pos-le xs 1, count_at xs (pos xs 0) (omega (arith, pos-le xs 1)), v.all (get_or xs (pos xs 0) 0)),
)
