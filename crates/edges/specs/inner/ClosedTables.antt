-- Two tables that stay closed under chains, one of them the other turned round.
--
--   Twin e p           == e is closed under chains, and p is e turned round
--   WithPairs e R         == the pairs of e and those of R
--   OnePair a b           == the one pair a, b
--   FromTo e x r       == the row r has x and what row x of e has
--   Spread h r         == from all that the row h has, to all that the row r has
--   Spans e p a b e' p' == what the pair a, b joins is added: where it is new to a row, whole rows at a time
--   TakenIn e p R e' p'  == e' has the pairs of e and of R; twins stay twins, and nothing is added but chains of these
--   Inside n e         == the pairs of e join numbers below n
--   ForwardPart e c    == c has the pairs of e that lead forward
use Rattle.std.specs.Prelude.{◌≡◌, ◌⊎◌, ◌↔◌, List, ℕ, ◌<◌, length}
use Rattle.std.proofs.Math.Bool.{So}
use Rattle.laws.specs.Relation.{Rel, ◌⊆◌, Transitive, Chain}
use Rattle.rows.specs.Rows.{bit, Edges, Words}
use Rattle.rows.specs.inner.AddedPairs.{Added}
use Rattle.edges.specs.LastRound.{Full}

pub record Twin (e p : List ℕ) : Type 0 where
  pub joins : Transitive (Edges e)
  pub turned : (x y : ℕ) → So (bit p y x) ↔ So (bit e x y)

abbrev pub WithPairs : List ℕ → Rel → Rel
WithPairs e R x y = Edges e x y ⊎ R x y

abbrev pub OnePair : ℕ → ℕ → Rel
OnePair a b i j = (i ≡ a) × (j ≡ b)

pub record FromTo (e : List ℕ) (x : ℕ) (r : List ℕ) : Type 0 where
  pub words : Words r
  pub has : (y : ℕ) → So (bit r 0 y) ↔ ((y ≡ x) ⊎ Edges e x y)

abbrev pub Spread : List ℕ → List ℕ → Rel
Spread h r i j = So (bit h 0 i) × So (bit r 0 j)

pub record Spans (e p : List ℕ) (a b : ℕ) (e' p' : List ℕ) : Type 0 where
  pub edges : Added e (λ i j. ((i ≡ a) ⊎ Edges p a i) × (Edges p b i → ⊥) × ((j ≡ b) ⊎ Edges e b j)) e'
  pub turned : Added p (λ j i. ((j ≡ b) ⊎ Edges e b j) × (Edges e a j → ⊥) × ((i ≡ a) ⊎ Edges p a i)) p'

pub record TakenIn (e p : List ℕ) (R : Rel) (e' p' : List ℕ) : Type 0 where
  pub long : length e' ≡ length e
  pub turned-long : length p' ≡ length p
  pub words : Words e → Words e'
  pub turned-words : Words p → Words p'
  pub keeps : Edges e ⊆ Edges e'
  pub turned-keeps : Edges p ⊆ Edges p'
  pub twin : Twin e p → Twin e' p'
  pub has : Twin e p → R ⊆ Edges e'
  pub within : Twin e p → Edges e' ⊆ Chain (WithPairs e R)

abbrev pub Inside : ℕ → List ℕ → Type 0
Inside n e = (x y : ℕ) → Edges e x y → (x < n) × (y < n)

pub record ForwardPart (e c : List ℕ) : Type 0 where
  pub full : Full c
  pub has : (x y : ℕ) → So (bit c x y) ↔ (Edges e x y × (x < y))
