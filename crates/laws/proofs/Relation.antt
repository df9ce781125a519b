-- Chains of edges.
--
--   chain-mono, chain-join, chain-least == chains grow with the edges, join, and lie in any transitive relation that the edges lie in
use Prim.Native.Nat.{ℕ}
use Rattle.laws.specs.Relation.{Rel, ◌⊆◌, Transitive, Chain, one, more}

pub chain-mono : {A B : Rel} → A ⊆ B → Chain A ⊆ Chain B
chain-mono h x y (one e) = one (h x y e)
chain-mono h x y (more {y = z} e c) = more (h x z e) (chain-mono h z y c)

pub chain-join : {E : Rel} {x y z : ℕ} → Chain E x y → Chain E y z → Chain E x z
chain-join (one e) d = more e d
chain-join (more e c) d = more e (chain-join c d)

pub chain-least : {E R : Rel} → Transitive R → E ⊆ R → Chain E ⊆ R
unfolding Transitive
chain-least t h x y (one e) = h x y e
chain-least t h x y (more {y = z} e c) = t x z y (h x z e) (chain-least t h z y c)
