-- Pairs added to rows.
--
--   Only b x y          == the one pair x, y if the test b passes, and otherwise none
--   Union n R           == what the relations R 0, R 1, .., R (n - 1) have
--   Swept n x R         == the same, of those R that are numbered below x: what a loop over some of the numbers has added when it stands at x
--   Cover n R           == what the relations R x y have, for x and y below n
use Rattle.std.specs.Prelude.{◌≡◌, Bool, ℕ, ◌<◌}
use Rattle.std.proofs.Math.Bool.{So}
use Rattle.laws.specs.Relation.{Rel}

abbrev pub Only : Bool → ℕ → ℕ → Rel
Only b x y i j = So b × (i ≡ x) × (j ≡ y)

unfoldable pub Union : ℕ → (ℕ → Rel) → Rel
Union n R x y = (s : ℕ) × (s < n) × R s x y

abbrev pub Swept : ℕ → ℕ → (ℕ → Rel) → Rel
Swept n x R = Union n (λ z i j. (z < x) × R z i j)

abbrev pub Cover : ℕ → (ℕ → ℕ → Rel) → Rel
Cover n R = Union n (λ x. Union n (R x))
