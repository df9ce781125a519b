-- The parts of rules 3, 6 and 7, which look for a third record.
--
--   before_source f c C x y L == L reads from y, and x is another writer that is before L: by program order, or where c by the chains C
--   after_load f C x y S      == x reads from S, and y is another writer that a chain of C leads to from S
use Rattle.std.specs.Prelude.{Bool, not, cond, ◌&&◌, ℕ, eqb}
use Rattle.laws.specs.Relation.{Table}
use Rattle.rules.specs.Frame.{Frame}
use Rattle.rules.specs.RuleTests.{writer?, source?}

abbrev pub before_source : Frame → Bool → Table → ℕ → ℕ → ℕ → Bool
before_source f c C x y L = source? f y L && writer? f x L && not (eqb x y) && cond c (C x L) (f.earlier x L)

abbrev pub after_load : Frame → Table → ℕ → ℕ → ℕ → Bool
after_load f C x y S = source? f S x && writer? f y x && not (eqb y S) && C S y
