-- One supposed pair more and one less, and the pairs as rows.
--
--   pair_pushed k p  == one pair more
--   pair_popped k    == without the latest pair
--   drawn ps rows   == the rows with the pairs of the list
use Rattle.std.specs.Prelude.{List, [], ◌∷◌, ℕ, ◌+◌, ◌-◌, set}
use Rattle.rows.specs.Put.{put_of}
use Rattle.session.specs.declared.Pair.{Pair}
use Rattle.session.specs.declared.Stack.{Stack}
use Rattle.session.specs.Stack.{unused}

abbrev pub pair_pushed : Stack → Pair → Stack
pair_pushed k p = record { pairs = set k.pairs k.count p; count = k.count + 1 }

abbrev pub pair_popped : Stack → Stack
pair_popped k = record { pairs = set k.pairs (k.count - 1) unused; count = k.count - 1 }

unfoldable pub drawn : List Pair → List ℕ → List ℕ
drawn [] rows = rows
drawn (p ∷ ps) rows = drawn ps (put_of rows p.first p.second)
