-- Rows that take over what other rows hold.
--
--   copy_of from to == `from`, if it is as long as `to`; `to` otherwise
use Rattle.std.specs.Prelude.{cond, List, ℕ, eqb, length}

unfoldable pub copy_of : List ℕ → List ℕ → List ℕ
copy_of from to = cond (eqb (length from) (length to)) from to
