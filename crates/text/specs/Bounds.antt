-- The byte that ends a line.
--
--   FEED == a line feed
use Rattle.std.specs.Prelude.{ℕ}

abbrev pub FEED : ℕ
FEED = 0x0A
