-- The bounds of a text.
--
--   TEXT == how many bytes a text has at the most
--   LINE == how many bytes a line has at the most, without its line feed
use Rattle.std.specs.Prelude.{ℕ}

abbrev pub TEXT : ℕ
TEXT = 32768

abbrev pub LINE : ℕ
LINE = 80
