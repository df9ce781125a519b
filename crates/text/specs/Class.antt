-- The class that a byte falls into.
--
--   within lo hi b == b is from lo to hi
--   is_mark b      == b is one of  : = ; [ ] { }
--   class_of b     == the class of b
use Rattle.std.specs.Prelude.{Bool, ◌&&◌, ◌||◌, cond, ℕ, eqb, leb}
use Rattle.text.specs.declared.Class.{Class}
use Rattle.text.specs.declared.Class.TheVariants.{Digit, Space, Mark, Letter, Other}

abbrev pub within : ℕ → ℕ → ℕ → Bool
within lo hi b = leb lo b && leb b hi

abbrev pub is_mark : ℕ → Bool
is_mark b = eqb b 58 || (eqb b 61 || (eqb b 59 || (eqb b 91 || (eqb b 93 || (eqb b 123 || eqb b 125)))))

unfoldable pub class_of : ℕ → Class
class_of b =
    cond (within 48 57 b) Digit
    (cond (eqb b 32) Space
    (cond (is_mark b) Mark
    (cond (within 97 122 b || within 65 90 b) Letter Other)))
