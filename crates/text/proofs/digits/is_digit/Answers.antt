-- `text::digits::is_digit`: by the class of the byte.
use mathlib.Core.Path.{◌≡◌, sym, ap, ◌∙◌, refl}
use mathlib.Core.Bool.{false}
use Rattle.text.specs.declared.Class.{Class}
use Rattle.text.specs.declared.Class.TheVariants.{Digit, Space, Mark, Letter, Other}
use Rattle.text.proofs.Classes.{is_digit_class, digit-class}
use Rattle.text.proofs.digits.is_digit.Goals as goal

-- a class other than that of digits
another : (k : Class) → (k ≡ Digit → ⊥) → is_digit_class k ≡ false
another Digit w = absurd (w refl)
another Space w = refl
another Mark w = refl
another Letter w = refl
another Other w = refl

pub returns-in-Digit : goal.returns-in-Digit
returns-in-Digit c = sym (ap is_digit_class c.in-Digit.is) ∙ ap is_digit_class c.class_of.ensures ∙ digit-class c.args.b

pub returns-in_default : goal.returns-in_default
returns-in_default c = sym (another c.class_of.result c.in_default.not-Digit) ∙ ap is_digit_class c.class_of.ensures ∙ digit-class c.args.b
