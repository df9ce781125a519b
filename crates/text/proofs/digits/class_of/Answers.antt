-- `text::digits::class_of`: each way through the match is a range of bytes, or single bytes.
use mathlib.Core.Path.{◌≡◌, sym, ap, refl}
use mathlib.Core.Logic.{⊎_elim}
use Prim.Native.Nat.{ℕ}
use native.Mathlib.Omega.{arith}
use Rattle.laws.specs.Tests.{all}
use Rattle.text.specs.Class.{class_of}
use Rattle.text.specs.declared.Class.TheVariants.{Digit, Mark, Letter, Other}
use Rattle.text.proofs.Classes.{between, test, not-single, code}
use borrow.Author.Rules.{rules}
use Rattle.text.proofs.digits.class_of.Goals as goal

pub returns-in-32 : goal.returns-in-32
unfolding class_of
returns-in-32 c = sym (ap class_of c.in-32.is)

pub returns-in-48-to-57 : goal.returns-in-48-to-57
unfolding all test class_of code
returns-in-48-to-57 c = between 48 58 Digit refl c.args.b (omega arith) (omega arith) (omega arith) (not-single c.args.b (search rules) (search rules))

pub returns-in-97-to-122 : goal.returns-in-97-to-122
unfolding all test class_of code
returns-in-97-to-122 c = between 65 91 Letter refl c.args.b (omega arith) (omega arith) (omega arith) (not-single c.args.b (search rules) (search rules))

pub returns-in-97-to-122-2 : goal.returns-in-97-to-122-2
unfolding all test class_of code
returns-in-97-to-122-2 c = between 97 123 Letter refl c.args.b (omega arith) (omega arith) (omega arith) (not-single c.args.b (search rules) (search rules))

pub returns-in_default : goal.returns-in_default
unfolding all test class_of code
returns-in_default c = between 0 48 Other refl c.args.b (omega arith) (omega arith) (omega arith) (not-single c.args.b (search rules) (search rules))

pub returns-in_default-2 : goal.returns-in_default-2
unfolding all test class_of code
returns-in_default-2 c = between 60 65 Other refl c.args.b (omega arith) (omega arith) (omega arith) (not-single c.args.b (search rules) (search rules))

pub returns-in_default-3 : goal.returns-in_default-3
unfolding all test class_of code
returns-in_default-3 c = between 91 97 Other refl c.args.b (omega arith) (omega arith) (omega arith) (not-single c.args.b (search rules) (search rules))

pub returns-in_default-4 : goal.returns-in_default-4
unfolding all test class_of code
returns-in_default-4 c = between 123 256 Other refl c.args.b (omega arith) (omega arith) (omega arith) (not-single c.args.b (search rules) (search rules))

pub returns-in-58 : goal.returns-in-58
unfolding class_of
returns-in-58 c =
    let is : (k : ℕ) → c.args.b ≡ k → class_of k ≡ class_of c.args.b = λ k e. sym (ap class_of e) in
    ⊎_elim (is 61) (⊎_elim (is 91) (⊎_elim (is 93) (⊎_elim (is 123) (is 125)))) c.in-58.is

pub returns-in-58-2 : goal.returns-in-58-2
unfolding all test class_of code
returns-in-58-2 c = between 58 60 Mark refl c.args.b (omega arith) (omega arith) (omega arith) (not-single c.args.b (search rules) (search rules))
