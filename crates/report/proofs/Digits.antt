-- Numbers as they are written.
--
--   decimal-record, decimal-byte, decimal-usize == how many digits a record's number, a byte and any number of the code has at the most
--   spaced-snoc, spaced-more    == one number more behind a list
use mathlib.Core.Path.{◌≡◌, sym, ap, ◌∙◌}
use mathlib.Core.List.{List, [], ◌∷◌, ◌++◌, append_assoc, append-nil}
use Prim.Native.Nat.{ℕ, ◌+◌, ◌^◌, ◌≤◌, ◌<◌}
use native.Mathlib.Numerals.{add-one}
use native.Mathlib.Omega.{arith}
use lib.ListN.{length, take, get_or}
use lib.Seq.{take-suc}
use Rattle.trace.specs.Bounds.{RECORDS}
use Rattle.text.specs.Number.{decimal}
use Rattle.text.proofs.Decimal.{decimal-length}
use Rattle.report.specs.Bounds.{DIGITS, LONG}
use Rattle.report.specs.Words.{SPACE}
use Rattle.report.specs.Report.{spaced}

pub decimal-record : (n : ℕ) → n < RECORDS → length (decimal n) ≤ DIGITS
decimal-record n h = decimal-length DIGITS n (omega arith) (omega arith)

pub decimal-byte : (n : ℕ) → n < 2 ^ 8 → length (decimal n) ≤ DIGITS
decimal-byte n h = decimal-length DIGITS n (omega arith) (omega arith)

pub decimal-usize : (n : ℕ) → n < 2 ^ 64 → length (decimal n) ≤ LONG
decimal-usize n h = decimal-length LONG n (omega arith) (omega arith)

pub spaced-snoc : (ns : List ℕ) (n : ℕ) → spaced (ns ++ (n ∷ [])) ≡ spaced ns ++ (SPACE ∷ decimal n)
unfolding spaced
spaced-snoc [] n = append-nil (SPACE ∷ decimal n)
spaced-snoc (m ∷ ns) n = ap (λ (l : List ℕ). (SPACE ∷ decimal m) ++ l) (spaced-snoc ns n) ∙ sym (append_assoc (SPACE ∷ decimal m) (spaced ns) (SPACE ∷ decimal n))

pub spaced-more : (ns : List ℕ) (i : ℕ) → i < length ns → spaced (take (i + 1) ns) ≡ spaced (take i ns) ++ (SPACE ∷ decimal (get_or ns i 0))
spaced-more ns i h = rw (add-one, take-suc ns i 0 h) (spaced-snoc (take i ns) (get_or ns i 0))
