-- Two values compared by a test.
--
--   alike-iff == two lists of numbers
--   beq-iff   == two truth values
use mathlib.Core.Path.{◌≡◌, refl, sym, ap}
use mathlib.Core.Logic.{◌↔◌}
use mathlib.Core.Bool.{Bool, true, false, So, beq, false≢true}
use mathlib.Core.List.{List}
use Prim.Native.Nat.{ℕ}
use lib.ListN.{length, get_or}
use lib.Seq.{ext_get_or}
use Rattle.laws.specs.Alike.{alike}
use Rattle.laws.proofs.Tests.{and-iff, so-eq, all-iff}

pub alike-iff : (a b : List ℕ) → So (alike a b) ↔ (a ≡ b)
unfolding alike
alike-iff a b =
    let i = and-iff (so-eq {m = length a} {n = length b}) (all-iff {n = length a} (λ i. so-eq {m = get_or a i 0} {n = get_or b i 0})) in
    (λ s. ext_get_or 0 a b (i.0 s).0 (i.0 s).1, λ e. i.1 (ap length e, λ j h. ap (λ l. get_or l j 0) e))

pub beq-iff : (a b : Bool) → So (beq a b) ↔ (a ≡ b)
beq-iff true true = (λ s. refl, λ e. refl)
beq-iff true false = (λ s. absurd (false≢true s), λ e. sym e)
beq-iff false true = (λ s. absurd (false≢true s), λ e. e)
beq-iff false false = (λ s. refl, λ e. refl)
