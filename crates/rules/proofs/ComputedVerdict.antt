-- The search with tests that compute, and the verdict by it.
--
--   ready? f H p c      == c may be placed after p
--   unread? f p y       == everybody who reads from y is placed
--   covered? f H p F y  == each unplaced writer of y's address is in F, or has another unplaced one before it
--   stop? f H p F       == the loop at p may stop after the latest of those that failed
--   same? n p q         == p and q have the same numbers below n, each as often
--   known n D p         == a list in D has the same numbers as p
--   kit f H             == the kit of these tests
--   sought f K          == the first valid order as the search finds it, guided by the chains of rules 1 to 5
--   verdict? f K        == the verdict
use mathlib.Core.Bool.{Bool, false, ◌&&◌, ◌||◌}
use mathlib.Core.List.{List, [], ◌∷◌}
use mathlib.Core.Option.{Option, none, some}
use Prim.Native.Nat.{ℕ}
use lib.Dec.{eqb, ltb}
use Rattle.laws.specs.Tests.{◌⇒◌, all, any}
use Rattle.laws.specs.Places.{count}
use Rattle.laws.specs.Relation.{Table}
use Rattle.laws.specs.Lowest.{lowest}
use Rattle.rules.specs.Frame.{Frame}
use Rattle.rules.specs.Rules.{nothing}
use Rattle.rules.specs.RuleTests.{writer?, source?}
use Rattle.rules.specs.ComputedRounds.{chains?}
use Rattle.rules.specs.Missing.{missing?}
use Rattle.rules.specs.inner.ComputedCircle.{circled?}
use Rattle.rules.specs.Verdict.{Verdict, no_source, circle, order, none_left}
use Rattle.rules.specs.Ready.{operations}
use Rattle.rules.proofs.SearchScheme.{Kit, seek}

unfoldable pub ready? : Frame → Table → List ℕ → ℕ → Bool
ready? f H p c =
    f.operation c
    && eqb (count c p) 0
    && all f.records (λ x. H x c ⇒ ltb 0 (count x p))
    && all f.records (λ L. writer? f c L ⇒ all f.records (λ S. (source? f S L && ltb 0 (count S p)) ⇒ ltb 0 (count L p)))

unfoldable pub unread? : Frame → List ℕ → ℕ → Bool
unread? f p y = all f.records (λ L. source? f y L ⇒ ltb 0 (count L p))

unfoldable pub covered? : Frame → Table → List ℕ → List ℕ → ℕ → Bool
covered? f H p F y =
    f.writes y
    && all f.records (λ z. (f.writes z && eqb (f.address z) (f.address y) && eqb (count z p) 0)
    ⇒ (ltb 0 (count z F) || any f.records (λ w. writer? f w z && eqb (count w p) 0 && H w z)))

unfoldable pub stop? : Frame → Table → List ℕ → List ℕ → Bool
stop? f H p [] = false
stop? f H p (y ∷ F) = unread? f p y || covered? f H p (y ∷ F) y

unfoldable pub same? : ℕ → List ℕ → List ℕ → Bool
same? n p q = all n (λ x. eqb (count x p) (count x q))

unfoldable pub known : ℕ → List (List ℕ) → List ℕ → Bool
known n [] p = false
known n (q ∷ D) p = same? n p q || known n D p

abbrev pub kit : Frame → Table → Kit
kit f H = record {
  Memo = List (List ℕ);
  look = known f.records;
  note = λ D p. p ∷ D;
  ready = ready? f H;
  stop = stop? f H;
}

unfoldable pub sought : Frame → Table → Option (List ℕ)
sought f K = let H = chains? f K nothing 1 in (seek f.records (kit f H) (operations f) [] []).1

unfoldable pub verdict? : Frame → Table → Verdict
verdict? f K = elim (lowest (missing? f) f.records 0) [
  | some x ↦ no_source x
  | none ↦ elim (circled? f K) [
    | some c ↦ circle c.0 c.1
    | none ↦ elim (sought f K) [ some xs ↦ order xs | none ↦ none_left ]
  ]
]
