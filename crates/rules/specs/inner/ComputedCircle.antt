-- The circle that is shown and its rules, computed; proofs/ShownCircle.antt shows that they are the ones.
--
--   rules_of f K P C z c      == the lowest rules of the edges from each of c to the next, and from the last to z
--   rounds f K d C           == the same as Circled says, over d rounds at the most from the one whose chains before are C
--   circled? f K             == the same over as many rounds as can differ
use Rattle.std.specs.Prelude.{true, false, List, [], ◌∷◌, ℕ, zero, suc, ◌*◌, get_or}
use Rattle.std.proofs.Math.Option.{Option, none, some}
use Rattle.laws.specs.Tests.{◌⇒◌, all, any}
use Rattle.laws.specs.Relation.{Table}
use Rattle.laws.specs.Warshall.{memo, chains}
use Rattle.rules.specs.Frame.{Frame}
use Rattle.rules.specs.Rules.{nothing}
use Rattle.rules.specs.ComputedRounds.{step?}
use Rattle.rules.specs.ComputedWalks.{shown?}
use Rattle.rules.specs.ShownCircle.{rule?}

unfoldable pub rules_of : Frame → Table → Table → Table → ℕ → List ℕ → List ℕ
rules_of f K P C z [] = []
rules_of f K P C z (x ∷ xs) = rule? f K P C x (get_or xs 0 z) ∷ rules_of f K P C z xs

unfoldable pub rounds : Frame → Table → ℕ → Table → Option (List ℕ × List ℕ)
rounds f K zero C = none
rounds f K (suc d) C =
    let e = memo f.records (step? f K nothing C) in
    let D = chains f.records e in
    elim (any f.records (λ x. D x x)) [
      | true ↦ elim (shown? f.records e) [ some c ↦ some (c, rules_of f K nothing C (get_or c 0 0) c) | none ↦ none ]
      | false ↦ elim (all f.records (λ x. all f.records (λ y. step? f K nothing D x y ⇒ e x y))) [ true ↦ none | false ↦ rounds f K d D ]
    ]

unfoldable pub circled? : Frame → Table → Option (List ℕ × List ℕ)
circled? f K = rounds f K (suc (f.records * f.records)) nothing
