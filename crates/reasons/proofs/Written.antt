-- Lists that close a branch as the request asks.
--
--   Runs f K E es E'   == after the entries es the branch E is the branch E'
--   runs-edge          == so it is after one entry of a rule
--   Written f K E es   == es closes the branch E: entries and a circle, no edge twice; or a split, without a circle and on a pair held neither way, and what closes each side
--   written-closes     == such a list does close it
--   written-accepted   == so one for the empty branch is accepted
use mathlib.Core.Path.{◌≡◌, refl, sym, subst}
use mathlib.Core.Logic.{◌≢◌}
use mathlib.Core.Bool.{Bool, true, false, So, ◌&&◌}
use mathlib.Core.List.{List, [], ◌∷◌, ◌++◌, append_assoc, append-nil}
use Prim.Native.Nat.{ℕ}
use lib.Dec.{eqb}
use Rattle.laws.specs.Relation.{Table}
use Rattle.laws.proofs.Tests.{and-iff, not_iff, same-iff, so-eq}
use Rattle.rules.specs.Frame.{Frame}
use Rattle.rules.specs.Rules.{Held, Contradicted}
use Rattle.papers.specs.Paper.{CLOSE, SPLIT, Claim, Entry, named, chained, branch_room, splits, fits, refutes, accepted}
use Rattle.reasons.specs.inner.Fair.{Distinct}
use Rattle.reasons.specs.Telling.{inside}
use Rattle.reasons.specs.Writing.{circle_entry, split_entry}

abbrev pub Runs : Frame → Table → List Claim → List Entry → List Claim → Type 0
Runs f K E es E' = (Es : List (List Claim)) (rest : List Entry) → So (refutes f K (E' ∷ Es) rest) → So (refutes f K (E ∷ Es) (es ++ rest))

pub data Written (f : Frame) (K : Table) : List Claim → List Entry → Type 0 where
  circle : {E B : List Claim} → (es : List Entry) (x : ℕ) (is : List ℕ) → Runs f K E es B → Distinct B → So (chained B is x x) → Written f K E (es ++ circle_entry x is ∷ [])
  split : {E : List Claim} {es fs : List Entry} → (x y : ℕ) → So (branch_room E) → So (f.operation x) → So (f.operation y) → x ≢ y
      → (Contradicted f K (inside E) → ⊥) → (Held f K (inside E) x y → ⊥) → (Held f K (inside E) y x → ⊥)
      → Written f K (named E x y) es → Written f K (named E y x) fs → Written f K E (split_entry x y ∷ es ++ fs)

module _ (f : Frame) (K : Table) where
  pub runs-edge : (E : List Claim) (e : Entry) → e.rule ≢ CLOSE → e.rule ≢ SPLIT → So (fits f K E e) → Runs f K E (e ∷ []) (named E e.from e.to)
  unfolding refutes
  runs-edge E e n₀ n₈ t Es rest s = go (eqb e.rule CLOSE) (eqb e.rule SPLIT) refl refl
    where
      go : (b c : Bool) → eqb e.rule CLOSE ≡ b → eqb e.rule SPLIT ≡ c → So (elim b [
        | true ↦ eqb e.from e.to && chained E e.rests e.from e.to && refutes f K Es rest
        | false ↦ elim c [
          | true ↦ splits f E e && refutes f K (named E e.from e.to ∷ named E e.to e.from ∷ Es) rest
          | false ↦ fits f K E e && refutes f K (named E e.from e.to ∷ Es) rest
        ]
      ])
      go true c u v = absurd (n₀ (so-eq.0 u))
      go false true u v = absurd (n₈ (so-eq.0 v))
      go false false u v = (and-iff same-iff same-iff).1 (t, s)

  abbrev Closes : List Claim → List Entry → Type 0
  Closes E es = (Es : List (List Claim)) (rest : List Entry) → So (refutes f K Es rest) → So (refutes f K (E ∷ Es) (es ++ rest))

  close-circle : (E : List Claim) (x : ℕ) (is : List ℕ) → So (chained E is x x) → Closes E (circle_entry x is ∷ [])
  unfolding refutes
  close-circle E x is t Es rest s = (and-iff (and-iff same-iff same-iff) same-iff).1 (((so-eq {m = x} {n = x}).1 refl, t), s)

  close-split : (E : List Claim) (x y : ℕ) (es fs : List Entry) → So (branch_room E) → So (f.operation x) → So (f.operation y) → x ≢ y → Closes (named E x y) es → Closes (named E y x) fs
      → Closes E (split_entry x y ∷ es ++ fs)
  unfolding refutes splits
  close-split E x y es fs l a b d c₁ c₂ Es rest s =
      (and-iff (and-iff same-iff (and-iff (and-iff (and-iff same-iff same-iff) (not_iff so-eq)) same-iff)) same-iff).1
      ((l, (((a, b), d), refl)), subst (λ (l : List Entry). So (refutes f K (named E x y ∷ named E y x ∷ Es) l)) (sym (append_assoc es fs rest)) (c₁ (named E y x ∷ Es) (fs ++ rest) (c₂ Es rest s)))

  pub written-closes : {E : List Claim} {es : List Entry} → Written f K E es → Closes E es
  written-closes (circle {E} {B} es x is r d t) = λ Es rest s.
      subst (λ (l : List Entry). So (refutes f K (E ∷ Es) l)) (sym (append_assoc es (circle_entry x is ∷ []) rest)) (r Es (circle_entry x is ∷ rest) (close-circle B x is t Es rest s))
  written-closes (split {E} {es} {fs} x y l a b d n h₁ h₂ u v) = close-split E x y es fs l a b d (written-closes u) (written-closes v)

  pub written-accepted : (es : List Entry) → Written f K [] es → So (accepted f K es)
  unfolding accepted refutes
  written-accepted es w = subst (λ (l : List Entry). So (refutes f K ([] ∷ []) l)) (append-nil es) (written-closes w [] [] refl)
