-- `pairs::kept_by`: one test over all entries of the table, which antt computes, gives the rule at each entry.
use mathlib.Core.Path.{◌≡◌, refl, sym, subst}
use mathlib.Core.Bool.{Bool, true, false}
use mathlib.Core.List.{List, [], ◌∷◌}
use Prim.Native.Nat.{ℕ}
use native.Mathlib.Omega.{arith}
use lib.ListN.{get_or}
use Rattle.laws.specs.Tests.{all}
use Rattle.laws.proofs.Tests.{off}
use Rattle.pairs.specs.Kept.{let_off, kept_by}
use Rattle.pairs.proofs.KeptPairs.{entry-right, kept-by-iff}
use Rattle.pairs.proofs.kept_by.Goals.{else-model-le-MODELS-via-then-model-le-MODELS+then-first-lt-KINDS+else-second-lt-KINDS, else-model-le-MODELS-via-then-model-le-MODELS+else-first-lt-KINDS, else-model-le-MODELS-via-else-model-le-MODELS}
use Rattle.pairs.proofs.kept_by.Goals as goal

-- what an entry says at two addresses and at one
never : List Bool
never = false ∷ false ∷ []

always : List Bool
always = true ∷ true ∷ []

there : List Bool
there = false ∷ true ∷ []

row : List Bool → List Bool → List Bool → List (List Bool)
row a b c = a ∷ b ∷ c ∷ never ∷ []

-- the constant, as antt sees it
table : List (List (List (List Bool)))
table =
    let none = row never never never in
    let all = row always always always in
    let one = row there there there in
    (none ∷ none ∷ none ∷ none ∷ []) ∷
    (all ∷ all ∷ all ∷ none ∷ []) ∷
    (all ∷ row never always always ∷ all ∷ none ∷ []) ∷
    (all ∷ row never there there ∷ all ∷ none ∷ []) ∷
    (one ∷ row never there there ∷ one ∷ none ∷ []) ∷ []

pub returns-then-second-lt-KINDS : goal.returns-then-second-lt-KINDS
unfolding table row never always there all let_off kept_by
returns-then-second-lt-KINDS c =
    let a = c.args in
    subst
    (λ (s : ℕ). ◌≡◌ {A = Bool} (get_or (get_or (get_or (get_or table a.model []) a.first []) a.second []) s false) (kept_by a.model a.first a.second a.one))
    (sym c.side.ensures)
    (entry-right table refl a.model a.first a.second a.one (omega arith) (omega arith) (omega arith))

pub returns : goal.returns
returns c =
    elim c.else-model-le-MODELS.branch [
      | else-model-le-MODELS-via-then-model-le-MODELS+then-first-lt-KINDS+else-second-lt-KINDS w ↦ sym (off (λ s. let p = (kept-by-iff _ _ _ _).0 s in omega (arith, w.if-second-lt-KINDS.false)))
      | else-model-le-MODELS-via-then-model-le-MODELS+else-first-lt-KINDS w ↦ sym (off (λ s. let p = (kept-by-iff _ _ _ _).0 s in omega (arith, w.if-first-lt-KINDS.false)))
      | else-model-le-MODELS-via-else-model-le-MODELS w ↦ sym (off (λ s. let p = (kept-by-iff _ _ _ _).0 s in omega (arith, w.if-model-le-MODELS.false)))
    ]
