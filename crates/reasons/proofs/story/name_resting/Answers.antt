-- `story::name_resting`: the numbers are laid aside, and named with the edge.
use mathlib.Core.Path.{subst}
use mathlib.Core.List.{List, [], ◌∷◌}
use Prim.Native.Nat.{ℕ}
use Rattle.reasons.specs.inner.Laid.{EntriesTold}
use Rattle.reasons.proofs.story.name_resting.Goals as goal

pub returns : goal.returns
returns c =
    let a = c.args in
    subst (λ (is : List ℕ). EntriesTold a.limit a.from.now a.to.now a.out.now a.count a.at (record { rule = a.rule; from = a.x; to = a.y; rests = is } ∷ []) c.name.new.from c.name.new.to c.name.new.out c.name.result) c.number_all.ensures c.name.ensures
