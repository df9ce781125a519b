-- `judge::judging::judged`: each of its ways out.
use mathlib.Core.Path.{sym, ◌∙◌}
use mathlib.Core.Bool.{So}
use borrow.Author.Tests.{eq-eqb, ne_eqb}
use lib.Dec.{eqb}
use lib.ListN.{length}
use Rattle.trace.specs.Meaning.{frame_of}
use Rattle.pairs.specs.Kept.{kept_of}
use Rattle.rules.specs.Ready.{operations}
use Rattle.pairs.proofs.Found.{some-lowest, none-lowest}
use Rattle.judge.proofs.JudgeAnswers.{length-told, number-told, repeat-told, turns-told, good-numbers}
use Rattle.judge.proofs.judging.judged.Goals.{Else-list-operations}
use Rattle.judge.proofs.judging.judged.Goals as goal

-- the length is right where the test passed
right : (c : Else-list-operations) → So (eqb (length c.args.list.now) (operations (frame_of c.args.t)))
right c = eq-eqb _ _ (c.if-list-operations.false ∙ c.operations.ensures)

pub returns-then-list-operations : goal.returns-then-list-operations
returns-then-list-operations c =
    let a = c.args in
    length-told (frame_of a.t) (kept_of a.model a.t) a.list.now (ne_eqb _ _ (λ q. c.if-list-operations.true (q ∙ sym c.operations.ensures)))

pub returns-in-Some : goal.returns-in-Some
returns-in-Some c =
    let a = c.args in
    number-told (frame_of a.t) (kept_of a.model a.t) a.list.now (right (goal.at.returns-in-Some c).Else-list-operations) _ (some-lowest _ _ c.bad_place-place.ensures c.in-Some.is)

pub returns-in-Some-twice : goal.returns-in-Some-twice
unfolding frame_of
returns-in-Some-twice c =
    let a = c.args in
    repeat-told (frame_of a.t) (kept_of a.model a.t) a.list.now (right (goal.at.returns-in-Some-twice c).Else-list-operations) (none-lowest _ _ c.bad_place-place.ensures c.in_default.is) _
    (some-lowest _ _ c.repeated-twice.ensures c.in-Some-twice.is)

pub judged_turns-requires : goal.judged_turns-requires
judged_turns-requires c =
    (c.requires, good-numbers c.args.t c.requires c.args.list.now (none-lowest _ _ c.bad_place-place.ensures c.in_default.is))

pub returns : goal.returns
unfolding frame_of
returns c =
    let a = c.args in
    c.judged_turns.ensures
    ∙ turns-told (frame_of a.t) (kept_of a.model a.t) a.list.now (right (goal.at.returns c).Else-list-operations) (none-lowest _ _ c.bad_place-place.ensures c.in_default.is)
    (none-lowest _ _ c.repeated-twice.ensures c.in_default-twice.is)
