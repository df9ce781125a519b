-- `judge::judging::judged_turns`: each of its ways out, over the array of places.
use Rattle.trace.specs.Meaning.{frame_of}
use Rattle.pairs.specs.Kept.{kept_of}
use Rattle.pairs.proofs.Found.{some-lowest, none-lowest, lowest-at}
use Rattle.judge.proofs.JudgeAnswers.{pair-told, no-pair, value-told, yes-told}
use Rattle.judge.proofs.judging.judged_turns.Goals as goal

pub out_from-requires : goal.out_from-requires
out_from-requires c =
    ((lowest-at _ _ _ (some-lowest _ _ c.out_of_turn.ensures c.in-Some.is)).0, c.requires.0, c.site.ensures.long)

pub returns-in-Some-out_from : goal.returns-in-Some-out_from
unfolding frame_of
returns-in-Some-out_from c =
    pair-told (frame_of c.args.t) (kept_of c.args.model c.args.t) c.args.list.now _ c.site.ensures c.requires.0 _ _
    (some-lowest _ _ c.out_of_turn.ensures c.in-Some.is) (some-lowest _ _ c.out_from.ensures c.in-Some-out_from.is)

pub returns-in-None-out_from : goal.returns-in-None-out_from
unfolding frame_of
returns-in-None-out_from c =
    no-pair (frame_of c.args.t) (kept_of c.args.model c.args.t) c.args.list.now _ c.site.ensures c.requires.0 _
    (some-lowest _ _ c.out_of_turn.ensures c.in-Some.is) (none-lowest _ _ c.out_from.ensures c.in-None-out_from.is)

pub returns-in-Some-wrong_value : goal.returns-in-Some-wrong_value
unfolding frame_of
returns-in-Some-wrong_value c =
    value-told (frame_of c.args.t) (kept_of c.args.model c.args.t) c.args.list.now _ c.site.ensures c.requires.0
    (none-lowest _ _ c.out_of_turn.ensures c.in-None.is) _ (some-lowest _ _ c.wrong_value.ensures c.in-Some-wrong_value.is)

pub returns-in-None-wrong_value : goal.returns-in-None-wrong_value
unfolding frame_of
returns-in-None-wrong_value c =
    yes-told (frame_of c.args.t) (kept_of c.args.model c.args.t) c.args.list.now _ c.site.ensures c.requires.0
    (none-lowest _ _ c.out_of_turn.ensures c.in-None.is) (none-lowest _ _ c.wrong_value.ensures c.in-None-wrong_value.is)
