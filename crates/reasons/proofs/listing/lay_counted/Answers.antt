-- `listing::lay_counted`: what the first pass counts is what the second lays.
use Rattle.trace.specs.Meaning.{frame_of}
use Rattle.pairs.specs.Kept.{kept_of}
use Rattle.papers.specs.Paper.{spell}
use Rattle.reasons.specs.Writing.{paper}
use Rattle.reasons.proofs.Laying.{put-at}
use Rattle.reasons.proofs.Answers.{front_long, front-laid}
use Rattle.reasons.proofs.listing.lay_counted.Goals as goal

pub returns-in_default : goal.returns-in_default
returns-in_default c =
    let v = c.whole in
    let a = c.args in
    front_long (spell (paper (frame_of a.t) (kept_of a.model a.t))) a.room.now a.room.now a.room.now (put-at _ _ _ _ _ _ _ v.ensures c.in_default.is)

pub returns : goal.returns
returns c =
    let u = c.whole in
    let v = c.whole-2 in
    let a = c.args in
    let h = put-at _ _ _ _ _ _ _ u.ensures c.in-Some.is in
    front-laid (spell (paper (frame_of a.t) (kept_of a.model a.t))) a.room.now _ h.0 h.1 v.new.out v.result v.ensures
