-- `reader::bad_place`: where the walk stands, or the top of the text beside number 1.
use mathlib.Core.Path.{◌≡◌, refl, sym, ◌∙◌}
use Rattle.reader.specs.BadLine.{start_of, end_of, place_of}
use Rattle.reader.proofs.BadLine.{line-long, line-told, start_none, end_none, start-told, end_same}
use Rattle.reader.proofs.bad_place.Goals.{After-walked-stand}
use Rattle.reader.proofs.bad_place.Goals as goal

pub returns-then-text-gt-TEXT : goal.returns-then-text-gt-TEXT
unfolding place_of
returns-then-text-gt-TEXT c =
    let t = c.args.text.now in
    let z = line-long t c.if-text-gt-TEXT.true in
    rw (start_none t z, end_none t z) refl

-- where the walk stands
starts : (c : After-walked-stand) → c.walked-stand.result.start ≡ start_of c.args.text.now
starts c =
    let t = c.args.text.now in
    let w = c.walked-stand in
    w.ensures.1 ∙ start-told t _ (line-told t c.if-text-gt-TEXT.false w.result.reading w.ensures.0)

ends : (c : After-walked-stand) → c.walked-stand.result.end ≡ end_of c.args.text.now
ends c =
    let t = c.args.text.now in
    let w = c.walked-stand in
    w.ensures.2 ∙ end_same t _ (line-told t c.if-text-gt-TEXT.false w.result.reading w.ensures.0)

pub returns : goal.returns
unfolding place_of
returns c = rw (sym (starts c), sym (ends c)) refl
