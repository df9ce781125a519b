-- `desk::texts::wheelotter_start`: the start that the reader gives.
use mathlib.Core.Path.{ap}
use Rattle.reader.specs.BadLine.{place_of}
use Rattle.reader.specs.declared.Place.{Place}
use Rattle.desk.proofs.texts.wheelotter_start.Goals as goal

pub returns : goal.returns
unfolding place_of
returns c = ap (λ (p : Place). p.start) c.bad_place-place.ensures
