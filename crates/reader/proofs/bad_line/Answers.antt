-- `reader::bad_line`: the part from the start of the bad line to its end.
use mathlib.Core.Path.{◌≡◌, refl, sym, ap}
use native.Mathlib.Omega.{arith}
use Rattle.reader.specs.BadLine.{start_of, end_of, place_of}
use Rattle.reader.specs.declared.Place.{Place}
use Rattle.reader.proofs.BadLine.{start-end, end-text}
use Rattle.reader.proofs.bad_line.Goals.{After-bad_place-place}
use Rattle.reader.proofs.bad_line.Goals as goal

starts : (c : After-bad_place-place) → c.bad_place-place.result.start ≡ start_of c.args.text.now
unfolding place_of
starts c = ap (λ (p : Place). p.start) c.bad_place-place.ensures

ends : (c : After-bad_place-place) → c.bad_place-place.result.end ≡ end_of c.args.text.now
unfolding place_of
ends c = ap (λ (p : Place). p.end) c.bad_place-place.ensures

pub slice_bounds-result-count : goal.slice_bounds-result-count
slice_bounds-result-count c = omega (arith, starts (goal.at.slice_bounds-result-count c).After-bad_place-place, ends (goal.at.slice_bounds-result-count c).After-bad_place-place, start-end c.args.text.now)

pub slice_bounds-result-start : goal.slice_bounds-result-start
slice_bounds-result-start c = omega (arith, starts (goal.at.slice_bounds-result-start c).After-bad_place-place, ends (goal.at.slice_bounds-result-start c).After-bad_place-place, start-end c.args.text.now)

pub slice_bounds-result-end : goal.slice_bounds-result-end
slice_bounds-result-end c = omega (arith, ends (goal.at.slice_bounds-result-end c).After-bad_place-place, end-text c.args.text.now)

pub returns : goal.returns
returns c = rw (sym (starts (goal.at.returns c).After-bad_place-place), sym (ends (goal.at.returns c).After-bad_place-place)) (record { block = refl; place = omega arith; bytes = refl })
