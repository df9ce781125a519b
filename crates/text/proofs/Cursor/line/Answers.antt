-- `text::Cursor::line`: the part from the line's start to its end, or the empty one.
use mathlib.Core.Path.{refl, sym}
use native.Mathlib.Omega.{arith}
use lib.ListN.{length}
use Rattle.text.proofs.Lines.{end-last, end-within}
use Rattle.text.proofs.Part.{start-here, start-end}
use Rattle.text.proofs.Cursor.line.Goals as goal

pub returns-then-text-at : goal.returns-then-text-at
returns-then-text-at c =
    let a = c.args in
    let t = a.text.now in
    rw (start-end t a.self.at c.if-text-at.true, end-last t (length t) (omega arith)) (record { block = refl; place = omega arith; bytes = refl })

pub returns : goal.returns
returns c =
    let a = c.args in
    rw (start-here a.text.now a.self.at (omega arith), sym c.line_end-e.ensures) (record { block = refl; place = omega arith; bytes = refl })

pub slice_bounds-result-end-2 : goal.slice_bounds-result-end-2
slice_bounds-result-end-2 c = let a = c.args in omega (arith, end-within a.text.now a.self.at (omega arith))
