-- `desk::packs::wheelotter_pack`: what is wrong with the text, then the file behind its count.
use mathlib.Core.Path.{◌≡◌, sym, ap, ◌∙◌, subst}
use mathlib.Core.Bool.{So}
use mathlib.Core.List.{List}
use Prim.Native.Nat.{ℕ}
use native.Mathlib.Omega.{arith}
use lib.ListN.{take}
use lib.Seq.{length-take-le}
use Rattle.trace.specs.WellFormed.{well_formed}
use Rattle.packed.specs.Layout.{file_of}
use Rattle.reader.specs.declared.Reading.{Reading}
use Rattle.reader.proofs.Whole.{whole-well}
use Rattle.desk.specs.Text.{number_in, text_number}
use Rattle.desk.specs.Packs.{answer_for, bytes_for, text_packed}
use Rattle.desk.proofs.Counted.{for-wrong, for-good}
use borrow.Author.Rules.{rules}
use Rattle.desk.proofs.packs.wheelotter_pack.Goals.{After-number_in-wrong}
use Rattle.desk.proofs.packs.wheelotter_pack.Goals as goal

-- the number in what the reader answers
numbered : (c : After-number_in-wrong) → c.number_in-wrong.result ≡ text_number c.args.text.now
numbered c = c.number_in-wrong.ensures ∙ ap (λ (r : Reading). number_in r.answer) c.read_whole-reading.ensures

pub returns-then-wrong-gt0 : goal.returns-then-wrong-gt0
returns-then-wrong-gt0 c =
    let a = c.args in
    rw (numbered (goal.at.returns-then-wrong-gt0 c).After-number_in-wrong) (for-wrong (text_number a.text.now) (text_packed a.text.now) a.out.now (λ z. let h = c.if-wrong-gt0.true in omega (arith, numbered (goal.at.returns-then-wrong-gt0 c).After-number_in-wrong, z)))

pub lay_file-n-requires : goal.lay_file-n-requires
lay_file-n-requires c =
    (subst (λ (c : Reading). So (well_formed c.trace)) (sym c.read_whole-reading.ensures) (whole-well c.args.text.now), search rules)

pub slice_bounds-file-end : goal.slice_bounds-file-end
slice_bounds-file-end c = c.lay_file-n.ensures.within

pub slice_bounds-tell-end : goal.slice_bounds-tell-end
slice_bounds-tell-end c = sym (length-take-le _ _ c.lay_file-n.ensures.within)

pub tell-requires : goal.tell-requires
tell-requires c =
    omega (arith, length-take-le c.lay_file-n.result c.lay_file-n.new.out c.lay_file-n.ensures.within, c.lay_file-n.ensures.short)

pub returns : goal.returns
returns c =
    let a = c.args in
    let g = for-good (text_number a.text.now) (text_packed a.text.now) a.out.now (omega (arith, numbered (goal.at.returns c).After-number_in-wrong, c.if-wrong-gt0.false)) in
    let q : take c.lay_file-n.result c.lay_file-n.new.out ≡ text_packed a.text.now = c.lay_file-n.ensures.front ∙ ap (λ (r : Reading). file_of r.trace) c.read_whole-reading.ensures in
    (c.tell.ensures.0 ∙ ap (λ (bs : List ℕ). answer_for 0 bs a.out.now) q ∙ g.0, c.tell.ensures.1 ∙ ap (λ (bs : List ℕ). bytes_for 0 bs a.out.now) q ∙ g.1)
