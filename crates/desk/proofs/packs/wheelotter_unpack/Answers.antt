-- `desk::packs::wheelotter_unpack`: what is wrong with the file, then the text behind its count.
use mathlib.Core.Path.{◌≡◌, sym, ap, ◌∙◌, subst}
use mathlib.Core.Bool.{So}
use mathlib.Core.List.{List}
use Prim.Native.Nat.{ℕ}
use native.Mathlib.Omega.{arith}
use lib.ListN.{take}
use lib.Seq.{length-take-le}
use Rattle.trace.specs.WellFormed.{well_formed}
use Rattle.reader.specs.TextOf.{render_trace}
use Rattle.packed.specs.declared.Reading.{Reading}
use Rattle.packed.proofs.WholeFile.{whole-well}
use Rattle.desk.specs.File.{file_number_in}
use Rattle.desk.specs.Packs.{answer_for, bytes_for, file_unpacked, whole_number}
use Rattle.desk.proofs.Counted.{for-wrong, for-good}
use borrow.Author.Rules.{rules}
use Rattle.desk.proofs.packs.wheelotter_unpack.Goals.{After-number_in-wrong}
use Rattle.desk.proofs.packs.wheelotter_unpack.Goals as goal

-- the number in what the reader answers
numbered : (c : After-number_in-wrong) → c.number_in-wrong.result ≡ whole_number c.args.file.now
numbered c = c.number_in-wrong.ensures ∙ ap (λ (r : Reading). file_number_in r.answer) c.read_whole-reading.ensures

pub returns-then-wrong-gt0 : goal.returns-then-wrong-gt0
returns-then-wrong-gt0 c =
    let a = c.args in
    rw (numbered (goal.at.returns-then-wrong-gt0 c).After-number_in-wrong) (for-wrong (whole_number a.file.now) (file_unpacked a.file.now) a.out.now (λ z. let h = c.if-wrong-gt0.true in omega (arith, numbered (goal.at.returns-then-wrong-gt0 c).After-number_in-wrong, z)))

pub lay_text-n-requires : goal.lay_text-n-requires
lay_text-n-requires c =
    (subst (λ (c : Reading). So (well_formed c.trace)) (sym c.read_whole-reading.ensures) (whole-well c.args.file.now (λ i. omega (arith, c.type_inv.file i))), search rules)

pub slice_bounds-text-end : goal.slice_bounds-text-end
slice_bounds-text-end c = c.lay_text-n.ensures.within

pub slice_bounds-tell-end : goal.slice_bounds-tell-end
slice_bounds-tell-end c = sym (length-take-le _ _ c.lay_text-n.ensures.within)

pub tell-requires : goal.tell-requires
tell-requires c =
    omega (arith, length-take-le c.lay_text-n.result c.lay_text-n.new.out c.lay_text-n.ensures.within, c.lay_text-n.ensures.short)

pub returns : goal.returns
returns c =
    let a = c.args in
    let g = for-good (whole_number a.file.now) (file_unpacked a.file.now) a.out.now (omega (arith, numbered (goal.at.returns c).After-number_in-wrong, c.if-wrong-gt0.false)) in
    let q : take c.lay_text-n.result c.lay_text-n.new.out ≡ file_unpacked a.file.now = c.lay_text-n.ensures.front ∙ ap (λ (r : Reading). render_trace r.trace) c.read_whole-reading.ensures in
    (c.tell.ensures.0 ∙ ap (λ (bs : List ℕ). answer_for 0 bs a.out.now) q ∙ g.0, c.tell.ensures.1 ∙ ap (λ (bs : List ℕ). bytes_for 0 bs a.out.now) q ∙ g.1)
