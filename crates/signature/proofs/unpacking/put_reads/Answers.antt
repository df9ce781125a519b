-- `signature::unpacking::put_reads`: what is put, and what is still to come, are all.
use mathlib.Core.Path.{◌≡◌, sym, ap, ◌∙◌, subst}
use Prim.Native.Nat.{ℕ, ◌<◌}
use native.Mathlib.Omega.{arith}
use Rattle.trace.specs.Bounds.{RECORDS}
use Rattle.trace.specs.FormFacts.{Form}
use Rattle.trace.proofs.WellFormed.{form-iff}
use Rattle.signature.specs.Reads.{range_of}
use Rattle.signature.specs.inner.WordsLaid.{digit_by}
use Rattle.signature.specs.inner.LoadLists.{read_put}
use Rattle.signature.proofs.Putting.{puts-start, puts-room, puts-next, puts-end}
use Rattle.signature.proofs.unpacking.put_reads.Goals.{After-digit_at-digit, In-loop-i}
use Rattle.signature.proofs.unpacking.put_reads.Goals as goal

-- there is a place for each record
within : (j : In-loop-i) → j.loop-i.i < RECORDS
within j = omega (arith, ((form-iff j.args.t).0 j.requires.0).fits, j.loop-i-test.true)

-- the digit by its place
told : (d : After-digit_at-digit) → d.digit_at-digit.result ≡ digit_by d.args.x d.args.words.now d.loop-i.i
unfolding digit_by
told d = d.digit_at-digit.ensures

pub loop-i-init : goal.loop-i-init
loop-i-init c = (omega arith, puts-start c.args.t (digit_by c.args.x c.args.words.now) c.args.out.now c.requires.3)

pub offset_bounds-x-i : goal.offset_bounds-x-i
offset_bounds-x-i c = omega (arith, within c)

pub bounds-x-i : goal.bounds-x-i
bounds-x-i c = omega (arith, within c)

pub offset_bounds-x-i-in-loop-i : goal.offset_bounds-x-i-in-loop-i
offset_bounds-x-i-in-loop-i c = omega (arith, within (goal.at.offset_bounds-x-i-in-loop-i c).In-loop-i)

pub bounds-x-i-in-loop-i : goal.bounds-x-i-in-loop-i
bounds-x-i-in-loop-i c = omega (arith, within (goal.at.bounds-x-i-in-loop-i c).In-loop-i)

pub offset_bounds-x-i-in-loop-i-2 : goal.offset_bounds-x-i-in-loop-i-2
offset_bounds-x-i-in-loop-i-2 c = omega (arith, within (goal.at.offset_bounds-x-i-in-loop-i-2 c).In-loop-i)

pub bounds-x-i-in-loop-i-2 : goal.bounds-x-i-in-loop-i-2
bounds-x-i-in-loop-i-2 c = omega (arith, within (goal.at.bounds-x-i-in-loop-i-2 c).In-loop-i)

pub put_read-k-requires : goal.put_read-k-requires
put_read-k-requires c =
    let f : Form c.args.t = (form-iff c.args.t).0 c.requires.0 in
    let h = c.loop-i-test.true in
    record {
      fits = f.fits;
      here = h;
      below = (f.used c.loop-i.i h).keeps.address_below;
      laid = c.requires.1;
      small = λ r. subst (λ (d : ℕ). d < range_of c.args.t c.loop-i.i) (sym (told (goal.at.put_read-k-requires c).After-digit_at-digit)) (c.requires.2 c.loop-i.i h r);
      room = puts-room c.args.t (digit_by c.args.x c.args.words.now) c.loop-i.out c.loop-i.k c.loop-i.i h c.loop-i.invariant.1;
      low = c.loop-i.invariant.1.low;
    }

pub loop-i-preserved : goal.loop-i-preserved
loop-i-preserved c =
    let b = digit_by c.args.x c.args.words.now in (
      omega arith,
      puts-next c.args.t b c.loop-i.out _ c.loop-i.k c.put_read-k.result c.loop-i.i c.loop-i-test.true c.loop-i.invariant.1 c.put_read-k.ensures.0
          (c.put_read-k.ensures.1 ∙ ap (λ (d : ℕ). read_put c.args.t c.loop-i.i c.loop-i.k d c.loop-i.out) (told (goal.at.loop-i-preserved c).After-digit_at-digit)),
    )

pub shape_of-out : goal.shape_of-out
shape_of-out c = c.loop-i.invariant.1.long ∙ sym c.requires.3

pub returns : goal.returns
returns c = puts-end c.args.t (digit_by c.args.x c.args.words.now) c.loop-i.out c.loop-i.k c.loop-i.i c.loop-i-test.false c.loop-i.invariant.1
