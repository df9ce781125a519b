-- `signature::runs::put_runs`: the reads of the runs before i stand in their places.
use mathlib.Core.Path.{◌≡◌, sym, ap, ◌∙◌}
use Prim.Native.Nat.{ℕ, ◌+◌, ◌-◌, ◌*◌, ◌≤◌}
use native.Mathlib.Omega.{arith}
use lib.ListN.{length}
use Rattle.trace.proofs.WellFormed.{form-iff}
use Rattle.signature.specs.Unpack.{reads_of}
use Rattle.signature.proofs.ManyRuns.{run_fits, part-words, words_long, reading-start, reading-fits, part_room, reading-more, reading-end}
use Rattle.signature.proofs.runs.put_runs.Goals.{In-loop-i}
use Rattle.signature.proofs.runs.put_runs.Goals as goal

-- the words of run i lie within all
within : (c : In-loop-i) → c.loop-i.i * c.args.each + c.args.each ≤ length c.args.words.now
within c = run_fits c.args.t c.args.words.now c.args.each c.args.runs c.requires.long c.loop-i.i c.loop-i-test.true

-- and its reads within the lent memory
below : (c : In-loop-i) → c.loop-i.i * c.args.loads + c.args.loads ≤ length c.loop-i.out
below c = reading-fits c.args.t c.args.words.now c.args.loads c.requires.some c.loop-i.out c.args.runs c.loop-i.i c.loop-i.invariant.1 c.loop-i-test.true

pub all_places-places-requires : goal.all_places-places-requires
all_places-places-requires c = ((form-iff c.args.t).0 c.requires.well).fits

pub all_values-values-requires : goal.all_values-values-requires
all_values-values-requires c = ((form-iff c.args.t).0 c.requires.well).fits

pub loop-i-init : goal.loop-i-init
loop-i-init c = (omega arith, reading-start c.args.t c.args.words.now c.args.loads c.args.out.now c.args.runs c.requires.room)

pub overflow_mul-from : goal.overflow_mul-from
overflow_mul-from c = omega (arith, within c)

pub overflow_add-to : goal.overflow_add-to
overflow_add-to c = omega (arith, within c)

pub overflow_mul-start : goal.overflow_mul-start
overflow_mul-start c = omega (arith, below c)

pub overflow_add-end : goal.overflow_add-end
overflow_add-end c = omega (arith, below c)

pub offset_bounds-words-from : goal.offset_bounds-words-from
offset_bounds-words-from c = omega (arith, within c)

pub slice_bounds-put_run-count : goal.slice_bounds-put_run-count
slice_bounds-put_run-count c = omega (arith, within c)

pub offset_bounds-out-start : goal.offset_bounds-out-start
offset_bounds-out-start c = omega (arith, below (goal.at.offset_bounds-out-start c).In-loop-i)

pub slice_bounds-put_run-count-in-loop-i : goal.slice_bounds-put_run-count-in-loop-i
slice_bounds-put_run-count-in-loop-i c = omega (arith, below (goal.at.slice_bounds-put_run-count-in-loop-i c).In-loop-i)

-- the part that is lent is as long as a run's
same : (i n : ℕ) → i * n + n - i * n ≡ n
same i n = omega arith

pub put_run-requires : goal.put_run-requires
put_run-requires c =
    let i = c.loop-i.i in
    let n = c.args.each in
    let e = part-words c.args.t c.args.words.now n c.requires.each _ i (same i n) in
    (c.requires.well, c.all_places-places.ensures, c.all_values-values.ensures, ap length e ∙ words_long c.args.t c.args.words.now n c.requires.each i (within (goal.at.put_run-requires c).In-loop-i), part_room c.args.t c.args.words.now c.args.loads c.requires.some c.loop-i.out c.args.runs i c.loop-i.invariant.1 c.loop-i-test.true _ (same i c.args.loads))

pub loop-i-preserved : goal.loop-i-preserved
loop-i-preserved c =
    let i = c.loop-i.i in
    let n = c.args.each in (
      omega arith,
      reading-more c.args.t c.args.words.now c.args.loads c.requires.some c.loop-i.out c.args.runs i c.loop-i.invariant.1 c.loop-i-test.true _ _ (same i c.args.loads)
          (c.put_run.ensures ∙ ap (reads_of c.args.t) (part-words c.args.t c.args.words.now n c.requires.each _ i (same i n))),
    )

pub shape_of-out : goal.shape_of-out
shape_of-out c = c.loop-i.invariant.1.long ∙ sym c.requires.room

pub returns : goal.returns
returns c =
    reading-end c.args.t c.args.words.now c.args.loads c.loop-i.out c.args.runs c.loop-i.i c.loop-i.invariant.1 c.loop-i.invariant.0 c.loop-i-test.false
