-- `night::runs::put_run`: the reads are taken before the block is put.
use mathlib.Core.Path.{◌≡◌, sym, ap, ◌∙◌, subst}
use mathlib.Core.Bool.{So}
use mathlib.Core.List.{◌++◌}
use Prim.Native.Nat.{ℕ, ◌+◌, ◌-◌, ◌*◌, ◌<◌, ◌≤◌}
use native.Mathlib.Nat.{mul-le-mul_left}
use native.Mathlib.Omega.{arith}
use lib.ListN.{length, get_or, take, drop}
use Rattle.trace.specs.Bounds.{VALUES}
use Rattle.trace.specs.WellFormed.{well_formed}
use Rattle.trace.specs.declared.Trace.{Trace}
use Rattle.edges.specs.KeptRows.{KeptRows}
use Rattle.night.specs.FilledReads.{filled_reads}
use Rattle.night.specs.Block.{BLOCK}
use Rattle.night.specs.inner.RunsJudged.{JudgedAs, BlockPut}
use Rattle.night.proofs.FilledReads.{seen-well, kept-rows-seen}
use Rattle.night.proofs.Many.{part_small, block-part, block-put}
use Rattle.night.proofs.runs.put_run.Goals.{After-put_verdict, After-seen-u, Start}
use Rattle.night.proofs.runs.put_run.Goals as goal

-- the reads of the run lie within the lent memory
reach : (s : Start) → s.args.i * s.args.loads + s.args.loads ≤ length s.args.out.now
reach s =
    let few : s.args.loads ≤ BLOCK = omega (arith, s.requires.3) in
    omega (arith, mul-le-mul_left s.args.i few, s.requires.4)

-- a part that is lent is as long as a run's
same : (i n : ℕ) → i * n + n - i * n ≡ n
same i n = omega arith

pub overflow_mul-from : goal.overflow_mul-from
overflow_mul-from c = omega (arith, reach (goal.at.overflow_mul-from c).Start)

pub overflow_add-to : goal.overflow_add-to
overflow_add-to c = omega (arith, reach (goal.at.overflow_add-to c).Start)

pub offset_bounds-out-from : goal.offset_bounds-out-from
offset_bounds-out-from c = omega (arith, reach (goal.at.offset_bounds-out-from c).Start)

pub slice_bounds-seen-count : goal.slice_bounds-seen-count
slice_bounds-seen-count c = omega (arith, reach (goal.at.slice_bounds-seen-count c).Start)

pub overflow_mul-start : goal.overflow_mul-start
overflow_mul-start c = omega (arith, c.requires.4)

pub overflow_add-end : goal.overflow_add-end
overflow_add-end c = omega (arith, c.requires.4)

pub offset_bounds-out-start : goal.offset_bounds-out-start
offset_bounds-out-start c = omega (arith, c.requires.4)

pub slice_bounds-put_verdict-count : goal.slice_bounds-put_verdict-count
slice_bounds-put_verdict-count c = omega (arith, c.requires.4)

-- the program with these reads is well formed
well : (g : After-seen-u) → So (well_formed g.seen-u.result)
well g =
    let small : (j : ℕ) → get_or g.args.out.now j 0 < VALUES = λ j. omega (arith, g.slice_known-1.given j) in
    subst (λ (u : Trace). So (well_formed u)) (sym (g.seen-u.ensures ∙ ap (λ (z : ℕ). filled_reads g.args.t (take z (drop (g.args.i * g.args.loads) g.args.out.now))) (same g.args.i g.args.loads))) (seen-well g.args.t (take g.args.loads (drop (g.args.i * g.args.loads) g.args.out.now)) (part_small g.args.out.now small (g.args.i * g.args.loads) g.args.loads) g.requires.0)

pub put_verdict-requires : goal.put_verdict-requires
put_verdict-requires c = (well (goal.at.put_verdict-requires c).After-seen-u, c.requires.1, subst (λ (u : Trace). KeptRows u c.args.model c.args.kept.now) (sym (c.seen-u.ensures ∙ ap (λ (z : ℕ). filled_reads c.args.t (take z (drop (c.args.i * c.args.loads) c.args.out.now))) (same c.args.i c.args.loads))) (kept-rows-seen c.args.t (take c.args.loads (drop (c.args.i * c.args.loads) c.args.out.now)) c.args.model c.args.kept.now c.requires.2), block-part c.args.out.now c.args.i _ (same c.args.i BLOCK) c.requires.4)

-- so the block is put
put : (p : After-put_verdict) → let i = p.args.i in let b = p.put_verdict.new.out in
    BlockPut p.args.t p.args.model p.args.loads p.args.out.now (take (i * BLOCK) p.args.out.now ++ (b ++ drop (i * BLOCK + BLOCK - i * BLOCK) (drop (i * BLOCK) p.args.out.now))) i
put p =
    block-put p.args.t p.args.model p.args.loads p.args.out.now p.put_verdict.new.out p.args.i _ p.requires.4 p.put_verdict.ensures.0 (same p.args.i BLOCK)
    (subst (λ (u : Trace). JudgedAs u p.args.model p.put_verdict.new.out) (p.seen-u.ensures ∙ ap (λ (z : ℕ). filled_reads p.args.t (take z (drop (p.args.i * p.args.loads) p.args.out.now))) (same p.args.i p.args.loads)) p.put_verdict.ensures.1)

pub shape_of-out : goal.shape_of-out
shape_of-out c = (put (goal.at.shape_of-out c).After-put_verdict).long

pub returns : goal.returns
returns c = put (goal.at.returns c).After-put_verdict
