-- `smaller::part::lay_goes`: the sources of the loads below `load` are laid, and then chained.
use mathlib.Core.Path.{sym, ap, ◌∙◌, subst}
use Rattle.rows.specs.Empty.{empty_of}
use Rattle.rows.specs.Put.{put_if}
use Rattle.pairs.proofs.ValidOrders.{well-fits}
use mathlib.Core.Bool.{Bool}
use Prim.Native.Nat.{ℕ, ◌+◌}
use native.Mathlib.Omega.{arith}
use Rattle.trace.specs.Op.{writes}
use Rattle.trace.specs.Trace.{at}
use Rattle.trace.specs.declared.Op.{Op}
use Rattle.trace.specs.Meaning.{frame_of}
use Rattle.trace.proofs.Good.{good}
use Rattle.smaller.proofs.RecordSets.{Lays, lays-none, lays_more, lays-chains, put-source}
use Rattle.smaller.proofs.part.lay_goes.Goals as goal

pub loop-load-init : goal.loop-load-init
loop-load-init c = (omega arith, λ w. lays-none (frame_of c.args.t) (good c.args.t w) _ (c.clear.ensures ∙ ap empty_of c.requires.1))

pub loop-load-preserved : goal.loop-load-preserved
unfolding frame_of
loop-load-preserved c = let p = c.put_if in
    let k = c.takes_readers in
    let a = c.op_at in
    let o = c.source_of-source in
    let l = c.loop-load in
    let f = frame_of c.args.t in
    let asked = k.ensures ∙ ap (λ (x : Op). writes x) a.ensures in
    let same = ap (λ (w : Bool). put_if l.goes w o.result l.load) asked ∙ ap (λ (x : ℕ). put_if l.goes (writes (at c.args.t x)) x l.load) o.ensures ∙ put-source c.args.t l.load l.goes in (
      omega arith,
      λ w. subst (Lays f (good c.args.t w) (l.load + 1)) (sym (p.ensures ∙ same))
          (lays_more f (good c.args.t w) (well-fits c.args.t w) l.load (omega arith) l.goes (l.invariant.1 w)),
    )

pub shape_of-goes : goal.shape_of-goes
shape_of-goes c = let l = c.loop-load in
    c.chains.ensures.long ∙ (l.invariant.1 c.requires.0).long ∙ sym c.requires.1

pub returns : goal.returns
unfolding frame_of
returns c = let l = c.loop-load in
    lays-chains (frame_of c.args.t) (good c.args.t c.requires.0) l.load (omega arith) l.goes _ (l.invariant.1 c.requires.0) c.chains.ensures
