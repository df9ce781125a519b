-- `listing::paper`: what falls is the number of splits left.
use mathlib.Core.Path.{◌≡◌, refl, ◌∙◌, subst⁻¹}
use mathlib.Core.List.{List}
use Prim.Native.Nat.{◌+◌, ◌-◌}
use native.Mathlib.Omega.{arith}
use lib.ListN.{length, set, length-set}
use Rattle.trace.specs.Meaning.{frame_of}
use Rattle.pairs.specs.Kept.{kept_of}
use Rattle.papers.specs.Paper.{BRANCH, Entry, named, spell}
use Rattle.papers.specs.inner.ReaderBranch.{branch_of}
use Rattle.papers.proofs.Branches.{branch-long}
use Rattle.reasons.specs.Writing.{paper_of}
use Rattle.reasons.specs.inner.PutKept.{PutKept}
use Rattle.reasons.proofs.Laying.{put-at}
use Rattle.reasons.proofs.Closed.{numbered}
use Rattle.reasons.proofs.Lists.{here-supposed, circle-here, split-here, closed-fair, paper-closed, split-over, first-over, sides-laid, side-joins, side-closes, side-list, kept_at, kept-front}
use Prim.Native.Nat.{◌<◌}
use Rattle.reasons.proofs.listing.+paper.Goals as goal

pub draw-requires : goal.draw-requires
draw-requires t c =
    let pre = c.requires.lengths in
    (omega (arith, pre.4, pre.6), omega (arith, pre.5, pre.6), pre.3)

pub next_of-requires : goal.next_of-requires
next_of-requires t c =
    let pre = c.requires.lengths in
    let d = c.draw in
    (pre.0, pre.1, d.ensures.0, pre.2)

pub leaf-requires : goal.leaf-requires
leaf-requires t c =
    let a = c.args in
    let pre = c.requires.lengths in
    let d = c.draw in
    let u = c.next_of in
    let c₀ = circle-here a.t pre.0 a.model a.m a.count a.from.now a.to.now d.new.supposed c.requires.closable.0 d.ensures u.result u.ensures c.in_default.is in
    (pre.0, pre.1, here-supposed a.t pre.0 a.model a.m a.count a.from.now a.to.now d.new.supposed c.requires.closable.0 d.ensures u.result u.ensures, c₀, closed-fair a.t pre.0 a.model c.requires.closable.1 c₀, pre.7, pre.4, pre.5)

pub returns-in_default : goal.returns-in_default
returns-in_default t c =
    let a = c.args in
    let pre = c.requires.lengths in
    let E = branch_of a.from.now a.to.now a.count in
    let d = c.draw in
    let u = c.next_of in
    let c₀ = circle-here a.t pre.0 a.model a.m a.count a.from.now a.to.now d.new.supposed c.requires.closable.0 d.ensures u.result u.ensures c.in_default.is in
    let v = c.leaf in
    subst⁻¹ (λ (es : List Entry). PutKept a.limit a.from.now a.to.now a.count a.out.now a.at (spell es) v.new.from v.new.to v.new.out v.result) (paper-closed a.t pre.0 a.model a.m E c₀) v.ensures

pub overflow_cast-a : goal.overflow_cast-a
overflow_cast-a t c =
    let a = c.args in
    let pre = c.requires.lengths in
    let d = c.draw in
    let u = c.next_of in
    let sp = split-here a.t pre.0 a.model a.m a.count a.from.now a.to.now d.new.supposed c.requires.closable.0 d.ensures u.result u.ensures _ _ c.in-Split.is c.requires.closable.1 in
    omega (arith, numbered a.t pre.0 _ sp.operations.0)

pub overflow_cast-b : goal.overflow_cast-b
overflow_cast-b t c =
    let a = c.args in
    let pre = c.requires.lengths in
    let d = c.draw in
    let u = c.next_of in
    let sp = split-here a.t pre.0 a.model a.m a.count a.from.now a.to.now d.new.supposed c.requires.closable.0 d.ensures u.result u.ensures _ _ c.in-Split.is c.requires.closable.1 in
    omega (arith, numbered a.t pre.0 _ sp.operations.1)

pub returns-in_err-p : goal.returns-in_err-p
returns-in_err-p t c =
    let a = c.args in
    let pre = c.requires.lengths in
    let E = branch_of a.from.now a.to.now a.count in
    let f = frame_of a.t in
    let K = kept_of a.model a.t in
    let d = c.draw in
    let u = c.next_of in
    let sp = split-here a.t pre.0 a.model a.m a.count a.from.now a.to.now d.new.supposed c.requires.closable.0 d.ensures u.result u.ensures _ _ c.in-Split.is c.requires.closable.1 in
    let h = c.lay_split in
    let es = paper_of f K (a.m - 1) (named E c.in-Split.x c.in-Split.y) in
    let fs = paper_of f K (a.m - 1) (named E c.in-Split.y c.in-Split.x) in
    rw c.from_residual.ensures (subst⁻¹ (λ (l : List Entry). a.limit < a.at + length (spell l)) sp.list
    (split-over a.limit a.out.now a.at c.in-Split.x c.in-Split.y es fs a.out.now (put-at _ _ _ _ _ _ _ h.ensures c.in_err-p.was)))

pub bounds-from-count : goal.bounds-from-count
bounds-from-count t c =
    let a = c.args in
    let pre = c.requires.lengths in
    let d = c.draw in
    let u = c.next_of in
    let sp = split-here a.t pre.0 a.model a.m a.count a.from.now a.to.now d.new.supposed c.requires.closable.0 d.ensures u.result u.ensures _ _ c.in-Split.is c.requires.closable.1 in
    let room : a.count < BRANCH = omega (arith, sp.room, branch-long a.from.now a.to.now a.count) in
    omega (arith, room, pre.4)

pub bounds-to-count : goal.bounds-to-count
bounds-to-count t c =
    let a = c.args in
    let pre = c.requires.lengths in
    let d = c.draw in
    let u = c.next_of in
    let sp = split-here a.t pre.0 a.model a.m a.count a.from.now a.to.now d.new.supposed c.requires.closable.0 d.ensures u.result u.ensures _ _ c.in-Split.is c.requires.closable.1 in
    let room : a.count < BRANCH = omega (arith, sp.room, branch-long a.from.now a.to.now a.count) in
    omega (arith, room, pre.5)

pub overflow_sub-m : goal.overflow_sub-m
overflow_sub-m t c =
    let a = c.args in
    let pre = c.requires.lengths in
    let d = c.draw in
    let u = c.next_of in
    let sp = split-here a.t pre.0 a.model a.m a.count a.from.now a.to.now d.new.supposed c.requires.closable.0 d.ensures u.result u.ensures _ _ c.in-Split.is c.requires.closable.1 in
    omega (arith, sp.fuel)

pub paper-requires : goal.paper-requires
paper-requires t c =
    let a = c.args in
    let pre = c.requires.lengths in
    let E = branch_of a.from.now a.to.now a.count in
    let d = c.draw in
    let u = c.next_of in
    let sp = split-here a.t pre.0 a.model a.m a.count a.from.now a.to.now d.new.supposed c.requires.closable.0 d.ensures u.result u.ensures _ _ c.in-Split.is c.requires.closable.1 in
    let h = c.lay_split in
    let room : a.count < BRANCH = omega (arith, sp.room, branch-long a.from.now a.to.now a.count) in
    let pl = put-at _ _ _ _ _ _ _ h.ensures c.in_ok-p.was in
    let lf : a.count < length a.from.now = omega (arith, room, pre.4) in
    let lt : a.count < length a.to.now = omega (arith, room, pre.5) in (
      omega (arith, c.decreases, sp.fuel),
      (
        (pre.0, pre.1, pre.2, d.ensures.0, length-set a.from.now a.count c.in-Split.x ∙ pre.4, length-set a.to.now a.count c.in-Split.y ∙ pre.5, omega arith, pl.1),
        (
          side-joins a.t pre.0 a.model (a.m - 1) E a.from.now a.to.now a.count c.in-Split.x c.in-Split.y refl lf lt c.requires.closable.0 sp.operations.0 sp.operations.1,
          side-closes a.t pre.0 a.model (a.m - 1) E a.from.now a.to.now a.count c.in-Split.x c.in-Split.y refl lf lt sp.first,
        ),
      ),
    )

pub returns-in_err-q : goal.returns-in_err-q
returns-in_err-q t c =
    let a = c.args in
    let pre = c.requires.lengths in
    let E = branch_of a.from.now a.to.now a.count in
    let f = frame_of a.t in
    let K = kept_of a.model a.t in
    let d = c.draw in
    let u = c.next_of in
    let sp = split-here a.t pre.0 a.model a.m a.count a.from.now a.to.now d.new.supposed c.requires.closable.0 d.ensures u.result u.ensures _ _ c.in-Split.is c.requires.closable.1 in
    let h = c.lay_split in
    let room : a.count < BRANCH = omega (arith, sp.room, branch-long a.from.now a.to.now a.count) in
    let pl = put-at _ _ _ _ _ _ _ h.ensures c.in_ok-p.was in
    let es = paper_of f K (a.m - 1) (named E c.in-Split.x c.in-Split.y) in
    let fs = paper_of f K (a.m - 1) (named E c.in-Split.y c.in-Split.x) in
    let lf : a.count < length a.from.now = omega (arith, room, pre.4) in
    let lt : a.count < length a.to.now = omega (arith, room, pre.5) in
    let v = c.paper in
    let from₁ = v.new.from in
    let to₁ = v.new.to in
    let out₂ = v.new.out in
    let done = side-list a.t pre.0 a.model (a.m - 1) E a.from.now a.to.now a.count c.in-Split.x c.in-Split.y refl lf lt a.limit h.new.out c.in_ok-p.p from₁ to₁ out₂ v.result v.ensures in
    let over = kept_at _ _ _ _ _ _ _ _ _ _ _ _ done c.in_err-q.was in
    rw c.from_residual-in_err-q.ensures (subst⁻¹ (λ (l : List Entry). a.limit < a.at + length (spell l)) sp.list (first-over a.limit a.out.now a.at c.in-Split.x c.in-Split.y es fs h.new.out c.in_ok-p.p pl over))

pub bounds-from-count-2 : goal.bounds-from-count-2
bounds-from-count-2 t c =
    let a = c.args in
    let pre = c.requires.lengths in
    let d = c.draw in
    let u = c.next_of in
    let sp = split-here a.t pre.0 a.model a.m a.count a.from.now a.to.now d.new.supposed c.requires.closable.0 d.ensures u.result u.ensures _ _ c.in-Split.is c.requires.closable.1 in
    let room : a.count < BRANCH = omega (arith, sp.room, branch-long a.from.now a.to.now a.count) in
    let v = c.paper in
    omega (arith, room, pre.4, v.auto.from, length-set a.from.now a.count c.in-Split.x)

pub bounds-to-count-2 : goal.bounds-to-count-2
bounds-to-count-2 t c =
    let a = c.args in
    let pre = c.requires.lengths in
    let d = c.draw in
    let u = c.next_of in
    let sp = split-here a.t pre.0 a.model a.m a.count a.from.now a.to.now d.new.supposed c.requires.closable.0 d.ensures u.result u.ensures _ _ c.in-Split.is c.requires.closable.1 in
    let room : a.count < BRANCH = omega (arith, sp.room, branch-long a.from.now a.to.now a.count) in
    let v = c.paper in
    omega (arith, room, pre.5, v.auto.to, length-set a.to.now a.count c.in-Split.y)

pub overflow_sub-m-2 : goal.overflow_sub-m-2
overflow_sub-m-2 t c =
    let a = c.args in
    let pre = c.requires.lengths in
    let d = c.draw in
    let u = c.next_of in
    let sp = split-here a.t pre.0 a.model a.m a.count a.from.now a.to.now d.new.supposed c.requires.closable.0 d.ensures u.result u.ensures _ _ c.in-Split.is c.requires.closable.1 in
    omega (arith, sp.fuel)

pub paper-requires-2 : goal.paper-requires-2
paper-requires-2 t c =
    let a = c.args in
    let pre = c.requires.lengths in
    let E = branch_of a.from.now a.to.now a.count in
    let d = c.draw in
    let u = c.next_of in
    let sp = split-here a.t pre.0 a.model a.m a.count a.from.now a.to.now d.new.supposed c.requires.closable.0 d.ensures u.result u.ensures _ _ c.in-Split.is c.requires.closable.1 in
    let h = c.lay_split in
    let room : a.count < BRANCH = omega (arith, sp.room, branch-long a.from.now a.to.now a.count) in
    let lf : a.count < length a.from.now = omega (arith, room, pre.4) in
    let lt : a.count < length a.to.now = omega (arith, room, pre.5) in
    let v = c.paper in
    let from₁ = v.new.from in
    let to₁ = v.new.to in
    let out₂ = v.new.out in
    let done = side-list a.t pre.0 a.model (a.m - 1) E a.from.now a.to.now a.count c.in-Split.x c.in-Split.y refl lf lt a.limit h.new.out c.in_ok-p.p from₁ to₁ out₂ v.result v.ensures in
    let kept = kept_at _ _ _ _ _ _ _ _ _ _ _ _ done c.in_ok-q.was in
    let front = kept-front a.from.now a.to.now a.count c.in-Split.x c.in-Split.y from₁ to₁ lf lt kept.3 in
    let long : length from₁ ≡ BRANCH = v.auto.from ∙ length-set a.from.now a.count c.in-Split.x ∙ pre.4 in
    let long' : length to₁ ≡ BRANCH = v.auto.to ∙ length-set a.to.now a.count c.in-Split.y ∙ pre.5 in
    let l₁ : a.count < length from₁ = omega (arith, room, long) in
    let l₂ : a.count < length to₁ = omega (arith, room, long') in (
      omega (arith, c.decreases, sp.fuel),
      (
        (pre.0, pre.1, pre.2, v.auto.supposed ∙ d.ensures.0, length-set from₁ a.count c.in-Split.y ∙ long, length-set to₁ a.count c.in-Split.x ∙ long', omega arith, kept.1),
        (
          side-joins a.t pre.0 a.model (a.m - 1) E from₁ to₁ a.count c.in-Split.y c.in-Split.x front l₁ l₂ c.requires.closable.0 sp.operations.1 sp.operations.0,
          side-closes a.t pre.0 a.model (a.m - 1) E from₁ to₁ a.count c.in-Split.y c.in-Split.x front l₁ l₂ sp.other,
        ),
      ),
    )

pub returns : goal.returns
returns t c =
    let a = c.args in
    let pre = c.requires.lengths in
    let E = branch_of a.from.now a.to.now a.count in
    let f = frame_of a.t in
    let K = kept_of a.model a.t in
    let d = c.draw in
    let u = c.next_of in
    let sp = split-here a.t pre.0 a.model a.m a.count a.from.now a.to.now d.new.supposed c.requires.closable.0 d.ensures u.result u.ensures _ _ c.in-Split.is c.requires.closable.1 in
    let h = c.lay_split in
    let room : a.count < BRANCH = omega (arith, sp.room, branch-long a.from.now a.to.now a.count) in
    let pl = put-at _ _ _ _ _ _ _ h.ensures c.in_ok-p.was in
    let es = paper_of f K (a.m - 1) (named E c.in-Split.x c.in-Split.y) in
    let fs = paper_of f K (a.m - 1) (named E c.in-Split.y c.in-Split.x) in
    let lf : a.count < length a.from.now = omega (arith, room, pre.4) in
    let lt : a.count < length a.to.now = omega (arith, room, pre.5) in
    let v = c.paper in
    let from₁ = v.new.from in
    let to₁ = v.new.to in
    let out₂ = v.new.out in
    let done = side-list a.t pre.0 a.model (a.m - 1) E a.from.now a.to.now a.count c.in-Split.x c.in-Split.y refl lf lt a.limit h.new.out c.in_ok-p.p from₁ to₁ out₂ v.result v.ensures in
    let kept = kept_at _ _ _ _ _ _ _ _ _ _ _ _ done c.in_ok-q.was in
    let front = kept-front a.from.now a.to.now a.count c.in-Split.x c.in-Split.y from₁ to₁ lf lt kept.3 in
    let long : length from₁ ≡ BRANCH = v.auto.from ∙ length-set a.from.now a.count c.in-Split.x ∙ pre.4 in
    let long' : length to₁ ≡ BRANCH = v.auto.to ∙ length-set a.to.now a.count c.in-Split.y ∙ pre.5 in
    let l₁ : a.count < length from₁ = omega (arith, room, long) in
    let l₂ : a.count < length to₁ = omega (arith, room, long') in
    let z = c.paper-2 in
    let from₂ = z.new.from in
    let to₂ = z.new.to in
    let out₃ = z.new.out in
    let done₂ = side-list a.t pre.0 a.model (a.m - 1) E from₁ to₁ a.count c.in-Split.y c.in-Split.x front l₁ l₂ a.limit out₂ c.in_ok-q.q from₂ to₂ out₃ z.result z.ensures in
    subst⁻¹ (λ (l : List Entry). PutKept a.limit a.from.now a.to.now a.count a.out.now a.at (spell l) from₂ to₂ out₃ z.result) sp.list
    (sides-laid a.limit a.out.now a.at c.in-Split.x c.in-Split.y es fs h.new.out c.in_ok-p.p pl out₂ c.in_ok-q.q kept.0 kept.2 a.from.now a.to.now (set from₁ a.count c.in-Split.y) (set to₁ a.count c.in-Split.x) from₂ to₂ a.count (a.count + 1)
    (λ e. kept-front from₁ to₁ a.count c.in-Split.y c.in-Split.x from₂ to₂ l₁ l₂ e ∙ front) out₃ z.result done₂)
