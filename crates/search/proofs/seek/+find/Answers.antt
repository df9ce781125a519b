-- `search::seek::find`: what falls is the number of places left. The loop's invariant: what is below y is tried, the memory is right, and y is left
-- to place or past the last.
use mathlib.Core.Path.{◌≡◌, refl, sym, ◌∙◌}
use mathlib.Core.Bool.{false≢true}
use Prim.Native.Nat.{◌<◌}
use native.Mathlib.Omega.{arith}
use lib.Dec.{eqb}
use lib.ListN.{length, length-set}
use Rattle.laws.proofs.Tests.{off, and-iff, same-iff, so-lt, so-eq}
use Rattle.search.specs.inner.SearchTables.{tables}
use Rattle.rows.specs.inner.Sets.{More}
use Rattle.rows.proofs.Sets.{put-more}
use Rattle.search.proofs.Candidates.{next-on, next-at, in_left, readied, unready-on}
use Rattle.search.proofs.SearchBelow.{unfound, sought-as, sought-full, sought-dead, trying-none, trying-skip, trying-next, found_below, stopped, all-tried}
use Rattle.search.proofs.seek.+find.Goals.{else-ready, then-ready+else-below-eq0+else-stops}
use Rattle.search.proofs.seek.+find.Goals as goal

pub returns-then-k-list : goal.returns-then-k-list
returns-then-k-list t c = let a = c.args in
    let T = tables (length a.sources.now) (length a.list.now) a.operations.now a.before.now a.writers.now a.readers.now a.sources.now in
    sought-full T a.list.now a.k a.placed.now a.dead.now c.requires c.if-k-list.true

pub known-requires : goal.known-requires
known-requires t c = c.requires.memory

pub shape_of-dead-then-k-known : goal.shape_of-dead-then-k-known
shape_of-dead-then-k-known t c = refl

pub returns-then-k-known : goal.returns-then-k-known
returns-then-k-known t c = let a = c.args in
    let T = tables (length a.sources.now) (length a.list.now) a.operations.now a.before.now a.writers.now a.readers.now a.sources.now in
    let both = (and-iff (so-lt {m = 0} {n = a.k}) (same-iff {a = c.known.result})).0 c.if-k-known.true in
    sought-dead T a.list.now a.k a.placed.now a.dead.now c.requires both.0 (c.known.ensures both.1)

pub loop-y-init : goal.loop-y-init
loop-y-init t c = let a = c.args in
    let T = tables (length a.sources.now) (length a.list.now) a.operations.now a.before.now a.writers.now a.readers.now a.sources.now in (
      trying-skip T a.list.now a.k a.placed.now a.dead.now c.requires 0 _ _ _ (trying-none T a.list.now a.k a.placed.now a.dead.now c.requires) _ (λ x _ h r. c.next-y.ensures.skips x (omega arith) h (in_left c.rest-left.ensures x r)),
      omega arith,
      next-at _ 0 _ c.next-y.ensures,
    )

pub ready-requires : goal.ready-requires
ready-requires t c = c.requires.records

pub overflow_cast-list : goal.overflow_cast-list
overflow_cast-list t c = omega (arith, c.requires.records)

pub offset_bounds-list-k : goal.offset_bounds-list-k
offset_bounds-list-k t c = omega (arith, c.requires.left, c.loop-y.invariant.0.listed, c.if-k-list.false)

pub bounds-list-k : goal.bounds-list-k
bounds-list-k t c = omega (arith, c.requires.left, c.loop-y.invariant.0.listed, c.if-k-list.false)

pub join-next-requires : goal.join-next-requires
join-next-requires t c = (omega (arith, c.requires.records), c.requires.set)

pub overflow_add-k : goal.overflow_add-k
overflow_add-k t c = omega (arith, c.requires.left, c.if-k-list.false, c.well_formed.1.1.1.1.1.0.0)

pub find-below-requires : goal.find-below-requires
find-below-requires t c = let a = c.args in
    let l = c.loop-y in
    let r = c.requires in
    let e = length-set l.list a.k l.y in
    let space : a.k < length a.list.now = omega (arith, r.left, c.if-k-list.false) in (
      omega (arith, e, l.invariant.0.listed, c.decreases),
      record {
        records = r.records;
        sources = r.sources;
        places = omega arith;
        left = omega (arith, e, l.invariant.0.listed);
        set = c.join-next.ensures.long;
        memory = l.invariant.0.memory ∙ r.memory;
      },
    )

pub shape_of-list-then-below-eq0 : goal.shape_of-list-then-below-eq0
shape_of-list-then-below-eq0 t c = c.find-below.auto.list ∙ length-set c.loop-y.list c.args.k c.loop-y.y ∙ c.loop-y.invariant.0.listed

pub shape_of-dead-then-below-eq0 : goal.shape_of-dead-then-below-eq0
shape_of-dead-then-below-eq0 t c = c.find-below.auto.dead ∙ c.loop-y.invariant.0.memory

pub returns-then-below-eq0 : goal.returns-then-below-eq0
returns-then-below-eq0 t c = let a = c.args in
    let T = tables (length a.sources.now) (length a.list.now) a.operations.now a.before.now a.writers.now a.readers.now a.sources.now in
    let l = c.loop-y in
    let space : a.k < length a.list.now = omega (arith, c.requires.left, c.if-k-list.false) in
    let ready = readied l.y (omega (arith, c.loop-y-test.true, c.requires.records)) c.rest-left.ensures (c.ready.ensures.0 c.if-ready.true) l.invariant.2 in
    found_below T a.list.now a.k a.placed.now a.dead.now c.requires l.y l.failed l.list l.dead l.invariant.0 ready space c.join-next.result c.find-below.new.list c.find-below.new.dead c.join-next.ensures (eqb c.find-below.result 0) (sought-as (length a.sources.now) _ _ a.operations.now a.before.now a.writers.now a.readers.now a.sources.now (length-set l.list a.k l.y ∙ l.invariant.0.listed) c.find-below.ensures) (c.find-below.auto.list ∙ length-set l.list a.k l.y) c.find-below.auto.dead (so-eq.1 c.if-below-eq0.true)

pub slice_bounds-put-end : goal.slice_bounds-put-end
slice_bounds-put-end t c = sym c.loop-y.invariant.0.set

pub stops-requires : goal.stops-requires
stops-requires t c = c.requires.records

pub note-requires : goal.note-requires
note-requires t c = (c.find-below.auto.dead ∙ c.loop-y.invariant.0.memory ∙ c.requires.memory, c.requires.set)

pub shape_of-list-then-stops : goal.shape_of-list-then-stops
shape_of-list-then-stops t c = c.find-below.auto.list ∙ length-set c.loop-y.list c.args.k c.loop-y.y ∙ c.loop-y.invariant.0.listed

pub shape_of-dead-then-stops : goal.shape_of-dead-then-stops
shape_of-dead-then-stops t c = c.note.ensures.long ∙ c.find-below.auto.dead ∙ c.loop-y.invariant.0.memory

pub returns-then-stops : goal.returns-then-stops
returns-then-stops t c = let a = c.args in
    let T = tables (length a.sources.now) (length a.list.now) a.operations.now a.before.now a.writers.now a.readers.now a.sources.now in
    let l = c.loop-y in
    let space : a.k < length a.list.now = omega (arith, c.requires.left, c.if-k-list.false) in
    let ready = readied l.y (omega (arith, c.loop-y-test.true, c.requires.records)) c.rest-left.ensures (c.ready.ensures.0 c.if-ready.true) l.invariant.2 in
    let more : More l.failed l.y c.put.new.rows = rw c.put.ensures (put-more l.failed l.y l.invariant.0.set (omega (arith, c.requires.records, c.loop-y-test.true))) in
    unfound _ c.more-cost.ensures (stopped T a.list.now a.k a.placed.now a.dead.now c.requires l.y l.failed l.list l.dead l.invariant.0 ready space c.join-next.result c.find-below.new.list c.find-below.new.dead c.join-next.ensures (eqb c.find-below.result 0) (sought-as (length a.sources.now) _ _ a.operations.now a.before.now a.writers.now a.readers.now a.sources.now (length-set l.list a.k l.y ∙ l.invariant.0.listed) c.find-below.ensures) (c.find-below.auto.list ∙ length-set l.list a.k l.y) c.find-below.auto.dead (off {b = eqb c.find-below.result 0} (λ q. c.if-below-eq0.false (so-eq.0 q))) c.put.new.rows more (c.stops.ensures c.if-stops.true) _ c.note.ensures)

pub overflow_add-y : goal.overflow_add-y
overflow_add-y t c = omega (arith, c.loop-y-test.true, c.requires.records)

pub loop-y-smaller : goal.loop-y-smaller
loop-y-smaller t c = omega (arith, next-on _ c.loop-y.y _ c.next-y-in-loop-y.ensures (omega (arith, c.loop-y-test.true, c.requires.records)))

pub loop-y-preserved : goal.loop-y-preserved
loop-y-preserved t c = let a = c.args in
    let T = tables (length a.sources.now) (length a.list.now) a.operations.now a.before.now a.writers.now a.readers.now a.sources.now in
    let l = c.loop-y in
    let further = c.next-y-in-loop-y.ensures in
    (elim c.if-ready.branch [
      | then-ready+else-below-eq0+else-stops w ↦ let space : a.k < length a.list.now = omega (arith, c.requires.left, c.if-k-list.false) in
          let ready = readied l.y (omega (arith, c.loop-y-test.true, c.requires.records)) c.rest-left.ensures (c.ready.ensures.0 w.if-ready.true) l.invariant.2 in
          let e₁ : c.if-ready.list ≡ w.find-below.new.list = w.list-is in
          let e₂ : c.if-ready.dead ≡ w.find-below.new.dead = w.dead-is in
          let e₃ : c.if-ready.failed ≡ w.put.new.rows = w.failed-is in
          let e₄ : c.if-ready.cost ≡ w.more-cost.result = w.cost-is in
          let more : More l.failed l.y w.put.new.rows = rw w.put.ensures (put-more l.failed l.y l.invariant.0.set (omega (arith, c.requires.records, c.loop-y-test.true))) in (
            rw (e₁, e₂, e₃)
                (trying-skip T a.list.now a.k a.placed.now a.dead.now c.requires _ _ _ _ (trying-next T a.list.now a.k a.placed.now a.dead.now c.requires l.y l.failed l.list l.dead l.invariant.0 ready space w.join-next.result w.find-below.new.list w.find-below.new.dead w.join-next.ensures (eqb w.find-below.result 0) (sought-as (length a.sources.now) _ _ a.operations.now a.before.now a.writers.now a.readers.now a.sources.now (length-set l.list a.k l.y ∙ l.invariant.0.listed) w.find-below.ensures) (w.find-below.auto.list ∙ length-set l.list a.k l.y) w.find-below.auto.dead (off {b = eqb w.find-below.result 0} (λ q. w.if-below-eq0.false (so-eq.0 q))) w.put.new.rows more) _ (λ x m h r. further.skips x m h (in_left c.rest-left.ensures x r))),
            rw e₄ w.more-cost.ensures,
            next-at _ _ _ further,
          )
      | else-ready w ↦ let e₁ : c.if-ready.list ≡ l.list = w.list-is in
          let e₂ : c.if-ready.dead ≡ l.dead = w.dead-is in
          let e₃ : c.if-ready.failed ≡ l.failed = w.failed-is in
          let e₄ : c.if-ready.cost ≡ l.cost = w.cost-is in (
            rw (e₁, e₂, e₃)
                (trying-skip T a.list.now a.k a.placed.now a.dead.now c.requires l.y l.failed l.list l.dead l.invariant.0 _ (unready-on l.y _ (λ r. false≢true (sym w.if-ready.false ∙ c.ready.ensures.1 r.free)) (λ x m h r. further.skips x m h (in_left c.rest-left.ensures x r)))),
            rw e₄ l.invariant.1,
            next-at _ _ _ further,
          )
    ])

pub note-requires-2 : goal.note-requires-2
note-requires-2 t c = (c.loop-y.invariant.0.memory ∙ c.requires.memory, c.requires.set)

pub shape_of-list : goal.shape_of-list
shape_of-list t c = c.loop-y.invariant.0.listed

pub shape_of-dead : goal.shape_of-dead
shape_of-dead t c = c.note-2.ensures.long ∙ c.loop-y.invariant.0.memory

pub returns : goal.returns
returns t c = let a = c.args in
    let T = tables (length a.sources.now) (length a.list.now) a.operations.now a.before.now a.writers.now a.readers.now a.sources.now in
    let l = c.loop-y in
    unfound _ l.invariant.1 (all-tried T a.list.now a.k a.placed.now a.dead.now c.requires l.y l.failed l.list l.dead l.invariant.0 (omega (arith, c.loop-y-test.false)) (omega (arith, c.requires.left, c.if-k-list.false)) _ c.note-2.ensures)
