use Prim.Native.Nat.{◌-◌}
use Rattle.counting.specs.inner.CountedWalk.{counting_tables, Going}
use Rattle.counting.proofs.walk.+count.Given as goal

abbrev pub decreases-count : goal.decreases-count
decreases-count l = l.total - l.k

abbrev pub invariant-loop-y : goal.invariant-loop-y
invariant-loop-y l = Going (counting_tables l.n l.total l.operations l.reads l.partners l.own l.fed l.rivals) l.initial.list l.k l.placed l.served l.left l.initial.sets l.initial.serves l.initial.counts l.y l.used l.list l.sets l.serves l.counts
