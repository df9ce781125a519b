-- `counting::steps::look`: the rows are laid, and the search begins with nothing placed.
use mathlib.Core.Path.{refl}
use Prim.Native.Nat.{ℕ, ◌-◌, ◌*◌}
use native.Mathlib.Omega.{arith}
use lib.ListN.{length-replicate}
use lib.Seq.{length-take-le}
use Rattle.rows.specs.Bounds.{WORDS}
use Rattle.pairs.proofs.ValidOrders.{well-fits}
use Rattle.counting.specs.inner.FailedLists.{LISTS}
use Rattle.counting.proofs.CountedAnswer.{sets-fit, looked}
use Rattle.counting.proofs.steps.look.Goals as goal

pub lay-requires : goal.lay-requires
lay-requires c =
    (well-fits c.args.t c.requires.0, refl, refl, refl, refl)

pub count-requires : goal.count-requires
count-requires c =
    let a = c.args in
    record {
      records = well-fits a.t c.requires.0;
      few = sets-fit a.t c.requires.0 _ _ _ _ c.requires.2;
      places = omega (arith, length-take-le (a.total - 0) a.list.now (omega (arith, c.requires.3)));
      left = omega arith;
      set = refl;
      reads = c.requires.2.first.long;
      slots = length-replicate {A = ℕ} (LISTS * WORDS) 0;
      slots' = length-replicate {A = ℕ} (LISTS * WORDS) 0;
      numbers = length-replicate {A = ℕ} LISTS 0;
    }

pub returns : goal.returns
returns c =
    let a = c.args in
    looked a.t c.requires.0 a.model c.requires.1 a.operations.now a.reads.now a.served.now a.list.now a.total a.limit _ _ _ _ _ _ _ _ _ c.requires.3 c.requires.2 c.lay.ensures
    (a.total - 0) (omega arith) c.count.ensures c.count.auto.list
