-- `search::first::look`: the tables are laid, and the search begins with nothing placed.
use mathlib.Core.Path.{refl}
use Prim.Native.Nat.{ℕ, ◌-◌, ◌*◌}
use native.Mathlib.Omega.{arith}
use lib.ListN.{length-replicate}
use lib.Seq.{length-take-le}
use Rattle.pairs.proofs.ValidOrders.{well-fits}
use Rattle.rows.specs.Bounds.{WORDS}
use Rattle.search.proofs.FirstOrder.{looked}
use Rattle.search.specs.inner.Bounds.{SLOTS}
use Rattle.search.proofs.first.look.Goals as goal

pub lay-requires : goal.lay-requires
lay-requires c = (well-fits c.args.t c.requires.0, refl, refl, refl)

pub find-requires : goal.find-requires
find-requires c = let a = c.args in
    let fits = well-fits a.t c.requires.0 in
    record {
      records = omega (arith, fits, length-take-le (a.t.len - 0) a.sources.now (omega (arith, fits, c.requires.3.long)));
      sources = omega arith;
      places = omega arith;
      left = omega arith;
      set = refl;
      memory = length-replicate {A = ℕ} (SLOTS * WORDS) 0;
    }

pub slice_bounds-sources-end : goal.slice_bounds-sources-end
slice_bounds-sources-end c = omega (arith, well-fits c.args.t c.requires.0, c.requires.3.long)

pub returns : goal.returns
returns c = let a = c.args in
    let l = c.lay.ensures in
    looked a.t c.requires.0 a.held.now a.operations.now a.list.now a.total _ _ _ a.sources.now _ _ _ _ c.requires.2 c.requires.1 l.filled l.filled_2 l.filled_3 c.requires.3 (a.t.len - 0) (omega arith) refl (a.total - 0) (omega arith) c.find.ensures c.find.auto.list
