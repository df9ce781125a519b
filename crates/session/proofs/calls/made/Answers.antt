-- `session::calls::made`: what is forced from the pairs of the stack, put together.
use mathlib.Core.Path.{subst}
use mathlib.Core.List.{List}
use Prim.Native.Nat.{ℕ}
use Rattle.edges.specs.ForcedPairs.{Forces}
use Rattle.session.proofs.Sessions.{made-afresh}
use Rattle.session.proofs.calls.made.Goals as goal

pub draw-requires : goal.draw-requires
draw-requires c = c.requires.1.room

pub returns : goal.returns
returns c = λ C.
    let f = subst (λ (rows : List ℕ). Forces c.args.t c.args.model rows c.forced-f.result) c.draw.ensures c.forced-f.ensures in
    made-afresh C c.args.t c.args.model c.requires.0 c.args.k c.requires.1 c.forced-f.result f
