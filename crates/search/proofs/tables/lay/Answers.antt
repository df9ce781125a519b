-- `search::tables::lay`: the three relations, one after the other.
use mathlib.Core.Path.{refl}
use Rattle.search.proofs.Rowing.{filled_of}
use Rattle.search.proofs.TablesLaid.{filled}
use Rattle.search.proofs.tables.lay.Goals as goal

pub lay_addresses-requires : goal.lay_addresses-requires
lay_addresses-requires c = (c.requires.0, refl)

pub lay_writers-requires : goal.lay_writers-requires
lay_writers-requires c = (c.requires.0, c.requires.2, c.lay_addresses.ensures)

pub lay_addresses-requires-2 : goal.lay_addresses-requires-2
lay_addresses-requires-2 c = (c.requires.0, c.lay_addresses.ensures.long)

pub lay_readers-requires : goal.lay_readers-requires
lay_readers-requires c = (c.requires.0, c.requires.3, c.lay_addresses-2.ensures)

pub returns : goal.returns
returns c =
    record {
      filled = filled c.args.held.now c.args.t.len _ _ c.requires.1 c.turn.ensures;
      filled_2 = filled_of c.lay_writers.ensures;
      filled_3 = filled_of c.lay_readers.ensures;
    }
