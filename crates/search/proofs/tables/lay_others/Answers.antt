-- `search::tables::lay_others`: a row is taken, and y out of it.
use native.Mathlib.Omega.{arith}
use Rattle.search.proofs.Rowing.{rowed, rowed-as, own_out}
use Rattle.search.proofs.tables.lay_others.Goals as goal

pub shape_of-writers : goal.shape_of-writers
shape_of-writers c = let a = c.args in
    (rowed a.by.now (λ i. (c.type_inv.by i).fits) a.addr _ 0 a.y c.requires.0 a.writers.now _ _ (omega (arith, c.requires.0, c.requires.1)) c.add_row.ensures c.drop_row.ensures).long

pub returns : goal.returns
returns c = let a = c.args in
    rowed-as (own_out a.y c.requires.0 _ c.put.ensures) (rowed a.by.now (λ i. (c.type_inv.by i).fits) a.addr _ 0 a.y c.requires.0 a.writers.now _ _ (omega (arith, c.requires.0, c.requires.1)) c.add_row.ensures c.drop_row.ensures)
