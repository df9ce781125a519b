-- A test program with the reads of a run in it.
--
--   read_as o v == the operation that read v instead; one that does not read stays as it is
--   fill_reads rs vs == the records whose loads and swaps take the reads one after the other
--   filled_reads t vs == the program with these reads
use Rattle.std.specs.Prelude.{cond, List, [], ◌∷◌, ℕ, get_or, drop}
use Rattle.trace.specs.Op.{reads}
use Rattle.trace.specs.declared.Op.{Op}
use Rattle.trace.specs.declared.Op.TheVariants.{Load, Store, Swap, Fence}
use Rattle.trace.specs.declared.Record.{Record}
use Rattle.trace.specs.declared.Trace.{Trace}

abbrev pub read_as : Op → ℕ → Op
read_as (Load t a r) v = Load t a v
read_as (Store t a w) v = Store t a w
read_as (Swap t a r w) v = Swap t a v w
read_as (Fence t) v = Fence t

-- past the last read comes 0
unfoldable pub fill_reads : List Record → List ℕ → List Record
fill_reads [] vs = []
fill_reads (r ∷ rs) vs = record { op = read_as r.op (get_or vs 0 0) } ∷ fill_reads rs (cond (reads r.op) (drop 1 vs) vs)

unfoldable pub filled_reads : Trace → List ℕ → Trace
filled_reads t vs = record { records = fill_reads t.records vs; len = t.len; firsts = t.firsts }
