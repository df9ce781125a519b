-- Whom a load or swap reads from.
--
--   reads_from a b v == the record b reads what the record a wrote, and not the first value v of its address
--   source_of f L    == the lowest record that is L's source, and RECORDS where none is; in a good frame there is one at the most
use Rattle.std.specs.Prelude.{Bool, not, ◌&&◌, ℕ, eqb}
use Rattle.std.proofs.Math.Option.{none, some}
use Rattle.laws.specs.Lowest.{lowest}
use Rattle.trace.specs.Bounds.{RECORDS}
use Rattle.trace.specs.Op.{address, read, written, reads, writes}
use Rattle.rules.specs.Frame.{Frame}
use Rattle.trace.specs.declared.Op.{Op}
use Rattle.rules.specs.RuleTests.{source?}

unfoldable pub reads_from : Op → Op → ℕ → Bool
reads_from a b v = writes a && eqb (address a) (address b) && reads b && eqb (read b) (written a) && not (eqb (read b) v)

unfoldable pub source_of : Frame → ℕ → ℕ
source_of f L = elim (lowest (λ S. source? f S L) RECORDS 0) [ some S ↦ S | none ↦ RECORDS ]
