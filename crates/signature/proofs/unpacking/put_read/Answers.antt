-- `signature::unpacking::put_read`: nothing for a record that does not read.
use mathlib.Core.Path.{sym, ◌∙◌}
use native.Mathlib.Omega.{arith}
use borrow.Author.Tests.{not-true, not-false}
use Rattle.signature.proofs.Putting.{read_no, read-yes}
use Rattle.signature.proofs.unpacking.put_read.Goals as goal

pub returns-then-not-reads : goal.returns-then-not-reads
returns-then-not-reads c = read_no c.args.t c.args.i c.args.k c.args.digit c.args.out.now (sym c.reads.ensures ∙ not-true _ c.if-not-reads.true-raw)

pub value_of-requires : goal.value_of-requires
value_of-requires c = (c.requires.fits, c.requires.here, c.requires.below, c.requires.laid, c.requires.small (sym c.reads.ensures ∙ not-false _ c.if-not-reads.false-raw))

pub bounds-out-k : goal.bounds-out-k
bounds-out-k c = omega (arith, c.requires.room (sym c.reads.ensures ∙ not-false _ c.if-not-reads.false-raw))

pub returns : goal.returns
returns c = read-yes c.args.t c.args.i c.args.k c.args.digit c.args.out.now (sym c.reads.ensures ∙ not-false _ c.if-not-reads.false-raw) c.value_of.result c.value_of.ensures
