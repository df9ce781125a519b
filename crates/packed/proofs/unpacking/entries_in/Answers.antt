-- `packed::unpacking::entries_in`: the records where the first values were read.
use mathlib.Core.Path.{sym, ap, ◌∙◌}
use Prim.Native.Nat.{◌+◌, ◌*◌}
use native.Mathlib.Omega.{arith}
use lib.ListN.{drop, replicate}
use Rattle.trace.specs.Bounds.{ADDRESSES}
use Rattle.packed.specs.Layout.{HEAD, FIRST}
use Rattle.packed.specs.FileRead.{then_records, read_entries}
use Rattle.packed.specs.declared.Answer.{Answer}
use Rattle.packed.specs.declared.Reading.{Reading}
use Rattle.packed.proofs.Framing.{firsts-bare}
use Rattle.packed.proofs.unpacking.entries_in.Goals as goal

pub records_in-requires : goal.records_in-requires
records_in-requires c =
    (omega arith, omega (arith, ap (λ (r : Reading). r.trace.len) c.firsts_in-opened.ensures, firsts-bare c.args.firsts 0 (replicate ADDRESSES 0) (drop HEAD c.args.bytes.now)))

pub returns-in-Good : goal.returns-in-Good
unfolding read_entries
returns-in-Good c =
    let a = c.args in
    let b = drop (HEAD + FIRST * a.firsts) a.bytes.now in
    c.records_in.ensures
    ∙ ap (λ (x : Answer). then_records x c.firsts_in-opened.result b a.records) (sym c.in-Good.is)
    ∙ ap (λ (r : Reading). then_records r.answer r b a.records) c.firsts_in-opened.ensures

pub returns-in-Refused : goal.returns-in-Refused
unfolding read_entries
returns-in-Refused c =
    let a = c.args in
    let b = drop (HEAD + FIRST * a.firsts) a.bytes.now in
    ap (λ (x : Answer). then_records x c.firsts_in-opened.result b a.records) (sym c.in-Refused.is)
    ∙ ap (λ (r : Reading). then_records r.answer r b a.records) c.firsts_in-opened.ensures
