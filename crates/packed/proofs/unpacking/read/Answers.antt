-- `packed::unpacking::read`: mark, version, length, number of records, then the entries.
use mathlib.Core.Path.{◌≡◌, sym, ap₂, ◌∙◌}
use native.Mathlib.Omega.{arith}
use lib.ListN.{get_or}
use Rattle.packed.specs.Layout.{two_in, size_of}
use Rattle.packed.specs.FileRead.{read_entries}
use Rattle.packed.proofs.Framing.{file-unmarked, file-version, file-size, file-many, file-entries}
use Rattle.packed.proofs.unpacking.read.Goals.{After-numbered-records}
use Rattle.packed.proofs.unpacking.read.Goals as goal

pub returns-then-not-marked : goal.returns-then-not-marked
returns-then-not-marked c =
    c.back.ensures ∙ sym (file-unmarked _ (sym c.marked.ensures ∙ c.if-not-marked.true))

pub returns-then-two_at-ne-VERSION : goal.returns-then-two_at-ne-VERSION
returns-then-two_at-ne-VERSION c =
    c.back-then-two_at-ne-VERSION.ensures ∙ sym (file-version _ (sym c.marked.ensures ∙ c.if-not-marked.false) (λ e. c.if-two_at-ne-VERSION.true (c.two_at.ensures ∙ e)))

pub returns-then-bytes-lt-HEAD : goal.returns-then-bytes-lt-HEAD
returns-then-bytes-lt-HEAD c =
    c.back-then-bytes-lt-HEAD.ensures
    ∙ sym (file-size _ (sym c.marked.ensures ∙ c.if-not-marked.false) (sym c.two_at.ensures ∙ c.if-two_at-ne-VERSION.false) (λ e. let h = c.if-bytes-lt-HEAD.true in omega (arith, e)))

-- how many bytes the head says
size : (c : After-numbered-records) → let b = c.args.bytes.now in
    size_of c.counted-firsts.result c.numbered-records.result ≡ size_of (get_or b 5 0) (two_in b 6)
size c = ap₂ size_of c.counted-firsts.ensures.0 (c.numbered-records.ensures.0 ∙ c.two_at-2.ensures)

pub returns-then-bytes-firsts : goal.returns-then-bytes-firsts
returns-then-bytes-firsts c =
    c.back-then-bytes-firsts.ensures
    ∙ sym (file-size _ (sym c.marked.ensures ∙ c.if-not-marked.false) (sym c.two_at.ensures ∙ c.if-two_at-ne-VERSION.false) (λ e. c.if-bytes-firsts.true (e ∙ sym (size (goal.at.returns-then-bytes-firsts c).After-numbered-records))))

pub returns-then-records-gt-RECORDS : goal.returns-then-records-gt-RECORDS
returns-then-records-gt-RECORDS c =
    let r = c.numbered-records.ensures.0 ∙ c.two_at-2.ensures in
    c.back-then-records-gt-RECORDS.ensures
    ∙ sym (file-many _ (sym c.marked.ensures ∙ c.if-not-marked.false) (sym c.two_at.ensures ∙ c.if-two_at-ne-VERSION.false) (c.if-bytes-firsts.false ∙ size (goal.at.returns-then-records-gt-RECORDS c).After-numbered-records) (let h = c.if-records-gt-RECORDS.true in omega (arith, r)))

pub returns : goal.returns
returns c =
    let b = c.args.bytes.now in
    let r = c.numbered-records.ensures.0 ∙ c.two_at-2.ensures in
    c.entries_in.ensures
    ∙ ap₂ (read_entries b) c.counted-firsts.ensures.0 r
    ∙ sym (file-entries b (sym c.marked.ensures ∙ c.if-not-marked.false) (sym c.two_at.ensures ∙ c.if-two_at-ne-VERSION.false) (c.if-bytes-firsts.false ∙ size (goal.at.returns c).After-numbered-records) (let h = c.if-records-gt-RECORDS.false in omega (arith, r)))
