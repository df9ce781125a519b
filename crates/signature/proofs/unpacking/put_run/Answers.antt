-- `signature::unpacking::put_run`: by the places of the digits.
use mathlib.Core.Path.{◌≡◌, sym, ap, ◌∙◌, subst}
use mathlib.Core.List.{List}
use Prim.Native.Nat.{ℕ, ◌≤◌}
use lib.ListN.{length}
use Rattle.trace.specs.Bounds.{RECORDS}
use Rattle.trace.specs.declared.Trace.{Trace}
use Rattle.trace.specs.FormFacts.{Form}
use Rattle.trace.proofs.WellFormed.{form-iff}
use Rattle.signature.specs.Reads.{each, value_of, loads}
use Rattle.signature.specs.Signature.{tops}
use Rattle.signature.specs.Unpack.{reads_of}
use Rattle.signature.specs.inner.WordsLaid.{digit_by}
use Rattle.signature.specs.inner.LoadLists.{DigitsSmall}
use Rattle.signature.specs.declared.Places.{Places}
use Rattle.signature.proofs.Laid.{tops-count, tops_fit}
use Rattle.signature.proofs.ManyRuns.{reads-long}
use Rattle.signature.proofs.Placed.{digits-small, reads-placed}
use Rattle.signature.proofs.unpacking.put_run.Goals.{After-put_reads}
use Rattle.signature.proofs.unpacking.put_run.Goals as goal

-- no more words than records
few : (t : Trace) (words : List ℕ) → Form t → length words ≡ length (tops t) → length words ≤ RECORDS
few t words f e = subst (λ (k : ℕ). k ≤ RECORDS) (sym (e ∙ sym (tops-count t f.fits))) (tops_fit t f.fits)

pub put_reads-requires : goal.put_reads-requires
put_reads-requires c =
    let t = c.args.t in
    let f : Form t = (form-iff t).0 c.requires.0 in
    (c.requires.0, c.requires.2, subst (λ (x : Places). DigitsSmall t x c.args.words.now) (sym c.requires.1) (digits-small c.args.words.now t f.fits f (few t c.args.words.now f c.requires.3) c.requires.3), c.requires.4)

-- what is put
told : (p : After-put_reads) → p.put_reads.new.out ≡ reads_of p.args.t p.args.words.now
told p =
    let t = p.args.t in
    let f : Form t = (form-iff t).0 p.requires.0 in
    p.put_reads.ensures ∙ ap (λ (x : Places). each (λ L. value_of t L (digit_by x p.args.words.now L)) (loads t)) p.requires.1 ∙ reads-placed p.args.words.now t f.fits f (few t p.args.words.now f p.requires.3) p.requires.3

pub shape_of-out : goal.shape_of-out
shape_of-out c =
    ap length (told (goal.at.shape_of-out c).After-put_reads) ∙ reads-long c.args.t c.args.words.now ∙ sym c.requires.4

pub returns : goal.returns
returns c = told (goal.at.returns c).After-put_reads
