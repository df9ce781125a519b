-- `signature::packing::pack`: 10 before 26 before 23; then the words.
use mathlib.Core.Path.{◌≡◌, sym, ap, ◌∙◌, subst}
use mathlib.Core.Bool.{So}
use Prim.Native.Nat.{ℕ, ◌≤◌}
use lib.ListN.{length}
use Rattle.trace.specs.Bounds.{RECORDS}
use Rattle.trace.specs.declared.Trace.{Trace}
use Rattle.trace.specs.WellFormed.{well_formed}
use Rattle.trace.proofs.WellFormed.{form-iff}
use Rattle.signature.specs.declared.Open.{Open}
use Rattle.signature.specs.inner.WordsLaid.{laid_words}
use Rattle.signature.proofs.Laid.{top_below, laid_count, signature-laid, signature-fit, signature-count}
use Rattle.signature.specs.Reads.{AllListed}
use Rattle.signature.specs.Signature.{tops}
use Rattle.signature.specs.SignatureAnswers.{read_in}
use Rattle.signature.proofs.SignatureAnswers.{pack-ten, pack-length, pack-unlisted, pack-done, none-unlisted, signature-long, found_some, found_none, listed_below}
use Rattle.signature.proofs.packing.pack.Goals.{After-all_words-largest, After-first_unlisted, Else-not-well_formed, In-None}
use Rattle.signature.proofs.packing.pack.Goals as goal

-- the trace is well formed
well : (c : Else-not-well_formed) → So (well_formed c.args.t)
well c = sym c.well_formed-2.ensures ∙ c.if-not-well_formed.false

fits : (t : Trace) → So (well_formed t) → t.len ≤ RECORDS
fits t w = ((form-iff t).0 w).fits

-- how many words it has
counted : (c : After-all_words-largest) → c.all_words-largest.result.count ≡ length (tops c.args.t)
counted c = laid_count c.args.t (fits c.args.t (sym c.well_formed-2.ensures ∙ c.if-not-well_formed.false)) _ c.all_words-largest.ensures

sure : (u : After-first_unlisted) → So (well_formed u.args.t)
sure u = sym u.well_formed-2.ensures ∙ u.if-not-well_formed.false

-- the lent words are as many
long : (u : After-first_unlisted) → length u.args.words.now ≡ length (tops u.args.t)
long u = u.if-words-largest.false ∙ laid_count u.args.t (fits u.args.t (sure u)) _ u.all_words-largest.ensures

listed : (m : In-None) → AllListed m.args.t (read_in m.args.t)
listed m = none-unlisted m.args.t (read_in m.args.t) (found_none _ (sym m.first_unlisted.ensures ∙ m.in-None.is))

pub returns-then-not-well_formed : goal.returns-then-not-well_formed
returns-then-not-well_formed c = let a = c.args in pack-ten a.t a.words.now (sym c.well_formed-2.ensures ∙ c.if-not-well_formed.true)

pub all_words-largest-requires : goal.all_words-largest-requires
all_words-largest-requires c = let t = c.args.t in (((form-iff t).0 (well c)).fits, top_below t)

pub returns-then-words-largest : goal.returns-then-words-largest
returns-then-words-largest c =
    let a = c.args in
    pack-length a.t a.words.now (well (goal.at.returns-then-words-largest c).Else-not-well_formed) (λ z. c.if-words-largest.true (z ∙ sym (counted (goal.at.returns-then-words-largest c).After-all_words-largest)))

pub first_unlisted-requires : goal.first_unlisted-requires
first_unlisted-requires c = ((form-iff c.args.t).0 (well (goal.at.first_unlisted-requires c).Else-not-well_formed)).fits

pub all_words-requires : goal.all_words-requires
all_words-requires c = let t = c.args.t in (((form-iff t).0 (sure (goal.at.all_words-requires c).After-first_unlisted)).fits, listed_below t (listed c))

pub put_words-requires : goal.put_words-requires
put_words-requires c =
    let t = c.args.t in
    let f = ((form-iff t).0 (sure (goal.at.put_words-requires c).After-first_unlisted)).fits in
    let n = ap (λ (o : Open). o.count) c.all_words.ensures in
    (long (goal.at.put_words-requires c).After-first_unlisted ∙ sym (n ∙ signature-count t f (listed_below t (listed (goal.at.put_words-requires c).In-None)) ∙ signature-long t (listed (goal.at.put_words-requires c).In-None)), subst (λ (k : ℕ). k ≤ RECORDS) (sym n) (signature-fit t f (listed_below t (listed (goal.at.put_words-requires c).In-None))))

pub returns-in-Some : goal.returns-in-Some
returns-in-Some c =
    let a = c.args in
    pack-unlisted a.t a.words.now (sure (goal.at.returns-in-Some c).After-first_unlisted) (long (goal.at.returns-in-Some c).After-first_unlisted) c.in-Some.i (found_some _ _ (sym c.first_unlisted.ensures ∙ c.in-Some.is))

pub returns-in-None : goal.returns-in-None
returns-in-None c =
    let a = c.args in
    pack-done a.t a.words.now (sure (goal.at.returns-in-None c).After-first_unlisted) (long (goal.at.returns-in-None c).After-first_unlisted) (found_none _ (sym c.first_unlisted.ensures ∙ c.in-None.is)) _ (c.put_words.ensures ∙ ap laid_words c.all_words.ensures ∙ signature-laid a.t ((form-iff a.t).0 (sure (goal.at.returns-in-None c).After-first_unlisted)).fits (listed_below a.t (listed (goal.at.returns-in-None c).In-None)))
