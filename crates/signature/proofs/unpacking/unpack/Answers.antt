-- `signature::unpacking::unpack`: 10 before 26 before 24; then the reads.
use mathlib.Core.Path.{◌≡◌, sym, ap, ◌∙◌, subst}
use mathlib.Core.Bool.{So}
use Prim.Native.Nat.{ℕ, ◌<◌, ◌≤◌}
use lib.ListN.{length}
use Rattle.trace.specs.Bounds.{RECORDS}
use Rattle.laws.specs.Lowest.{lowest}
use Rattle.trace.specs.declared.Trace.{Trace}
use Rattle.trace.specs.WellFormed.{well_formed}
use Rattle.trace.proofs.WellFormed.{form-iff}
use Rattle.signature.specs.declared.Open.{Open}
use Rattle.signature.specs.Signature.{tops, too_large}
use Rattle.signature.specs.inner.LoadLists.{over}
use Rattle.signature.proofs.Laid.{top_below, laid_count, tops_fit}
use Rattle.signature.proofs.SignatureAnswers.{unpack-ten, unpack-words, unpack-reads, unpack-large, unpack-done, found_some, found_none, large-same, large-one}
use Rattle.signature.proofs.unpacking.unpack.Goals.{After-all_words-largest, After-first_large, After-loads_in, Else-not-well_formed}
use Rattle.signature.proofs.unpacking.unpack.Goals as goal

-- the trace is well formed
well : (c : Else-not-well_formed) → So (well_formed c.args.t)
well c = sym c.well_formed-2.ensures ∙ c.if-not-well_formed.false

fits : (t : Trace) → So (well_formed t) → t.len ≤ RECORDS
fits t w = ((form-iff t).0 w).fits

-- how many words it has
counted : (c : After-all_words-largest) → c.all_words-largest.result.count ≡ length (tops c.args.t)
counted c = laid_count c.args.t (fits c.args.t (sym c.well_formed-2.ensures ∙ c.if-not-well_formed.false)) _ c.all_words-largest.ensures

sure : (n : After-loads_in) → So (well_formed n.args.t)
sure n = sym n.well_formed-2.ensures ∙ n.if-not-well_formed.false

-- the lent words are as many
long : (n : After-loads_in) → length n.args.words.now ≡ length (tops n.args.t)
long n = n.if-words-largest.false ∙ laid_count n.args.t (fits n.args.t (sure n)) _ n.all_words-largest.ensures

-- a word too large is one above the largest that was laid down
same : (u : After-first_large) → lowest (over u.all_words-largest.result.of u.all_words-largest.result.count u.args.words.now) (length u.args.words.now) 0
    ≡ lowest (too_large u.args.t u.args.words.now) (length u.args.words.now) 0
same u =
    let a = u.args in
    let few = fits a.t (sym u.well_formed-2.ensures ∙ u.if-not-well_formed.false) in
    let long : length a.words.now ≡ length (tops a.t) = u.if-words-largest.false ∙ laid_count a.t few _ u.all_words-largest.ensures in
    ap (λ (o : Open). lowest (over o.of o.count a.words.now) (length a.words.now) 0) u.all_words-largest.ensures
    ∙ large-same a.t few a.words.now (λ h. subst (λ (k : ℕ). 0 < k) long h)
    ∙ large-one a.t a.words.now long

pub returns-then-not-well_formed : goal.returns-then-not-well_formed
returns-then-not-well_formed c = let a = c.args in unpack-ten a.t a.words.now a.reads.now (sym c.well_formed-2.ensures ∙ c.if-not-well_formed.true)

pub all_words-largest-requires : goal.all_words-largest-requires
all_words-largest-requires c = let t = c.args.t in (((form-iff t).0 (well c)).fits, top_below t)

pub returns-then-words-largest : goal.returns-then-words-largest
returns-then-words-largest c =
    let a = c.args in
    unpack-words a.t a.words.now a.reads.now (well (goal.at.returns-then-words-largest c).Else-not-well_formed) (λ z. c.if-words-largest.true (z ∙ sym (counted (goal.at.returns-then-words-largest c).After-all_words-largest)))

pub loads_in-requires : goal.loads_in-requires
loads_in-requires c = ((form-iff c.args.t).0 (well (goal.at.loads_in-requires c).Else-not-well_formed)).fits

pub returns-then-reads-loads_in : goal.returns-then-reads-loads_in
returns-then-reads-loads_in c =
    let a = c.args in
    unpack-reads a.t a.words.now a.reads.now (sure (goal.at.returns-then-reads-loads_in c).After-loads_in) (long (goal.at.returns-then-reads-loads_in c).After-loads_in) (λ z. c.if-reads-loads_in.true (z ∙ sym c.loads_in.ensures.0))

pub first_large-requires : goal.first_large-requires
first_large-requires c =
    let t = c.args.t in
    (subst (λ (o : Open). o.count ≤ RECORDS) (sym c.all_words-largest.ensures) (tops_fit t ((form-iff t).0 (sure (goal.at.first_large-requires c).After-loads_in)).fits), λ h. subst (λ (k : ℕ). 0 < k) c.if-words-largest.false h)

pub all_places-requires : goal.all_places-requires
all_places-requires c = ((form-iff c.args.t).0 (sure (goal.at.all_places-requires c).After-loads_in)).fits

pub all_values-requires : goal.all_values-requires
all_values-requires c = ((form-iff c.args.t).0 (sure (goal.at.all_values-requires c).After-loads_in)).fits

pub put_run-requires : goal.put_run-requires
put_run-requires c =
    (sure (goal.at.put_run-requires c).After-loads_in, c.all_places.ensures, c.all_values.ensures, long (goal.at.put_run-requires c).After-loads_in, c.if-reads-loads_in.false ∙ c.loads_in.ensures.0)

pub returns-in-Some : goal.returns-in-Some
returns-in-Some c =
    let a = c.args in
    unpack-large a.t a.words.now a.reads.now (sure (goal.at.returns-in-Some c).After-loads_in) (long (goal.at.returns-in-Some c).After-loads_in) (c.if-reads-loads_in.false ∙ c.loads_in.ensures.0) c.in-Some.k (sym (same (goal.at.returns-in-Some c).After-first_large) ∙ found_some _ _ (sym c.first_large.ensures ∙ c.in-Some.is))

pub returns-in-None : goal.returns-in-None
returns-in-None c =
    let a = c.args in
    unpack-done a.t a.words.now a.reads.now (sure (goal.at.returns-in-None c).After-loads_in) (long (goal.at.returns-in-None c).After-loads_in) (c.if-reads-loads_in.false ∙ c.loads_in.ensures.0) (sym (same (goal.at.returns-in-None c).After-first_large) ∙ found_none _ (sym c.first_large.ensures ∙ c.in-None.is)) _ c.put_run.ensures
