-- `signature::runs::unpack_runs`: 10 before 26 before 24; then the reads of every run.
use mathlib.Core.Path.{◌≡◌, sym, ap, ap₂, ◌∙◌, subst}
use mathlib.Core.Bool.{So, true}
use mathlib.Core.List.{List}
use Prim.Native.Nat.{ℕ, ◌-◌, ◌*◌, ◌/◌, ◌<◌, ◌≤◌}
use native.Mathlib.Nat.{mul-le-mul_left, div-mul-le_self}
use native.Mathlib.Omega.{arith}
use lib.ListN.{length}
use Rattle.laws.specs.Lowest.{lowest}
use Rattle.trace.specs.Bounds.{RECORDS, THREADS}
use Rattle.trace.specs.declared.Trace.{Trace}
use Rattle.trace.specs.WellFormed.{well_formed}
use Rattle.trace.proofs.WellFormed.{form-iff}
use Rattle.signature.specs.declared.Open.{Open}
use Rattle.signature.specs.Reads.{range_of, loads}
use Rattle.signature.specs.Signature.{tops}
use Rattle.signature.specs.ManyRuns.{read_runs, large_in_runs, all_reads}
use Rattle.signature.specs.inner.WordsLaid.{all_from, none_laid}
use Rattle.signature.specs.inner.LoadLists.{over}
use Rattle.signature.proofs.Laid.{top_below, laid_count, tops_fit}
use Rattle.signature.proofs.Few.{words-loads}
use Rattle.signature.proofs.Signature.{top-chosen}
use Rattle.signature.proofs.SignatureAnswers.{found_some, found_none, large-same}
use Rattle.signature.proofs.ManyRuns.{some_words, runs-ten, runs-reads, runs-words, runs-large, runs_done}
use Rattle.signature.proofs.runs.unpack_runs.Goals.{After-first_large, After-runs_in-runs, Else-not-well_formed, Else-words-runs}
use Rattle.signature.proofs.runs.unpack_runs.Goals as goal

-- the trace is well formed
well : (c : Else-not-well_formed) → So (well_formed c.args.t)
well c = sym c.well_formed-2.ensures ∙ c.if-not-well_formed.false

fits : (t : Trace) → So (well_formed t) → t.len ≤ RECORDS
fits t w = ((form-iff t).0 w).fits

sure : (r : After-runs_in-runs) → So (well_formed r.args.t)
sure r = sym r.well_formed-2.ensures ∙ r.if-not-well_formed.false

-- how many words a run has, how many loads, and how many runs there are
counted : (r : After-runs_in-runs) → r.all_words-largest.result.count ≡ length (tops r.args.t)
counted r = laid_count r.args.t (fits r.args.t (sure r)) _ r.all_words-largest.ensures

loaded : (r : After-runs_in-runs) → r.loads_in-loads.result ≡ length (loads r.args.t)
loaded r = r.loads_in-loads.ensures.0

ran : (r : After-runs_in-runs) → r.runs_in-runs.result ≡ read_runs r.args.t (length r.args.reads.now)
ran r = r.runs_in-runs.ensures ∙ ap (λ (n : ℕ). length r.args.reads.now / n) (loaded r)

all-loads : (r : After-runs_in-runs) → r.runs_in-runs.result * r.loads_in-loads.result ≡ read_runs r.args.t (length r.args.reads.now) * length (loads r.args.t)
all-loads r = ap₂ (λ (a b : ℕ). a * b) (ran r) (loaded r)

all_words : (r : After-runs_in-runs) → r.runs_in-runs.result * r.all_words-largest.result.count ≡ read_runs r.args.t (length r.args.reads.now) * length (tops r.args.t)
all_words r = ap₂ (λ (a b : ℕ). a * b) (ran r) (counted r)

-- the lent reads are those of so many runs, and so are the words
fit-reads : (l : Else-words-runs) → length l.args.reads.now ≡ read_runs l.args.t (length l.args.reads.now) * length (loads l.args.t)
fit-reads l =
    let ran = l.runs_in-runs.ensures ∙ ap (λ (n : ℕ). length l.args.reads.now / n) l.loads_in-loads.ensures.0 in
    l.if-reads-runs.false ∙ ap₂ (λ (a b : ℕ). a * b) ran l.loads_in-loads.ensures.0

many_words : (t : Trace) (ws rs : List ℕ) (runs loaded : ℕ) (o : Open) → So (well_formed t) → o ≡ all_from t true none_laid 0 THREADS → loaded ≡ length (loads t)
    → runs ≡ length rs / loaded → length ws ≡ runs * o.count → length ws ≡ read_runs t (length rs) * length (tops t)
many_words t ws rs runs loaded o w e l r n = n ∙ ap₂ (λ (a b : ℕ). a * b) (r ∙ ap (λ (n : ℕ). length rs / n) l) (laid_count t (fits t w) o e)

fit_words : (l : Else-words-runs) → length l.args.words.now ≡ read_runs l.args.t (length l.args.reads.now) * length (tops l.args.t)
fit_words l =
    many_words l.args.t l.args.words.now l.args.reads.now _ _ _ (sym l.well_formed-2.ensures ∙ l.if-not-well_formed.false) l.all_words-largest.ensures l.loads_in-loads.ensures.0 l.runs_in-runs.ensures l.if-words-runs.false

-- a word too large is one above the largest that was laid down
same : (u : After-first_large) → let w = u.all_words-largest.result in
    lowest (over w.of w.count u.args.words.now) (length u.args.words.now) 0 ≡ lowest (large_in_runs u.args.t u.args.words.now) (length u.args.words.now) 0
same u =
    let a = u.args in
    let w = sym u.well_formed-2.ensures ∙ u.if-not-well_formed.false in
    let fit = many_words a.t a.words.now a.reads.now _ _ _ w u.all_words-largest.ensures u.loads_in-loads.ensures.0 u.runs_in-runs.ensures u.if-words-runs.false in
    ap (λ (o : Open). lowest (over o.of o.count a.words.now) (length a.words.now) 0) u.all_words-largest.ensures
    ∙ large-same a.t (fits a.t w) a.words.now (λ h. some_words (read_runs a.t (length a.reads.now)) (length (tops a.t)) (subst (λ (k : ℕ). 0 < k) fit h))

pub returns-then-not-well_formed : goal.returns-then-not-well_formed
returns-then-not-well_formed c = let a = c.args in runs-ten a.t a.words.now a.reads.now (sym c.well_formed-2.ensures ∙ c.if-not-well_formed.true)

pub all_words-largest-requires : goal.all_words-largest-requires
all_words-largest-requires c = let t = c.args.t in (((form-iff t).0 (well c)).fits, top_below t)

pub loads_in-loads-requires : goal.loads_in-loads-requires
loads_in-loads-requires c = ((form-iff c.args.t).0 (well (goal.at.loads_in-loads-requires c).Else-not-well_formed)).fits

pub overflow_mul-runs : goal.overflow_mul-runs
overflow_mul-runs c =
    let n = c.loads_in-loads.result in
    let e = ap (λ (k : ℕ). k * n) c.runs_in-runs.ensures in
    omega (arith, e, div-mul-le_self (length c.args.reads.now) n)

pub returns-then-reads-runs : goal.returns-then-reads-runs
returns-then-reads-runs c = let a = c.args in runs-reads a.t a.words.now a.reads.now (sure (goal.at.returns-then-reads-runs c).After-runs_in-runs) (λ z. c.if-reads-runs.true (z ∙ sym (all-loads (goal.at.returns-then-reads-runs c).After-runs_in-runs)))

-- no more words than loads
pub overflow_mul-runs-2 : goal.overflow_mul-runs-2
overflow_mul-runs-2 c =
    let t = c.args.t in
    let few : c.all_words-largest.result.count ≤ c.loads_in-loads.result = omega (arith, counted (goal.at.overflow_mul-runs-2 c).After-runs_in-runs, loaded (goal.at.overflow_mul-runs-2 c).After-runs_in-runs, words-loads t (λ L. range_of t L - 1) (top-chosen t)) in
    omega (arith, mul-le-mul_left c.runs_in-runs.result few, c.if-reads-runs.false)

pub returns-then-words-runs : goal.returns-then-words-runs
returns-then-words-runs c =
    let a = c.args in
    runs-words a.t a.words.now a.reads.now (sure (goal.at.returns-then-words-runs c).After-runs_in-runs) (c.if-reads-runs.false ∙ all-loads (goal.at.returns-then-words-runs c).After-runs_in-runs) (λ z. c.if-words-runs.true (z ∙ sym (all_words (goal.at.returns-then-words-runs c).After-runs_in-runs)))

pub first_large-requires : goal.first_large-requires
first_large-requires c =
    let t = c.args.t in
    (subst (λ (o : Open). o.count ≤ RECORDS) (sym c.all_words-largest.ensures) (tops_fit t ((form-iff t).0 (sure (goal.at.first_large-requires c).After-runs_in-runs)).fits), λ h. some_words c.runs_in-runs.result c.all_words-largest.result.count (subst (λ (k : ℕ). 0 < k) c.if-words-runs.false h))

pub put_runs-requires : goal.put_runs-requires
put_runs-requires c =
    record { well = sure (goal.at.put_runs-requires c).After-runs_in-runs; each = counted (goal.at.put_runs-requires c).After-runs_in-runs; some = loaded (goal.at.put_runs-requires c).After-runs_in-runs; long = c.if-words-runs.false; room = c.if-reads-runs.false }

pub returns-in-Some : goal.returns-in-Some
returns-in-Some c =
    let a = c.args in
    runs-large a.t a.words.now a.reads.now (sure (goal.at.returns-in-Some c).After-runs_in-runs) (fit-reads (goal.at.returns-in-Some c).Else-words-runs) (fit_words (goal.at.returns-in-Some c).Else-words-runs) c.in-Some.k (sym (same (goal.at.returns-in-Some c).After-first_large) ∙ found_some _ _ (sym c.first_large.ensures ∙ c.in-Some.is))

pub returns-in-None : goal.returns-in-None
returns-in-None c =
    let a = c.args in
    runs_done a.t a.words.now a.reads.now (sure (goal.at.returns-in-None c).After-runs_in-runs) (fit-reads (goal.at.returns-in-None c).Else-words-runs) (fit_words (goal.at.returns-in-None c).Else-words-runs) (sym (same (goal.at.returns-in-None c).After-first_large) ∙ found_none _ (sym c.first_large.ensures ∙ c.in-None.is)) _ (c.put_runs.ensures ∙ ap (all_reads a.t a.words.now) (ran (goal.at.returns-in-None c).After-runs_in-runs))
