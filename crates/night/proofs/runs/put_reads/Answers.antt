-- `night::runs::put_reads`: what unpacking answers to the words of all runs tells the first run that has a word too large.
use mathlib.Core.Path.{◌≡◌, sym, ap, ◌∙◌, subst}
use mathlib.Core.Bool.{true}
use Prim.Native.Nat.{ℕ, ◌*◌, ◌/◌, ◌%◌, ◌<◌}
use native.Mathlib.Omega.{arith}
use lib.ListN.{length, take}
use lib.Seq.{length-take-le}
use Rattle.std.specs.Prelude.{Some, Err}
use Rattle.laws.specs.Lowest.{lowest}
use Rattle.signature.specs.ManyRuns.{large_in_runs}
use Rattle.signature.proofs.ManyRuns.{runs-answer}
use Rattle.night.proofs.Many.{told-large, told-done, refuses, told-else, left-done, left-large, laid-large, laid_done, large-told, nothing-told, fits-runs}
use Rattle.night.proofs.runs.put_reads.Goals.{In-Err-TooLarge, After-unpack_runs}
use Rattle.night.proofs.runs.put_reads.Goals as goal

-- no other refusal
refused : {A : Type 0} (u : After-unpack_runs) → refuses u.unpack_runs.result ≡ true → A
refused u r = absurd (told-else (lowest (large_in_runs u.args.t u.args.words.now) (length u.args.words.now) 0) u.unpack_runs.result (u.unpack_runs.ensures.0 ∙ runs-answer u.args.t u.args.words.now (take (u.args.runs * u.args.loads) u.args.out.now) u.requires.0.well (fits-runs u.args.t u.args.words.now (take (u.args.runs * u.args.loads) u.args.out.now) u.args.runs (u.requires.0.long ∙ ap (λ (n : ℕ). u.args.runs * n) u.requires.0.each) (length-take-le (u.args.runs * u.args.loads) u.args.out.now u.requires.1 ∙ ap (λ (n : ℕ). u.args.runs * n) u.requires.0.some)).0 (fits-runs u.args.t u.args.words.now (take (u.args.runs * u.args.loads) u.args.out.now) u.args.runs (u.requires.0.long ∙ ap (λ (n : ℕ). u.args.runs * n) u.requires.0.each) (length-take-le (u.args.runs * u.args.loads) u.args.out.now u.requires.1 ∙ ap (λ (n : ℕ). u.args.runs * n) u.requires.0.some)).1) r)

pub overflow_mul-n : goal.overflow_mul-n
overflow_mul-n c = omega (arith, c.requires.1)

pub slice_bounds-unpack_runs-end : goal.slice_bounds-unpack_runs-end
slice_bounds-unpack_runs-end c = c.requires.1

pub slice_bounds-unpack_runs-end-2 : goal.slice_bounds-unpack_runs-end-2
slice_bounds-unpack_runs-end-2 c = sym (length-take-le _ _ c.requires.1)

-- then a run has words
has : (c : In-Err-TooLarge) → 0 < c.args.each
has c =
    subst (λ (n : ℕ). 0 < n) (sym c.requires.0.each) (large-told c.args.t c.requires.0.well c.args.words.now c.args.runs (c.requires.0.long ∙ ap (λ (n : ℕ). c.args.runs * n) c.requires.0.each) c.in-Err-TooLarge.k (told-large _ _ (sym (c.in-Err-TooLarge.is ∙ ap Err c.in-Err-TooLarge.field-0-is) ∙ (c.unpack_runs.ensures.0 ∙ runs-answer c.args.t c.args.words.now (take (c.args.runs * c.args.loads) c.args.out.now) c.requires.0.well (fits-runs c.args.t c.args.words.now (take (c.args.runs * c.args.loads) c.args.out.now) c.args.runs (c.requires.0.long ∙ ap (λ (n : ℕ). c.args.runs * n) c.requires.0.each) (length-take-le (c.args.runs * c.args.loads) c.args.out.now c.requires.1 ∙ ap (λ (n : ℕ). c.args.runs * n) c.requires.0.some)).0 (fits-runs c.args.t c.args.words.now (take (c.args.runs * c.args.loads) c.args.out.now) c.args.runs (c.requires.0.long ∙ ap (λ (n : ℕ). c.args.runs * n) c.requires.0.each) (length-take-le (c.args.runs * c.args.loads) c.args.out.now c.requires.1 ∙ ap (λ (n : ℕ). c.args.runs * n) c.requires.0.some)).1)))).1

pub nonzero_div-result : goal.nonzero_div-result
nonzero_div-result c = omega (arith, has c)

pub nonzero_rem-result : goal.nonzero_rem-result
nonzero_rem-result c = omega (arith, has c)

pub returns-in-Err-TooLarge : goal.returns-in-Err-TooLarge
returns-in-Err-TooLarge c =
    let x = c.in-Err-TooLarge.k in
    laid-large c.args.t c.args.words.now c.args.out.now _ c.args.loads c.args.runs c.requires.1 (x / c.args.each) (x % c.args.each)
    (c.unpack_runs.ensures.1 ∙ left-large c.args.t c.args.words.now (take (c.args.runs * c.args.loads) c.args.out.now) x (sym c.unpack_runs.ensures.0 ∙ (c.in-Err-TooLarge.is ∙ ap Err c.in-Err-TooLarge.field-0-is)))
    (ap (λ (n : ℕ). Some (x / n, x % n)) c.requires.0.each ∙ (large-told c.args.t c.requires.0.well c.args.words.now c.args.runs (c.requires.0.long ∙ ap (λ (n : ℕ). c.args.runs * n) c.requires.0.each) x (told-large _ _ (sym (c.in-Err-TooLarge.is ∙ ap Err c.in-Err-TooLarge.field-0-is) ∙ (c.unpack_runs.ensures.0 ∙ runs-answer c.args.t c.args.words.now (take (c.args.runs * c.args.loads) c.args.out.now) c.requires.0.well (fits-runs c.args.t c.args.words.now (take (c.args.runs * c.args.loads) c.args.out.now) c.args.runs (c.requires.0.long ∙ ap (λ (n : ℕ). c.args.runs * n) c.requires.0.each) (length-take-le (c.args.runs * c.args.loads) c.args.out.now c.requires.1 ∙ ap (λ (n : ℕ). c.args.runs * n) c.requires.0.some)).0 (fits-runs c.args.t c.args.words.now (take (c.args.runs * c.args.loads) c.args.out.now) c.args.runs (c.requires.0.long ∙ ap (λ (n : ℕ). c.args.runs * n) c.requires.0.each) (length-take-le (c.args.runs * c.args.loads) c.args.out.now c.requires.1 ∙ ap (λ (n : ℕ). c.args.runs * n) c.requires.0.some)).1)))).0)

pub returns-in-Ok : goal.returns-in-Ok
returns-in-Ok c =
    laid_done c.args.t c.args.words.now c.args.out.now _ c.args.loads c.args.runs c.requires.1
    (c.unpack_runs.ensures.1 ∙ left-done c.args.t c.args.words.now (take (c.args.runs * c.args.loads) c.args.out.now) (sym c.unpack_runs.ensures.0 ∙ c.in-Ok.is) ∙ (fits-runs c.args.t c.args.words.now (take (c.args.runs * c.args.loads) c.args.out.now) c.args.runs (c.requires.0.long ∙ ap (λ (n : ℕ). c.args.runs * n) c.requires.0.each) (length-take-le (c.args.runs * c.args.loads) c.args.out.now c.requires.1 ∙ ap (λ (n : ℕ). c.args.runs * n) c.requires.0.some)).2)
    c.requires.0.some
    (nothing-told c.args.t c.requires.0.well c.args.words.now c.args.runs (c.requires.0.long ∙ ap (λ (n : ℕ). c.args.runs * n) c.requires.0.each) (told-done _ (sym c.in-Ok.is ∙ (c.unpack_runs.ensures.0 ∙ runs-answer c.args.t c.args.words.now (take (c.args.runs * c.args.loads) c.args.out.now) c.requires.0.well (fits-runs c.args.t c.args.words.now (take (c.args.runs * c.args.loads) c.args.out.now) c.args.runs (c.requires.0.long ∙ ap (λ (n : ℕ). c.args.runs * n) c.requires.0.each) (length-take-le (c.args.runs * c.args.loads) c.args.out.now c.requires.1 ∙ ap (λ (n : ℕ). c.args.runs * n) c.requires.0.some)).0 (fits-runs c.args.t c.args.words.now (take (c.args.runs * c.args.loads) c.args.out.now) c.args.runs (c.requires.0.long ∙ ap (λ (n : ℕ). c.args.runs * n) c.requires.0.each) (length-take-le (c.args.runs * c.args.loads) c.args.out.now c.requires.1 ∙ ap (λ (n : ℕ). c.args.runs * n) c.requires.0.some)).1))))

pub returns-in-Err-NotWellFormed : goal.returns-in-Err-NotWellFormed
returns-in-Err-NotWellFormed c = refused (goal.at.returns-in-Err-NotWellFormed c).After-unpack_runs (ap refuses (c.in-Err-NotWellFormed.is ∙ ap Err c.in-Err-NotWellFormed.field-0-is))

pub returns-in-Err-WrongLength : goal.returns-in-Err-WrongLength
returns-in-Err-WrongLength c = refused (goal.at.returns-in-Err-WrongLength c).After-unpack_runs (ap refuses (c.in-Err-WrongLength.is ∙ ap Err c.in-Err-WrongLength.field-0-is))

pub returns-in-Err-NotListed : goal.returns-in-Err-NotListed
returns-in-Err-NotListed c = refused (goal.at.returns-in-Err-NotListed c).After-unpack_runs (ap refuses (c.in-Err-NotListed.is ∙ ap Err c.in-Err-NotListed.field-0-is))
