-- `night::runs::night`: 10, then 9, then 26, then 24; then the verdicts.
use mathlib.Core.Path.{◌≡◌, sym, ap, ◌∙◌, subst}
use mathlib.Core.List.{List}
use Prim.Native.Nat.{ℕ, ◌*◌, ◌≤◌}
use native.Mathlib.Omega.{arith}
use borrow.Author.Tests.{not-true, not-false}
use native.Mathlib.Nat.{mul-le-mul_left, div-mul-le_self}
use lib.ListN.{length}
use Rattle.std.specs.Prelude.{Err}
use Rattle.trace.specs.Bounds.{RECORDS}
use Rattle.signature.specs.Signature.{tops}
use Rattle.night.specs.Block.{BLOCK}
use Rattle.night.specs.Night.{runs_in, Nights}
use Rattle.night.specs.declared.Reason.TheVariants.{TooLarge}
use Rattle.night.proofs.Many.{loads-told, loads-few, words-told, tops-few, all-judged, ten, nine, wrong-room, wrong-words, too_large, all_told}
use Rattle.night.proofs.runs.night.Goals.{After-loads_of-loads, Else-words-runs}
use Rattle.night.proofs.runs.night.Goals as goal

pub returns-then-not-well_formed : goal.returns-then-not-well_formed
returns-then-not-well_formed c = let a = c.args in ten a.t a.model a.words.now a.out.now (sym c.well_formed-2.ensures ∙ not-true _ c.if-not-well_formed.true-raw)

pub returns-then-not-modelled : goal.returns-then-not-modelled
returns-then-not-modelled c =
    let a = c.args in
    nine a.t a.model a.words.now a.out.now (sym c.well_formed-2.ensures ∙ not-false _ c.if-not-well_formed.false-raw) (sym c.modelled.ensures ∙ not-true _ c.if-not-modelled.true-raw)

pub overflow_mul-runs : goal.overflow_mul-runs
overflow_mul-runs c = omega (arith, div-mul-le_self (length c.args.out.now) BLOCK)

pub returns-then-out-runs : goal.returns-then-out-runs
returns-then-out-runs c =
    let a = c.args in
    wrong-room a.t a.model a.words.now a.out.now (sym c.well_formed-2.ensures ∙ not-false _ c.if-not-well_formed.false-raw) (sym c.modelled.ensures ∙ not-false _ c.if-not-modelled.false-raw) c.if-out-runs.true

pub overflow_mul-runs-2 : goal.overflow_mul-runs-2
overflow_mul-runs-2 c =
    let a = c.args in
    let few : c.words_of-each.result ≤ BLOCK = omega (arith, (c.words_of-each.ensures ∙ words-told c.args.t (sym c.well_formed-2.ensures ∙ not-false _ c.if-not-well_formed.false-raw)), tops-few a.t (sym c.well_formed-2.ensures ∙ not-false _ c.if-not-well_formed.false-raw)) in
    omega (arith, mul-le-mul_left (runs_in (length a.out.now)) few, div-mul-le_self (length a.out.now) BLOCK)

pub returns-then-words-runs : goal.returns-then-words-runs
returns-then-words-runs c =
    let a = c.args in
    wrong-words a.t a.model a.words.now a.out.now (sym c.well_formed-2.ensures ∙ not-false _ c.if-not-well_formed.false-raw) (sym c.modelled.ensures ∙ not-false _ c.if-not-modelled.false-raw) c.if-out-runs.false (λ z. c.if-words-runs.true (z ∙ ap (λ (n : ℕ). runs_in (length a.out.now) * n) (sym (c.words_of-each.ensures ∙ words-told c.args.t (sym c.well_formed-2.ensures ∙ not-false _ c.if-not-well_formed.false-raw)))))

-- there are the words of as many runs as have room
fit : (c : Else-words-runs) → let a = c.args in length a.words.now ≡ runs_in (length a.out.now) * length (tops a.t)
fit c = c.if-words-runs.false ∙ ap (λ (n : ℕ). runs_in (length c.args.out.now) * n) (c.words_of-each.ensures ∙ words-told c.args.t (sym c.well_formed-2.ensures ∙ not-false _ c.if-not-well_formed.false-raw))

-- so the reads of all runs have room
room : (n : After-loads_of-loads) → let a = n.args in runs_in (length a.out.now) * n.loads_of-loads.result ≤ length a.out.now
room n =
    let a = n.args in
    let few : n.loads_of-loads.result ≤ RECORDS = omega (arith, n.loads_of-loads.ensures ∙ loads-told n.args.t ((sym n.well_formed-2.ensures ∙ not-false _ n.if-not-well_formed.false-raw)), loads-few n.args.t ((sym n.well_formed-2.ensures ∙ not-false _ n.if-not-well_formed.false-raw))) in
    let low : n.loads_of-loads.result ≤ BLOCK = omega (arith, few) in
    omega (arith, mul-le-mul_left (runs_in (length a.out.now)) low, div-mul-le_self (length a.out.now) BLOCK)

pub put_reads-requires : goal.put_reads-requires
put_reads-requires c =
    (record { well = ((sym c.well_formed-2.ensures ∙ not-false _ c.if-not-well_formed.false-raw)); each = (c.words_of-each.ensures ∙ words-told c.args.t (sym c.well_formed-2.ensures ∙ not-false _ c.if-not-well_formed.false-raw)); some = (c.loads_of-loads.ensures ∙ loads-told c.args.t ((sym c.well_formed-2.ensures ∙ not-false _ c.if-not-well_formed.false-raw))); long = c.if-words-runs.false }, room (goal.at.put_reads-requires c).After-loads_of-loads)

pub put_runs-requires : goal.put_runs-requires
put_runs-requires c =
    (((sym c.well_formed-2.ensures ∙ not-false _ c.if-not-well_formed.false-raw)), (sym c.modelled.ensures ∙ not-false _ c.if-not-modelled.false-raw), c.kept_rows-kept.ensures, (omega (arith, (c.loads_of-loads.ensures ∙ loads-told c.args.t ((sym c.well_formed-2.ensures ∙ not-false _ c.if-not-well_formed.false-raw))), loads-few c.args.t ((sym c.well_formed-2.ensures ∙ not-false _ c.if-not-well_formed.false-raw)))), c.put_reads.ensures.long ∙ c.if-out-runs.false)

pub returns-in-Some : goal.returns-in-Some
returns-in-Some c =
    let a = c.args in
    subst (λ (after : List ℕ). Nights a.t a.model a.words.now a.out.now after (Err (TooLarge c.in-Some.i c.in-Some.k))) (sym (c.put_reads.ensures.stays _ _ c.in-Some.is))
    (too_large a.t a.model a.words.now a.out.now ((sym c.well_formed-2.ensures ∙ not-false _ c.if-not-well_formed.false-raw)) (sym c.modelled.ensures ∙ not-false _ c.if-not-modelled.false-raw) c.if-out-runs.false (fit (goal.at.returns-in-Some c).Else-words-runs) _ _ (sym c.in-Some.is ∙ c.put_reads.ensures.answer))

pub returns-in-None : goal.returns-in-None
returns-in-None c =
    let a = c.args in
    let m = c.put_reads.ensures in
    let long = m.long ∙ c.if-out-runs.false in
    all_told a.t a.model a.words.now a.out.now ((sym c.well_formed-2.ensures ∙ not-false _ c.if-not-well_formed.false-raw)) (sym c.modelled.ensures ∙ not-false _ c.if-not-modelled.false-raw) c.if-out-runs.false (fit (goal.at.returns-in-None c).Else-words-runs) (sym c.in-None.is ∙ m.answer) _
    (all-judged a.t a.model c.loads_of-loads.result a.words.now _ _ (runs_in (length a.out.now)) (c.loads_of-loads.ensures ∙ loads-told c.args.t ((sym c.well_formed-2.ensures ∙ not-false _ c.if-not-well_formed.false-raw))) long (omega (arith, room (goal.at.returns-in-None c).After-loads_of-loads, m.long)) (m.front c.in-None.is) c.put_runs.ensures)
