-- `text::templates::fit`: what is left of the template against what is left of the line gives the same as the whole.
use mathlib.Core.Path.{◌≡◌, refl, sym, ap, ◌∙◌}
use mathlib.Core.List.{List, [], ◌∷◌}
use Prim.Native.Nat.{ℕ, ◌+◌}
use native.Mathlib.Numerals.{add-one}
use native.Mathlib.Omega.{arith}
use lib.ListN.{length, drop, get_or, length-set, drop_of_length-le}
use lib.Seq.{drop-cons}
use Rattle.text.specs.Template.{found, fit_from, fitted}
use Rattle.text.proofs.Fits.{step-missing, step-hole, step-byte, fit-end, fit-over}
use Rattle.text.proofs.templates.fit.Goals.{After-loop-k, In-loop-k, else-t-eq-HOLE, then-t-eq-HOLE}
use Rattle.text.proofs.templates.fit.Goals as goal

pub loop-k-init : goal.loop-k-init
unfolding fitted
loop-k-init c = (omega arith, omega arith, refl, refl)

next : In-loop-k → ℕ
next c = get_or c.args.template.now c.loop-k.k 0

rest : In-loop-k → List ℕ
rest c = drop (c.loop-k.k + 1) c.args.template.now

whole : (c : In-loop-k) → fit_from c.loop-k.n c.loop-k.numbers (found (next c ∷ rest c) (drop c.loop-k.i c.args.line.now)) ≡ fitted c.args.template.now (drop c.args.at c.args.line.now)
unfolding next rest
whole c =
    let ts = c.args.template.now in
    let split : drop c.loop-k.k ts ≡ get_or ts c.loop-k.k 0 ∷ drop (c.loop-k.k + 1) ts = rw add-one (drop-cons ts c.loop-k.k 0 (omega arith)) in
    ap (λ (ts : List ℕ). fit_from c.loop-k.n c.loop-k.numbers (found ts (drop c.loop-k.i c.args.line.now))) (sym split) ∙ c.loop-k.invariant.3

pub returns-in_err-number : goal.returns-in_err-number
unfolding next rest
returns-in_err-number c =
    c.from_residual.ensures ∙ ap (fit_from c.loop-k.n c.loop-k.numbers) (sym (step-missing (next (goal.at.returns-in_err-number c).In-loop-k) (rest (goal.at.returns-in_err-number c).In-loop-k) c.args.line.now c.loop-k.i (sym c.in_err-number.was ∙ c.step_at.ensures)))
    ∙ whole (goal.at.returns-in_err-number c).In-loop-k

pub slice_bounds-put-end : goal.slice_bounds-put-end
slice_bounds-put-end c = sym c.loop-k.invariant.2

pub loop-k-preserved : goal.loop-k-preserved
unfolding next rest
loop-k-preserved c =
    let q = sym c.in_ok-number.was ∙ c.step_at.ensures in
    (elim c.if-t-eq-HOLE.branch [
      | then-t-eq-HOLE w ↦ (
        omega arith,
        omega arith,
        rw w.numbers-is (ap length w.put.ensures ∙ length-set c.loop-k.numbers c.loop-k.n _ ∙ c.loop-k.invariant.2),
        rw (w.numbers-is, w.n-is) (ap (λ (ps : List ℕ). fit_from (c.loop-k.n + 1) ps (found (rest (goal.at.loop-k-preserved c).In-loop-k) (drop c.in_ok-number.number.end c.args.line.now))) w.put.ensures ∙ step-hole (next (goal.at.loop-k-preserved c).In-loop-k) (rest (goal.at.loop-k-preserved c).In-loop-k) c.args.line.now c.loop-k.i w.if-t-eq-HOLE.true c.loop-k.n c.loop-k.numbers q ∙ whole (goal.at.loop-k-preserved c).In-loop-k),
      )
      | else-t-eq-HOLE w ↦ (
        omega arith,
        omega arith,
        rw w.numbers-is c.loop-k.invariant.2,
        rw (w.numbers-is, w.n-is) (ap (fit_from c.loop-k.n c.loop-k.numbers) (step-byte (next (goal.at.loop-k-preserved c).In-loop-k) (rest (goal.at.loop-k-preserved c).In-loop-k) c.args.line.now c.loop-k.i w.if-t-eq-HOLE.false q) ∙ whole (goal.at.loop-k-preserved c).In-loop-k),
      )
    ])

-- past the loop no template is left
over : (c : After-loop-k) → fit_from c.loop-k.n c.loop-k.numbers (found [] (drop c.loop-k.i c.args.line.now)) ≡ fitted c.args.template.now (drop c.args.at c.args.line.now)
over c =
    let a = c.args in
    ap (λ (ts : List ℕ). fit_from c.loop-k.n c.loop-k.numbers (found ts (drop c.loop-k.i a.line.now))) (sym (drop_of_length-le a.template.now {i = c.loop-k.k} (omega arith))) ∙ c.loop-k.invariant.3

pub returns-then-i-line : goal.returns-then-i-line
returns-then-i-line c =
    fit-over c.args.line.now c.loop-k.i c.loop-k.n c.loop-k.numbers c.if-i-line.true ∙ over (goal.at.returns-then-i-line c).After-loop-k

pub returns : goal.returns
returns c =
    fit-end c.args.line.now c.loop-k.i c.loop-k.n c.loop-k.numbers c.if-i-line.false ∙ over (goal.at.returns c).After-loop-k
