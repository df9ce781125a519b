-- `reader::forms::plain_at`: a store, or else a load.
use Rattle.std.specs.Prelude.{Option, None}
use mathlib.Core.Path.{◌≡◌, sym, ap, ◌∙◌}
use lib.ListN.{drop}
use Rattle.reader.specs.LineForms.{cut_form, store_rest, load_rest, store_of, load_of, or_else}
use Rattle.reader.specs.declared.Raw.{Raw}
use Rattle.text.specs.Template.{also, found}
use Rattle.reader.proofs.Chosen.{store-makes, load-makes, fit-taken, fit-left}
use Rattle.reader.specs.inner.AfterThread.{plain_of}
use mathlib.Core.List.{List}
use Prim.Native.Nat.{ℕ}
use Rattle.reader.proofs.forms.plain_at.Goals.{In_default}
use Rattle.reader.proofs.forms.plain_at.Goals as goal

-- what is left to a load
loads : ℕ → List ℕ → Option Raw
loads thread rest = or_else (also thread (found load_rest rest)) load_of None

pub returns-in-Some : goal.returns-in-Some
unfolding loads
returns-in-Some c =
    let a = c.args in
    let rest = drop a.at a.line.now in
    fit-taken store_rest rest store_of (loads a.thread rest) a.thread _ store-makes c.requires (sym c.in-Some.is ∙ c.fit.ensures)

after_store : (c : In_default) → plain_of c.args.thread (drop c.args.at c.args.line.now) ≡ loads c.args.thread (drop c.args.at c.args.line.now)
unfolding loads
after_store c =
    let a = c.args in
    let rest = drop a.at a.line.now in
    fit-left store_rest rest store_of (loads a.thread rest) a.thread (sym c.in_default.is ∙ c.fit.ensures)

pub returns-in-Some-fit : goal.returns-in-Some-fit
unfolding loads
returns-in-Some-fit c =
    let a = c.args in
    fit-taken load_rest (drop a.at a.line.now) load_of None a.thread _ load-makes c.requires (sym c.in-Some-fit.is ∙ c.fit-2.ensures) ∙ ap cut_form (sym (after_store (goal.at.returns-in-Some-fit c).In_default))

pub returns : goal.returns
unfolding loads
returns c =
    let a = c.args in
    sym (ap cut_form (after_store (goal.at.returns c).In_default ∙ fit-left load_rest (drop a.at a.line.now) load_of None a.thread (sym c.in_default-fit.is ∙ c.fit-2.ensures)))
