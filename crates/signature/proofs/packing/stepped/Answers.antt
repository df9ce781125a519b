-- `signature::packing::stepped`: a digit more where the record is a load of the thread.
use mathlib.Core.Path.{◌≡◌, sym, ap₂, ◌∙◌, subst}
use Prim.Native.Nat.{◌<◌, ◌≤◌}
use native.Mathlib.Omega.{arith}
use Rattle.signature.specs.Reads.{range_of, reader}
use Rattle.signature.specs.inner.WordsLaid.{choice, joined_of}
use Rattle.signature.specs.declared.Open.{Open}
use Rattle.signature.proofs.Laid.{joined-low, stepped-yes, stepped-no}
use Rattle.signature.proofs.Signature.{reader-iff}
use Rattle.signature.proofs.packing.stepped.Goals.{After-choice, After-of_thread}
use Rattle.signature.proofs.packing.stepped.Goals as goal

-- the code's test is the definition's
told : (c : After-of_thread) → c.of_thread.result ≡ reader c.args.t c.args.core c.args.i
unfolding reader
told c = c.of_thread.ensures

-- the digit is one of the load's
below : (c : After-choice) → c.choice.result < c.range_of.result
below c =
    omega (arith, c.choice.ensures, c.range_of.ensures.0, c.requires.2 c.args.i c.requires.1 ((reader-iff c.args.t c.args.core c.args.i).0 (sym (told c.before.before.before) ∙ c.if-of_thread.true)).0)

pub joined-requires : goal.joined-requires
joined-requires c =
    (below c, c.requires.3)

pub returns-then-of_thread : goal.returns-then-of_thread
returns-then-of_thread c =
    let e : c.joined.result ≡ joined_of c.args.o (range_of c.args.t c.args.i) (choice c.args.t c.args.last c.args.i)
    = c.joined.ensures ∙ ap₂ (joined_of c.args.o) c.range_of.ensures.0 c.choice.ensures in
    let b = c.requires.2 c.args.i c.requires.1 ((reader-iff c.args.t c.args.core c.args.i).0 (sym (told (goal.at.returns-then-of_thread c).After-of_thread) ∙ c.if-of_thread.true)).0 in (
      e ∙ stepped-yes c.args.o c.args.t c.args.core c.args.last c.args.i (sym (told (goal.at.returns-then-of_thread c).After-of_thread) ∙ c.if-of_thread.true),
      subst (λ (o : Open). o.word ≤ o.q) (sym e) (joined-low c.args.o (range_of c.args.t c.args.i) (choice c.args.t c.args.last c.args.i) b c.requires.3),
    )

pub returns : goal.returns
returns c = (stepped-no c.args.o c.args.t c.args.core c.args.last c.args.i (sym (told (goal.at.returns c).After-of_thread) ∙ c.if-of_thread.false), c.requires.3)
