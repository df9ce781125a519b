-- `lowest_told`: the tests of the rules, from the first on; `past` k says that no rule up to k gives the edge, `not` k that rule k does not.
use mathlib.Core.Path.{◌≡◌, refl, sym, ◌∙◌}
use mathlib.Core.Bool.{Bool, false, not, ◌&&◌}
use Prim.Native.Nat.{ℕ}
use Rattle.laws.specs.Relation.{Table}
use Rattle.rules.specs.Frame.{Frame}
use Rattle.trace.specs.Meaning.{frame_of}
use Rattle.rows.specs.Rows.{bit}
use Rattle.rules.specs.Rules.{nothing}
use Rattle.rules.specs.RuleTests.{rules, gives?}
use Rattle.rules.specs.ShownCircle.{rule?}
use Rattle.ruling.proofs.Picked.{lowest_from, lowest-here, lowest-next, lowest-none, rule-from}
use Rattle.ruling.proofs.lowest_told.Goals.{Start, Else-told, After-earlier, Else-source-earlier, After-before_source, Else-before_source, After-begins, Else-begins, After-earlier-2, Else-begins-earlier, After-before_source-2, Else-before_source-2, After-after_load, Else-after_load}
use Rattle.ruling.proofs.lowest_told.Goals as goal

-- what is asked, and the test of each rule
module _ (f : Frame) (told : Bool) (C : Table) (x y : ℕ) where
  asked : ℕ
  asked = rule? f (λ i j. told) nothing C x y

  given : ℕ → Bool
  given = gives? f (λ i j. told) nothing C x y

  past0 : asked ≡ lowest_from given 8 1
  unfolding asked given
  past0 = rule-from f (λ i j. told) nothing C x y

  past1 : given 1 ≡ false → asked ≡ lowest_from given 7 2
  past1 n1 = past0 ∙ lowest-next _ 7 1 n1

  past2 : given 1 ≡ false → given 2 ≡ false → asked ≡ lowest_from given 6 3
  past2 n1 n2 = past1 n1 ∙ lowest-next _ 6 2 n2

  past3 : given 1 ≡ false → given 2 ≡ false → given 3 ≡ false → asked ≡ lowest_from given 5 4
  past3 n1 n2 n3 = past2 n1 n2 ∙ lowest-next _ 5 3 n3

  past4 : given 1 ≡ false → given 2 ≡ false → given 3 ≡ false → given 4 ≡ false → asked ≡ lowest_from given 4 5
  past4 n1 n2 n3 n4 = past3 n1 n2 n3 ∙ lowest-next _ 4 4 n4

  past5 : given 1 ≡ false → given 2 ≡ false → given 3 ≡ false → given 4 ≡ false → given 5 ≡ false → asked ≡ lowest_from given 3 6
  past5 n1 n2 n3 n4 n5 = past4 n1 n2 n3 n4 ∙ lowest-next _ 3 5 n5

  past6 : given 1 ≡ false → given 2 ≡ false → given 3 ≡ false → given 4 ≡ false → given 5 ≡ false → given 6 ≡ false → asked ≡ lowest_from given 2 7
  past6 n1 n2 n3 n4 n5 n6 = past5 n1 n2 n3 n4 n5 ∙ lowest-next _ 2 6 n6

  past7 : given 1 ≡ false → given 2 ≡ false → given 3 ≡ false → given 4 ≡ false → given 5 ≡ false → given 6 ≡ false → given 7 ≡ false → asked ≡ lowest_from given 1 8
  past7 n1 n2 n3 n4 n5 n6 n7 = past6 n1 n2 n3 n4 n5 n6 ∙ lowest-next _ 1 7 n7

  past8 : given 1 ≡ false → given 2 ≡ false → given 3 ≡ false → given 4 ≡ false → given 5 ≡ false → given 6 ≡ false → given 7 ≡ false → given 8 ≡ false → asked ≡ lowest_from given 0 9
  past8 n1 n2 n3 n4 n5 n6 n7 n8 = past7 n1 n2 n3 n4 n5 n6 n7 ∙ lowest-next _ 0 8 n8

test1 : (c : Start) → c.args.told ≡ given (frame_of c.args.t) c.args.told (bit c.args.chains.now) c.args.x c.args.y 1
unfolding given gives? rules
test1 c = refl

not1 : (c : Else-told) → given (frame_of c.args.t) c.args.told (bit c.args.chains.now) c.args.x c.args.y 1 ≡ false
unfolding given gives? rules
not1 c = c.if-told.false

pub returns-then-told : goal.returns-then-told
unfolding asked given gives? rules
returns-then-told c =
    let a = c.args in
    sym (past0 (frame_of a.t) a.told (bit a.chains.now) a.x a.y ∙ lowest-here _ 7 1 (c.if-told.true))

test2 : (c : After-earlier) → (c.source.result && not c.earlier.result) ≡ given (frame_of c.args.t) c.args.told (bit c.args.chains.now) c.args.x c.args.y 2
unfolding given gives? rules
test2 c = (cc)

not2 : (c : Else-source-earlier) → given (frame_of c.args.t) c.args.told (bit c.args.chains.now) c.args.x c.args.y 2 ≡ false
unfolding given gives? rules
not2 c = (cc)

pub returns-then-source-earlier : goal.returns-then-source-earlier
unfolding asked
returns-then-source-earlier c =
    let a = c.args in
    let at = goal.at.returns-then-source-earlier c in
    sym (past1 (frame_of a.t) a.told (bit a.chains.now) a.x a.y (not1 at.Else-told) ∙ lowest-here _ 6 2 (sym (test2 at.After-earlier) ∙ c.if-source-earlier.true))

test3 : (c : After-before_source) → c.before_source.result ≡ given (frame_of c.args.t) c.args.told (bit c.args.chains.now) c.args.x c.args.y 3
unfolding given gives? rules frame_of
test3 c = c.before_source.ensures

not3 : (c : Else-before_source) → given (frame_of c.args.t) c.args.told (bit c.args.chains.now) c.args.x c.args.y 3 ≡ false
unfolding given gives? rules frame_of
not3 c = sym c.before_source.ensures ∙ c.if-before_source.false

pub returns-then-before_source : goal.returns-then-before_source
unfolding asked
returns-then-before_source c =
    let a = c.args in
    let at = goal.at.returns-then-before_source c in
    sym (past2 (frame_of a.t) a.told (bit a.chains.now) a.x a.y (not1 at.Else-told) (not2 at.Else-source-earlier) ∙ lowest-here _ 5 3 (sym (test3 at.After-before_source) ∙ c.if-before_source.true))

test4 : (c : After-begins) → c.begins.result ≡ given (frame_of c.args.t) c.args.told (bit c.args.chains.now) c.args.x c.args.y 4
unfolding given gives? rules
test4 c = c.begins.ensures

not4 : (c : Else-begins) → given (frame_of c.args.t) c.args.told (bit c.args.chains.now) c.args.x c.args.y 4 ≡ false
unfolding given gives? rules
not4 c = sym c.begins.ensures ∙ c.if-begins.false

pub returns-then-begins : goal.returns-then-begins
unfolding asked
returns-then-begins c =
    let a = c.args in
    let at = goal.at.returns-then-begins c in
    sym (past3 (frame_of a.t) a.told (bit a.chains.now) a.x a.y (not1 at.Else-told) (not2 at.Else-source-earlier) (not3 at.Else-before_source) ∙ lowest-here _ 4 4 (sym (test4 at.After-begins) ∙ c.if-begins.true))

test5 : (c : After-earlier-2) → (c.begins-2.result && c.earlier-2.result) ≡ given (frame_of c.args.t) c.args.told (bit c.args.chains.now) c.args.x c.args.y 5
unfolding given gives? rules
test5 c = (cc)

not5 : (c : Else-begins-earlier) → given (frame_of c.args.t) c.args.told (bit c.args.chains.now) c.args.x c.args.y 5 ≡ false
unfolding given gives? rules
not5 c = (cc)

pub returns-then-begins-earlier : goal.returns-then-begins-earlier
unfolding asked
returns-then-begins-earlier c =
    let a = c.args in
    let at = goal.at.returns-then-begins-earlier c in
    sym (past4 (frame_of a.t) a.told (bit a.chains.now) a.x a.y (not1 at.Else-told) (not2 at.Else-source-earlier) (not3 at.Else-before_source) (not4 at.Else-begins) ∙ lowest-here _ 3 5 (sym (test5 at.After-earlier-2) ∙ c.if-begins-earlier.true))

test6 : (c : After-before_source-2) → c.before_source-2.result ≡ given (frame_of c.args.t) c.args.told (bit c.args.chains.now) c.args.x c.args.y 6
unfolding given gives? rules frame_of
test6 c = c.before_source-2.ensures

not6 : (c : Else-before_source-2) → given (frame_of c.args.t) c.args.told (bit c.args.chains.now) c.args.x c.args.y 6 ≡ false
unfolding given gives? rules frame_of
not6 c = sym c.before_source-2.ensures ∙ c.if-before_source-2.false

pub returns-then-before_source-2 : goal.returns-then-before_source-2
unfolding asked
returns-then-before_source-2 c =
    let a = c.args in
    let at = goal.at.returns-then-before_source-2 c in
    sym (past5 (frame_of a.t) a.told (bit a.chains.now) a.x a.y (not1 at.Else-told) (not2 at.Else-source-earlier) (not3 at.Else-before_source) (not4 at.Else-begins) (not5 at.Else-begins-earlier) ∙ lowest-here _ 2 6 (sym (test6 at.After-before_source-2) ∙ c.if-before_source-2.true))

test7 : (c : After-after_load) → c.after_load.result ≡ given (frame_of c.args.t) c.args.told (bit c.args.chains.now) c.args.x c.args.y 7
unfolding given gives? rules frame_of
test7 c = c.after_load.ensures

not7 : (c : Else-after_load) → given (frame_of c.args.t) c.args.told (bit c.args.chains.now) c.args.x c.args.y 7 ≡ false
unfolding given gives? rules frame_of
not7 c = sym c.after_load.ensures ∙ c.if-after_load.false

pub returns-then-after_load : goal.returns-then-after_load
unfolding asked
returns-then-after_load c =
    let a = c.args in
    let at = goal.at.returns-then-after_load c in
    sym (past6 (frame_of a.t) a.told (bit a.chains.now) a.x a.y (not1 at.Else-told) (not2 at.Else-source-earlier) (not3 at.Else-before_source) (not4 at.Else-begins) (not5 at.Else-begins-earlier) (not6 at.Else-before_source-2) ∙ lowest-here _ 1 7 (sym (test7 at.After-after_load) ∙ c.if-after_load.true))

-- no pairs are supposed
test8 : (f : Frame) (told : Bool) (C : Table) (x y : ℕ) → given f told C x y 8 ≡ false
unfolding given gives? rules
test8 f told C x y = refl

pub returns : goal.returns
unfolding asked
returns c =
    let a = c.args in
    let at = goal.at.returns c in
    sym (past8 (frame_of a.t) a.told (bit a.chains.now) a.x a.y (not1 at.Else-told) (not2 at.Else-source-earlier) (not3 at.Else-before_source) (not4 at.Else-begins) (not5 at.Else-begins-earlier) (not6 at.Else-before_source-2) (not7 at.Else-after_load) (test8 (frame_of a.t) a.told (bit a.chains.now) a.x a.y) ∙ lowest-none _ 9)
