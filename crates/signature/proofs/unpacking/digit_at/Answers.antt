-- `signature::unpacking::digit_at`: a division and what it leaves.
use mathlib.Core.Path.{◌≡◌, sym, ap, ◌∙◌}
use Prim.Native.Nat.{ℕ, suc, ◌/◌, ◌%◌}
use native.Mathlib.Nat.{mod-zero}
use lib.ListN.{get_or}
use Rattle.signature.proofs.unpacking.digit_at.Goals.{After-left_above-left}
use Rattle.signature.proofs.unpacking.digit_at.Goals as goal

-- what is left of the word
left : (v : After-left_above-left) → v.left_above-left.result ≡ get_or v.args.words.now v.args.at 0 / suc v.args.q
left v = v.left_above-left.ensures ∙ ap (λ (n : ℕ). n / suc v.args.q) v.word_at.ensures

pub returns-then-range-eq0 : goal.returns-then-range-eq0
returns-then-range-eq0 c =
    let w = get_or c.args.words.now c.args.at 0 / suc c.args.q in
    left (goal.at.returns-then-range-eq0 c).After-left_above-left ∙ sym (ap (λ (r : ℕ). w % r) c.if-range-eq0.true ∙ mod-zero w)

pub returns : goal.returns
returns c = ap (λ (n : ℕ). n % c.args.range) (left (goal.at.returns c).After-left_above-left)
