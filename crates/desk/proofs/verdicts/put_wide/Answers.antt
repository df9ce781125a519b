-- `desk::verdicts::put_wide`: the first i numbers are put.
use mathlib.Core.Path.{◌≡◌, sym, ap, ◌∙◌}
use mathlib.Core.List.{List, [], ◌∷◌}
use Prim.Native.Nat.{ℕ, ◌+◌, ◌*◌, ◌/◌, ◌%◌, ◌≤◌}
use native.Mathlib.Omega.{arith}
use lib.ListN.{length, get_or, take}
use lib.Seq.{paste-zero, take-length, length-take-le}
use Rattle.text.specs.Room.{put_at}
use Rattle.text.proofs.Put.{put-paste, put_then, length-put}
use Rattle.desk.specs.VerdictBytes.{wide}
use Rattle.desk.proofs.Spelling.{wide-long, wide-more}
use Rattle.desk.proofs.verdicts.put_wide.Goals as goal

-- nothing is put yet
nothing : (out : List ℕ) (at : ℕ) → at ≤ length out → out ≡ put_at (wide []) out at
unfolding wide
nothing out at h = paste-zero out at [] ∙ sym (put-paste [] out at (omega arith))

-- one number more
more : (ns out : List ℕ) (at i : ℕ) (now next : List ℕ) → i + 1 ≤ length ns → at + 2 * length ns ≤ length out → now ≡ put_at (wide (take i ns)) out at
    → next ≡ put_at (get_or ns i 0 % 256 ∷ get_or ns i 0 / 256 ∷ []) now (at + 2 * i) → next ≡ put_at (wide (take (i + 1) ns)) out at
more ns out at i now next h room e q =
    let word = wide (take i ns) in
    let bytes : List ℕ = get_or ns i 0 % 256 ∷ get_or ns i 0 / 256 ∷ [] in
    let long : length word ≡ 2 * i = omega (arith, wide-long (take i ns), length-take-le i ns (omega arith)) in
    q
    ∙ ap (λ (o : List ℕ). put_at bytes o (at + 2 * i)) e
    ∙ ap (put_at bytes (put_at word out at)) (let s : at + 2 * i ≡ at + length word = omega arith in s)
    ∙ put_then word bytes out at (omega arith)
    ∙ ap (λ (w : List ℕ). put_at w out at) (sym (wide-more ns i (omega arith)))

pub loop-i-init : goal.loop-i-init
loop-i-init c = (omega arith, nothing c.args.out.now c.args.at (omega (arith, c.requires)))

pub overflow_cast-high : goal.overflow_cast-high
overflow_cast-high c = omega (arith, c.type_inv.numbers c.loop-i.i)

pub loop-i-preserved : goal.loop-i-preserved
loop-i-preserved c =
    let a = c.args in
    (omega arith, more a.numbers.now a.out.now a.at c.loop-i.i c.loop-i.out _ (omega arith) (omega arith) c.loop-i.invariant.1 c.put.ensures.1)

pub shape_of-out : goal.shape_of-out
shape_of-out c =
    let a = c.args in
    ap length c.loop-i.invariant.1 ∙ length-put (wide (take c.loop-i.i a.numbers.now)) a.out.now a.at

pub returns : goal.returns
returns c =
    let a = c.args in
    let e : c.loop-i.i ≡ length a.numbers.now = omega arith in
    let whole : take c.loop-i.i a.numbers.now ≡ a.numbers.now = rw e (take-length a.numbers.now) in
    c.loop-i.invariant.1 ∙ ap (λ (ns : List ℕ). put_at (wide ns) a.out.now a.at) whole
