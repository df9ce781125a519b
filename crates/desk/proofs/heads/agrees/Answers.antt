-- `desk::heads::agrees`: the head is laid down elsewhere, and held against the bytes.
use mathlib.Core.Path.{◌≡◌, sym, ◌∙◌}
use Prim.Native.Nat.{ℕ}
use native.Mathlib.Omega.{arith}
use lib.ListN.{replicate, length-replicate}
use lib.Seq.{length-take-le}
use Rattle.desk.specs.SessionHead.{SESSION-HEAD, session_head}
use Rattle.desk.proofs.HeadBytes.{laid-alone}
use Rattle.desk.proofs.heads.agrees.Goals as goal

pub lay-requires : goal.lay-requires
lay-requires c = (c.requires.0, omega (arith, length-replicate {A = ℕ} SESSION-HEAD 0))

pub slice_bounds-same-end-2 : goal.slice_bounds-same-end-2
slice_bounds-same-end-2 c = sym (length-take-le SESSION-HEAD c.args.bytes.now c.requires.1)

pub returns : goal.returns
returns c =
    let s = c.args.s in
    let e : c.lay.new.out ≡ session_head s = laid-alone s (replicate SESSION-HEAD 0) _ (omega (arith, length-replicate {A = ℕ} SESSION-HEAD 0)) c.lay.ensures in
    (λ y. sym e ∙ c.same.ensures.0 y, λ q. c.same.ensures.1 (e ∙ q))
