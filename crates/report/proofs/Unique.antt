-- No second answer meets the contract of the report: neither another number of bytes, nor other bytes in the lent buffer.
--
--   reported-one   == two answers that are both as promised are one
--   report-settles == the contract settles what comes back
--   report-leaves  == and what the lent buffer holds
--   render-settles, render-leaves == the same of the text of a trace
use mathlib.Core.Path.{◌≡◌, sym, ap, ◌∙◌}
use mathlib.Core.List.{List, ◌++◌}
use Prim.Native.Nat.{ℕ}
use native.Mathlib.Decide.{dec_lt}
use native.Mathlib.Omega.{arith}
use lib.ListN.{length, drop}
use Rattle.laws.specs.Settles.{Settles, Leaves}
use Rattle.report.specs.Wrote.{Reported}
use Rattle.report.proofs.Answered.{prints-one}
use Rattle.report.proofs.report.Reads as report
use Rattle.report.proofs.report.Kinds as report-kinds
use Rattle.report.proofs.render.render.Reads as render
use Rattle.report.proofs.render.render.Kinds as render-kinds

pub reported-one : (text before a b : List ℕ) (r s : ℕ) → Reported text before a r → Reported text before b s → (r ≡ s) × (a ≡ b)
reported-one text before a b r s p q =
    let same = prints-one text p.out q.out p.prints q.prints in
    let n = ap length same in
    elim (dec_lt (length before) (length p.out)) [
      | yes h ↦ let (x, y) = p.short h in let (z, w) = q.short (omega arith) in (x ∙ sym z, y ∙ sym w)
      | no h ↦
          let g = p.fits (omega arith) in
          let k = q.fits (omega arith) in
          (g.0 ∙ n ∙ sym k.0, g.1 ∙ ap (λ (o : List ℕ). o ++ drop (length o) before) same ∙ sym k.1)
    ]

pub report-settles : Settles 2 report-kinds.ps report-kinds.r report.Post
report-settles κs a x y s t p q = (reported-one a.0.now a.1.0.now s.1.0.now t.1.0.now x y p q).0

pub report-leaves : Leaves 2 report-kinds.ps report-kinds.r (λ κs s. s.1.0.now) report.Post
report-leaves κs a x y s t p q = (reported-one a.0.now a.1.0.now s.1.0.now t.1.0.now x y p q).1

pub render-settles : Settles 1 render-kinds.ps render-kinds.r render.Post
render-settles κs a x y s t p q = p.0 ∙ sym q.0

pub render-leaves : Leaves 1 render-kinds.ps render-kinds.r (λ κs s. s.1.0.now) render.Post
render-leaves κs a x y s t p q = p.1 ∙ sym q.1
