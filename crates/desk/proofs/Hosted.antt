-- The machine in numbers and bytes.
--
--   hosted-is         == a model is hosted exactly where it has a machine
--   place-laid, steps-laid == a place, and steps from an order, at the front of a buffer
--   run-one, replayed-one  == no second answer, and no second state of the buffer
use mathlib.Core.Path.{◌≡◌, sym, ap, ◌∙◌}
use mathlib.Core.Bool.{Bool, true, false, cond}
use mathlib.Core.List.{List, [], ◌∷◌, ◌++◌}
use Prim.Native.Nat.{ℕ, ◌≤◌}
use native.Mathlib.Omega.{arith}
use lib.ListN.{length, drop, length-append}
use Rattle.text.specs.Room.{put_at}
use Rattle.text.proofs.Put.{put_front, put_then}
use Rattle.pairs.specs.Kept.{modelled}
use Rattle.machine.specs.Machine.{machined}
use Rattle.machine.specs.Replay.{STEPS}
use Rattle.machine.specs.declared.Steps.{Steps}
use Rattle.machine.proofs.KeptLaws.{machined-iff}
use Rattle.pairs.proofs.KeptPairs.{modelled-iff}
use Rattle.desk.specs.VerdictBytes.{wide}
use Rattle.desk.specs.Runs.{PLACE, REPLAY, spread, hosted, RunAnswered, Replayed}
use Rattle.desk.proofs.Ranked.{ranked-one}

pub hosted-is : (m : ℕ) (b : Bool) → machined m ≡ b → modelled (hosted m) ≡ b
hosted-is m true e = ap (λ (x : Bool). modelled (cond x m 0)) e ∙ (modelled-iff m).1 (let k = (machined-iff m).0 e in (k.0, omega (arith, k.1)))
hosted-is m false e = ap (λ (x : Bool). modelled (cond x m 0)) e

pub place-laid : (a : ℕ) (before : List ℕ) → PLACE ≤ length before → put_at (wide (a ∷ [])) before 0 ≡ wide (a ∷ []) ++ drop PLACE before
unfolding wide
place-laid a before h = put_front _ before h

pub steps-laid : (s : Steps) (before : List ℕ) → length s.steps ≡ STEPS → REPLAY ≤ length before → put_at s.steps (put_at (wide (s.len ∷ [])) before 0) 2 ≡ spread s ++ drop REPLAY before
unfolding wide spread
steps-laid s before long h =
    let all : length (wide (s.len ∷ []) ++ s.steps) ≡ REPLAY = omega (arith, length-append (wide (s.len ∷ [])) s.steps) in
    put_then (wide (s.len ∷ [])) s.steps before 0 (omega arith)
    ∙ put_front (wide (s.len ∷ []) ++ s.steps) before (omega arith)
    ∙ ap (λ (k : ℕ). (wide (s.len ∷ []) ++ s.steps) ++ drop k before) all

pub run-one : (text : List ℕ) (m : ℕ) (ss before a b : List ℕ) (r s : ℕ) → RunAnswered text m ss before a r → RunAnswered text m ss before b s → (r ≡ s) × (a ≡ b)
run-one text m ss before = ranked-one text (hosted m) PLACE _ before (λ r s a b p q. (p.0 ∙ sym q.0, p.1 ∙ sym q.1))

pub replayed-one : (text : List ℕ) (m : ℕ) (xs before a b : List ℕ) (r s : ℕ) → Replayed text m xs before a r → Replayed text m xs before b s → (r ≡ s) × (a ≡ b)
replayed-one text m xs before = ranked-one text (hosted m) REPLAY _ before (λ r s a b p q. (p.0 ∙ sym q.0, p.1 ∙ sym q.1))
