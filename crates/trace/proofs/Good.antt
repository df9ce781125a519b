-- A well formed trace keeps what every law about orders and rules asks of a frame.
--
--   form-good, good == the frame of a well formed trace is good
use mathlib.Core.Path.{◌≡◌, sym}
use mathlib.Core.Logic.{inl, inr}
use mathlib.Core.Bool.{So}
use Prim.Native.Nat.{ℕ, ◌<◌}
use Rattle.laws.proofs.Tests.{three}
use Rattle.trace.specs.Op.{address, written, writes}
use Rattle.trace.specs.Trace.{at}
use Rattle.trace.specs.WellFormed.{well_formed}
use Rattle.trace.specs.FormFacts.{Form}
use Rattle.rules.specs.Frame.{Good}
use Rattle.trace.specs.Meaning.{frame_of}
use Rattle.trace.specs.declared.Trace.{Trace}
use Rattle.trace.proofs.WellFormed.{form-iff}
use Rattle.trace.proofs.Meaning.{operation-iff, reads-iff, writes-iff, reads-operation, writes-operation}

-- of two records that write the same value to the same address the later one is not fresh
clash : (t : Trace) → Form t → (x y : ℕ) → x < y → y < t.len → So (writes (at t x)) → So (writes (at t y)) → address (at t x) ≡ address (at t y) → written (at t x) ≡ written (at t y) → ⊥
clash t f x y l h wx wy a v = ((f.used y h).fresh wy).once x l (record { does = wx; there = a; value = v })

pub form-good : (t : Trace) → Form t → Good (frame_of t)
unfolding frame_of
form-good t f = record {
  below = λ x o. ((operation-iff t x).0 o).0;
  reads = λ x r. let p = (reads-iff t x).0 r in (operation-iff t x).1 (p.0, reads-operation (at t x) p.1);
  writes = λ x w. let p = (writes-iff t x).0 w in (operation-iff t x).1 (p.0, writes-operation (at t x) p.1);
  fresh = λ x w. let p = (writes-iff t x).0 w in ((f.used x p.0).fresh p.1).later;
  once = λ x y w u a v.
      let p = (writes-iff t x).0 w in
      let q = (writes-iff t y).0 u in
      elim (three x y) [
        | inl l ↦ absurd (clash t f x y l q.0 p.1 q.1 a v)
        | inr e ↦ elim e [ inl s ↦ s | inr l ↦ absurd (clash t f y x l p.0 q.1 p.1 (sym a) (sym v)) ]
      ];
}

pub good : (t : Trace) → So (well_formed t) → Good (frame_of t)
good t s = form-good t ((form-iff t).0 s)
