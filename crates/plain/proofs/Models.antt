-- The models' tables are orderly.
--
--   write-kind   == what writes is a store or a swap
--   kept-orderly == so the plain search may be run over the kept pairs of each model
use mathlib.Core.Path.{◌≡◌, sym, ◌∙◌}
use mathlib.Core.Logic.{inl, inr}
use mathlib.Core.Bool.{true, So, false≢true}
use Prim.Native.Nat.{ℕ, ◌<◌, ◌≤◌}
use native.Mathlib.Omega.{arith}
use Rattle.laws.proofs.Tests.{so-eq}
use Rattle.trace.specs.Op.{thread, address, writes}
use Rattle.trace.specs.Trace.{at}
use Rattle.trace.specs.WellFormed.{well_formed}
use Rattle.trace.specs.Meaning.{frame_of}
use Rattle.trace.specs.declared.Op.{Op}
use Rattle.trace.specs.declared.Op.TheVariants.{Load, Store, Swap, Fence}
use Rattle.trace.specs.declared.Trace.{Trace}
use Rattle.trace.proofs.Good.{good}
use Rattle.trace.proofs.Meaning.{writes-iff}
use Rattle.pairs.specs.Kept.{LOAD, FENCE, MODELS, kind_of, kept_by, modelled, kept_of}
use Rattle.pairs.proofs.KeptPairs.{Off, kept-by-iff, kept-of-iff, kept-joins, modelled-iff, earlier-iff}
use Rattle.plain.specs.Plain.{Orderly}

pub write-kind : (o : Op) → So (writes o) → (LOAD < kind_of o) × (kind_of o < FENCE)
write-kind (Load t a r) s = absurd (false≢true s)
write-kind (Store t a w) s = (omega arith, omega arith)
write-kind (Swap t a r w) s = (omega arith, omega arith)
write-kind (Fence t) s = absurd (false≢true s)

-- without a fence between no model lets off two writers of one address
writers-kept : (m a b : ℕ) → (0 < m) × (m ≤ MODELS) → (LOAD < a) × (a < FENCE) → (LOAD < b) × (b < FENCE) → So (kept_by m a b true)
writers-kept m a b n ha hb = (kept-by-iff m a b true).1 (((n, ha.1), hb.1), no)
  where
    no : Off m a b true → ⊥
    no (inl (inl o)) = omega (arith, hb.0, o.1)
    no (inl (inr o)) = false≢true o.1
    no (inr o) = false≢true o.1

pub kept-orderly : (t : Trace) → So (well_formed t) → (m : ℕ) → So (modelled m) → Orderly (frame_of t) (kept_of m t)
unfolding frame_of
kept-orderly t w m s = record {
  joins = kept-joins m t;
  writers = λ x y L a b u v h. one x y a.writes b.writes (a.same ∙ sym b.same) (((earlier-iff t x L).0 u).1 ∙ sym ((earlier-iff t y L).0 v).1) h;
}
  where
    one : (x y : ℕ) → So ((frame_of t).writes x) → So ((frame_of t).writes y) → (frame_of t).address x ≡ (frame_of t).address y → thread (at t x) ≡ thread (at t y) → x < y → So (kept_of m t x y)
    one x y a b d e h =
        let g = good t w in
        let kx = write-kind (at t x) ((writes-iff t x).0 a).1 in
        let ky = write-kind (at t y) ((writes-iff t y).0 b).1 in
        let n = (modelled-iff m).0 s in
        (kept-of-iff t x y m).1 (
          ((((earlier-iff t x y).1 (h, e), g.writes x a), g.writes y b), n),
          inl (rw ((so-eq {m = address (at t x)} {n = address (at t y)}).1 d) (writers-kept m _ _ n kx ky)),
        )
