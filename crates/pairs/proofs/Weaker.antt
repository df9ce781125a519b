-- Fewer kept pairs, more valid orders.
--
--   model-weaker == so an order that is valid under a model is valid under each model after it
--   sc-tso, tso-pso, pso-wmo == the four models, one after the other
use mathlib.Core.List.{List}
use Prim.Native.Nat.{ℕ, ◌<◌, ◌≤◌}
use native.Mathlib.Omega.{arith}
use Rattle.rules.specs.Order.{Valid}
use Rattle.trace.specs.Meaning.{frame_of}
use Rattle.trace.specs.declared.Trace.{Trace}
use Rattle.pairs.specs.Kept.{SC, TSO, PSO, WMO, kept_of}
use Rattle.pairs.proofs.KeptPairs.{kept_less}
use Rattle.rules.proofs.Weaker.{weaker}

pub model-weaker : (t : Trace) (m n : ℕ) → 0 < m → m ≤ n → (xs : List ℕ) → Valid (frame_of t) (kept_of m t) xs → Valid (frame_of t) (kept_of n t) xs
model-weaker t m n some h = weaker (frame_of t) (kept_of m t) (kept_of n t) (λ x y. kept_less t x y m n some h)

module _ (t : Trace) (xs : List ℕ) where
  pub sc-tso : Valid (frame_of t) (kept_of SC t) xs → Valid (frame_of t) (kept_of TSO t) xs
  sc-tso = model-weaker t SC TSO (omega arith) (omega arith) xs

  pub tso-pso : Valid (frame_of t) (kept_of TSO t) xs → Valid (frame_of t) (kept_of PSO t) xs
  tso-pso = model-weaker t TSO PSO (omega arith) (omega arith) xs

  pub pso-wmo : Valid (frame_of t) (kept_of PSO t) xs → Valid (frame_of t) (kept_of WMO t) xs
  pso-wmo = model-weaker t PSO WMO (omega arith) (omega arith) xs
