-- Lost cores: a recorder that dropped one leaves a gap in the thread numbers. A text and a packed file are held to this, a trace by value is not.
--
--   shows t τ      == some record of t is of thread τ, a fence too
--   all_show t τ    == so is one of each lower thread
--   lost t         == a thread appears, and a lower one does not
--   Appears t τ    == what shows says, over records
--   Whole t        == where a thread appears, each lower one does
use Rattle.std.specs.Prelude.{◌≡◌, Bool, not, ◌&&◌, ℕ, ◌<◌, eqb}
use Rattle.laws.specs.Tests.{any, all}
use Rattle.trace.specs.Bounds.{THREADS}
use Rattle.trace.specs.Op.{thread}
use Rattle.trace.specs.Trace.{at}
use Rattle.trace.specs.declared.Trace.{Trace}

unfoldable pub shows : Trace → ℕ → Bool
shows t τ = any t.len (λ x. eqb (thread (at t x)) τ)

unfoldable pub all_show : Trace → ℕ → Bool
all_show t τ = all τ (shows t)

unfoldable pub lost : Trace → Bool
lost t = any THREADS (λ τ. shows t τ && not (all_show t τ))

abbrev pub Appears : Trace → ℕ → Type 0
Appears t τ = (x : ℕ) × (x < t.len) × (thread (at t x) ≡ τ)

abbrev pub Whole : Trace → Type 0
Whole t = (τ σ : ℕ) → σ < τ → Appears t τ → Appears t σ
