-- The words of a test program, thread by thread; a thread without loads has none.
--
--   thread_words t g τ == the words of thread τ, where load L has the digit g L
--   words_up_to t g τ k == the words of the threads τ, τ + 1, .., k of them
--   words_by t g       == the words of all threads
--   signature t v     == the words where load L read v L
--   tops t            == the largest words: every digit is the last of its list
--   too_large t ws k   == word k is larger than its digits make
use Rattle.std.specs.Prelude.{Bool, List, [], ◌++◌, ℕ, zero, suc, ◌-◌, ltb, get_or}
use Rattle.trace.specs.Bounds.{THREADS}
use Rattle.trace.specs.declared.Trace.{Trace}
use Rattle.signature.specs.DigitWords.{packed}
use Rattle.signature.specs.Reads.{each, range_of, digit_of, readers}

abbrev pub thread_words : Trace → (ℕ → ℕ) → ℕ → List ℕ
thread_words t g τ = packed (each (range_of t) (readers t τ)) (each g (readers t τ))

unfoldable pub words_up_to : Trace → (ℕ → ℕ) → ℕ → ℕ → List ℕ
words_up_to t g τ zero = []
words_up_to t g τ (suc k) = thread_words t g τ ++ words_up_to t g (suc τ) k

abbrev pub words_by : Trace → (ℕ → ℕ) → List ℕ
words_by t g = words_up_to t g 0 THREADS

abbrev pub signature : Trace → (ℕ → ℕ) → List ℕ
signature t v = words_by t (λ L. digit_of t L (v L))

abbrev pub tops : Trace → List ℕ
tops t = words_by t (λ L. range_of t L - 1)

unfoldable pub too_large : Trace → List ℕ → ℕ → Bool
too_large t ws k = ltb (get_or (tops t) k 0) (get_or ws k 0)
