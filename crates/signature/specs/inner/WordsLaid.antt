-- How the words are laid down and taken up again, a load at a time. Only private functions promise this; proofs/Laid.antt says what it comes to.
--
--   choice t last L     == the digit that is packed: of what L read, or the last of its list
--   step_on i            == the next place, where there is one
--   closed_of o          == the open word laid down
--   joined_of o r d      == a digit of range r more
--   stepped_of t τ last o i == record i looked at for thread τ
--   ran_from t τ last o i k == records i, i + 1, .., k of them
--   thread_of t τ last o == all records, and the last word laid down, if the thread has loads
--   all_from t last o τ k == threads τ, τ + 1, .., k of them
--   none_laid            == nothing laid down
--   laid_words o         == the words laid down
--   placed_of, placed_at, placed_from, placed_thread, placed_all, none_placed == the same for where the digits stand
--   places_of t          == where the digits of a program stand
--   digit_by x ws i      == the digit of record i, by where it stands
--   Taking, took_of, looked_of, took_from, took_thread, took_all, none_taken == the same for taking digits up one after the other, of which only the laws speak
use Rattle.std.specs.Prelude.{Bool, cond, List, ℕ, zero, suc, ◌+◌, ◌-◌, ◌*◌, ◌/◌, ◌%◌, ltb, leb, get_or, set, take, replicate}
use Rattle.laws.specs.Tests.{any}
use Rattle.trace.specs.Bounds.{RECORDS, THREADS}
use Rattle.trace.specs.Op.{read}
use Rattle.trace.specs.Trace.{at}
use Rattle.trace.specs.declared.Trace.{Trace}
use Rattle.signature.specs.DigitWords.{LIMIT}
use Rattle.signature.specs.Reads.{range_of, digit_of, reader}
use Rattle.signature.specs.declared.Open.{Open}
use Rattle.signature.specs.declared.Places.{Places}

unfoldable pub choice : Trace → Bool → ℕ → ℕ
choice t last L = cond last (range_of t L - 1) (digit_of t L (read (at t L)))

unfoldable pub step_on : ℕ → ℕ
step_on i = cond (ltb i RECORDS) (i + 1) i

unfoldable pub closed_of : Open → Open
closed_of o = record { of = set o.of o.count o.word; count = step_on o.count; q = 0; word = 0 }

unfoldable pub joined_of : Open → ℕ → ℕ → Open
joined_of o r d =
    cond (leb (suc o.q * r) LIMIT)
    (record { of = o.of; count = o.count; q = suc o.q * r - 1; word = o.word + suc o.q * d })
    (record { of = set o.of o.count o.word; count = step_on o.count; q = r - 1; word = d })

unfoldable pub stepped_of : Trace → ℕ → Bool → Open → ℕ → Open
stepped_of t τ last o i = cond (reader t τ i) (joined_of o (range_of t i) (choice t last i)) o

unfoldable pub ran_from : Trace → ℕ → Bool → Open → ℕ → ℕ → Open
ran_from t τ last o i zero = o
ran_from t τ last o i (suc k) = ran_from t τ last (stepped_of t τ last o i) (suc i) k

unfoldable pub thread_of : Trace → ℕ → Bool → Open → Open
thread_of t τ last o = cond (any t.len (reader t τ)) (closed_of (ran_from t τ last o 0 t.len)) o

unfoldable pub all_from : Trace → Bool → Open → ℕ → ℕ → Open
all_from t last o τ zero = o
all_from t last o τ (suc k) = all_from t last (thread_of t τ last o) (suc τ) k

abbrev pub none_laid : Open
none_laid = record { of = replicate RECORDS 0; count = 0; q = 0; word = 0 }

unfoldable pub laid_words : Open → List ℕ
laid_words o = take o.count o.of

unfoldable pub placed_of : Places → ℕ → ℕ → Places
placed_of x r i =
    cond (leb (suc x.q * r) LIMIT)
    (record { word = set x.word i x.at; below = set x.below i x.q; range = set x.range i r; at = x.at; q = suc x.q * r - 1 })
    (record { word = set x.word i (step_on x.at); below = set x.below i 0; range = set x.range i r; at = step_on x.at; q = r - 1 })

unfoldable pub placed_at : Trace → ℕ → Places → ℕ → Places
placed_at t τ x i = cond (reader t τ i) (placed_of x (range_of t i) i) x

unfoldable pub placed_from : Trace → ℕ → Places → ℕ → ℕ → Places
placed_from t τ x i zero = x
placed_from t τ x i (suc k) = placed_from t τ (placed_at t τ x i) (suc i) k

-- what stays when the thread's last word is done with
unfoldable pub past_thread : Places → Places
past_thread x = record { word = x.word; below = x.below; range = x.range; at = step_on x.at; q = 0 }

unfoldable pub placed_thread : Trace → ℕ → Places → Places
placed_thread t τ x = cond (any t.len (reader t τ)) (past_thread (placed_from t τ x 0 t.len)) x

unfoldable pub placed_all : Trace → Places → ℕ → ℕ → Places
placed_all t x τ zero = x
placed_all t x τ (suc k) = placed_all t (placed_thread t τ x) (suc τ) k

abbrev pub none_placed : Places
none_placed = record { word = replicate RECORDS 0; below = replicate RECORDS 0; range = replicate RECORDS 1; at = 0; q = 0 }

abbrev pub places_of : Trace → Places
places_of t = placed_all t none_placed 0 THREADS

unfoldable pub digit_by : Places → List ℕ → ℕ → ℕ
digit_by x ws i = get_or ws (get_or x.word i 0) 0 / suc (get_or x.below i 0) % get_or x.range i 0

-- digits taken so far, by record, and the open word: its place, the product of the ranges taken from it, less 1, and what is left of it
pub record Taking : Type 0 where
  pub of : List ℕ
  pub at : ℕ
  pub q : ℕ
  pub left : ℕ

unfoldable pub took_of : Taking → List ℕ → ℕ → ℕ → Taking
took_of x ws r i =
    cond (leb (suc x.q * r) LIMIT)
    (record { of = set x.of i (x.left % r); at = x.at; q = suc x.q * r - 1; left = x.left / r })
    (record { of = set x.of i (get_or ws (step_on x.at) 0 % r); at = step_on x.at; q = r - 1; left = get_or ws (step_on x.at) 0 / r })

unfoldable pub looked_of : Trace → ℕ → List ℕ → Taking → ℕ → Taking
looked_of t τ ws x i = cond (reader t τ i) (took_of x ws (range_of t i) i) x

unfoldable pub took_from : Trace → ℕ → List ℕ → Taking → ℕ → ℕ → Taking
took_from t τ ws x i zero = x
took_from t τ ws x i (suc k) = took_from t τ ws (looked_of t τ ws x i) (suc i) k

-- the thread's first word opened, and what stays when its last is done with
unfoldable pub opened_of : List ℕ → Taking → Taking
opened_of ws x = record { of = x.of; at = x.at; q = 0; left = get_or ws x.at 0 }

unfoldable pub shut_of : Taking → Taking
shut_of x = record { of = x.of; at = step_on x.at; q = 0; left = 0 }

unfoldable pub took_thread : Trace → ℕ → List ℕ → Taking → Taking
took_thread t τ ws x = cond (any t.len (reader t τ)) (shut_of (took_from t τ ws (opened_of ws x) 0 t.len)) x

unfoldable pub took_all : Trace → List ℕ → Taking → ℕ → ℕ → Taking
took_all t ws x τ zero = x
took_all t ws x τ (suc k) = took_all t ws (took_thread t τ ws x) (suc τ) k

abbrev pub none_taken : Taking
none_taken = record { of = replicate RECORDS 0; at = 0; q = 0; left = 0 }
