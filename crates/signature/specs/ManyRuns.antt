-- Many runs of one test program unpacked at once: the words of each run, one behind the other, and so the reads.
--
--   words_at t ws i      == the words of run i
--   read_runs t n        == how many runs have n reads
--   large_in_runs t ws k  == word k, of whichever run, is larger than its digits make
--   all_reads t ws k     == what the loads of the first k runs read
--   unpack_runs_of t ws n == the answer to unpacking the words of runs into n reads
--   unpack_runs_left t ws before == and what the reads hold then
use Rattle.std.specs.Prelude.{Result, Ok, Err, Bool, cond, List, [], ◌++◌, ℕ, zero, suc, ◌*◌, ◌/◌, ◌%◌, eqb, ltb, length, get_or, take, drop}
use Rattle.laws.specs.Lowest.{lowest}
use Rattle.trace.specs.WellFormed.{well_formed}
use Rattle.trace.specs.declared.Trace.{Trace}
use Rattle.signature.specs.Reads.{loads}
use Rattle.signature.specs.Signature.{tops}
use Rattle.signature.specs.Unpack.{reads_of}
use Rattle.signature.specs.SignatureAnswers.{unpack_next}
use Rattle.signature.specs.declared.Reason.{Reason}
use Rattle.signature.specs.declared.Reason.TheVariants.{NotWellFormed, WrongLength}

abbrev pub words_at : Trace → List ℕ → ℕ → List ℕ
words_at t ws i = take (length (tops t)) (drop (i * length (tops t)) ws)

abbrev pub read_runs : Trace → ℕ → ℕ
read_runs t n = n / length (loads t)

unfoldable pub large_in_runs : Trace → List ℕ → ℕ → Bool
large_in_runs t ws k = ltb (get_or (tops t) (k % length (tops t)) 0) (get_or ws k 0)

unfoldable pub all_reads : Trace → List ℕ → ℕ → List ℕ
all_reads t ws zero = []
all_reads t ws (suc k) = all_reads t ws k ++ reads_of t (words_at t ws k)

unfoldable pub unpack_runs_of : Trace → List ℕ → ℕ → Result (Unit {0}) Reason
unpack_runs_of t ws n =
    cond (well_formed t)
    (cond (eqb n (read_runs t n * length (loads t)))
    (cond (eqb (length ws) (read_runs t n * length (tops t))) (unpack_next (lowest (large_in_runs t ws) (length ws) 0)) (Err WrongLength)) (Err WrongLength)) (Err NotWellFormed)

abbrev pub unpack_runs_then : Result (Unit {0}) Reason → Trace → List ℕ → List ℕ → List ℕ
unpack_runs_then (Ok done) t ws before = all_reads t ws (read_runs t (length before))
unpack_runs_then (Err why) t ws before = before

unfoldable pub unpack_runs_left : Trace → List ℕ → List ℕ → List ℕ
unpack_runs_left t ws before = unpack_runs_then (unpack_runs_of t ws (length before)) t ws before
