-- Steps from an order: each of its operations reaches memory in its turn, and before it its core runs what stands before it. That the machine runs a
-- valid order's steps through is `replay-through` of proofs/Equal.
--
--   STEPS                   == a list of possible steps has at most so many: a record runs, and an entry is emptied, once
--   told b                  == the steps so far
--   put b s                 == one step more; a full list stays as it is
--   began b k s             == record k ran by step s
--   passed_record t every core k b == record k runs if it did not, and is of the core or every core is asked
--   swept t every core b n  == so do the first n records in turn
--   placed_next t m b c      == operation c reaches memory: its core runs up to it, and then empties where it did not land
--   placing t m b xs        == so do the operations xs in turn
--   built_of t m xs          == the steps of an order: its operations in turn, then the fences that are left
--   yes? j                  == the judge says yes
--   no_steps why             == no steps
--   listed b                == the steps, handed back
--   steps_of t m xs          == the answer: 9 before 10, then no for what is no valid order
use Rattle.std.specs.Prelude.{Result, Ok, Err, Bool, true, false, cond, not, ◌&&◌, ◌||◌, List, [], ◌∷◌, ℕ, zero, suc, ◌+◌, ◌*◌, eqb, ltb, get_or, set, take, replicate}
use Rattle.trace.specs.Bounds.{RECORDS, THREADS}
use Rattle.trace.specs.Op.{thread}
use Rattle.trace.specs.Trace.{at}
use Rattle.trace.specs.WellFormed.{well_formed}
use Rattle.trace.specs.declared.Trace.{Trace}
use Rattle.judge.specs.Judged.{judged_of}
use Rattle.judge.specs.declared.judging.Broken.{Broken}
use Rattle.machine.specs.Machine.{machined, lands}
use Rattle.machine.specs.declared.Built.{Built}
use Rattle.machine.specs.declared.Steps.{Steps}
use Rattle.machine.specs.declared.Given.{Given}
use Rattle.machine.specs.declared.Given.TheVariants as given

abbrev pub STEPS : ℕ
STEPS = 2 * RECORDS

abbrev pub told : Built → List ℕ
told b = take b.len b.steps

unfoldable pub put : Built → ℕ → Built
put b s = cond (ltb b.len STEPS) (record { ran = b.ran; steps = set b.steps b.len s; len = b.len + 1 }) b

abbrev pub began : Built → ℕ → ℕ → Built
began b k s = put (record { ran = set b.ran k true; steps = b.steps; len = b.len }) s

unfoldable pub passed_record : Trace → Bool → ℕ → ℕ → Built → Built
passed_record t every core k b = cond (not (get_or b.ran k false) && (every || eqb (thread (at t k)) core)) (began b k (thread (at t k))) b

unfoldable pub swept : Trace → Bool → ℕ → Built → ℕ → Built
swept t every core b zero = b
swept t every core b (suc k) = passed_record t every core k (swept t every core b k)

unfoldable pub placed_next : Trace → ℕ → Built → ℕ → Built
placed_next t m b c =
    let a = swept t false (thread (at t c)) b (suc c) in
    cond (lands m (at t c)) a (put a (THREADS + thread (at t c)))

unfoldable pub placing : Trace → ℕ → Built → List ℕ → Built
placing t m b [] = b
placing t m b (c ∷ cs) = placing t m (placed_next t m b c) cs

abbrev pub none_built : Built
none_built = record { ran = replicate RECORDS false; steps = replicate STEPS 0; len = 0 }

unfoldable pub built_of : Trace → ℕ → List ℕ → Built
built_of t m xs = swept t true 0 (placing t m none_built xs) t.len

abbrev pub yes? : Result Unit Broken → Bool
yes? (Ok u) = true
yes? (Err b) = false

abbrev pub no_steps : Given → Steps
no_steps why = record { given = why; len = 0; steps = replicate STEPS 0 }

abbrev pub listed : Built → Steps
listed b = record { given = given.List; len = b.len; steps = b.steps }

unfoldable pub steps_of : Trace → ℕ → List ℕ → Steps
steps_of t m xs =
    cond (machined m)
    (cond (well_formed t) (cond (yes? (judged_of t m xs)) (listed (built_of t m xs)) (no_steps given.NoOrder)) (no_steps given.NotWellFormed))
    (no_steps given.NoModel)
