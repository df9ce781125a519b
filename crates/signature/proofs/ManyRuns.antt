-- Laws of many runs.
--
--   run_fits, part-words, words_long == the words of a run are a part of all words, and as many as the program has
--   reads-long, all-long  == how many reads a run has, and many runs
--   reads_at              == the reads of a run are a part of all reads
--   Reading t ws m out runs i == the reads of the first i runs stand in their places
--   reading-start, reading-fits, part_room, reading-more, reading-end == it is so at first, after one run more, and at the end it is all
--   some_words            == where there are words, a run has some
--   runs-ten, runs-reads, runs-words, runs-answer, runs-large, runs_done == what is answered, by the tests that lead there
use mathlib.Core.Path.{◌≡◌, refl, sym, ap, ap₂, ◌∙◌}
use mathlib.Core.Logic.{◌≢◌, inl, inr}
use mathlib.Core.Bool.{false, So}
use mathlib.Core.List.{List, ◌++◌, append_assoc}
use mathlib.Core.Option.{none, some}
use Prim.Native.Nat.{ℕ, zero, suc, ◌+◌, ◌*◌, ◌<◌, ◌≤◌}
use native.Mathlib.Nat.{mul-le-mul_right, suc-mul}
use native.Mathlib.Numerals.{add-one}
use native.Mathlib.Omega.{arith}
use borrow.Author.Tests.{eq-eqb, ne_eqb}
use lib.ListN.{length, take, drop, length-append, length-drop}
use lib.Seq.{length-take-le, take_at, drop_at, take_all, take-append-le, drop-append-le}
use Rattle.std.specs.Prelude.{Result, Ok, Err}
use Rattle.laws.specs.Lowest.{lowest}
use Rattle.laws.proofs.Tests.{eq?}
use Rattle.trace.specs.WellFormed.{well_formed}
use Rattle.trace.specs.declared.Trace.{Trace}
use Rattle.signature.specs.Reads.{loads}
use Rattle.signature.specs.Signature.{tops}
use Rattle.signature.specs.Unpack.{read_of, reads_of}
use Rattle.signature.specs.SignatureAnswers.{unpack_next}
use Rattle.signature.specs.ManyRuns.{words_at, read_runs, large_in_runs, all_reads, unpack_runs_of, unpack_runs_then, unpack_runs_left}
use Rattle.signature.specs.declared.Reason.{Reason}
use Rattle.signature.specs.declared.Reason.TheVariants.{NotWellFormed, WrongLength, TooLarge}
use Rattle.signature.proofs.Lists.{each_long}

pub some_words : (k n : ℕ) → 0 < k * n → 0 < n
some_words k zero h = omega arith
some_words k (suc n) h = omega arith

-- one more of them
next-part : (i m : ℕ) → (i + 1) * m ≡ i * m + m
next-part i m = ap (λ (n : ℕ). n * m) (add-one i) ∙ suc-mul i m

module _ (t : Trace) (ws : List ℕ) where
  -- the words of run i lie within those of all runs
  pub run_fits : (n runs : ℕ) → length ws ≡ runs * n → (i : ℕ) → i < runs → i * n + n ≤ length ws
  run_fits n runs l i h = omega (arith, l, mul-le-mul_right {m = suc i} {n = runs} n h, suc-mul i n)

  pub part-words : (n : ℕ) → n ≡ length (tops t) → (z i : ℕ) → z ≡ n → take z (drop (i * n) ws) ≡ words_at t ws i
  part-words n e z i q = ap₂ (λ (z n : ℕ). take z (drop (i * n) ws)) (q ∙ e) e

  pub words_long : (n : ℕ) → n ≡ length (tops t) → (i : ℕ) → i * n + n ≤ length ws → length (words_at t ws i) ≡ length (tops t)
  words_long n e i h = sym (ap length (part-words n e n i refl)) ∙ length-take-le n (drop (i * n) ws) (omega (arith, length-drop (i * n) ws)) ∙ e

  pub reads-long : length (reads_of t ws) ≡ length (loads t)
  reads-long = each_long (read_of t ws) (loads t)

module _ (t : Trace) (ws : List ℕ) where
  pub all-long : (k : ℕ) → length (all_reads t ws k) ≡ k * length (loads t)
  unfolding all_reads
  all-long zero = omega arith
  all-long (suc k) = length-append (all_reads t ws k) (reads_of t (words_at t ws k)) ∙ ap₂ (λ (a b : ℕ). a + b) (all-long k) (reads-long t (words_at t ws k)) ∙ sym (suc-mul k (length (loads t)))

  pub reads_at : (k i : ℕ) → i < k → take (length (loads t)) (drop (i * length (loads t)) (all_reads t ws k)) ≡ reads_of t (words_at t ws i)
  unfolding all_reads
  reads_at zero i h = absurd (omega arith)
  reads_at (suc k) i h = elim (eq? i k) [
    | inl e ↦ ap (λ (j : ℕ). take m (drop (j * m) (all_reads t ws k ++ last))) e ∙ ap (take m) (drop_at (all_reads t ws k) last (k * m) (all-long k)) ∙ take_all m last (omega (arith, reads-long t (words_at t ws k))) ∙ sym (ap (λ (j : ℕ). reads_of t (words_at t ws j)) e)
    | inr d ↦
        let b : i * m + m ≤ length (all_reads t ws k) = omega (arith, all-long k, mul-le-mul_right {m = suc i} {n = k} m (omega arith), suc-mul i m) in
        ap (take m) (drop-append-le (i * m) (all_reads t ws k) last (omega arith)) ∙ take-append-le m (drop (i * m) (all_reads t ws k)) last (omega (arith, length-drop (i * m) (all_reads t ws k))) ∙ reads_at k i (omega arith)
  ]
    where
      m : ℕ
      m = length (loads t)

      last : List ℕ
      last = reads_of t (words_at t ws k)

  module _ (m : ℕ) where
    pub record Reading (out : List ℕ) (runs i : ℕ) : Type 0 where
      pub long : length out ≡ runs * m
      pub front : take (i * m) out ≡ all_reads t ws i

    pub reading-start : (out : List ℕ) (runs : ℕ) → length out ≡ runs * m → Reading out runs 0
    unfolding all_reads
    reading-start out runs l = record { long = l; front = let z : 0 * m ≡ 0 = omega arith in ap (λ (n : ℕ). take n out) z }

    pub reading-end : (out : List ℕ) (runs i : ℕ) → Reading out runs i → i ≤ runs → runs ≤ i → out ≡ all_reads t ws runs
    reading-end out runs i p h k =
        let d : i ≡ runs = omega arith in
        sym (take_all (runs * m) out (omega (arith, p.long))) ∙ ap (λ (j : ℕ). take (j * m) out) (sym d) ∙ p.front ∙ ap (all_reads t ws) d

    module _ (e : m ≡ length (loads t)) (out : List ℕ) (runs i : ℕ) (p : Reading out runs i) (h : i < runs) where
      pub reading-fits : i * m + m ≤ length out
      reading-fits = omega (arith, p.long, mul-le-mul_right {m = suc i} {n = runs} m h, suc-mul i m)

      pub part_room : (z : ℕ) → z ≡ m → length (take z (drop (i * m) out)) ≡ length (loads t)
      part_room z q = length-take-le z (drop (i * m) out) (omega (arith, reading-fits, length-drop (i * m) out)) ∙ q ∙ e

      module _ (b : List ℕ) (z : ℕ) (q : z ≡ m) (f : b ≡ reads_of t (words_at t ws i)) where
        put-long : length b ≡ m
        put-long = ap length f ∙ reads-long t (words_at t ws i) ∙ sym e

        front_long : length (take (i * m) out) ≡ i * m
        front_long = length-take-le (i * m) out (omega (arith, reading-fits))

        both_long : length (take (i * m) out ++ b) ≡ (i + 1) * m
        both_long = length-append (take (i * m) out) b ∙ ap₂ (λ (x y : ℕ). x + y) front_long put-long ∙ sym (next-part i m)

        pub reading-more : Reading (take (i * m) out ++ (b ++ drop z (drop (i * m) out))) runs (i + 1)
        unfolding all_reads
        reading-more = record {
          long = omega (arith, length-append (take (i * m) out) (b ++ drop z (drop (i * m) out)), length-append b (drop z (drop (i * m) out)), front_long, put-long, length-drop z (drop (i * m) out), length-drop (i * m) out, reading-fits, p.long);
          front = ap (take ((i + 1) * m)) (sym (append_assoc (take (i * m) out) b (drop z (drop (i * m) out))))
              ∙ take_at (take (i * m) out ++ b) (drop z (drop (i * m) out)) ((i + 1) * m) both_long
              ∙ ap₂ (λ (x y : List ℕ). x ++ y) p.front f
              ∙ sym (ap (all_reads t ws) (add-one i));
        }

-- what is answered, by the tests that lead there
module _ (t : Trace) (ws b : List ℕ) where
  pair : (a : Result (Unit {0}) Reason) (now : List ℕ) → a ≡ unpack_runs_of t ws (length b) → now ≡ unpack_runs_then a t ws b → (a ≡ unpack_runs_of t ws (length b)) × (now ≡ unpack_runs_left t ws b)
  unfolding unpack_runs_left
  pair a now e f = (e, f ∙ ap (λ (a : Result (Unit {0}) Reason). unpack_runs_then a t ws b) e)

  pub runs-ten : well_formed t ≡ false → (Err NotWellFormed ≡ unpack_runs_of t ws (length b)) × (b ≡ unpack_runs_left t ws b)
  unfolding unpack_runs_of
  runs-ten e = pair (Err NotWellFormed) b (rw e refl) refl

  module _ (w : So (well_formed t)) where
    pub runs-reads : length b ≢ read_runs t (length b) * length (loads t) → (Err WrongLength ≡ unpack_runs_of t ws (length b)) × (b ≡ unpack_runs_left t ws b)
    unfolding unpack_runs_of
    runs-reads d = pair (Err WrongLength) b (rw (w, ne_eqb (length b) (read_runs t (length b) * length (loads t)) d) refl) refl

    module _ (m : length b ≡ read_runs t (length b) * length (loads t)) where
      pub runs-words : length ws ≢ read_runs t (length b) * length (tops t) → (Err WrongLength ≡ unpack_runs_of t ws (length b)) × (b ≡ unpack_runs_left t ws b)
      unfolding unpack_runs_of
      runs-words d = pair (Err WrongLength) b (rw (w, eq-eqb (length b) (read_runs t (length b) * length (loads t)) m, ne_eqb (length ws) (read_runs t (length b) * length (tops t)) d) refl) refl

      module _ (l : length ws ≡ read_runs t (length b) * length (tops t)) where
        pub runs-answer : unpack_runs_of t ws (length b) ≡ unpack_next (lowest (large_in_runs t ws) (length ws) 0)
        unfolding unpack_runs_of
        runs-answer = rw (w, eq-eqb (length b) (read_runs t (length b) * length (loads t)) m, eq-eqb (length ws) (read_runs t (length b) * length (tops t)) l) refl

        pub runs-large : (k : ℕ) → lowest (large_in_runs t ws) (length ws) 0 ≡ some k → (Err (TooLarge k) ≡ unpack_runs_of t ws (length b)) × (b ≡ unpack_runs_left t ws b)
        unfolding unpack_runs_of
        runs-large k e = pair (Err (TooLarge k)) b (rw (w, eq-eqb (length b) (read_runs t (length b) * length (loads t)) m, eq-eqb (length ws) (read_runs t (length b) * length (tops t)) l, e) refl) refl

        pub runs_done : lowest (large_in_runs t ws) (length ws) 0 ≡ none → (now : List ℕ) → now ≡ all_reads t ws (read_runs t (length b)) → (Ok tt ≡ unpack_runs_of t ws (length b)) × (now ≡ unpack_runs_left t ws b)
        unfolding unpack_runs_of
        runs_done e now f = pair (Ok tt) now (rw (w, eq-eqb (length b) (read_runs t (length b) * length (loads t)) m, eq-eqb (length ws) (read_runs t (length b) * length (tops t)) l, e) refl) f
