-- The words, the reads and the blocks of many runs.
--
--   loads-told, words-told, loads-few, tops-few == how many loads and words a well formed program has
--   told-large, told-done, told-else, left-done, left-large, laid-large, laid_done == what an answer to the words of all runs says of the lowest word that is too large, and what it leaves
--   large-none, large-some, large-told, nothing-told == that word tells the first run that has one
--   fits-runs              == the reads of so many runs have their room
--   part_same, part_small  == a part that two lists share; a part of small numbers
--   block-part             == the block of a run is a part of the lent memory
--   put-long, block_here, front_same, block-behind, block-put == the memory with a block put: as long, the block in its place, what lies in front and the blocks behind as they were
--   Judging                == the runs from i on are judged, and the reads of those before it stand as they did
--   judging-start, judging-more == it is so at first, and after one run more
--   told-judged            == the verdict on a trace, once it is laid out
--   all-judged             == each run is judged by its own reads
--   ten, nine, wrong, too_large, all_told == the answers, each by the tests that lead to it
use mathlib.Core.Path.{◌≡◌, refl, sym, ap, ap₂, ◌∙◌, subst}
use mathlib.Core.Logic.{◌≢◌, inl, inr}
use mathlib.Core.Bool.{Bool, true, false, cond, So, ◌&&◌, false≢true}
use mathlib.Core.List.{List, ◌++◌}
use mathlib.Core.Option.{Option, none, some}
use Prim.Native.Nat.{ℕ, zero, suc, ◌+◌, ◌-◌, ◌*◌, ◌/◌, ◌%◌, ◌<◌, ◌≤◌}
use native.Mathlib.Nat.{mul-le-mul_left, mul-le-mul_right, suc-mul, mod-lt, mod-eq_of_lt, add-mul-mod_self_right, div-add-mod', div-lt_iff_lt-mul, mul-div_cancel}
use native.Mathlib.Decide.{dec_lt}
use native.Mathlib.Numerals.{add-one}
use native.Mathlib.Omega.{arith}
use borrow.Author.Tests.{eq-eqb, ne_eqb, ltb-false}
use lib.Dec.{eqb, ltb}
use lib.ListN.{length, get_or, take, drop, length-append, length-take, length-drop, take-append-drop, get_or-eq_default}
use lib.Seq.{length-take-le, get_or-take, get_or-drop, take_at, drop_at, drop-drop, take-take, take-add, ext_get_or}
use Rattle.std.specs.Prelude.{Some, None, Result, Ok, Err}
use Rattle.laws.specs.Lowest.{Lowest, lowest}
use Rattle.laws.proofs.Tests.{off, eq?, so-lt}
use Rattle.trace.specs.Bounds.{RECORDS, VALUES}
use Rattle.trace.specs.Op.{reads}
use Rattle.trace.specs.Trace.{at}
use Rattle.trace.specs.WellFormed.{well_formed}
use Rattle.trace.specs.declared.Trace.{Trace}
use Rattle.trace.proofs.WellFormed.{form-iff}
use Rattle.pairs.specs.Kept.{modelled}
use Rattle.verdict.specs.VerdictOf.{Told}
use Rattle.verdict.specs.declared.Verdict.{Verdict}
use Rattle.signature.specs.Reads.{range_of, loads}
use Rattle.signature.specs.Signature.{tops}
use Rattle.signature.specs.Unpack.{reads_of}
use Rattle.signature.specs.SignatureAnswers.{loads_in, words_in, unpack_next, unpack_of}
use Rattle.signature.specs.SignatureCases as cases
use Rattle.signature.specs.ManyRuns.{words_at, read_runs, large_in_runs, all_reads, unpack_runs_of, unpack_runs_left}
use Rattle.signature.specs.declared.Reason as unpacking
use Rattle.signature.specs.declared.Reason.TheVariants as words
use Rattle.signature.proofs.Lists.{append-parts}
use Rattle.signature.proofs.SignatureCases.{lowest-case, unpack-told}
use Rattle.signature.proofs.ManyRuns.{some_words, run_fits, words_long, all-long, reads_at}
use Rattle.signature.proofs.Few.{pick-short, words-few, words-loads}
use Rattle.signature.proofs.Signature.{top-chosen}
use Rattle.night.specs.Block.{BLOCK, told_in, block_in}
use Rattle.night.specs.Night.{block_at, runs_in, fitting, large, large_from, large_told, night_of, all_done, Nights}
use Rattle.night.specs.inner.RunsJudged.{JudgedAs, JudgedReads, ReadsLaid, BlockPut, AllJudged}
use Rattle.night.specs.declared.Reason.{Reason}
use Rattle.night.specs.declared.Reason.TheVariants.{NotWellFormed, NoModel, WrongLength, TooLarge}
use Rattle.night.proofs.Block.{spelled-laid}

module _ (t : Trace) (w : So (well_formed t)) where
  pub loads-told : loads_in t ≡ length (loads t)
  unfolding loads_in
  loads-told = ap (λ (b : Bool). cond b (length (loads t)) 0) w

  pub words-told : words_in t ≡ length (tops t)
  unfolding words_in
  words-told = ap (λ (b : Bool). cond b (length (tops t)) 0) w

  pub loads-few : length (loads t) ≤ RECORDS
  unfolding loads
  loads-few = omega (arith, pick-short (λ L. reads (at t L)) 0 t.len, ((form-iff t).0 w).fits)

  pub tops-few : length (tops t) ≤ RECORDS
  tops-few = omega (arith, words-few t (λ L. range_of t L - 1) (top-chosen t), ((form-iff t).0 w).fits)

-- an answer to words of the right numbers tells of the lowest word that is too large
pub told-large : (o : Option ℕ) (k : ℕ) → Err (words.TooLarge k) ≡ unpack_next o → o ≡ some k
told-large (some j) k e = let q : j ≡ k = cc in ap some q
told-large none k e = let z : ◌≡◌ {A = ℕ} 0 1 = cc in absurd (omega arith)

pub told-done : (o : Option ℕ) → Ok tt ≡ unpack_next o → o ≡ none
told-done (some j) e = let z : ◌≡◌ {A = ℕ} 0 1 = cc in absurd (omega arith)
told-done none e = refl

-- and is no other refusal
abbrev pub refuses : Result (Unit {0}) unpacking.Reason → Bool
refuses (Ok done) = false
refuses (Err words.NotWellFormed) = true
refuses (Err words.WrongLength) = true
refuses (Err (words.NotListed L)) = true
refuses (Err (words.TooLarge k)) = false

pub told-else : (o : Option ℕ) (a : Result (Unit {0}) unpacking.Reason) → a ≡ unpack_next o → refuses a ≡ true → ⊥
told-else (some j) a e r = false≢true (sym (ap refuses e) ∙ r)
told-else none a e r = false≢true (sym (ap refuses e) ∙ r)

-- what unpacking leaves
pub left-done : (t : Trace) (ws b : List ℕ) → unpack_runs_of t ws (length b) ≡ Ok tt → unpack_runs_left t ws b ≡ all_reads t ws (read_runs t (length b))
unfolding unpack_runs_left
left-done t ws b e = rw e refl

pub left-large : (t : Trace) (ws b : List ℕ) (k : ℕ) → unpack_runs_of t ws (length b) ≡ Err (words.TooLarge k) → unpack_runs_left t ws b ≡ b
unfolding unpack_runs_left
left-large t ws b k e = rw e refl

-- the reads laid into the front, or all as it was
module _ (t : Trace) (ws out b : List ℕ) (m runs : ℕ) (room : runs * m ≤ length out) where
  pub laid-large : (i k : ℕ) → b ≡ take (runs * m) out → Some (i, k) ≡ large_from t ws 0 runs → ReadsLaid t ws m runs out (b ++ drop (runs * m) out) (Some (i, k))
  laid-large i k e f =
      let same : b ++ drop (runs * m) out ≡ out = ap (λ (l : List ℕ). l ++ drop (runs * m) out) e ∙ take-append-drop (runs * m) out in
      record { answer = f; long = ap length same; stays = λ x y z. same; front = λ z. let y : ◌≡◌ {A = ℕ} 0 1 = cc in absurd (omega arith) }

  pub laid_done : b ≡ all_reads t ws runs → m ≡ length (loads t) → None ≡ large_from t ws 0 runs → ReadsLaid t ws m runs out (b ++ drop (runs * m) out) None
  laid_done e q f =
      let l : length b ≡ runs * m = ap length e ∙ all-long t ws runs ∙ ap (λ (k : ℕ). runs * k) (sym q) in
      record {
        answer = f;
        long = omega (arith, length-append b (drop (runs * m) out), length-drop (runs * m) out, l, room);
        stays = λ x y z. let u : ◌≡◌ {A = ℕ} 0 1 = cc in absurd (omega arith);
        front = λ z. take_at b (drop (runs * m) out) (runs * m) l ∙ e;
      }

module _ (t : Trace) (w : So (well_formed t)) (ws : List ℕ) (runs : ℕ) (l : length ws ≡ runs * length (tops t)) where
  abbrev n : ℕ
  n = length (tops t)

  -- what unpacking answers to the words of a run
  abbrev answer_to : ℕ → Result (Unit {0}) unpacking.Reason
  answer_to i = unpack_of t (words_at t ws i) (length (loads t))

  long : (i : ℕ) → i < runs → length (words_at t ws i) ≡ n
  long i h = words_long t ws n refl i (run_fits t ws n runs l i h)

  -- a word of a run among all words
  word_at : (i j : ℕ) → j < n → get_or (words_at t ws i) j 0 ≡ get_or ws (i * n + j) 0
  word_at i j h = get_or-take n (drop (i * n) ws) j 0 h ∙ get_or-drop (i * n) ws j 0

  place_at : (i j : ℕ) → j < n → (i * n + j) % n ≡ j
  place_at i j h = ap (λ (x : ℕ). x % n) (let e : i * n + j ≡ j + i * n = omega arith in e) ∙ add-mul-mod_self_right j i n ∙ mod-eq_of_lt h

  large-word : (i j : ℕ) → j < n → large_in_runs t ws (i * n + j) ≡ ltb (get_or (tops t) j 0) (get_or (words_at t ws i) j 0)
  unfolding large_in_runs
  large-word i j h = ap₂ (λ (x y : ℕ). ltb (get_or (tops t) x 0) y) (place_at i j h) (sym (word_at i j h))

  small : (i j : ℕ) → j < n → large_in_runs t ws (i * n + j) ≡ false → get_or (words_at t ws i) j 0 ≤ get_or (tops t) j 0
  small i j h e = ltb-false (get_or (tops t) j 0) (get_or (words_at t ws i) j 0) (sym (large-word i j h) ∙ e)

  -- a run none of whose words is too large, and one whose lowest is
  takes : (i : ℕ) → i < runs → ((j : ℕ) → j < n → large_in_runs t ws (i * n + j) ≡ false) → answer_to i ≡ Ok tt
  takes i h f = unpack-told t (words_at t ws i) (loads t) (Ok tt) (cases.done ((form-iff t).0 w) (long i h) refl (λ j b. small i j (omega (arith, long i h)) (f j (omega (arith, long i h)))))

  turns : (i j : ℕ) → i < runs → j < n → So (large_in_runs t ws (i * n + j)) → ((k : ℕ) → k < j → large_in_runs t ws (i * n + k) ≡ false) → answer_to i ≡ Err (words.TooLarge j)
  turns i j h b s f = unpack-told t (words_at t ws i) (loads t) (Err (words.TooLarge j))
      (cases.large j ((form-iff t).0 w) (long i h) refl (omega (arith, long i h)) (so-lt.0 (sym (large-word i j b) ∙ s)) (λ k d. small i k (omega arith) (f k d)))

  pub large-none : ((k : ℕ) → k < length ws → large_in_runs t ws k ≡ false) → (d i : ℕ) → i + d ≡ runs → large_from t ws i d ≡ None
  unfolding large_from
  large-none f zero i e = refl
  large-none f (suc d) i e =
      ap (λ (a : Result (Unit {0}) unpacking.Reason). large a i (large_from t ws (suc i) d)) (takes i (omega arith) (λ j b. f (i * n + j) (omega (arith, run_fits t ws n runs l i (omega arith)))))
      ∙ large-none f d (suc i) (omega arith)

  module _ (k : ℕ) (b : k < length ws) (s : So (large_in_runs t ws k)) (f : (j : ℕ) → j < k → large_in_runs t ws j ≡ false) where
    has : 0 < n
    has = some_words runs n (omega (arith, l))

    whole : k / n * n + k % n ≡ k
    whole = div-add-mod' k n

    in-run : k % n < n
    in-run = mod-lt k has

    run_of : k / n < runs
    run_of = (div-lt_iff_lt-mul {k = n} {x = k} {y = runs} has).1 (omega (arith, l))

    -- the runs before its own have no word too large
    before-it : (i : ℕ) → i < k / n → (j : ℕ) → j < n → i * n + j < k
    before-it i h j c = omega (arith, whole, mul-le-mul_right {m = suc i} {n = k / n} n h, suc-mul i n)

    pub large-some : (d i : ℕ) → i + d ≡ runs → i ≤ k / n → large_from t ws i d ≡ Some (k / n, k % n)
    unfolding large_from
    large-some zero i e h = absurd (omega (arith, run_of))
    large-some (suc d) i e h = elim (eq? i (k / n)) [
      | inl q ↦ ap (λ (a : Result (Unit {0}) unpacking.Reason). large a i (large_from t ws (suc i) d)) (ap answer_to q ∙ turns (k / n) (k % n) run_of in-run (subst (λ (x : ℕ). So (large_in_runs t ws x)) (sym whole) s) (λ j c. f (k / n * n + j) (omega (arith, whole)))) ∙ ap (λ (x : ℕ). Some (x, k % n)) q
      | inr q ↦ ap (λ (a : Result (Unit {0}) unpacking.Reason). large a i (large_from t ws (suc i) d)) (takes i (omega arith) (λ j c. f (i * n + j) (before-it i (omega arith) j c))) ∙ large-some d (suc i) (omega arith) (omega arith)
    ]

  -- so the lowest word too large, if any, tells which run is the first that has one
  pub large-told : (k : ℕ) → lowest (large_in_runs t ws) (length ws) 0 ≡ some k → (Some (k / n, k % n) ≡ large_from t ws 0 runs) × (0 < n)
  large-told k e =
      let c = subst (λ (o : Option ℕ). Lowest (λ k. (k < length ws) × So (large_in_runs t ws k)) o) e (lowest-case (large_in_runs t ws) (length ws)) in
      let low : (j : ℕ) → j < k → large_in_runs t ws j ≡ false = λ j h. off (λ u. omega (arith, c.1 j (omega (arith, c.0.0), u))) in
      (sym (large-some k c.0.0 c.0.1 low runs 0 (omega arith) (omega arith)), has k c.0.0 c.0.1 low)

  pub nothing-told : lowest (large_in_runs t ws) (length ws) 0 ≡ none → None ≡ large_from t ws 0 runs
  nothing-told e =
      let c = subst (λ (o : Option ℕ). Lowest (λ k. (k < length ws) × So (large_in_runs t ws k)) o) e (lowest-case (large_in_runs t ws) (length ws)) in
      sym (large-none (λ k h. off (λ u. c k (h, u))) runs 0 (omega arith))

-- the reads of so many runs fit as many: where a run has none there are no words either
module _ (t : Trace) (ws out : List ℕ) (runs : ℕ) (l : length ws ≡ runs * length (tops t)) (r : length out ≡ runs * length (loads t)) where
  abbrev m : ℕ
  m = length (loads t)

  few : length (tops t) ≤ m
  few = words-loads t (λ L. range_of t L - 1) (top-chosen t)

  -- how many runs there are is lost only where a run has no loads
  counted : 0 < m → read_runs t (length out) ≡ runs
  counted h = ap (λ (k : ℕ). k / m) r ∙ mul-div_cancel runs h

  abbrev pub Fits : ℕ → Type 0
  Fits k = (length out ≡ k * m) × (length ws ≡ k * length (tops t)) × (all_reads t ws k ≡ all_reads t ws runs)

  none-fits : m ≡ 0 → Fits (read_runs t (length out))
  none-fits z =
      let a : runs * m ≡ 0 = ap (λ (k : ℕ). runs * k) z ∙ omega arith in
      let q : read_runs t (length out) * m ≡ 0 = ap (λ (k : ℕ). read_runs t (length out) * k) z ∙ omega arith in
      let y : length (tops t) ≡ 0 = omega (arith, few) in
      let b : runs * length (tops t) ≡ 0 = ap (λ (k : ℕ). runs * k) y ∙ omega arith in
      let c : read_runs t (length out) * length (tops t) ≡ 0 = ap (λ (k : ℕ). read_runs t (length out) * k) y ∙ omega arith in
      (r ∙ a ∙ sym q, l ∙ b ∙ sym c, ext_get_or 0 (all_reads t ws (read_runs t (length out))) (all_reads t ws runs) (all-long t ws (read_runs t (length out)) ∙ q ∙ sym (all-long t ws runs ∙ a)) (λ i h. absurd (omega (arith, h, all-long t ws (read_runs t (length out)), q))))

  pub fits-runs : Fits (read_runs t (length out))
  fits-runs = elim (eq? m 0) [
    | inl z ↦ none-fits z
    | inr d ↦ subst Fits (sym (counted (omega arith))) (r, l, refl)
  ]

-- a part that two lists share
pub part_same : (a b : List ℕ) (x y : ℕ) → x + y ≤ length a → x + y ≤ length b → take (x + y) a ≡ take (x + y) b → take y (drop x a) ≡ take y (drop x b)
part_same a b x y h k f = (append-parts (take x a) (take x b) (take y (drop x a)) (take y (drop x b)) (length-take-le x a (omega arith) ∙ sym (length-take-le x b (omega arith))) (sym (take-add x y a) ∙ f ∙ take-add x y b)).1

-- a part of small numbers
pub part_small : (out : List ℕ) → ((j : ℕ) → get_or out j 0 < VALUES) → (x y j : ℕ) → get_or (take y (drop x out)) j 0 < VALUES
part_small out f x y j = elim (dec_lt j (length (take y (drop x out)))) [
  | yes h ↦ subst (λ (v : ℕ). v < VALUES) (sym (get_or-take y (drop x out) j 0 (omega (arith, length-take y (drop x out))) ∙ get_or-drop x out j 0)) (f (x + j))
  | no h ↦ omega (arith, get_or-eq_default (take y (drop x out)) 0 {n = j} (omega arith))
]

pub block-part : (out : List ℕ) (i z : ℕ) → z ≡ BLOCK → i * BLOCK + BLOCK ≤ length out → length (take z (drop (i * BLOCK) out)) ≡ BLOCK
block-part out i z e h = length-take-le z (drop (i * BLOCK) out) (omega (arith, length-drop (i * BLOCK) out)) ∙ e

-- the lent memory with the block of a run in its place
module _ (out b : List ℕ) (r : ℕ) (fits : r * BLOCK + BLOCK ≤ length out) (l : length b ≡ BLOCK) where
  abbrev put : List ℕ
  put = take (r * BLOCK) out ++ (b ++ drop BLOCK (drop (r * BLOCK) out))

  front_long : length (take (r * BLOCK) out) ≡ r * BLOCK
  front_long = length-take-le (r * BLOCK) out (omega arith)

  rest-long : length (drop BLOCK (drop (r * BLOCK) out)) ≡ length out - r * BLOCK - BLOCK
  rest-long = rw (length-drop, length-drop) refl

  pub put-long : length put ≡ length out
  put-long = omega (arith, length-append (take (r * BLOCK) out) (b ++ drop BLOCK (drop (r * BLOCK) out)), length-append b (drop BLOCK (drop (r * BLOCK) out)), front_long, rest-long)

  pub block_here : block_at put r ≡ b
  block_here = rw (drop_at (take (r * BLOCK) out) (b ++ drop BLOCK (drop (r * BLOCK) out)) (r * BLOCK) front_long) (take_at b _ BLOCK l)

  pub front_same : take (r * BLOCK) put ≡ take (r * BLOCK) out
  front_same = take_at (take (r * BLOCK) out) (b ++ drop BLOCK (drop (r * BLOCK) out)) (r * BLOCK) front_long

  rest-same : drop (r * BLOCK + BLOCK) put ≡ drop (r * BLOCK + BLOCK) out
  rest-same =
      sym (drop-drop BLOCK (r * BLOCK) put)
      ∙ ap (drop BLOCK) (drop_at (take (r * BLOCK) out) (b ++ drop BLOCK (drop (r * BLOCK) out)) (r * BLOCK) front_long)
      ∙ drop_at b (drop BLOCK (drop (r * BLOCK) out)) BLOCK l
      ∙ drop-drop BLOCK (r * BLOCK) out

  pub block-behind : (s : ℕ) → r < s → block_at put s ≡ block_at out s
  block-behind s d =
      let y = s * BLOCK - (r * BLOCK + BLOCK) in
      let e : s * BLOCK ≡ r * BLOCK + BLOCK + y = omega arith in
      ap (λ (x : ℕ). take BLOCK (drop x put)) e
      ∙ ap (take BLOCK) (sym (drop-drop y (r * BLOCK + BLOCK) put) ∙ ap (drop y) rest-same ∙ drop-drop y (r * BLOCK + BLOCK) out)
      ∙ sym (ap (λ (x : ℕ). take BLOCK (drop x out)) e)

module _ (t : Trace) (m n : ℕ) where
  -- a block put in its place, the part that was lent being as long as one
  pub block-put : (out b : List ℕ) (i z : ℕ) → i * BLOCK + BLOCK ≤ length out → length b ≡ BLOCK → z ≡ BLOCK → JudgedReads t m (take n (drop (i * n) out)) b → BlockPut t m n out (take (i * BLOCK) out ++ (b ++ drop z (drop (i * BLOCK) out))) i
  block-put out b i z fits l e q = subst (λ (z : ℕ). BlockPut t m n out (take (i * BLOCK) out ++ (b ++ drop z (drop (i * BLOCK) out))) i) (sym e) (record {
    long = put-long out b i fits l;
    front = front_same out b i fits l;
    behind = block-behind out b i fits l;
    judged = subst (JudgedReads t m (take n (drop (i * n) out))) (sym (block_here out b i fits l)) q;
  })

  -- the runs from i on are judged, and the reads of those before it stand as they did
  pub record Judging (before out : List ℕ) (runs i : ℕ) : Type 0 where
    pub long : length out ≡ length before
    pub front : take (i * n) out ≡ take (i * n) before
    pub judged : (j : ℕ) → i ≤ j → j < runs → JudgedReads t m (take n (drop (j * n) before)) (block_at out j)

  pub judging-start : (out : List ℕ) (runs : ℕ) → Judging out out runs runs
  judging-start out runs = record { long = refl; front = refl; judged = λ j a b. absurd (omega arith) }

  module _ (few : n ≤ RECORDS) (before out after : List ℕ) (runs i : ℕ) (room : length before ≡ runs * BLOCK) (h : i < runs) (p : Judging before out runs (i + 1)) (q : BlockPut t m n out after i) where
    step : (i + 1) * n ≡ i * n + n
    step = ap (λ (k : ℕ). k * n) (add-one i) ∙ suc-mul i n

    low : i * n ≤ i * BLOCK
    low = mul-le-mul_left i (omega arith)

    room-here : i * n + n ≤ length out
    room-here = omega (arith, low, p.long, room)

    -- the reads of run i stand as they did
    own-reads : take n (drop (i * n) out) ≡ take n (drop (i * n) before)
    own-reads = part_same out before (i * n) n room-here (omega (arith, room-here, p.long)) (ap (λ (k : ℕ). take k out) (sym step) ∙ p.front ∙ ap (λ (k : ℕ). take k before) step)

    judged-from : (j : ℕ) → i ≤ j → j < runs → JudgedReads t m (take n (drop (j * n) before)) (block_at after j)
    judged-from j a b = elim (eq? j i) [
      | inl e ↦ subst (λ (j : ℕ). JudgedReads t m (take n (drop (j * n) before)) (block_at after j)) (sym e) (subst (λ (vs : List ℕ). JudgedReads t m vs (block_at after i)) own-reads q.judged)
      | inr d ↦ subst (JudgedReads t m (take n (drop (j * n) before))) (sym (q.behind j (omega arith))) (p.judged j (omega arith) b)
    ]

    pub judging-more : Judging before after runs i
    judging-more = record {
      long = q.long ∙ p.long;
      front = sym (take-take (i * n) (i * BLOCK) after low) ∙ ap (take (i * n)) q.front ∙ take-take (i * n) (i * BLOCK) out low
          ∙ (sym (take-take (i * n) (i * n + n) out (omega arith)) ∙ ap (take (i * n)) (ap (λ (k : ℕ). take k out) (sym step) ∙ p.front ∙ ap (λ (k : ℕ). take k before) step) ∙ take-take (i * n) (i * n + n) before (omega arith));
      judged = judged-from;
    }

-- the verdict on a trace, once it is laid out
pub told-judged : (u : Trace) (m : ℕ) → So (well_formed u) → So (modelled m) → (v : Verdict) → Told u m v → JudgedAs u m (block_in (told_in v))
told-judged u m w k v h = let (x, s, e) = h.says k w in (x, s, ap (λ (v : Verdict). block_in (told_in v)) e ∙ spelled-laid x)

-- where the reads of all runs stood in front, each run is judged by its own
pub all-judged : (t : Trace) (m n : ℕ) (ws before after : List ℕ) (runs : ℕ) → n ≡ length (loads t) → length before ≡ runs * BLOCK → runs * n ≤ length before → take (runs * n) before ≡ all_reads t ws runs → AllJudged t m n before after runs → all_done t m ws runs after
all-judged t m n ws before after runs e long room f (l, j) = (l ∙ long, λ i h. subst (λ (vs : List ℕ). JudgedReads t m vs (block_at after i)) (same i h) (j i h))
  where
    fits : (i : ℕ) → i < runs → i * n + n ≤ runs * n
    fits i h = omega (arith, mul-le-mul_right {m = suc i} {n = runs} n h, suc-mul i n)

    same : (i : ℕ) → i < runs → take n (drop (i * n) before) ≡ reads_of t (words_at t ws i)
    same i h =
        part_same before (all_reads t ws runs) (i * n) n (omega (arith, fits i h, room)) (omega (arith, fits i h, all-long t ws runs, ap (λ (k : ℕ). runs * k) e)) (sym (take-take (i * n + n) (runs * n) before (fits i h)) ∙ ap (take (i * n + n)) f)
        ∙ ap (λ (n : ℕ). take n (drop (i * n) (all_reads t ws runs))) e
        ∙ reads_at t ws runs i h

module _ (t : Trace) (m : ℕ) (ws before : List ℕ) where
  -- a refusal leaves all as it was
  turned : (a : Result (Unit {0}) Reason) → a ≡ night_of t m ws (length before) → a ≢ Ok tt → Nights t m ws before before a
  turned a e n = record { answer = e; stays = λ _. refl; judged = λ d. absurd (n d) }

  pub ten : well_formed t ≡ false → Nights t m ws before before (Err NotWellFormed)
  unfolding night_of
  ten e = turned (Err NotWellFormed) (ap (λ (b : Bool). cond b (cond (modelled m) (cond (fitting t ws (length before)) (large_told (large_from t ws 0 (runs_in (length before)))) (Err WrongLength)) (Err NoModel)) (Err NotWellFormed)) (sym e)) (λ d. let z : ◌≡◌ {A = ℕ} 0 1 = cc in omega arith)

  module _ (w : So (well_formed t)) where
    within : cond (modelled m) (cond (fitting t ws (length before)) (large_told (large_from t ws 0 (runs_in (length before)))) (Err WrongLength)) (Err NoModel) ≡ night_of t m ws (length before)
    unfolding night_of
    within = ap (λ (b : Bool). cond b (cond (modelled m) (cond (fitting t ws (length before)) (large_told (large_from t ws 0 (runs_in (length before)))) (Err WrongLength)) (Err NoModel)) (Err NotWellFormed)) (sym w)

    pub nine : modelled m ≡ false → Nights t m ws before before (Err NoModel)
    nine e = turned (Err NoModel) (ap (λ (b : Bool). cond b (cond (fitting t ws (length before)) (large_told (large_from t ws 0 (runs_in (length before)))) (Err WrongLength)) (Err NoModel)) (sym e) ∙ within) (λ d. let z : ◌≡◌ {A = ℕ} 0 1 = cc in omega arith)

    module _ (k : So (modelled m)) where
      asked : cond (fitting t ws (length before)) (large_told (large_from t ws 0 (runs_in (length before)))) (Err WrongLength) ≡ night_of t m ws (length before)
      asked = ap (λ (b : Bool). cond b (cond (fitting t ws (length before)) (large_told (large_from t ws 0 (runs_in (length before)))) (Err WrongLength)) (Err NoModel)) (sym k) ∙ within

      wrong : fitting t ws (length before) ≡ false → Nights t m ws before before (Err WrongLength)
      wrong e = turned (Err WrongLength) (ap (λ (b : Bool). cond b (large_told (large_from t ws 0 (runs_in (length before)))) (Err WrongLength)) (sym e) ∙ asked) (λ d. let z : ◌≡◌ {A = ℕ} 0 1 = cc in omega arith)

      pub wrong-room : length before ≢ runs_in (length before) * BLOCK → Nights t m ws before before (Err WrongLength)
      wrong-room n = wrong (ap (λ (b : Bool). b && eqb (length ws) (runs_in (length before) * length (tops t))) (ne_eqb (length before) (runs_in (length before) * BLOCK) n))

      module _ (r : length before ≡ runs_in (length before) * BLOCK) where
        room : eqb (length before) (runs_in (length before) * BLOCK) ≡ true
        room = eq-eqb (length before) (runs_in (length before) * BLOCK) r

        pub wrong-words : length ws ≢ runs_in (length before) * length (tops t) → Nights t m ws before before (Err WrongLength)
        wrong-words n = wrong (ap₂ (λ (a b : Bool). a && b) room (ne_eqb (length ws) (runs_in (length before) * length (tops t)) n))

        module _ (l : length ws ≡ runs_in (length before) * length (tops t)) where
          told : large_told (large_from t ws 0 (runs_in (length before))) ≡ night_of t m ws (length before)
          told = ap₂ (λ (a b : Bool). cond (a && b) (large_told (large_from t ws 0 (runs_in (length before)))) (Err WrongLength)) (sym room) (sym (eq-eqb (length ws) (runs_in (length before) * length (tops t)) l)) ∙ asked

          pub too_large : (i k : ℕ) → Some (i, k) ≡ large_from t ws 0 (runs_in (length before)) → Nights t m ws before before (Err (TooLarge i k))
          too_large i k e = turned (Err (TooLarge i k)) (ap large_told e ∙ told) (λ d. let z : ◌≡◌ {A = ℕ} 0 1 = cc in omega arith)

          pub all_told : None ≡ large_from t ws 0 (runs_in (length before)) → (after : List ℕ) → all_done t m ws (runs_in (length before)) after → Nights t m ws before after (Ok tt)
          all_told e after a = record { answer = ap large_told e ∙ told; stays = λ n. absurd (n refl); judged = λ _. a }
