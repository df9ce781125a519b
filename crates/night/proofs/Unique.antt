-- No second answer meets the contract of a public function.
--
--   judged-one      == the numbers of a run are settled by its words
--   done-one        == so is lent memory of so many blocks
--   nights-one      == what `night` answers and leaves is settled
--   FUNCTION-settles, FUNCTION-leaves == the contract settles what the function gives back, and what the lent memory holds
use mathlib.Core.Path.{◌≡◌, refl, sym, ap, ◌∙◌}
use mathlib.Core.List.{List}
use mathlib.Core.Logic.{inl, inr, ◌⊎◌, ◌≢◌}
use Prim.Native.Nat.{ℕ, ◌+◌, ◌*◌, ◌/◌, ◌%◌, ◌<◌}
use native.Mathlib.Nat.{div-add-mod', mod-lt, div-lt_iff_lt-mul}
use native.Mathlib.Omega.{arith}
use lib.ListN.{length, get_or, drop}
use lib.Seq.{ext_get_or, get_or-take, get_or-drop}
use Rattle.std.specs.Prelude.{Result, Ok, Err}
use Rattle.laws.specs.Settles.{Settles, Leaves}
use Rattle.trace.specs.Meaning.{frame_of}
use Rattle.trace.specs.declared.Trace.{Trace}
use Rattle.pairs.specs.Kept.{kept_of}
use Rattle.rules.proofs.Says.{verdict-one}
use Rattle.signature.specs.Unpack.{reads_of}
use Rattle.night.specs.FilledReads.{filled_reads}
use Rattle.night.specs.Block.{BLOCK, block_of}
use Rattle.signature.specs.ManyRuns.{words_at}
use Rattle.night.specs.Night.{block_at, runs_in, JudgedRun, all_done, Nights}
use Rattle.night.specs.declared.Reason.{Reason}
use Rattle.night.proofs.seeing.seen.Reads as sees
use Rattle.night.proofs.seeing.seen.Kinds as seen-kinds
use Rattle.night.proofs.runs.night.Reads as nights
use Rattle.night.proofs.runs.night.Kinds as night-kinds

pub judged-one : (t : Trace) (m : ℕ) (ws a b : List ℕ) → JudgedRun t m ws a → JudgedRun t m ws b → a ≡ b
judged-one t m ws a b (v, s, e) (u, r, f) = let x = filled_reads t (reads_of t ws) in e ∙ ap block_of (verdict-one (frame_of x) (kept_of m x) v u s r) ∙ sym f

pub done-one : (t : Trace) (m : ℕ) (ws : List ℕ) (k : ℕ) (a b : List ℕ) → all_done t m ws k a → all_done t m ws k b → a ≡ b
done-one t m ws k a b p q = ext_get_or 0 a b (p.0 ∙ sym q.0) at
  where
    at : (x : ℕ) → x < length a → get_or a x 0 ≡ get_or b x 0
    at x h =
        let i = x / BLOCK in
        let j = x % BLOCK in
        let d : i * BLOCK + j ≡ x = div-add-mod' x BLOCK in
        let l : j < BLOCK = mod-lt x (omega arith) in
        let r : i < k = (div-lt_iff_lt-mul {k = BLOCK} {x = x} {y = k} (omega arith)).1 (omega (arith, p.0)) in
        let same : block_at a i ≡ block_at b i = judged-one t m (words_at t ws i) (block_at a i) (block_at b i) (p.1 i r) (q.1 i r) in
        sym (ap (λ (y : ℕ). get_or a y 0) d)
        ∙ sym (get_or-take BLOCK (drop (i * BLOCK) a) j 0 l ∙ get_or-drop (i * BLOCK) a j 0)
        ∙ ap (λ (c : List ℕ). get_or c j 0) same
        ∙ (get_or-take BLOCK (drop (i * BLOCK) b) j 0 l ∙ get_or-drop (i * BLOCK) b j 0)
        ∙ ap (λ (y : ℕ). get_or b y 0) d

-- an answer is done or a refusal
done? : (a : Result (Unit {0}) Reason) → (a ≡ Ok tt) ⊎ (a ≢ Ok tt)
done? (Ok done) = inl refl
done? (Err why) = inr (λ d. let z : ◌≡◌ {A = ℕ} 0 1 = cc in omega arith)

pub nights-one : (t : Trace) (m : ℕ) (ws before a b : List ℕ) (x y : Result (Unit {0}) Reason) → Nights t m ws before a x → Nights t m ws before b y → (x ≡ y) × (a ≡ b)
nights-one t m ws before a b x y p q =
    let same : x ≡ y = p.answer ∙ sym q.answer in (
      same,
      elim (done? x) [
        | inl d ↦ done-one t m ws (runs_in (length before)) a b (p.judged d) (q.judged (sym same ∙ d))
        | inr n ↦ p.stays n ∙ sym (q.stays (λ d. n (same ∙ d)))
      ],
    )

pub seen_settles : Settles 1 seen-kinds.ps seen-kinds.r sees.Post
seen_settles κs a x y s t p q = p ∙ sym q

pub night-settles : Settles 2 night-kinds.ps night-kinds.r nights.Post
night-settles κs a x y s t p q = (nights-one a.0 a.1.0 a.1.1.0.now a.1.1.1.0.now s.1.1.1.0.now t.1.1.1.0.now x y p q).0

pub night-leaves : Leaves 2 night-kinds.ps night-kinds.r (λ κs s. s.1.1.1.0.now) nights.Post
night-leaves κs a x y s t p q = (nights-one a.0 a.1.0 a.1.1.0.now a.1.1.1.0.now s.1.1.1.0.now t.1.1.1.0.now x y p q).1
