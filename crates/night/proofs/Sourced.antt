-- No run of a night's worth lacks a source: words stand for reads that are in their lists, and what is in a list was there first or was written.
--
--   fill-own     == record L of the program with reads by record has its own
--   run-reads    == so the loads of a run read what its words stand for
--   each-some    == what stands in a list that a function made comes from one of its numbers
--   runs-sourced == no source is missing in a run
--   no-lack      == so the kind of a run's verdict is not that of a missing source
use mathlib.Core.Path.{◌≡◌, refl, sym, ap, ◌∙◌}
use mathlib.Core.Logic.{◌≢◌}
use mathlib.Core.Bool.{Bool, true, false, cond, So, false≢true}
use mathlib.Core.List.{List, [], ◌∷◌}
use Prim.Native.Nat.{ℕ, zero, suc, ◌+◌, ◌<◌, ◌≤◌}
use native.Mathlib.Omega.{arith}
use lib.ListN.{length, get_or, drop}
use Rattle.laws.specs.Places.{count}
use Rattle.laws.specs.Picks.{picks}
use Rattle.laws.proofs.Tests.{and-iff, same-iff, so-eq, not_iff}
use Rattle.laws.proofs.Places.{at-pos, count-here, count-le}
use Rattle.trace.specs.Op.{address, read, written, reads, writes}
use Rattle.trace.specs.Trace.{at, first}
use Rattle.trace.specs.Meaning.{frame_of}
use Rattle.trace.specs.FormFacts.{Form}
use Rattle.trace.specs.WellFormed.{well_formed}
use Rattle.trace.specs.declared.Op.{Op}
use Rattle.trace.specs.declared.Op.TheVariants.{Load, Store, Swap, Fence}
use Rattle.trace.specs.declared.Record.{Record}
use Rattle.trace.specs.declared.Trace.{Trace}
use Rattle.trace.proofs.Meaning.{reads-iff, writes-iff}
use Rattle.trace.proofs.WellFormed.{form-iff}
use Rattle.rules.specs.Missing.{Missing, Sourced}
use Rattle.rules.specs.Verdict as said
use Rattle.signature.specs.Reads.{other, each, values, range_of, digit_of, loads}
use Rattle.signature.specs.Unpack.{read_of, reads_of}
use Rattle.signature.proofs.Lists.{pick-facts}
use Rattle.signature.proofs.Unpack.{unpack-listed}
use Rattle.night.specs.FilledReads.{read_as, fill_reads, filled_reads}
use Rattle.night.specs.Block.{KIND-NO-SOURCE, block_of}
use Rattle.night.specs.Night.{JudgedRun}
use Rattle.night.proofs.FilledReads.{nothing, place, addresses}

-- the records from i on, with what those of them that read have by number
fill-own : (g : ℕ → ℕ) (q : ℕ → Bool) (rs : List Record) (i k : ℕ) → k ≤ length rs → ((j : ℕ) → j < length rs → reads (get_or rs j nothing).op ≡ q (i + j)) → (L : ℕ) → L < k → So (q (i + L))
    → (get_or (fill_reads rs (each g (picks q i k))) L nothing).op ≡ read_as (get_or rs L nothing).op (g (i + L))
unfolding fill_reads picks each
fill-own g q [] i zero h e L b s = absurd (omega arith)
fill-own g q [] i (suc k) h e L b s = absurd (omega arith)
fill-own g q (r ∷ rs) i zero h e L b s = absurd (omega arith)
fill-own g q (r ∷ rs) i (suc k) h e L b s = go (fill-own g q rs (suc i) k (omega arith) (λ j c. e (suc j) (omega arith) ∙ ap q (let y : i + suc j ≡ suc i + j = omega arith in y))) (q i) refl L b s
  where
    here : reads r.op ≡ q i
    here = e 0 (omega arith) ∙ ap q (let z : i + 0 ≡ i = omega arith in z)

    -- the records behind the first have theirs
    later : ((L : ℕ) → L < k → So (q (suc i + L)) → (get_or (fill_reads rs (each g (picks q (suc i) k))) L nothing).op ≡ read_as (get_or rs L nothing).op (g (suc i + L)))
        → (L : ℕ) → suc L < suc k → So (q (i + suc L)) → (get_or (fill_reads rs (each g (picks q (suc i) k))) L nothing).op ≡ read_as (get_or rs L nothing).op (g (i + suc L))
    later rec L b s =
        let z : suc i + L ≡ i + suc L = omega arith in
        rec L (omega arith) (ap q z ∙ s) ∙ ap (λ (n : ℕ). read_as (get_or rs L nothing).op (g n)) z

    go : ((L : ℕ) → L < k → So (q (suc i + L)) → (get_or (fill_reads rs (each g (picks q (suc i) k))) L nothing).op ≡ read_as (get_or rs L nothing).op (g (suc i + L)))
        → (c : Bool) → q i ≡ c → (L : ℕ) → L < suc k → So (q (i + L))
        → (get_or (fill_reads (r ∷ rs) (each g (cond c (i ∷ picks q (suc i) k) (picks q (suc i) k)))) L nothing).op ≡ read_as (get_or (r ∷ rs) L nothing).op (g (i + L))
    go rec true d zero b s = ap (λ (n : ℕ). read_as r.op (g n)) (let z : i ≡ i + 0 = omega arith in z)
    go rec false d zero b s = absurd (false≢true (sym d ∙ ap q (let z : i ≡ i + 0 = omega arith in z) ∙ s))
    go rec true d (suc L) b s =
        ap (λ (c : Bool). (get_or (fill_reads rs (cond c (each g (picks q (suc i) k)) (g i ∷ each g (picks q (suc i) k)))) L nothing).op) (here ∙ d) ∙ later rec L b s
    go rec false d (suc L) b s =
        ap (λ (c : Bool). (get_or (fill_reads rs (cond c (drop 1 (each g (picks q (suc i) k))) (each g (picks q (suc i) k)))) L nothing).op) (here ∙ d) ∙ later rec L b s

-- an operation that reads another value
read_back : (o : Op) (v : ℕ) → So (reads o) → read (read_as o v) ≡ v
read_back (Load t a r) v s = refl
read_back (Store t a w) v s = absurd (false≢true s)
read_back (Swap t a r w) v s = refl
read_back (Fence t) v s = absurd (false≢true s)

reads_as : (o : Op) (v : ℕ) → reads (read_as o v) ≡ reads o
reads_as (Load t a r) v = refl
reads_as (Store t a w) v = refl
reads_as (Swap t a r w) v = refl
reads_as (Fence t) v = refl

same_writes : (o : Op) (v : ℕ) → writes (read_as o v) ≡ writes o
same_writes (Load t a r) v = refl
same_writes (Store t a w) v = refl
same_writes (Swap t a r w) v = refl
same_writes (Fence t) v = refl

same-written : (o : Op) (v : ℕ) → written (read_as o v) ≡ written o
same-written (Load t a r) v = refl
same-written (Store t a w) v = refl
same-written (Swap t a r w) v = refl
same-written (Fence t) v = refl

each-some : (g : ℕ → ℕ) (xs : List ℕ) (p : ℕ) → p < length (each g xs) → (x : ℕ) × (0 < count x xs) × (g x ≡ get_or (each g xs) p 0)
unfolding each count
each-some g [] p h = absurd (omega arith)
each-some g (y ∷ ys) zero h = (y, omega (arith, count-here y y ys refl), refl)
each-some g (y ∷ ys) (suc p) h = let (x, c, e) = each-some g ys p (omega arith) in (x, omega (arith, c, count-le x y ys), e)

module _ (t : Trace) (form : Form t) (ws : List ℕ) where
  -- the program with the reads of the run
  abbrev u : Trace
  u = filled_reads t (reads_of t ws)

  pub run-reads : (L : ℕ) → L < t.len → So (reads (at t L)) → read (at u L) ≡ read_of t ws L
  unfolding filled_reads loads
  run-reads L b s =
      ap read (fill-own (read_of t ws) (λ L. reads (at t L)) t.records 0 t.len (omega (arith, form.fits, form.places)) (λ j c. ap (λ (n : ℕ). reads (at t n)) (let z : j ≡ 0 + j = omega arith in z)) L b (ap (λ (n : ℕ). reads (at t n)) (let z : 0 + L ≡ L = omega arith in z) ∙ s))
      ∙ read_back (at t L) (read_of t ws (0 + L)) s
      ∙ ap (read_of t ws) (let z : 0 + L ≡ L = omega arith in z)

  -- what was read is in its list: the first value, or one that another record wrote
  written-by : (L v p : ℕ) → p < range_of t L → get_or (values t L) p 0 ≡ v → v ≢ first t (address (at t L)) → (S : ℕ) × (S < t.len) × So (other t L S) × (written (at t S) ≡ v)
  unfolding values
  written-by L v zero h e n = absurd (n (sym e))
  written-by L v (suc p) h e n =
      let (S, c, f) = each-some (λ i. written (at t i)) (picks (other t L) 0 t.len) p (omega arith) in
      let k = pick-facts (other t L) 0 t.len S c in
      (S, omega (arith, k.0), k.1, f ∙ e)

  lacks-none : (L : ℕ) → Missing (frame_of u) L → ⊥
  unfolding frame_of filled_reads other first
  lacks-none L m =
      let (x, p) = place t (reads_of t ws) L in
      let r = (reads-iff u L).0 m.reads in
      let s : So (reads (at t L)) = sym (ap reads p ∙ reads_as (at t L) x) ∙ r.1 in
      let a = addresses t (reads_of t ws) in
      let v = run-reads L r.0 s in
      let (S, b, o, f) = written-by L (read_of t ws L) (digit_of t L (read_of t ws L)) (unpack-listed t form ws L r.0 s) (at-pos (values t L) (read_of t ws L) (unpack-listed t form ws L r.0 s)) (λ e. m.later (v ∙ e ∙ ap (first t) (sym (a L)))) in
      let q = (and-iff (and-iff (same-iff {a = writes (at t S)}) (so-eq {m = address (at t S)} {n = address (at t L)})) (not_iff (so-eq {m = S} {n = L}))).0 o in
      let (y, d) = place t (reads_of t ws) S in
      m.nobody S (record {
        writer = record { writes = (writes-iff u S).1 (b, ap writes d ∙ same_writes (at t S) y ∙ q.0.0); same = a S ∙ q.0.1 ∙ sym (a L); other = q.1 };
        reads = m.reads;
        value = v ∙ sym f ∙ sym (ap written d ∙ same-written (at t S) y);
        later = m.later;
      })

  pub runs-sourced : Sourced (frame_of u)
  runs-sourced = lacks-none

-- no run that `night` judges is told to lack a source
pub no-lack : (t : Trace) → So (well_formed t) → (m : ℕ) (ws b : List ℕ) → JudgedRun t m ws b → get_or b 0 0 ≢ KIND-NO-SOURCE
unfolding block_of
no-lack t w m ws b (said.no_source x, s, e) z = runs-sourced t ((form-iff t).0 w) ws x s.0
no-lack t w m ws b (said.circle c rs, s, e) z = let y = sym (ap (λ (l : List ℕ). get_or l 0 0) e) ∙ z in omega (arith, y)
no-lack t w m ws b (said.order xs, s, e) z = let y = sym (ap (λ (l : List ℕ). get_or l 0 0) e) ∙ z in omega (arith, y)
no-lack t w m ws b (said.none_left, s, e) z = let y = sym (ap (λ (l : List ℕ). get_or l 0 0) e) ∙ z in omega (arith, y)
