-- What goes beyond the three demands: limits, smaller traces, papers, signatures, packed files, the plain machine.
--
--   limit-undecided, limit-decided, limit-more == undecided comes exactly where the plain search makes more steps than the limit; what is decided is the full
--                                                 verdict; more steps never change it
--   steps-by-hand       == the store buffers of document 01 take the plain search 11 steps under TSO, and an early read gives the first order
--   placed-set-short    == what is placed does not decide what the plain search finds, but in which order it is placed does
--   cut-down-exactly    == a trace is cut down exactly where its verdict is a circle or none left
--   cut-verdict, cut-one-less == what is left is faulty in the same way or the other, and whichever record more is removed, an order exists
--   accepted-reasons    == a list of reasons is accepted only where there is no valid order, whoever wrote it
--   our-paper-accepted, our-paper-exactly == our list is accepted, and is there exactly where no source is missing and there is no order
--   knot-none-left      == KNOT has no valid order under SC and TSO, by its list of reasons
--   words-equal-reads   == two sets of reads have equal words exactly when they are equal
--   reads-back, words_back == unpacked and packed again they are the same
--   words-fit           == the words of any reads in their lists are as many as the program has, and none is too large
--   run-has-sources     == no run of a night's worth lacks a source
--   files-apart         == two well formed traces are equal exactly when their packed files are
--   machine-runs        == a valid order exists under SC or TSO exactly when some list of steps runs the plain machine through
--   buffers-in-turn     == the machine's buffers are first in, first out
use mathlib.Core.Path.{◌≡◌}
use mathlib.Core.Logic.{◌≢◌, ◌↔◌, ◌⊎◌}
use mathlib.Core.Bool.{true, false, So}
use mathlib.Core.List.{List, [], ◌∷◌, ◌++◌}
use mathlib.Core.Option.{Option, none, some}
use Prim.Native.Nat.{ℕ, ◌<◌, ◌≤◌}
use lib.ListN.{length, get_or, take}
use Rattle.std.specs.Prelude.{Ok}
use Rattle.laws.specs.Relation.{Table}
use Rattle.rules.specs.Frame.{Frame, Good}
use Rattle.rules.specs.Order.{Valid}
use Rattle.rules.specs.Missing.{Sourced}
use Rattle.rules.specs.Ready.{operations}
use Rattle.rules.specs.Verdict as said
use Rattle.trace.specs.Op.{reads}
use Rattle.trace.specs.Trace.{at}
use Rattle.trace.specs.FormFacts.{Form}
use Rattle.trace.specs.Meaning.{frame_of}
use Rattle.trace.specs.WellFormed.{well_formed}
use Rattle.trace.specs.declared.Op.TheVariants.{Load, Store}
use Rattle.trace.specs.declared.Trace.{Trace}
use Rattle.pairs.specs.Kept.{SC, TSO, modelled, kept_of}
use Rattle.pairs.specs.Starred.{trace_of}
use Rattle.plain.specs.Plain.{plain}
use Rattle.plain.specs.Limited.{counted}
use Rattle.plain.proofs.Samples as samples
use Rattle.verdict.specs.VerdictOf.{Told}
use Rattle.verdict.specs.declared.Verdict.{Verdict}
use Rattle.verdict.specs.declared.Outcome.{Outcome}
use Rattle.limited.specs.LimitedVerdict.{of, ToldLimited}
use Rattle.limited.specs.declared.Limit.{Limit}
use Rattle.limited.specs.declared.Limited.TheVariants.{Decided, Undecided}
use Rattle.limited.proofs.Guarantees.{undecided-exactly, decided-full, more-steps}
use Rattle.parts.specs.Removal.{Set, Goes}
use Rattle.parts.specs.CutDown.{Removed, Left}
use Rattle.parts.specs.Picked.{picked}
use Rattle.smaller.specs.Smaller.{ToldSmaller}
use Rattle.smaller.specs.declared.Answer.TheVariants.{Cut}
use Rattle.smaller.specs.declared.Smaller.{Smaller}
use Rattle.smaller.proofs.Guarantees.{Unordered, left-order, left-verdict, cut-exactly}
use Rattle.papers.specs.Paper.{Entry, accepted}
use Rattle.papers.specs.Accepts.{Paper}
use Rattle.papers.proofs.Sound.{accepted-sound}
use Rattle.papers.proofs.Knot as paper
use Rattle.reasons.specs.Writes.{Writes}
use Rattle.reasons.specs.declared.listing.Reason.{Reason}
use Rattle.std.specs.Prelude.{Some, None, Result, Ok}
use Rattle.std.specs.Prelude as std
use Rattle.reasons.proofs.Unique.{write-accepted, write-shows}
use Rattle.signature.specs.Reads.{AllListed}
use Rattle.signature.specs.Signature.{signature, tops, too_large}
use Rattle.signature.specs.Unpack.{read_of}
use Rattle.signature.proofs.Signature.{signature-one}
use Rattle.signature.proofs.Unpack.{unpack-pack}
use Rattle.signature.proofs.Tops.{pack-unpack, pack-fits}
use Rattle.night.specs.Block.{KIND-NO-SOURCE}
use Rattle.night.specs.Night.{JudgedRun}
use Rattle.night.proofs.Sourced.{no-lack}
use Rattle.packed.specs.Layout.{file_of}
use Rattle.packed.proofs.RoundTrip.{files-one}
use Rattle.machine.specs.Fifo.{buffer_of, Reached}
use Rattle.machine.specs.Machine.{machined, step, answer}
use Rattle.machine.proofs.Equal.{machine-exactly}
use Rattle.machine.proofs.Fifo.{fifo}

-- ---- a limit of steps, where r and v are as they are promised
pub limit-undecided : (t : Trace) (m : ℕ) → So (modelled m) → So (well_formed t) → (l : ℕ) (r : Limit) → ToldLimited t m l r → (v : said.Verdict) → said.Says (frame_of t) (kept_of m t) v
    → ((r.outcome ≡ Undecided) ↔ (l < counted (frame_of t) (kept_of m t) v)) × (r.outcome ≡ Undecided → r.steps ≡ l)
limit-undecided = undecided-exactly

pub limit-decided : (t : Trace) (m l : ℕ) (r : Limit) → ToldLimited t m l r → (o : Outcome) → r.outcome ≡ Decided o → (v : Verdict) → Told t m v → r ≡ of v r.steps
limit-decided = decided-full

pub limit-more : (t : Trace) (m l l' : ℕ) → l ≤ l' → (r r' : Limit) → ToldLimited t m l r → ToldLimited t m l' r' → (o : Outcome) → r.outcome ≡ Decided o → r' ≡ r
limit-more = more-steps

pub steps-by-hand : (let t = trace_of (Store 0 0 1 ∷ Load 0 1 0 ∷ Store 1 1 1 ∷ Load 1 0 0 ∷ []) in plain (frame_of t) (kept_of TSO t) (operations (frame_of t)) [] ≡ (11, some (1 ∷ 2 ∷ 3 ∷ 0 ∷ [])))
    × (let t = trace_of (Store 0 0 1 ∷ Load 0 0 1 ∷ Load 0 1 0 ∷ Store 1 1 1 ∷ Load 1 1 1 ∷ Load 1 0 0 ∷ []) in (plain (frame_of t) (kept_of TSO t) (operations (frame_of t)) []).1 ≡ some (1 ∷ 2 ∷ 3 ∷ 4 ∷ 5 ∷ 0 ∷ []))
steps-by-hand = (samples.buffers-tso, samples.early-tso)

-- two stores to one address, then a load of the first
pub placed-set-short : let t = trace_of (Store 0 0 1 ∷ Store 1 0 2 ∷ Load 2 0 1 ∷ []) in
    ◌≡◌ {A = (ℕ × Option (List ℕ)) × (ℕ × Option (List ℕ))} (plain (frame_of t) (kept_of SC t) 1 (0 ∷ 1 ∷ []), plain (frame_of t) (kept_of SC t) 1 (1 ∷ 0 ∷ [])) ((0, none), (1, some (2 ∷ [])))
placed-set-short = samples.set-is-not-enough

-- ---- smaller failing traces
pub cut-down-exactly : (t : Trace) (m : ℕ) → So (modelled m) → So (well_formed t) → (r : Smaller) → ToldSmaller t m r → (v : said.Verdict) → said.Says (frame_of t) (kept_of m t) v → (r.answer ≡ Cut) ↔ Unordered v
cut-down-exactly = cut-exactly

pub cut-verdict : (t : Trace) (m : ℕ) → So (well_formed t) → (A : Set) → Left t m A → Sourced (frame_of t) → ((xs : List ℕ) → Valid (frame_of t) (kept_of m t) xs → ⊥)
    → (v : said.Verdict) → said.Says (frame_of (picked t A)) (kept_of m (picked t A)) v → Unordered v
cut-verdict = left-verdict

pub cut-one-less : (t : Trace) (m : ℕ) → So (well_formed t) → (A : Set) → Left t m A → (i : ℕ) → i < t.len → So (A i) → (B : Set) → Removed (Goes (frame_of t)) A i B
    → (xs : List ℕ) × Valid (frame_of (picked t B)) (kept_of m (picked t B)) xs
cut-one-less = left-order

-- ---- papers
pub accepted-reasons : (f : Frame) → Good f → (K : Table) (es : List Entry) → So (accepted f K es) → (xs : List ℕ) → Valid f K xs → ⊥
accepted-reasons = accepted-sound

module _ (t : Trace) (m : ℕ) (before : List ℕ) (k : So (modelled m)) (w : So (well_formed t)) (after : List ℕ) where
  pub our-paper-accepted : (n : ℕ) → Writes t m before after (Ok (Some n)) → Paper (frame_of t) (kept_of m t) (take n after)
  our-paper-accepted = write-accepted t m before k w after

  pub our-paper-exactly : (r : Result (std.Option ℕ) Reason) → Writes t m before after r → (r ≡ Ok None → ⊥) ↔ (Sourced (frame_of t) × ((xs : List ℕ) → Valid (frame_of t) (kept_of m t) xs → ⊥))
  our-paper-exactly = write-shows t m before k w after

pub knot-none-left : ((xs : List ℕ) → Valid (frame_of (paper.trace_of paper.knot)) (kept_of SC (paper.trace_of paper.knot)) xs → ⊥)
    × ((xs : List ℕ) → Valid (frame_of (paper.trace_of paper.knot)) (kept_of TSO (paper.trace_of paper.knot)) xs → ⊥)
knot-none-left = paper.knot-refuted

-- ---- signatures, and a night's worth of them
module _ (t : Trace) (form : Form t) where
  pub words-equal-reads : (v w : ℕ → ℕ) → AllListed t v → AllListed t w → (signature t v ≡ signature t w) ↔ ((L : ℕ) → L < t.len → So (reads (at t L)) → v L ≡ w L)
  words-equal-reads = signature-one t form

  pub reads-back : (v : ℕ → ℕ) → AllListed t v → (L : ℕ) → L < t.len → So (reads (at t L)) → read_of t (signature t v) L ≡ v L
  reads-back = unpack-pack t form

  pub words_back : (ws : List ℕ) → (length ws ≡ length (tops t)) × ((k : ℕ) → k < length ws → too_large t ws k ≡ false) → signature t (read_of t ws) ≡ ws
  words_back = pack-unpack t form

pub words-fit : (t : Trace) (v : ℕ → ℕ) → AllListed t v → (length (signature t v) ≡ length (tops t)) × ((k : ℕ) → k < length (signature t v) → too_large t (signature t v) k ≡ false)
words-fit = pack-fits

pub run-has-sources : (t : Trace) → So (well_formed t) → (m : ℕ) (ws b : List ℕ) → JudgedRun t m ws b → get_or b 0 0 ≢ KIND-NO-SOURCE
run-has-sources = no-lack

-- ---- packed files
pub files-apart : (t u : Trace) → So (well_formed t) → So (well_formed u) → (t ≡ u) ↔ (file_of t ≡ file_of u)
files-apart = files-one

-- ---- the plain machine
module _ (t : Trace) (w : So (well_formed t)) (m : ℕ) (k : So (machined m)) where
  pub machine-runs : ((xs : List ℕ) × Valid (frame_of t) (kept_of m t) xs) ↔ ((ss : List ℕ) × (answer t m ss ≡ Ok true))
  machine-runs = machine-exactly t w m k

  -- M and N are states of the machine: a step from one to the other leaves a core's buffer alone, puts an entry in last or takes the first one out
  pub buffers-in-turn : {M N : _} → Reached t m M → (s : ℕ) → step t m M s ≡ some N → (τ : ℕ)
      → (buffer_of t N τ ≡ buffer_of t M τ) ⊎ (((x : ℕ) × (buffer_of t N τ ≡ buffer_of t M τ ++ (x ∷ []))) ⊎ ((x : ℕ) × (buffer_of t M τ ≡ x ∷ buffer_of t N τ)))
  buffers-in-turn = fifo t w m k
