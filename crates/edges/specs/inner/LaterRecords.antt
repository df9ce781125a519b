-- The kept pairs drawn a row at a time, from the last record of a trace to its first. In proofs/LaterRecords.antt it is what the model keeps.
--
--   KINDS, SHELF        == how many kinds there are; how many words a row for each has
--   Filed n f           == each number below n, in the row that f gives it
--   OffRow m one k a b  == what row b of k has, in row a, if model m does not keep kinds a and b without a fence between, at one address or at two
--   OffFor e h p a v y  == row a of h has y, or row a of e has it and row v of p does not
--   Later t k c         == the operations of thread c from record k on
--   LaterFenced t k c   == those of them that a fence of thread c stands before, from record k on
--   KeptRow l b o c x   == in row x, what row c of l has and row 0 of o does not, and what row c of b has
--   DrawnRows t e h p   == from each operation, to the later ones of its thread that are not let off by e, h and p, or that are behind a fence
--   DrawnFrom t e h p k == the same, from records k and later
use Rattle.std.specs.Prelude.{◌≡◌, ◌⊎◌, Bool, not, List, ℕ, ◌+◌, ◌*◌, ◌<◌, ◌≤◌}
use Rattle.std.proofs.Math.Bool.{So}
use Rattle.laws.specs.Relation.{Rel}
use Rattle.trace.specs.Op.{thread, address, fence}
use Rattle.trace.specs.Trace.{at}
use Rattle.trace.specs.Meaning.{frame_of}
use Rattle.trace.specs.declared.Trace.{Trace}
use Rattle.rows.specs.Bounds.{WORDS}
use Rattle.rows.specs.Rows.{Edges}
use Rattle.pairs.specs.Kept.{FENCE, kind_of, kept_by}

abbrev pub KINDS : ℕ
KINDS = FENCE + 1

abbrev pub SHELF : ℕ
SHELF = KINDS * WORDS

abbrev pub Filed : ℕ → (ℕ → ℕ) → Rel
Filed n f i j = (j < n) × (i ≡ f j)

abbrev pub OffRow : ℕ → Bool → List ℕ → ℕ → ℕ → Rel
OffRow m one k a b i j = So (not (kept_by m a b one)) × (i ≡ a) × Edges k b j

abbrev pub OffFor : List ℕ → List ℕ → List ℕ → ℕ → ℕ → ℕ → Type 0
OffFor e h p a v y = Edges h a y ⊎ (Edges e a y × (Edges p v y → ⊥))

abbrev pub Later : Trace → ℕ → Rel
Later t k c y = (k ≤ y) × So ((frame_of t).operation y) × (thread (at t y) ≡ c)

abbrev pub LaterFenced : Trace → ℕ → Rel
LaterFenced t k c y = Later t k c y × ((i : ℕ) × (k ≤ i) × (i < y) × So (fence (at t i)) × (thread (at t i) ≡ c))

abbrev pub KeptRow : List ℕ → List ℕ → List ℕ → ℕ → ℕ → Rel
KeptRow l b o c x i j = (i ≡ x) × ((Edges l c j × (Edges o 0 j → ⊥)) ⊎ Edges b c j)

abbrev pub DrawnRows : Trace → List ℕ → List ℕ → List ℕ → Rel
DrawnRows t e h p x y =
    So ((frame_of t).operation x)
    × ((Later t (x + 1) (thread (at t x)) y × (OffFor e h p (kind_of (at t x)) (address (at t x)) y → ⊥)) ⊎ LaterFenced t (x + 1) (thread (at t x)) y)

abbrev pub DrawnFrom : Trace → List ℕ → List ℕ → List ℕ → ℕ → Rel
DrawnFrom t e h p k x y = (k ≤ x) × DrawnRows t e h p x y
