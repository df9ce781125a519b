-- What may come next, and when the loop may stop.
--
--   rest-of, in_rest            == what is left of a row; what is not left was dropped
--   next-on, next-at            == a walk along a row: it goes on; where it is
--   in_left, readied, unready-on == what may be ready is left to place; one that is left and free is ready; none is, further on
--   lacks                       == what a set lacks stands nowhere in its list
--   ready-iff                   == the test of the tables is readiness after any list with that set
--   stop-of                     == so is the test for the two stops by exchange
use mathlib.Core.Path.{◌≡◌, sym, ◌∙◌}
use mathlib.Core.Logic.{◌⊎◌, inl, inr, ◌↔◌}
use mathlib.Core.Bool.{false, So, false≢true}
use mathlib.Core.List.{List}
use Prim.Native.Nat.{ℕ, ◌+◌, ◌<◌, ◌≤◌}
use native.Mathlib.Omega.{arith}
use lib.ListN.{get_or}
use Rattle.laws.specs.Places.{count}
use Rattle.laws.specs.Relation.{Table}
use Rattle.laws.proofs.Tests.{test, off, eq?}
use Rattle.trace.specs.Bounds.{RECORDS}
use Rattle.rules.specs.Frame.{Frame, Writer, Source}
use Rattle.rows.specs.Rows.{bit, Words}
use Rattle.rows.specs.Next.{NextInRow}
use Rattle.rows.specs.Rest.{rest_of}
use Rattle.rows.proofs.Rows.{bit-bounds}
use Rattle.rows.proofs.Resting.{rest-long, rest_has}
use Rattle.pairs.proofs.SourceOf.{source-of-is, source-of-has}
use Rattle.rules.specs.Ready.{Ready}
use Rattle.rules.specs.inner.EarlyStop.{Stop, unread, covered}
use Rattle.search.specs.inner.LeftOver.{LeftOver}
use Rattle.search.specs.inner.SearchTables.{Tables, Led, Laid}
use Rattle.rows.specs.inner.Sets.{Holds}
use Rattle.search.specs.inner.Candidates.{MayCome, Readied, Unread, Covered, Enough}

pub rest-of : (from : List ℕ) → Words from → (x : ℕ) (out : List ℕ) (y : ℕ) (r : List ℕ) → r ≡ rest_of from x out y → LeftOver from x out y r
rest-of from words x out y r e = rw e record { long = rest-long from words x out y; has = rest_has from words x out y }

-- what is not left of a row was dropped
pub in_rest : {from out r : List ℕ} {x y : ℕ} → LeftOver from x out y r → (z : ℕ) → So (bit from x z) → (So (bit r 0 z) → ⊥) → So (bit out y z)
in_rest {from} {out} {r} {x} {y} p z t n = elim (test (bit out y z)) [ inl u ↦ u | inr u ↦ absurd (n ((p.has z).1 (t, λ v. false≢true (sym u ∙ v)))) ]

pub next-on : {m : ℕ} (row : List ℕ) (z r : ℕ) → NextInRow row m (z + 1) r → z < RECORDS → z < r
next-on row z r n h = elim n.there [ inl t ↦ omega (arith, t.0) | inr e ↦ omega arith ]

pub next-at : {m : ℕ} (row : List ℕ) (from r : ℕ) → NextInRow row m from r → So (bit row m r) ⊎ (r ≡ RECORDS)
next-at row from r n = elim n.there [ inl t ↦ inl t.1 | inr e ↦ inr e ]

-- what may be ready is left to place
module _ {n : ℕ} {operations before readers sources placed : List ℕ} where
  pub in_left : {left : List ℕ} → LeftOver operations 0 placed 0 left → (x : ℕ) → Readied n operations before readers sources placed x → So (bit left 0 x)
  in_left p x r = (p.has x).1 (r.operation, r.unplaced)

  pub readied : {left : List ℕ} (y : ℕ) → y < RECORDS → LeftOver operations 0 placed 0 left → MayCome n before readers sources placed y → So (bit left 0 y) ⊎ (y ≡ RECORDS) → Readied n operations before readers sources placed y
  readied y h p free (inl t) = let (o, u) = (p.has y).0 t in record { operation = o; unplaced = u; free = free }
  readied y h p free (inr e) = absurd (omega arith)

  pub unready-on : (y r : ℕ) → (Readied n operations before readers sources placed y → ⊥) → ((x : ℕ) → y + 1 ≤ x → x < r → Readied n operations before readers sources placed x → ⊥)
      → (x : ℕ) → y ≤ x → x < r → Readied n operations before readers sources placed x → ⊥
  unready-on y r here on x a h t = elim (eq? x y) [ inl e ↦ here (rw e at t) | inr d ↦ on x (omega arith) h t ]

pub lacks : (set p : List ℕ) → Holds set p → (x : ℕ) → (bit set 0 x ≡ false) ↔ (count x p ≡ 0)
lacks set p h x = (
  λ e. elim (eq? (count x p) 0) [ inl z ↦ z | inr n ↦ absurd (false≢true (sym e ∙ (h x).1 (omega arith))) ],
  λ z. off (λ t. omega (arith, (h x).0 t)),
)

module _ (f : Frame) (K : Table) (T : Tables) (laid : Laid f K T) (small : T.n ≤ RECORDS) (placed p : List ℕ) (h : Holds placed p) where
  -- records of the trace
  reader : {S L : ℕ} → Source f S L → L < T.n
  reader {S} {L} s = omega (arith, laid.good.below L (laid.good.reads L s.reads), laid.records)

  writes_below : {z : ℕ} → So (f.writes z) → z < T.n
  writes_below {z} t = omega (arith, laid.good.below z (laid.good.writes z t), laid.records)

  -- a source as the tables have it
  source-there : {S L : ℕ} → Source f S L → get_or T.sources L 0 ≡ S
  source-there {S} {L} s =
      let l = writes_below s.writer.writes in
      laid.source L (reader s) ∙ source-of-has f L laid.good S (omega arith) s

  source_is : (L : ℕ) → L < T.n → So (bit placed 0 (get_or T.sources L 0)) → Source f (get_or T.sources L 0) L
  source_is L l t =
      let e = laid.source L l in
      rw e (source-of-is f L (omega (arith, (bit-bounds placed 0 (get_or T.sources L 0) t).1, e)))

  pub ready-iff : (c : ℕ) → Readied T.n T.operations T.before T.readers T.sources placed c ↔ Ready f (Led T.before) p c
  ready-iff c = (forth, back)
    where
      forth : Readied T.n T.operations T.before T.readers T.sources placed c → Ready f (Led T.before) p c
      forth r = record {
        operation = (laid.operation c).0 r.operation;
        unplaced = (lacks placed p h c).0 (off r.unplaced);
        after = λ x t. (h x).0 (r.free.after x t);
        quiet = quiet;
      }
        where
          quiet : (S L : ℕ) → Source f S L → Writer f c L → 0 < count S p → 0 < count L p
          quiet S L s w k = elim (test (bit placed 0 L)) [
            | inl t ↦ (h L).0 t
            | inr t ↦
                let l = reader s in
                let e = source-there s in
                let there : So (bit placed 0 (get_or T.sources L 0)) = rw e ((h S).1 k) in
                absurd (r.free.quiet L l (record { there = (laid.reader c L l).1 w; due = there; unplaced = λ u. false≢true (sym t ∙ u) }))
          ]

      back : Ready f (Led T.before) p c → Readied T.n T.operations T.before T.readers T.sources placed c
      back r = record {
        operation = (laid.operation c).1 r.operation;
        unplaced = λ u. false≢true (sym ((lacks placed p h c).1 r.unplaced) ∙ u);
        free = record {
          after = λ x t. (h x).1 (r.after x t);
          quiet = λ L l w. w.unplaced ((h L).1 (r.quiet (get_or T.sources L 0) L (source_is L l w.due) ((laid.reader c L l).0 w.there) ((h (get_or T.sources L 0)).0 w.due)));
        };
      }

  module _ (failed : List ℕ) (y : ℕ) (tried : So (bit failed 0 y)) where
    -- those that failed
    abbrev F : ℕ → Type 0
    F z = So (bit failed 0 z)

    stop-unread : Unread T.n T.readers T.sources placed y → Stop f (Led T.before) p F
    stop-unread u = unread y tried (λ L s. (h L).0 (u L (reader s) ((laid.reader y L (reader s)).1 s.writer) (source-there s)))

    stop-covered : Covered T.before T.writers placed failed y → Stop f (Led T.before) p F
    stop-covered k = elim (test (f.writes y)) [
      | inr t ↦ unread y tried (λ L s. absurd (false≢true (sym t ∙ s.writer.writes)))
      | inl t ↦ covered y tried t (λ z zw e far. elim (eq? z y) [
        | inl q ↦ inl (rw q tried)
        | inr d ↦ elim (test (bit failed 0 z)) [
          | inl u ↦ inl u
          | inr u ↦
              let w : Writer f z y = record { writes = zw; same = e; other = d } in
              let (x, ahead, writes, far') = k z (record {
                writer = (laid.writer z y (writes_below t)).1 w;
                unplaced = λ v. false≢true (sym ((lacks placed p h z).1 far) ∙ v);
                untried = λ v. false≢true (sym u ∙ v);
              }) in
              inr (x, (laid.writer x z (writes_below zw)).0 writes, (lacks placed p h x).0 (off far'), ahead)
        ]
      ])
    ]

    pub stop-of : Enough T.n T.before T.writers T.readers T.sources placed failed y → Stop f (Led T.before) p F
    stop-of (inl u) = stop-unread u
    stop-of (inr k) = stop-covered k
