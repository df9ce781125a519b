-- The closing of rows in which every pair leads to a higher number, from the last row to the first.
--
--   row-forward, row-backward == what the lowest number of a row tells
--   Extending e x y rest t    == row x of t has what those numbers give that x leads to in e, but for those from y on that wait in `rest`
--   extend-none, extend-more, extended == before the first of them, one more, past the last
--   chain-begins, chain-forward == a chain begins where a pair does, and leads to a higher number
--   ClosedFrom e x t          == the rows of t from x on hold the chains of e, those before x what they have in e
--   from-none, from_more, from_all == before the last row, one row more, past the first
--   from-forward, from_past   == the pairs of t lead to higher numbers too; the rows past the next one are closed
use mathlib.Core.Path.{◌≡◌, refl, sym, ap, ◌∙◌, subst}
use mathlib.Core.Logic.{◌⊎◌, inl, inr, ◌↔◌}
use mathlib.Core.Bool.{So, false≢true}
use mathlib.Core.List.{List}
use Prim.Native.Nat.{ℕ, ◌+◌, ◌<◌, ◌≤◌}
use native.Mathlib.Decide.{dec_lt}
use native.Mathlib.Omega.{arith}
use lib.ListN.{length}
use Rattle.laws.specs.Relation.{Chain, one, more}
use Rattle.laws.proofs.Relation.{chain-join}
use Rattle.laws.proofs.Tests.{test, eq?}
use Rattle.trace.specs.Bounds.{RECORDS}
use Rattle.rows.specs.Bounds.{WORDS}
use Rattle.rows.specs.Rows.{bit, Edges, Words}
use Rattle.rows.specs.Within.{Within}
use Rattle.rows.specs.Next.{NextInRow}
use Rattle.rows.specs.Empty.{empty_of}
use Rattle.rows.specs.AddRow.{add_row_of}
use Rattle.rows.specs.DropRow.{drop_row_of}
use Rattle.rows.specs.inner.AddedPairs.{Added, Row, RowsBelow}
use Rattle.rows.specs.inner.HoldsChains.{HoldsChains}
use Rattle.rows.specs.inner.Forward.{Forward, ClosedPast, SecondSteps}
use Rattle.rows.proofs.Rows.{bit-bounds}
use Rattle.rows.proofs.Whole.{empty-long, empty-bit}
use Rattle.rows.proofs.Nexts.{next-in, next-first}
use Rattle.rows.proofs.Closing.{row-added}
use Rattle.rows.proofs.Dropping.{drop-long, row-dropped}

-- Whether every pair leads forward -----------------------------------------------------------------------------------------------------------

module _ (rows : List ℕ) (x r : ℕ) (lowest : NextInRow rows x 0 r) where
  pub row-forward : x < r → (y : ℕ) → Edges rows x y → x < y
  row-forward h y t = elim (dec_lt x y) [ yes l ↦ l | no l ↦ absurd (lowest.skips y (omega arith) (omega arith) t) ]

  pub row-backward : r ≤ x → x < RECORDS → Forward rows → ⊥
  row-backward h l all = elim lowest.there [ inl p ↦ omega (arith, all x r p.1) | inr e ↦ omega arith ]

-- A row takes over what the numbers have that it leads to -----------------------------------------------------------------------------------

pub record Extending (e : List ℕ) (x y : ℕ) (rest t : List ℕ) : Type 0 where
  pub long : length t ≡ length e
  pub words : Words e → Words t
  pub room : length rest ≡ WORDS
  pub kept : (i j : ℕ) → Edges e i j → So (bit t i j)
  pub only : (i j : ℕ) → So (bit t i j) → Edges e i j ⊎ SecondSteps e x i j
  pub waits : y < RECORDS → So (bit rest 0 y)
  pub led : (s : ℕ) → So (bit rest 0 s) → Edges e x s
  pub given : (s : ℕ) → Edges e x s → (So (bit rest 0 s) × (y ≤ s)) ⊎ Within e s t x

module _ (e : List ℕ) (words : Words e) (x : ℕ) (rest : List ℕ) (is : rest ≡ add_row_of e x (empty_of WORDS) 0) where
  row : Added (empty_of WORDS) (λ i j. (i ≡ 0) × Edges e x j) rest
  row = rw is (row-added e words x (empty_of WORDS) 0 (omega arith) (omega (arith, empty-long WORDS)))

  pub extend-none : (y : ℕ) → NextInRow rest 0 0 y → Extending e x y rest e
  extend-none y n = record {
    long = refl;
    words = λ w. w;
    room = row.long ∙ empty-long WORDS;
    kept = λ i j d. d;
    only = λ i j d. inl d;
    waits = next-in rest 0 0 y n;
    led = λ s b. elim ((row.pairs 0 s).0 b) [ inl z ↦ absurd (false≢true (sym (empty-bit WORDS 0 s) ∙ z)) | inr q ↦ q.1 ];
    given = λ s d. let b = (row.pairs 0 s).1 (inr (refl, d)) in inl (b, next-first rest 0 0 y n s (omega arith) b);
  }

module _ (e : List ℕ) (x y : ℕ) (rest t : List ℕ) (now : Extending e x y rest t) where
  module _ (forward : Forward e) (closed : ClosedPast e x) (hy : y < RECORDS) (u : List ℕ) (done : Added t (Row t x y) u) where
    -- x leads to y, so that y is past x and its row is as it was
    leads : Edges e x y
    leads = now.led y (now.waits hy)

    past : x < y
    past = forward x y leads

    row_before : (j : ℕ) → So (bit t y j) → Edges e y j
    row_before j h = elim (now.only y j h) [ inl r ↦ r | inr q ↦ absurd (omega (arith, q.0, past)) ]

    row-after : (j : ℕ) → So (bit u y j) → Edges e y j
    row-after j h = elim ((done.pairs y j).0 h) [ inl r ↦ row_before j r | inr q ↦ absurd (omega (arith, q.0, past)) ]

    has-row : Within e y u x
    has-row j d = (done.pairs x j).1 (inr (refl, now.kept y j d))

    module _ (left : List ℕ) (is : left ≡ drop_row_of u y rest 0) (z : ℕ) (n : NextInRow left 0 (y + 1) z) where
      drops : (a s : ℕ) → So (bit left a s) ↔ (Edges rest a s × ((a ≡ 0) × Edges u y s → ⊥))
      drops = rw is (row-dropped u y rest 0 (omega arith) (omega (arith, now.room)))

      -- a number that y leads to has nothing that y has not
      still : (s : ℕ) → So (bit rest 0 s) → y ≤ s → (So (bit left 0 s) × (z ≤ s)) ⊎ Within e s u x
      still s b h = elim (eq? s y) [
        | inl q ↦ inr (subst (λ (s : ℕ). Within e s u x) (sym q) has-row)
        | inr d ↦ elim (test (bit u y s)) [
          | inl g ↦ inr (λ j f. has-row j (closed y s j past (row-after s g) f))
          | inr g ↦ let l = (drops 0 s).1 (b, λ p. false≢true (sym g ∙ p.1)) in inl (l, next-first left 0 (y + 1) z n s (omega arith) l)
        ]
      ]

      pub extend-more : Extending e x z left u
      extend-more = record {
        long = done.long ∙ now.long;
        words = λ w. done.words (now.words w);
        room = ap length is ∙ drop-long u y rest 0 (omega arith) (omega (arith, now.room)) ∙ now.room;
        kept = λ i j d. (done.pairs i j).1 (inl (now.kept i j d));
        only = λ i j h. elim ((done.pairs i j).0 h) [ inl g ↦ now.only i j g | inr q ↦ inr (q.0, (y, leads, row_before j q.1)) ];
        waits = next-in left 0 (y + 1) z n;
        led = λ s b. now.led s ((drops 0 s).0 b).0;
        given = λ s d. elim (now.given s d) [ inl p ↦ still s p.0 p.1 | inr w ↦ inr (λ j f. (done.pairs x j).1 (inl (w j f))) ];
      }

  pub extended : RECORDS ≤ y → Added e (SecondSteps e x) t
  extended h = record {
    long = now.long;
    words = now.words;
    pairs = λ i j. (
      now.only i j,
      λ s. elim s [
        | inl r ↦ now.kept i j r
        | inr q ↦ elim (now.given q.1.0 q.1.1) [
          | inl p ↦ absurd (omega (arith, (bit-bounds rest 0 q.1.0 p.0).1, p.1))
          | inr w ↦ subst (λ (i : ℕ). So (bit t i j)) (sym q.0) (w j q.1.2)
        ]
      ],
    );
  }

-- From the last row to the first ------------------------------------------------------------------------------------------------------------

pub chain-begins : (e : List ℕ) (n : ℕ) → RowsBelow e n → (x y : ℕ) → Chain (Edges e) x y → x < n
chain-begins e n low x y (one d) = low x y d
chain-begins e n low x y (more {y = z} d c) = low x z d

pub chain-forward : (e : List ℕ) → Forward e → (x y : ℕ) → Chain (Edges e) x y → x < y
chain-forward e all x y (one d) = all x y d
chain-forward e all x y (more {y = z} d c) = omega (arith, all x z d, chain-forward e all z y c)

pub record ClosedFrom (e : List ℕ) (x : ℕ) (t : List ℕ) : Type 0 where
  pub long : length t ≡ length e
  pub words : Words e → Words t
  pub early : (i j : ℕ) → i < x → So (bit t i j) ↔ Edges e i j
  pub late : (i j : ℕ) → x ≤ i → So (bit t i j) ↔ Chain (Edges e) i j

pub from-none : (e : List ℕ) (n : ℕ) → RowsBelow e n → ClosedFrom e n e
from-none e n low = record {
  long = refl;
  words = λ w. w;
  early = λ i j h. (λ d. d, λ d. d);
  late = λ i j h. (one, λ c. absurd (omega (arith, chain-begins e n low i j c)));
}

module _ (e : List ℕ) (x : ℕ) (t : List ℕ) (now : ClosedFrom e x t) where
  from-chain : (i j : ℕ) → So (bit t i j) → Chain (Edges e) i j
  from-chain i j h = elim (dec_lt i x) [ yes l ↦ one ((now.early i j l).0 h) | no l ↦ (now.late i j (omega arith)).0 h ]

  pub from-forward : Forward e → Forward t
  from-forward all i j h = chain-forward e all i j (from-chain i j h)

  module _ (w : ℕ) (next : x ≡ w + 1) where
    pub from_past : ClosedPast t w
    from_past y z v l g h = (now.late y v (omega arith)).1 (chain-join ((now.late y z (omega arith)).0 g) (from-chain z v h))

    module _ (all : Forward e) (u : List ℕ) (done : Added t (SecondSteps t w) u) where
      -- row w: a chain is a pair, or a pair and a chain from a higher number
      first-forth : (j : ℕ) → So (bit u w j) → Chain (Edges e) w j
      first-forth j h = elim ((done.pairs w j).0 h) [
        | inl g ↦ from-chain w j g
        | inr q ↦ more ((now.early w q.1.0 (omega arith)).0 q.1.1) (from-chain q.1.0 j q.1.2)
      ]

      first_back : (j : ℕ) → Chain (Edges e) w j → So (bit u w j)
      first_back j (one d) = (done.pairs w j).1 (inl ((now.early w j (omega arith)).1 d))
      first_back j (more {y = y} d c) =
          let l = all w y d in
          (done.pairs w j).1 (inr (refl, (y, (now.early w y (omega arith)).1 d, (now.late y j (omega arith)).1 c)))

      -- every other row is as it was
      other : (i j : ℕ) → (i ≡ w → ⊥) → So (bit u i j) ↔ So (bit t i j)
      other i j d = (λ h. elim ((done.pairs i j).0 h) [ inl g ↦ g | inr q ↦ absurd (d q.0) ], λ g. (done.pairs i j).1 (inl g))

      pub from_more : ClosedFrom e w u
      from_more = record {
        long = done.long ∙ now.long;
        words = λ s. done.words (now.words s);
        early = λ i j h.
            let o = other i j (λ q. omega arith) in
            let p = now.early i j (omega arith) in
            (λ g. p.0 (o.0 g), λ d. o.1 (p.1 d));
        late = λ i j h. elim (eq? i w) [
          | inl q ↦ rw q (first-forth j, first_back j)
          | inr d ↦ let o = other i j d in
              let p = now.late i j (omega arith) in
              (λ g. p.0 (o.0 g), λ c. o.1 (p.1 c))
        ];
      }

pub from_all : (e : List ℕ) (x : ℕ) (t : List ℕ) → x ≡ 0 → ClosedFrom e x t → HoldsChains e t
from_all e x t z now = record { long = now.long; words = now.words; chains = λ i j. now.late i j (omega arith) }
