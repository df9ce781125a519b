-- Rows that rank no more than the rules make them.
--
--   grown-none, grown-then           == nothing; one thing after another
--   grown-weaker                     == what holds in more rankings holds in fewer
--   Behind led a set, behind-of      == the set has at most a and what is before it; so has the row of a with a in it
--   took, lead-row                   == a row that takes a set; one row more takes what is ahead of the heads
--   leads-all, own-only              == a number with what is before it, ahead of the heads; one head
--   settled-late, settled-early      == rule 7; rule 6
--   part-one, settle-one             == what a ranking owes to one load
--   put_some                         == one number more, where a test passed
--   both                             == what is left of a row when what is left of it is taken out
--   Follows O before led             == in rankings with O, led ranks no more than before
--   partly_none, partly-then, partly-row     == nothing; one thing after another; a row without what is placed
--   follows-part, follows-more       == at the first round; after one round more
--   unranked                         == rows with a circle have no ranking
--   falls_of, both-fall              == a side that closes a circle; a pair of which both sides do
--   refuted-circle, refuted-through  == what is drawn has no ranking, so what it follows has none
--   refuted-none                     == where there is no ranking, no valid order goes on
use mathlib.Core.Path.{◌≡◌, refl, sym, ap, ◌∙◌, subst}
use mathlib.Core.Logic.{◌⊎◌, inl, inr}
use mathlib.Core.Bool.{Bool, true, false, So, false≢true}
use mathlib.Core.List.{List, ◌++◌}
use mathlib.Core.Option.{none}
use Prim.Native.Nat.{ℕ, ◌+◌, ◌*◌, ◌<◌, ◌≤◌}
use native.Mathlib.Decide.{dec_lt}
use native.Mathlib.Omega.{arith}
use lib.ListN.{length, get_or}
use Rattle.laws.specs.Places.{pos, Before}
use Rattle.laws.specs.Relation.{Table}
use Rattle.laws.specs.Dict.{Answer}
use Rattle.laws.specs.Tests.{any}
use Rattle.laws.proofs.Tests.{off, eq?}
use Rattle.laws.proofs.Places.{pos-lt}
use Rattle.laws.proofs.Prefixes.{pos-in, pos-out}
use Rattle.trace.specs.Bounds.{RECORDS}
use Rattle.rules.specs.Frame.{Frame, Writer, Source}
use Rattle.rules.specs.Order.{Valid}
use Rattle.rows.specs.Bounds.{WORDS, CELLS}
use Rattle.rows.specs.Rows.{bit, Edges, Words}
use Rattle.rows.specs.Within.{Meets}
use Rattle.rows.specs.Empty.{empty_of}
use Rattle.rows.specs.inner.AddedPairs.{Added}
use Rattle.rows.specs.AddRow.{add_row_of}
use Rattle.rows.specs.DropRow.{drop_row_of}
use Rattle.rows.specs.Put.{put_of, put_if}
use Rattle.rows.proofs.Rows.{bit-bounds, self-iff}
use Rattle.rows.proofs.Closing.{row-added}
use Rattle.rows.proofs.Dropping.{drop-long, row-dropped}
use Rattle.rows.proofs.Whole.{empty-long, empty-bit, empty-words}
use Rattle.rows.proofs.Pair.{put_right, put-words}
use Rattle.rows.proofs.Sets.{put-more}
use Rattle.rules.specs.Rules.{nothing, rule6, rule7}
use Rattle.rules.proofs.Sound.{gives-sound}
use Rattle.rules.proofs.Orders.{apart}
use Rattle.pairs.proofs.SourceOf.{source-of-is}
use Rattle.search.specs.inner.SearchTables.{Tables, Laid}
use Rattle.rows.specs.inner.Sets.{Holds}
use Rattle.search.specs.inner.Refutation.{RankedRows, Below, Parted, Leads, Sixth, Settling, Ranking, Grown, Partly, Unranked, Falls, Refuted}
use Rattle.search.specs.inner.LeftOver.{LeftOver}
use Rattle.search.proofs.Rowing.{own_out}
use Rattle.search.proofs.Candidates.{lacks, in_rest}

pub grown-none : (O : (ℕ → ℕ) → Type 0) (a : List ℕ) → Grown O a a
grown-none O a = record { long = refl; ranks = λ pos o h. h }

pub grown-then : {O : (ℕ → ℕ) → Type 0} {a b c : List ℕ} → Grown O a b → Grown O b c → Grown O a c
grown-then p q = record { long = q.long ∙ p.long; ranks = λ pos o h. q.ranks pos o (p.ranks pos o h) }

pub grown-weaker : {O Q : (ℕ → ℕ) → Type 0} {a b : List ℕ} → ((pos : ℕ → ℕ) → Q pos → O pos) → Grown O a b → Grown Q a b
grown-weaker w p = record { long = p.long; ranks = λ pos q h. p.ranks pos (w pos q) h }

abbrev pub Behind : List ℕ → ℕ → List ℕ → Type 0
Behind led a ahead = (j : ℕ) → So (bit ahead 0 j) → (j ≡ a) ⊎ So (bit led a j)

pub behind-of : (led : List ℕ) → Words led → (a : ℕ) (one two : List ℕ) → one ≡ add_row_of led a (empty_of WORDS) 0 → two ≡ put_of one 0 a → Words two × Behind led a two
behind-of led words a one two e d = (subst Words (sym d) (put-words one 0 a (subst Words (sym e) (added.words (empty-words WORDS)))), has)
  where
    added : Added (empty_of WORDS) (λ i j. (i ≡ 0) × Edges led a j) (add_row_of led a (empty_of WORDS) 0)
    added = row-added led words a (empty_of WORDS) 0 (omega arith) (omega (arith, empty-long WORDS))

    long : length one ≡ WORDS
    long = ap length e ∙ added.long ∙ empty-long WORDS

    row : (j : ℕ) → So (bit one 0 j) → So (bit led a j)
    row j u = elim ((added.pairs 0 j).0 (subst (λ (r : List ℕ). So (bit r 0 j)) e u)) [ inl v ↦ absurd (false≢true (sym (empty-bit WORDS 0 j) ∙ v)) | inr (q, v) ↦ v ]

    has : Behind led a two
    has j t = elim (dec_lt a RECORDS) [
      | yes h ↦ elim (((put-more one a long h).has j).0 (subst (λ (r : List ℕ). So (bit r 0 j)) d t)) [ inl u ↦ inr (row j u) | inr u ↦ inl u ]
      | no h ↦ inr (row j (subst (λ (r : List ℕ). So (bit r 0 j)) (d ∙ put_right one 0 a (omega arith)) t))
    ]

pub took : (ahead : List ℕ) → Words ahead → (y : ℕ) → y < RECORDS → (led next : List ℕ) → length led ≡ CELLS → next ≡ add_row_of ahead 0 led y → Grown (Below ahead y) led next
took ahead words y hy led next l e =
    let added = row-added ahead words 0 led y hy (omega (arith, hy, l)) in
    record {
      long = ap length e ∙ added.long;
      ranks = λ pos o q i j t. elim ((added.pairs j i).0 (subst (λ (r : List ℕ). So (bit r j i)) e t)) [
        | inl u ↦ q i j u
        | inr (s, v) ↦ subst (λ (k : ℕ). pos i < pos k) (sym s) (o i v)
      ];
    }

-- one row more takes what is ahead of the heads
pub lead-row : (ahead heads start led next : List ℕ) → Grown (Parted ahead heads) start led → (y : ℕ) → So (bit heads 0 y) ⊎ Meets led y heads 0 → Grown (Below ahead y) led next → Grown (Parted ahead heads) start next
lead-row ahead heads start led next now y up took = record {
  long = took.long ∙ now.long;
  ranks = λ pos o r.
      let q = now.ranks pos o r in
      took.ranks pos (λ x t. elim up [ inl u ↦ o y u x t | inr (z, b, u) ↦ omega (arith, o z u x t, q z y b) ]) q;
}

-- what is before x comes with it
pub leads-all : (x : ℕ) (ahead heads led next : List ℕ) → Behind led x ahead → Grown (Parted ahead heads) led next → Grown (Leads x heads) led next
leads-all x ahead heads led next few g = record {
  long = g.long;
  ranks = λ pos o r. g.ranks pos (λ y u z t. elim (few z t) [ inl e ↦ rw e (o y u) | inr b ↦ omega (arith, r z x b, o y u) ]) r;
}

-- the set of one number has no other
pub own-only : (S : ℕ) → S < RECORDS → (own : List ℕ) → own ≡ put_of (empty_of WORDS) 0 S → (pos : ℕ → ℕ) (z : ℕ) → pos z < pos S → Leads z own pos
own-only S h own e pos z l y t = subst (λ (k : ℕ). pos z < pos k) (sym ((own_out S h own e y).0 t)) l

-- rule 7 by the rows that come after the source, then rule 6 by those before the load
module _ (set : List ℕ) (S L : ℕ) (a b : List ℕ) where
  pub settled-late : (heads : List ℕ) → ((z : ℕ) → So (bit heads 0 z) → So (bit set 0 z) × So (bit a z S)) → Grown (Leads L heads) a b → Grown (Settling set S L) a b
  settled-late heads some g = record {
    long = g.long;
    ranks = λ pos o r. g.ranks pos (λ z t. elim (eq? z S) [
      | inl e ↦ absurd (omega (arith, r S z (some z t).1, ap pos e))
      | inr d ↦ (o z (some z t).0 d).1 (r S z (some z t).1)
    ]) r;
  }

  pub settled-early : (ahead : List ℕ) → ((z : ℕ) → So (bit ahead 0 z) → So (bit set 0 z) × So (bit a L z)) → Grown (Sixth ahead S) a b → Grown (Settling set S L) a b
  settled-early ahead some g = record {
    long = g.long;
    ranks = λ pos o r. g.ranks pos (λ z t d. (o z (some z t).0 d).0 (r z L (some z t).1)) r;
  }

-- what the rules ask of a ranking for one load, with what is not placed of the writers of its address
module _ (n : ℕ) (writers sources placed set : List ℕ) (L : ℕ) (l : L < n) where
  pub part-one : So (bit placed 0 (get_or sources L 0)) → LeftOver writers L placed 0 set → (pos : ℕ → ℕ) → Ranking n writers sources placed pos → Leads L set pos
  part-one due r pos o z t =
      let h = (r.has z).0 t in
      let b = o L l (bit-bounds placed 0 (get_or sources L 0) due).1 z h.0 (λ e. h.1 (subst (λ (k : ℕ). So (bit placed 0 k)) (sym e) due)) in
      b.seventh (b.split due (off h.1))

  pub settle-one : get_or sources L 0 < RECORDS → LeftOver writers L placed 0 set → (pos : ℕ → ℕ) → Ranking n writers sources placed pos → Settling set (get_or sources L 0) L pos
  settle-one s r pos o z t d = let b = o L l s z ((r.has z).0 t).0 d in (b.sixth, b.seventh)

-- one number more is put where a test passed
pub put_some : {P : ℕ → Type 0} (set next : List ℕ) (b : Bool) (z : ℕ) → length set ≡ WORDS → z < RECORDS → next ≡ put_if set b 0 z → (So b → P z) → ((x : ℕ) → So (bit set 0 x) → P x) → (length next ≡ WORDS) × ((x : ℕ) → So (bit next 0 x) → P x)
unfolding put_if
put_some set next true z l h e p q =
    let more = put-more set z l h in
    rw e (more.long, λ x t. elim ((more.has x).0 t) [ inl u ↦ q x u | inr d ↦ rw d (p refl) ])
put_some set next false z l h e p q = rw e (l, q)

-- what a row has that another has not lost: both have it
pub both : {from out r s : List ℕ} {x y : ℕ} → LeftOver from x out y r → LeftOver from x r 0 s → (z : ℕ) → So (bit s 0 z) → So (bit from x z) × So (bit out y z)
both p q z t = let h = (q.has z).0 t in (h.0, in_rest p z h.0 h.1)

pub partly_none : (before a : List ℕ) → Partly before a a
partly_none before a = record { long = refl; pairs = λ x y t. inl t }

pub partly-then : (before : List ℕ) {a b c : List ℕ} → Partly before a b → Partly before b c → Partly before a c
partly-then before p q = record { long = q.long ∙ p.long; pairs = λ x y t. elim (q.pairs x y t) [ inl u ↦ p.pairs x y u | inr u ↦ inr u ] }

pub partly-row : (before placed : List ℕ) → Words before → (y : ℕ) → y < RECORDS → (a b c : List ℕ) → length a ≡ CELLS → b ≡ add_row_of before y a y → c ≡ drop_row_of placed 0 b y → Partly before a c
partly-row before placed words y hy a b c l e d = record {
  long = ap length d ∙ drop-long placed 0 b y hy room ∙ long;
  pairs = λ i j t.
      let u : So (bit b i j) = ((row-dropped placed 0 b y hy room i j).0 (subst (λ (r : List ℕ). So (bit r i j)) d t)).0 in
      elim ((added.pairs i j).0 (subst (λ (r : List ℕ). So (bit r i j)) e u)) [ inl v ↦ inl v | inr (q, v) ↦ inr (subst (λ (n : ℕ). So (bit before n j)) (sym q) v) ];
}
  where
    added : Added a (λ i j. (i ≡ y) × Edges before y j) (add_row_of before y a y)
    added = row-added before words y a y hy (omega (arith, hy, l))

    long : length b ≡ length a
    long = ap length e ∙ added.long

    room : y * WORDS + WORDS ≤ length b
    room = omega (arith, long, hy, l)

-- The rounds: rows that rank no more than a guide makes them
pub record Follows (O : (ℕ → ℕ) → Type 0) (before led : List ℕ) : Type 0 where
  pub long : length led ≡ CELLS
  pub ranks : (pos : ℕ → ℕ) → O pos → RankedRows before pos → RankedRows led pos

module _ (O : (ℕ → ℕ) → Type 0) (before : List ℕ) where
  pub follows-part : (led : List ℕ) → Partly before (empty_of CELLS) led → Follows O before led
  follows-part led p = record {
    long = p.long ∙ empty-long CELLS;
    ranks = λ pos o r x y t. elim (p.pairs y x t) [ inl e ↦ absurd (false≢true (sym (empty-bit CELLS y x) ∙ e)) | inr b ↦ r x y b ];
  }

  pub follows-more : {a b : List ℕ} → Follows O before a → Grown O a b → Follows O before b
  follows-more p q = record { long = q.long ∙ p.long; ranks = λ pos o r. q.ranks pos o (p.ranks pos o r) }

-- a number cannot be ranked below itself
pub unranked : (led : List ℕ) → So (any RECORDS (λ x. bit led x x)) → Unranked led
unranked led t pos r = let (x, e) = (self-iff led).0 t in omega (arith, r x x e)

module _ (n : ℕ) (writers sources placed : List ℕ) where
  abbrev O : (ℕ → ℕ) → Type 0
  O = Ranking n writers sources placed

  pub falls_of : (x y : ℕ) → y < RECORDS → (led own a b : List ℕ) → own ≡ put_of (empty_of WORDS) 0 y → Grown (Leads x own) led a → Grown O a b → Unranked b → Falls n led writers sources placed x y
  falls_of x y h led own a b e p q u pos o r l = u pos (q.ranks pos o (p.ranks pos (own-only y h own e pos x l) r))

  -- of two that are not ranked alike one is below the other
  pub both-fall : (x y : ℕ) → x < n → So (bit writers x y) → (led : List ℕ) → Falls n led writers sources placed x y → Falls n led writers sources placed y x → Refuted n led writers sources placed
  both-fall x y h w led p q pos a o r = elim (dec_lt (pos x) (pos y)) [
    | yes l ↦ p pos o r l
    | no l ↦ elim (dec_lt (pos y) (pos x)) [ yes k ↦ q pos o r k | no k ↦ a y x h w (omega (arith, l, k)) ]
  ]

  pub refuted-circle : (before led : List ℕ) → Follows O before led → Unranked led → Refuted n before writers sources placed
  refuted-circle before led p u pos a o r = u pos (p.ranks pos o r)

  pub refuted-through : (before led : List ℕ) → Follows O before led → Refuted n led writers sources placed → Refuted n before writers sources placed
  refuted-through before led p u pos a o r = u pos a o (p.ranks pos o r)

module _ (f : Frame) (K : Table) (T : Tables) (laid : Laid f K T) (placed p : List ℕ) (h : Holds placed p) where
  pub refuted-none : Refuted T.n T.before T.writers T.sources placed → Answer (Valid f K) p none
  refuted-none r s v = r (pos (p ++ s)) (λ x y l w. let d = (laid.writer x y l).0 w in apart f (p ++ s) v.all x y (laid.good.writes x d.writes) d.other) ranking (λ x y t. laid.guide.sound (p ++ s) v x y t)
    where
      ranking : Ranking T.n T.writers T.sources placed (pos (p ++ s))
      ranking L l q z w d =
          let S = get_or T.sources L 0 in
          let e = laid.source L l in
          let source : Source f S L = rw e (source-of-is f L (omega arith)) in
          let writer : Writer f z L = (laid.writer z L l).0 w in
          record {
            split = λ a b. omega (arith, pos-in S p s ((h S).0 a), pos-out z p s ((lacks placed p h z).0 b), pos-lt p S ((h S).0 a));
            sixth = λ b. gives-sound f laid.good K (p ++ s) v nothing (λ x y t. absurd (false≢true t)) (Before (p ++ s)) (λ x y c. c) (rule6 L source writer d b);
            seventh = λ b. gives-sound f laid.good K (p ++ s) v nothing (λ x y t. absurd (false≢true t)) (Before (p ++ s)) (λ x y c. c) (rule7 S source writer d b);
          }
