-- Two tables that stay closed under chains, one of them the other turned round.
--
--   twin-turn                        == each is the other's twin
--   own_row                          == a number with what its row has
--   spread_none, spread-more         == a row that is added to many rows: to none yet; to one more
--   spans-of                         == what a pair joins, by two such loops
--   joins-old, joins-then, joins-as  == pairs that were there; first some and then others; the same pairs, said otherwise
--   joins-turn                       == said of the tables exchanged
--   joins-span                       == one pair, with all that it joins
--   row-none, row_more, row-all      == the pairs of a row: none yet; one more; all
--   rows_none, rows_more, rows_all   == the pairs of a table: of no row yet; of one more; of all
--   Forwards e x b c                 == c has the pairs of the rows below x that lead forward, and b the numbers below x
--   forward-none, forward-more, forward-all == of no row yet; of one more; of all
--   closed_of                        == the chains of what leads forward, turned round, and then all pairs taken in: what is there are the chains
use mathlib.Core.Path.{◌≡◌, refl, sym, ap, ◌∙◌, subst}
use mathlib.Core.Logic.{◌↔◌, ◌⊎◌, inl, inr}
use mathlib.Core.Bool.{Bool, So, false≢true}
use mathlib.Core.List.{List}
use Prim.Native.Nat.{ℕ, ◌+◌, ◌<◌, ◌≤◌}
use native.Mathlib.Decide.{dec_lt}
use native.Mathlib.Omega.{arith}
use lib.ListN.{length}
use Rattle.laws.specs.Tests.{any}
use Rattle.laws.specs.Relation.{Rel, ◌⊆◌, Transitive, Chain, one, more}
use Rattle.laws.specs.inner.Joined.{Joined, Turned}
use Rattle.laws.proofs.Tests.{test, eq?}
use Rattle.laws.proofs.Relation.{chain-mono, chain-join, chain-least}
use Rattle.laws.proofs.Joined.{joined-join, joined-chain}
use Rattle.trace.specs.Bounds.{RECORDS}
use Rattle.rows.specs.Bounds.{WORDS, CELLS}
use Rattle.rows.specs.Rows.{bit, Edges, Words}
use Rattle.rows.specs.Empty.{empty_of}
use Rattle.rows.specs.Put.{put_of}
use Rattle.rows.specs.AddRow.{add_row_of}
use Rattle.rows.specs.Rest.{rest_of}
use Rattle.rows.specs.Chained.{Chained}
use Rattle.rows.specs.TurnedRound.{TurnedRound}
use Rattle.rows.specs.inner.AddedPairs.{Added}
use Rattle.rows.specs.inner.Sets.{More}
use Rattle.rows.proofs.Rows.{bit-bounds}
use Rattle.rows.proofs.Whole.{empty-bit, empty-long, empty-words}
use Rattle.rows.proofs.Pair.{put-words}
use Rattle.rows.proofs.Closing.{row-added}
use Rattle.rows.proofs.Sets.{put-more}
use Rattle.rows.proofs.Resting.{rest_has, rest-words}
use Rattle.edges.specs.inner.RoundStep.{Closed}
use Rattle.edges.specs.inner.ClosedTables.{Twin, WithPairs, OnePair, FromTo, Spread, Spans, Inside, TakenIn, ForwardPart}
use Rattle.edges.proofs.PairSets.{adds_none, adds-as, adds_then}

pub twin-turn : {e p : List ℕ} → Twin e p → Twin p e
unfolding Transitive
twin-turn t = record {
  joins = λ x y z a b. (t.turned z x).1 (t.joins z y x ((t.turned z y).0 b) ((t.turned y x).0 a));
  turned = λ x y. (λ b. (t.turned y x).1 b, λ b. (t.turned y x).0 b);
}

chain-turn : {E : Rel} → (x y : ℕ) → Chain E x y → Chain (Turned E) y x
chain-turn x y (one e) = one e
chain-turn x y (more {y = z} e c) = chain-join (chain-turn z y c) (one e)

chains-join : (E : Rel) → Transitive (Chain E)
unfolding Transitive
chains-join E x y z c d = chain-join c d

-- the row is made of the empty one
pub own_row : (e : List ℕ) → Words e → (b : ℕ) → b < RECORDS → (r s : List ℕ) → r ≡ add_row_of e b (empty_of WORDS) 0 → s ≡ put_of r 0 b → FromTo e b s
own_row e words b h r s p q = record { words = rw (q, p) (put-words (add_row_of e b (empty_of WORDS) 0) 0 b (given.words (empty-words WORDS))); has = λ y. (there y, back y) }
  where
    given : Added (empty_of WORDS) (λ i j. (i ≡ 0) × Edges e b j) (add_row_of e b (empty_of WORDS) 0)
    given = let g = row-added e words b (empty_of WORDS) 0 (omega arith) (omega (arith, empty-long WORDS)) in record { long = g.long; words = g.words; pairs = g.pairs }

    grown : More r b (put_of r 0 b)
    grown = put-more r b (ap length p ∙ given.long ∙ empty-long WORDS) h

    there : (y : ℕ) → So (bit s 0 y) → (y ≡ b) ⊎ Edges e b y
    there y t = elim ((grown.has y).0 (subst (λ (l : List ℕ). So (bit l 0 y)) q t)) [
      | inl u ↦ elim ((given.pairs 0 y).0 (subst (λ (l : List ℕ). So (bit l 0 y)) p u)) [ inl v ↦ absurd (false≢true (sym (empty-bit WORDS 0 y) ∙ v)) | inr v ↦ inr v.1 ]
      | inr u ↦ inl u
    ]

    back : (y : ℕ) → (y ≡ b) ⊎ Edges e b y → So (bit s 0 y)
    back y u = subst (λ (l : List ℕ). So (bit l 0 y)) (sym q) ((grown.has y).1 (elim u [
      | inl v ↦ inr v
      | inr v ↦ inl (subst (λ (l : List ℕ). So (bit l 0 y)) (sym p) ((given.pairs 0 y).1 (inr (refl, v))))
    ]))

-- one row is added to all rows that h has, from the lowest on
module _ (h r : List ℕ) where
  pub spread_none : (e : List ℕ) (x : ℕ) → ((z : ℕ) → z < x → So (bit h 0 z) → ⊥) → Added e (λ i j. (i < x) × Spread h r i j) e
  spread_none e x skips = adds_none e _ (λ i j u. skips i u.0 u.1.0)

  pub spread-more : {e t : List ℕ} (u : List ℕ) (x x' : ℕ) → Words r → length t ≡ CELLS → x < RECORDS → So (bit h 0 x) → x < x' → ((z : ℕ) → x + 1 ≤ z → z < x' → So (bit h 0 z) → ⊥) → Added e (λ i j. (i < x) × Spread h r i j) t → u ≡ add_row_of r 0 t x
      → Added e (λ i j. (i < x') × Spread h r i j) u
  spread-more {e} {t} u x x' words l hx has on skips p q =
      let g = row-added r words 0 t x hx (omega arith) in
      rw q (adds_then (λ i j. (i < x') × Spread h r i j) p record { long = g.long; words = g.words; pairs = g.pairs } (λ i j. (
        λ v. elim v [ inl w ↦ (omega (arith, w.0), w.1) | inr w ↦ (omega (arith, w.0), (subst (λ (m : ℕ). So (bit h 0 m)) (sym w.0) has, w.1)) ],
        λ v. elim (eq? i x) [
          | inl w ↦ inr (w, v.1.1)
          | inr w ↦ inl (below i v.0 w v.1.0, v.1)
        ],
      )))
    where
      below : (i : ℕ) → i < x' → (i ≡ x → ⊥) → So (bit h 0 i) → i < x
      below i a b c = elim (dec_lt i x) [ yes d ↦ d | no d ↦ absurd (skips i (omega arith) a c) ]

pub spans-of : (e p : List ℕ) (a b : ℕ) (after ahead : List ℕ) (early late e' p' : List ℕ) → FromTo e b after → FromTo p a ahead → early ≡ rest_of ahead 0 p b → late ≡ rest_of after 0 e a → Added e (Spread early after) e' → Added p (Spread late ahead) p' → Spans e p a b e' p'
spans-of e p a b after ahead early late e' p' ha hp qe ql de dp = record {
  edges = adds-as _ de (λ i j. (
    λ u. let v = (rest_has ahead hp.words 0 p b i).0 (subst (λ (l : List ℕ). So (bit l 0 i)) qe u.0) in ((hp.has i).0 v.0, v.1, (ha.has j).0 u.1),
    λ u. (subst (λ (l : List ℕ). So (bit l 0 i)) (sym qe) ((rest_has ahead hp.words 0 p b i).1 ((hp.has i).1 u.0, u.1)), (ha.has j).1 u.2),
  ));
  turned = adds-as _ dp (λ j i. (
    λ u. let v = (rest_has after ha.words 0 e a j).0 (subst (λ (l : List ℕ). So (bit l 0 j)) ql u.0) in ((ha.has j).0 v.0, v.1, (hp.has i).0 u.1),
    λ u. (subst (λ (l : List ℕ). So (bit l 0 j)) (sym ql) ((rest_has after ha.words 0 e a j).1 ((ha.has j).1 u.0, u.1)), (hp.has i).1 u.2),
  ));
}

pub joins-old : (e p : List ℕ) (R : Rel) → R ⊆ Edges e → TakenIn e p R e p
joins-old e p R h = record {
  long = refl;
  turned-long = refl;
  words = λ w. w;
  turned-words = λ w. w;
  keeps = λ x y b. b;
  turned-keeps = λ x y b. b;
  twin = λ t. t;
  has = λ t. h;
  within = λ t x y b. one (inl b);
}

pub joins-then : {a p b q c s : List ℕ} {R Q : Rel} (T : Rel) → TakenIn a p R b q → TakenIn b q Q c s → ((x y : ℕ) → (R x y ⊎ Q x y) ↔ T x y) → TakenIn a p T c s
joins-then {a} T j k same = record {
  long = k.long ∙ j.long;
  turned-long = k.turned-long ∙ j.turned-long;
  words = λ w. k.words (j.words w);
  turned-words = λ w. k.turned-words (j.turned-words w);
  keeps = λ x y b. k.keeps x y (j.keeps x y b);
  turned-keeps = λ x y b. k.turned-keeps x y (j.turned-keeps x y b);
  twin = λ t. k.twin (j.twin t);
  has = λ t x y r. elim ((same x y).1 r) [ inl u ↦ k.keeps x y (j.has t x y u) | inr u ↦ k.has (j.twin t) x y u ];
  within = λ t x y u. chain-least (chains-join (WithPairs a T)) (λ x y v. elim v [
    | inl w ↦ chain-mono (λ x y z. elim z [ inl d ↦ inl d | inr d ↦ inr ((same x y).0 (inl d)) ]) x y (j.within t x y w)
    | inr w ↦ one (inr ((same x y).0 (inr w)))
  ]) x y (k.within (j.twin t) x y u);
}

pub joins-as : {a p b q : List ℕ} {R : Rel} (T : Rel) → ((x y : ℕ) → R x y ↔ T x y) → TakenIn a p R b q → TakenIn a p T b q
joins-as {b = b} {q = q} T same j = joins-then T j (joins-old b q (λ x y. ⊥) (λ x y u. absurd u)) (λ x y. (λ u. elim u [ inl v ↦ (same x y).0 v | inr v ↦ absurd v ], λ u. inl ((same x y).1 u)))

-- a pair of the one table is a pair of the other, turned round
pub joins-turn : {e p e' p' : List ℕ} {R : Rel} → TakenIn p e R p' e' → TakenIn e p (Turned R) e' p'
joins-turn {e} {p} {R = R} j = record {
  long = j.turned-long;
  turned-long = j.long;
  words = j.turned-words;
  turned-words = j.words;
  keeps = j.turned-keeps;
  turned-keeps = j.keeps;
  twin = λ t. twin-turn (j.twin (twin-turn t));
  has = λ t x y r. ((j.twin (twin-turn t)).turned y x).1 (j.has (twin-turn t) y x r);
  within = λ t x y b. chain-mono (λ x y u. elim u [ inl v ↦ inl ((t.turned x y).0 v) | inr v ↦ inr v ]) x y (chain-turn y x (j.within (twin-turn t) y x (((j.twin (twin-turn t)).turned y x).0 b)));
}

module _ (e p : List ℕ) (a b : ℕ) (e' p' : List ℕ) (s : Spans e p a b e' p') where
  module _ (t : Twin e p) where
    is : (x y : ℕ) → So (bit e' x y) ↔ Joined (Edges e) a b x y
    unfolding Transitive
    is x y = (there, back)
      where
        there : So (bit e' x y) → Joined (Edges e) a b x y
        there u = elim ((s.edges.pairs x y).0 u) [ inl v ↦ inl v | inr v ↦ inr (elim v.0 [ inl q ↦ inl q | inr q ↦ inr ((t.turned x a).0 q) ], v.2) ]

        back : Joined (Edges e) a b x y → So (bit e' x y)
        back (inl v) = (s.edges.pairs x y).1 (inl v)
        back (inr v) = elim (test (bit p b x)) [
          | inl w ↦ (s.edges.pairs x y).1 (inl (elim v.1 [ inl q ↦ subst (λ (m : ℕ). Edges e x m) (sym q) ((t.turned x b).0 w) | inr q ↦ t.joins x b y ((t.turned x b).0 w) q ]))
          | inr w ↦ (s.edges.pairs x y).1 (inr (elim v.0 [ inl q ↦ inl q | inr q ↦ inr ((t.turned x a).1 q) ], λ z. false≢true (sym w ∙ z), v.1))
        ]

    turned-is : (x y : ℕ) → So (bit p' y x) ↔ Joined (Edges e) a b x y
    unfolding Transitive
    turned-is x y = (there, back)
      where
        there : So (bit p' y x) → Joined (Edges e) a b x y
        there u = elim ((s.turned.pairs y x).0 u) [ inl v ↦ inl ((t.turned x y).0 v) | inr v ↦ inr (elim v.2 [ inl q ↦ inl q | inr q ↦ inr ((t.turned x a).0 q) ], v.0) ]

        back : Joined (Edges e) a b x y → So (bit p' y x)
        back (inl v) = (s.turned.pairs y x).1 (inl ((t.turned x y).1 v))
        back (inr v) = elim (test (bit e a y)) [
          | inl w ↦ (s.turned.pairs y x).1 (inl ((t.turned x y).1 (elim v.0 [ inl q ↦ subst (λ (m : ℕ). Edges e m y) (sym q) w | inr q ↦ t.joins x a y q w ])))
          | inr w ↦ (s.turned.pairs y x).1 (inr (v.1, λ z. false≢true (sym w ∙ z), elim v.0 [ inl q ↦ inl q | inr q ↦ inr ((t.turned x a).1 q) ]))
        ]

    joined : Twin e' p'
    unfolding Transitive
    joined = record {
      joins = λ x y z c d. (is x z).1 (joined-join (Edges e) a b t.joins x y z ((is x y).0 c) ((is y z).0 d));
      turned = λ x y. (λ u. (is x y).1 ((turned-is x y).0 u), λ u. (turned-is x y).1 ((is x y).0 u));
    }

  pub joins-span : TakenIn e p (OnePair a b) e' p'
  joins-span = record {
    long = s.edges.long;
    turned-long = s.turned.long;
    words = s.edges.words;
    turned-words = s.turned.words;
    keeps = λ x y u. (s.edges.pairs x y).1 (inl u);
    turned-keeps = λ x y u. (s.turned.pairs x y).1 (inl u);
    twin = joined;
    has = λ t x y u. (is t x y).1 (inr (inl u.0, inl u.1));
    within = λ t x y u. (joined-chain (Edges e) a b t.joins x y).0 ((is t x y).0 u);
  }

-- the pairs of a with what a row has, from the lowest on
module _ (a : ℕ) (r : List ℕ) where
  abbrev pub UpTo : ℕ → Rel
  UpTo b i j = (i ≡ a) × (j < b) × So (bit r 0 j)

  pub row-none : (e p : List ℕ) (b : ℕ) → ((z : ℕ) → z < b → So (bit r 0 z) → ⊥) → TakenIn e p (UpTo b) e p
  row-none e p b skips = joins-old e p (UpTo b) (λ i j u. absurd (skips j u.1 u.2))

  pub row_more : {e p t s u v : List ℕ} (b b' : ℕ) → So (bit r 0 b) → b < b' → ((z : ℕ) → b + 1 ≤ z → z < b' → So (bit r 0 z) → ⊥) → TakenIn e p (UpTo b) t s → TakenIn t s (OnePair a b) u v → TakenIn e p (UpTo b') u v
  row_more b b' has on skips j k = joins-then (UpTo b') j k (λ x y. (there x y, back x y))
    where
      there : (x y : ℕ) → UpTo b x y ⊎ OnePair a b x y → UpTo b' x y
      there x y (inl u) = (u.0, omega (arith, u.1), u.2)
      there x y (inr u) = (u.0, omega (arith, u.1), subst (λ (m : ℕ). So (bit r 0 m)) (sym u.1) has)

      back : (x y : ℕ) → UpTo b' x y → UpTo b x y ⊎ OnePair a b x y
      back x y u = elim (eq? y b) [
        | inl q ↦ inr (u.0, q)
        | inr d ↦ elim (dec_lt y b) [ yes l ↦ inl (u.0, l, u.2) | no l ↦ absurd (skips y (omega arith) u.1 u.2) ]
      ]

  pub row-all : {e p t s : List ℕ} (b : ℕ) → RECORDS ≤ b → TakenIn e p (UpTo b) t s → TakenIn e p (λ i j. (i ≡ a) × So (bit r 0 j)) t s
  row-all b l j = joins-as (λ i j. (i ≡ a) × So (bit r 0 j)) (λ x y. (λ u. (u.0, u.2), λ u. (u.0, omega (arith, l, (bit-bounds r 0 y u.1).1), u.1))) j

-- the pairs of a table, row by row
module _ (c : List ℕ) (words : Words c) where
  abbrev pub RowsTo : ℕ → Rel
  RowsTo x i j = (i < x) × Edges c i j

  pub rows_none : (e p : List ℕ) → TakenIn e p (RowsTo 0) e p
  rows_none e p = joins-old e p (RowsTo 0) (λ i j u. absurd (omega (arith, u.0)))

  -- what is left of the row is taken in; the others are there
  rest-row : {t s u v : List ℕ} (x : ℕ) (r : List ℕ) → r ≡ rest_of c x t x → TakenIn t s (λ i j. (i ≡ x) × So (bit r 0 j)) u v → TakenIn t s (λ i j. (i ≡ x) × Edges c x j) u v
  rest-row {t} {s} {u} {v} x r q k = record {
    long = k.long;
    turned-long = k.turned-long;
    words = k.words;
    turned-words = k.turned-words;
    keeps = k.keeps;
    turned-keeps = k.turned-keeps;
    twin = k.twin;
    has = λ w i j d. elim (test (bit t x j)) [
      | inl y ↦ k.keeps i j (subst (λ (m : ℕ). Edges t m j) (sym d.0) y)
      | inr n ↦ k.has w i j (d.0, subst (λ (l : List ℕ). So (bit l 0 j)) (sym q) ((rest_has c words x t x j).1 (d.1, λ y. false≢true (sym n ∙ y))))
    ];
    within = λ w i j d. chain-mono (λ i j z. elim z [ inl y ↦ inl y | inr y ↦ inr (y.0, ((rest_has c words x t x j).0 (subst (λ (l : List ℕ). So (bit l 0 j)) q y.1)).0) ]) i j (k.within w i j d);
  }

  pub rows_more : {e p t s u v : List ℕ} (x : ℕ) (r : List ℕ) → r ≡ rest_of c x t x → TakenIn e p (RowsTo x) t s → TakenIn t s (λ i j. (i ≡ x) × So (bit r 0 j)) u v → TakenIn e p (RowsTo (x + 1)) u v
  rows_more x r q j k = joins-then (RowsTo (x + 1)) j (rest-row x r q k) (λ a b. (there a b, back a b))
    where
      there : (a b : ℕ) → RowsTo x a b ⊎ ((a ≡ x) × Edges c x b) → RowsTo (x + 1) a b
      there a b (inl d) = (omega (arith, d.0), d.1)
      there a b (inr d) = (omega (arith, d.0), subst (λ (m : ℕ). Edges c m b) (sym d.0) d.1)

      back : (a b : ℕ) → RowsTo (x + 1) a b → RowsTo x a b ⊎ ((a ≡ x) × Edges c x b)
      back a b d = elim (eq? a x) [ inl z ↦ inr (z, subst (λ (m : ℕ). Edges c m b) z d.1) | inr n ↦ inl (omega (arith, d.0), d.1) ]

  pub rows_all : {e p t s : List ℕ} (n x : ℕ) → Inside n c → n ≤ x → TakenIn e p (RowsTo x) t s → TakenIn e p (Edges c) t s
  rows_all n x inside l j = joins-as (Edges c) (λ a b. (λ u. u.1, λ u. (omega (arith, l, (inside a b u).0), u))) j

-- the pairs that lead forward, row by row; `below` has the numbers that a row must not have
module _ (e : List ℕ) (words : Words e) where
  pub record Forwards (x : ℕ) (below c : List ℕ) : Type 0 where
    pub long : length below ≡ WORDS
    pub whole : Words below
    pub has : (z : ℕ) → So (bit below 0 z) ↔ (z < x)
    pub rows : Added (empty_of CELLS) (λ i j. (i < x) × Edges e i j × (i < j)) c

  pub forward-none : (below c : List ℕ) → below ≡ empty_of WORDS → c ≡ empty_of CELLS → Forwards 0 below c
  forward-none below c b q = record {
    long = ap length b ∙ empty-long WORDS;
    whole = rw b (empty-words WORDS);
    has = λ z. (λ u. absurd (false≢true (sym (ap (λ r. bit r 0 z) b ∙ empty-bit WORDS 0 z) ∙ u)), λ u. absurd (omega arith));
    rows = rw q (adds_none (empty_of CELLS) _ (λ i j u. omega (arith, u.0)));
  }

  pub forward-more : (x : ℕ) (below c below' row c' : List ℕ) → x < RECORDS → Forwards x below c → below' ≡ put_of below 0 x → row ≡ rest_of e x below' 0 → c' ≡ add_row_of row 0 c x → Forwards (x + 1) below' c'
  forward-more x below c below' row c' h now b r q = record {
    long = ap length b ∙ grown.long;
    whole = whole';
    has = upto;
    rows = rw q (adds_then _ now.rows given (λ i j. (there i j, back i j)));
  }
    where
      grown : More below x (put_of below 0 x)
      grown = put-more below x now.long h

      whole' : Words below'
      whole' = rw b (put-words below 0 x now.whole)

      w : Words row
      w = rw r (rest-words e words x below' 0 whole')

      upto : (z : ℕ) → So (bit below' 0 z) ↔ (z < x + 1)
      upto z = rw b (
        λ u. elim ((grown.has z).0 u) [ inl v ↦ omega (arith, (now.has z).0 v) | inr v ↦ omega (arith, v) ],
        λ u. (grown.has z).1 (elim (eq? z x) [ inl v ↦ inr v | inr v ↦ inl ((now.has z).1 (omega arith)) ]),
      )

      given : Added c (λ i j. (i ≡ x) × Edges row 0 j) (add_row_of row 0 c x)
      given = let g = row-added row w 0 c x h (omega arith) in record { long = g.long; words = g.words; pairs = g.pairs }

      left : (j : ℕ) → Edges row 0 j ↔ (Edges e x j × (x < j))
      left j = rw r (
        λ u. let v = (rest_has e words x below' 0 j).0 u in (v.0, elim (dec_lt x j) [ yes l ↦ l | no l ↦ absurd (v.1 ((upto j).1 (omega arith))) ]),
        λ u. (rest_has e words x below' 0 j).1 (u.0, λ v. omega (arith, (upto j).0 v, u.1)),
      )

      there : (i j : ℕ) → ((i < x) × Edges e i j × (i < j)) ⊎ ((i ≡ x) × Edges row 0 j) → (i < x + 1) × Edges e i j × (i < j)
      there i j (inl u) = (omega (arith, u.0), u.1, u.2)
      there i j (inr u) = let v = (left j).0 u.1 in (omega (arith, u.0), subst (λ (m : ℕ). Edges e m j) (sym u.0) v.0, omega (arith, u.0, v.1))

      back : (i j : ℕ) → (i < x + 1) × Edges e i j × (i < j) → ((i < x) × Edges e i j × (i < j)) ⊎ ((i ≡ x) × Edges row 0 j)
      back i j u = elim (eq? i x) [ inl z ↦ inr (z, (left j).1 (subst (λ (m : ℕ). Edges e m j) z u.1, omega (arith, z, u.2))) | inr z ↦ inl (omega (arith, u.0), u.1, u.2) ]

  pub forward-all : (n x : ℕ) (below c : List ℕ) → Inside n e → n ≤ x → Forwards x below c → ForwardPart e c
  forward-all n x below c inside l now = record {
    full = record { long = now.rows.long ∙ empty-long CELLS; words = now.rows.words (empty-words CELLS) };
    has = λ i j. (
      λ u. elim ((now.rows.pairs i j).0 u) [ inl v ↦ absurd (false≢true (sym (empty-bit CELLS i j) ∙ v)) | inr v ↦ (v.1, v.2) ],
      λ u. (now.rows.pairs i j).1 (inr (omega (arith, l, (inside i j u.0).0), u.0, u.1)),
    );
  }

-- begun with the chains c of what leads forward, and p, these turned round
pub closed_of : (n : ℕ) (e f c p₀ p c' p' : List ℕ) (r : Bool) → Inside n e → ForwardPart e f → Chained f c → length p₀ ≡ CELLS → TurnedRound c n p₀ p → TakenIn c p (Edges e) c' p' → r ≡ any RECORDS (λ x. bit c' x x) → Closed e c' r × Twin c' p' × (length p' ≡ CELLS)
unfolding Transitive
closed_of n e f c p₀ p c' p' r inside forward chained l turned j q = (
  record {
    full = record { long = j.long ∙ chained.long ∙ forward.full.long; words = j.words chained.words };
    has = λ x y. (
      λ u. chain-least (chains-join (Edges e)) (λ x y v. elim v [ inl w ↦ begun x y w | inr w ↦ one w ]) x y (j.within twin x y u),
      λ u. chain-least (j.twin twin).joins (j.has twin) x y u,
    );
    circle = q;
  },
  j.twin twin,
  j.turned-long ∙ turned.long ∙ l,
)
  where
    is : (x y : ℕ) → So (bit c x y) ↔ Chain (Edges f) x y
    is = chained.chains forward.full.long

    begun : Edges c ⊆ Chain (Edges e)
    begun x y u = chain-mono (λ x y v. ((forward.has x y).0 v).0) x y ((is x y).0 u)

    below : (x y : ℕ) → Chain (Edges e) x y → (x < n) × (y < n)
    below x y (one u) = inside x y u
    below x y (more {y = z} u v) = ((inside x z u).0, (below z y v).1)

    twin : Twin c p
    twin = record {
      joins = λ x y z a b. (is x z).1 (chain-join ((is x y).0 a) ((is y z).0 b));
      turned = λ x y. (λ u. ((turned.pairs l x y).0 u).2, λ u. let b = below x y (begun x y u) in (turned.pairs l x y).1 (b.1, b.0, u));
    }
