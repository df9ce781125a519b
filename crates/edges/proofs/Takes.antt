-- What rules 6 and 7 give, taken into tables that stay closed.
--
--   waiting-of                         == what waits at a row, by what is left of rows
--   takes-old, takes-then              == what was there; first some and then others
--   takes-joins                        == pairs that are forced where what is asked is so
--   takes-ask                          == another question, and fewer pairs
--   turns-none, turns_more, turns-skip == what a loop takes in
--   settled-mono                       == rules 6 and 7 for one load and one other writer: more rows give no less
--   settled-takes, load-turn           == one load, by two rows; a load's turn, said of the rows that a pass began with
use mathlib.Core.Path.{◌≡◌, refl, sym, ◌∙◌, subst}
use mathlib.Core.Logic.{◌⊎◌, inl, inr, ◌≢◌}
use mathlib.Core.Bool.{So, not, ◌&&◌, false≢true}
use mathlib.Core.List.{List}
use Prim.Native.Nat.{ℕ, ◌+◌, ◌<◌, ◌≤◌}
use native.Mathlib.Omega.{arith}
use lib.Dec.{eqb}
use lib.ListN.{get_or}
use Rattle.laws.specs.Relation.{Rel, Table, ◌⊆◌}
use Rattle.laws.specs.inner.Joined.{Turned}
use Rattle.laws.proofs.Relation.{chain-least}
use Rattle.laws.proofs.Tests.{eq?, and-iff, not_iff, same-iff, so-eq, test}
use Rattle.trace.specs.Bounds.{RECORDS}
use Rattle.rules.specs.Frame.{Frame}
use Rattle.rows.specs.Bounds.{WORDS}
use Rattle.rows.specs.Rows.{bit, Edges, Words}
use Rattle.rows.specs.Empty.{empty_of}
use Rattle.rows.specs.Put.{put_of}
use Rattle.rows.specs.Rest.{rest_of}
use Rattle.rows.specs.inner.Sets.{More}
use Rattle.rows.proofs.Whole.{empty-bit, empty-long}
use Rattle.rows.proofs.Sets.{put-more}
use Rattle.rows.proofs.Resting.{rest_has, rest-words}
use Rattle.rules.specs.Rules.{Held}
use Rattle.rules.specs.inner.Growing.{Growing}
use Rattle.rules.proofs.Rounds.{held-join}
use Rattle.rules.proofs.Growing.{settled-held}
use Rattle.edges.specs.inner.PairSets.{Union}
use Rattle.edges.specs.inner.DrawnEdges.{Settled, sixth, seventh, SettledBy, SettledFor}
use Rattle.edges.specs.inner.ClosedTables.{Twin, TakenIn}
use Rattle.edges.specs.inner.Takes.{Waiting, Asks, Takes, AskWritten, AskNoted}
use Rattle.edges.proofs.ClosedTables.{joins-turn}

-- what is there and not elsewhere is what both have
pub waiting-of : (e : List ℕ) → Words e → (x y : ℕ) (w : List ℕ) → Words w → (L S : ℕ) → S < RECORDS → (own elsewhere there fresh r : List ℕ) → own ≡ put_of (empty_of WORDS) 0 S → elsewhere ≡ rest_of e x w L → there ≡ rest_of e x elsewhere 0 → fresh ≡ rest_of there 0 e y → r ≡ rest_of fresh 0 own 0
    → Waiting e x y w L S r
waiting-of e words x y w ws L S h own elsewhere there fresh r qo qe qt qf qr z = (to, back)
  where
    wt : Words there
    wt = rw (qt, qe) (rest-words e words x (rest_of e x w L) 0 (rest-words e words x w L ws))

    wf : Words fresh
    wf = rw qf (rest-words there wt 0 e y words)

    alone : More (empty_of WORDS) S (put_of (empty_of WORDS) 0 S)
    alone = put-more (empty_of WORDS) S (empty-long WORDS) h

    to : So (bit r 0 z) → Edges e x z × So (bit w L z) × (Edges e y z → ⊥) × (z ≢ S)
    to u =
        let a = (rest_has fresh wf 0 own 0 z).0 (subst (λ (l : List ℕ). So (bit l 0 z)) qr u) in
        let b = (rest_has there wt 0 e y z).0 (subst (λ (l : List ℕ). So (bit l 0 z)) qf a.0) in
        let c = (rest_has e words x elsewhere 0 z).0 (subst (λ (l : List ℕ). So (bit l 0 z)) qt b.0) in (
          c.0,
          elim (test (bit w L z)) [ inl v ↦ v | inr v ↦ absurd (c.1 (subst (λ (l : List ℕ). So (bit l 0 z)) (sym qe) ((rest_has e words x w L z).1 (c.0, λ s. false≢true (sym v ∙ s))))) ],
          b.1,
          λ s. a.1 (subst (λ (l : List ℕ). So (bit l 0 z)) (sym qo) ((alone.has z).1 (inr s))),
        )

    back : Edges e x z × So (bit w L z) × (Edges e y z → ⊥) × (z ≢ S) → So (bit r 0 z)
    back u =
        let c : So (bit there 0 z) = subst (λ (l : List ℕ). So (bit l 0 z)) (sym qt) ((rest_has e words x elsewhere 0 z).1 (u.0, λ s. ((rest_has e words x w L z).0 (subst (λ (l : List ℕ). So (bit l 0 z)) qe s)).1 u.1)) in
        let b : So (bit fresh 0 z) = subst (λ (l : List ℕ). So (bit l 0 z)) (sym qf) ((rest_has there wt 0 e y z).1 (c, u.2)) in
        subst (λ (l : List ℕ). So (bit l 0 z)) (sym qr) ((rest_has fresh wf 0 own 0 z).1 (
          b,
          λ s. elim ((alone.has z).0 (subst (λ (l : List ℕ). So (bit l 0 z)) qo s)) [
            | inl v ↦ absurd (false≢true (sym (empty-bit WORDS 0 z) ∙ v))
            | inr v ↦ u.3 v
          ],
        ))

module _ (ask : Asks) where
  pub takes-old : (e p : List ℕ) (R : Rel) → R ⊆ Edges e → Takes ask e p R e p
  takes-old e p R h = record { long = refl; turned-long = refl; words = λ w. w; keeps = λ x y b. b; twin = λ t. t; has = λ t. h; growing = λ f K P a t g. g }

  pub takes-then : {a p b q c s : List ℕ} {R Q : Rel} (T : Rel) → Takes ask a p R b q → Takes ask b q Q c s → ((x y : ℕ) → T x y → R x y ⊎ Q x y) → Takes ask a p T c s
  takes-then T j k h = record {
    long = k.long ∙ j.long;
    turned-long = k.turned-long ∙ j.turned-long;
    words = λ w. k.words (j.words w);
    keeps = λ x y b. k.keeps x y (j.keeps x y b);
    twin = λ t. k.twin (j.twin t);
    has = λ t x y u. elim (h x y u) [ inl r ↦ k.keeps x y (j.has t x y r) | inr r ↦ k.has (j.twin t) x y r ];
    growing = λ f K P u t g. k.growing f K P u (j.twin t) (j.growing f K P u t g);
  }

  pub takes-joins : {e p e' p' : List ℕ} {R : Rel} → ((f : Frame) (K P : Table) → ask f K P → Twin e p → Growing f K P (Edges e) → R ⊆ Held f K P) → TakenIn e p R e' p' → Takes ask e p R e' p'
  takes-joins h j = record {
    long = j.long;
    turned-long = j.turned-long;
    words = j.words;
    keeps = j.keeps;
    twin = j.twin;
    has = j.has;
    growing = λ f K P u t g. record {
      joins = (j.twin t).joins;
      forced = λ x y b. chain-least (held-join f K P) (λ x y v. elim v [ inl w ↦ g.forced x y w | inr w ↦ h f K P u t g x y w ]) x y (j.within t x y b);
    };
  }

  pub takes-ask : (ask' : Asks) {a p b q : List ℕ} {R : Rel} (T : Rel) → T ⊆ R → ((f : Frame) (K P : Table) → ask' f K P → ask f K P) → Takes ask a p R b q → Takes ask' a p T b q
  takes-ask ask' T h k j = record {
    long = j.long;
    turned-long = j.turned-long;
    words = j.words;
    keeps = j.keeps;
    twin = j.twin;
    has = λ t x y u. j.has t x y (h x y u);
    growing = λ f K P u t g. j.growing f K P (k f K P u) t g;
  }

  module _ (R : ℕ → Rel) where
    pub turns-none : (a p : List ℕ) → Takes ask a p (Union 0 R) a p
    unfolding Union
    turns-none a p = takes-old a p (Union 0 R) (λ x y u. absurd (omega (arith, u.1)))

    pub turns_more : {a p b q c s : List ℕ} (n : ℕ) → Takes ask a p (Union n R) b q → Takes ask b q (R n) c s → Takes ask a p (Union (n + 1) R) c s
    unfolding Union
    turns_more n j k = takes-then (Union (n + 1) R) j k (λ x y u. elim (eq? u.0 n) [ inl e ↦ inr (rw e at u.2) | inr d ↦ inl (u.0, omega (arith, u.1), u.2) ])

    pub turns-skip : {a p b q : List ℕ} (n : ℕ) → Takes ask a p (Union n R) b q → ((x y : ℕ) → R n x y → ⊥) → Takes ask a p (Union (n + 1) R) b q
    turns-skip {b = b} {q = q} n j none = turns_more n j (takes-old b q (R n) (λ x y r. absurd (none x y r)))

pub settled-mono : (c d : List ℕ) (S L z : ℕ) → Edges c ⊆ Edges d → Settled c S L z ⊆ Settled d S L z
settled-mono c d S L z h x y (sixth o) = sixth (h z L o.0, o.1, o.2)
settled-mono c d S L z h x y (seventh o) = seventh (h S z o.0, o.1, o.2)

-- rule 7 first; what then waits at the source is looked for in the tables exchanged
pub settled-takes : (n : ℕ) (w e p m q e' p' late early : List ℕ) (S L : ℕ) → Waiting e S L w L S late → TakenIn e p (λ i j. (i ≡ L) × So (bit late 0 j)) m q → Waiting q L S w L S early → TakenIn q m (λ i j. (i ≡ S) × So (bit early 0 j)) p' e'
    → Takes (AskWritten w S L) e p (Union n (SettledBy w e S L)) e' p'
unfolding Union
settled-takes n w e p m q e' p' late early S L is-late j is-early k = record {
  long = both.long;
  turned-long = both.turned-long;
  words = both.words;
  keeps = both.keeps;
  twin = both.twin;
  has = λ t x y u. settled t u.0 x y u.2.0 u.2.1;
  growing = both.growing;
}
  where
    seventh-of : Takes (AskWritten w S L) e p (λ i j. (i ≡ L) × So (bit late 0 j)) m q
    seventh-of = takes-joins (AskWritten w S L) (λ f K P a t g x y u.
        let v = (is-late y).0 u.1 in
        subst (λ (i : ℕ). Held f K P i y) (sym u.0) ((settled-held f K P (Edges e) g.forced S L y a.0 (a.1 y v.1) v.3).1 v.0)) j

    sixth-of : Takes (AskWritten w S L) m q (Turned (λ i j. (i ≡ S) × So (bit early 0 j))) e' p'
    sixth-of = takes-joins (AskWritten w S L) (λ f K P a t g x y u.
        let v = (is-early x).0 u.1 in
        subst (λ (j : ℕ). Held f K P x j) (sym u.0) ((settled-held f K P (Edges m) g.forced S L x a.0 (a.1 x v.1) v.3).0 ((t.turned x L).0 v.0))) (joins-turn k)

    both : Takes (AskWritten w S L) e p (λ i j. ((i ≡ L) × So (bit late 0 j)) ⊎ ((j ≡ S) × So (bit early 0 i))) e' p'
    both = takes-then (AskWritten w S L) _ seventh-of sixth-of (λ x y u. u)

    settled : Twin e p → (z x y : ℕ) → So (bit w L z && not (eqb z S)) → Settled e S L z x y → Edges e' x y
    settled t z x y want (sixth o) =
        let parts = (and-iff (same-iff {a = bit w L z}) (not_iff (so-eq {m = z} {n = S}))).0 want in
        let tm : Twin m q = seventh-of.twin t in
        subst (λ (i : ℕ). Edges e' i y) (sym o.1) (subst (Edges e' z) (sym o.2) (elim (test (bit q S z)) [
          | inl b ↦ sixth-of.keeps z S ((tm.turned z S).0 b)
          | inr b ↦ sixth-of.has tm z S (refl, (is-early z).1 ((tm.turned z L).1 (seventh-of.keeps z L o.0), parts.0, λ s. false≢true (sym b ∙ s), parts.1))
        ]))
    settled t z x y want (seventh o) =
        let parts = (and-iff (same-iff {a = bit w L z}) (not_iff (so-eq {m = z} {n = S}))).0 want in
        subst (λ (i : ℕ). Edges e' i y) (sym o.1) (subst (Edges e' L) (sym o.2) (sixth-of.keeps L z (elim (test (bit e L z)) [
          | inl b ↦ seventh-of.keeps L z b
          | inr b ↦ seventh-of.has t L z (refl, (is-late z).1 (o.0, parts.0, λ s. false≢true (sym b ∙ s), parts.1))
        ])))

-- e₀ are the rows that the pass began with
pub load-turn : (n m : ℕ) (s w e₀ e p e' p' : List ℕ) (L : ℕ) → L < n → n ≤ m → Edges e₀ ⊆ Edges e → get_or s L 0 < RECORDS → Takes (AskWritten w (get_or s L 0) L) e p (Union m (SettledBy w e (get_or s L 0) L)) e' p'
    → Takes (AskNoted n s w) e p (SettledFor n s w e₀ L) e' p'
unfolding Union
load-turn n m s w e₀ e p e' p' L l le h small j =
    takes-ask (AskWritten w (get_or s L 0) L) (AskNoted n s w) (SettledFor n s w e₀ L)
    (λ x y u. (u.1.0, omega (arith, u.1.1, le), (u.1.2.0, settled-mono e₀ e (get_or s L 0) L u.1.0 h x y u.1.2.1))) (λ f K P a. a L l small) j
