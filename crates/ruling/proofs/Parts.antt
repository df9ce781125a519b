-- The parts of rules 3, 6 and 7, test by test.
--
--   not_on, not-off  == a test whose opposite passes; one whose opposite does not
--   any_none         == a test that nothing passes
--   before-other     == two records that are not writers of one address are no source and no other writer of any load
--   before-apart, before-late, before-unread == x does not write the load's address; it is not known to be before it; y is not its source
--   before-found     == all of this asked, and passed
--   after-other, after-apart, after-unread, after-found == the same of y and the source of the load x
use mathlib.Core.Path.{◌≡◌, refl, sym, ◌∙◌}
use mathlib.Core.Logic.{◌↔◌}
use mathlib.Core.Bool.{Bool, true, false, So, not, cond, ◌&&◌, false≢true}
use Prim.Native.Nat.{ℕ}
use lib.Dec.{eqb}
use Rattle.laws.specs.Relation.{Table}
use Rattle.laws.specs.Tests.{any}
use Rattle.laws.proofs.Tests.{off, and-iff, not_iff, same-iff, so-eq, so-any}
use Rattle.rules.specs.Frame.{Frame}
use Rattle.rules.specs.RuleTests.{writer?, source?}
use Rattle.ruling.specs.inner.RuleParts.{before_source, after_load}

pub not_on : {b : Bool} → So (not b) → b ≡ false
not_on {b = true} t = absurd (false≢true t)
not_on {b = false} t = refl

pub not-off : {b : Bool} → not b ≡ false → So b
not-off {b = true} e = refl
not-off {b = false} e = absurd (false≢true (sym e))

pub any_none : (n : ℕ) (p : ℕ → Bool) → ((i : ℕ) → p i ≡ false) → any n p ≡ false
any_none n p none = off (λ t. let s = (so-any n p).0 t in false≢true (sym (none s.0) ∙ s.2))

four : {s w d k : Bool} → So (s && w && d && k) ↔ (((So s × So w) × So d) × So k)
four = and-iff (and-iff (and-iff same-iff same-iff) same-iff) same-iff

writer-iff : (f : Frame) (S L : ℕ) → So (writer? f S L) ↔ ((So (f.writes S) × (f.address S ≡ f.address L)) × (S ≡ L → ⊥))
unfolding writer?
writer-iff f S L = and-iff (and-iff same-iff so-eq) (not_iff so-eq)

source-writer : (f : Frame) (S L : ℕ) → So (source? f S L) → So (writer? f S L)
unfolding source?
source-writer f S L t = (four.0 t).0.0.0

module _ (f : Frame) (c : Bool) (C : Table) (x y : ℕ) where
  before-iff : (L : ℕ) → So (before_source f c C x y L) ↔ (((So (source? f y L) × So (writer? f x L)) × So (not (eqb x y))) × So (cond c (C x L) (f.earlier x L)))
  before-iff L = four

  pub before-other : (writer? f x y && writer? f y x) ≡ false → (L : ℕ) → before_source f c C x y L ≡ false
  before-other n L = off (λ t.
      let p = (before-iff L).0 t in
      let w = (writer-iff f x L).0 p.0.0.1 in
      let s = (writer-iff f y L).0 (source-writer f y L p.0.0.0) in
      let d = (not_iff (so-eq {m = x} {n = y})).0 p.0.1 in
      false≢true (sym n ∙ (and-iff (writer-iff f x y) (writer-iff f y x)).1 (((w.0.0, w.0.1 ∙ sym s.0.1), d), ((s.0.0, s.0.1 ∙ sym w.0.1), λ e. d (sym e)))))

  module _ (L : ℕ) where
    pub before-apart : writer? f x L ≡ false → before_source f c C x y L ≡ false
    before-apart n = off (λ t. false≢true (sym n ∙ ((before-iff L).0 t).0.0.1))

    pub before-late : cond c (C x L) (f.earlier x L) ≡ false → before_source f c C x y L ≡ false
    before-late n = off (λ t. false≢true (sym n ∙ ((before-iff L).0 t).1))

    pub before-unread : source? f y L ≡ false → before_source f c C x y L ≡ false
    before-unread n = off (λ t. false≢true (sym n ∙ ((before-iff L).0 t).0.0.0))

    pub before-found : So (writer? f x y && writer? f y x) → So (writer? f x L) → So (cond c (C x L) (f.earlier x L)) → So (source? f y L) → So (before_source f c C x y L)
    before-found b w k s = (before-iff L).1 (((s, w), (not_iff so-eq).1 ((writer-iff f x y).0 ((and-iff same-iff same-iff).0 b).0).1), k)

module _ (f : Frame) (C : Table) (x y : ℕ) where
  after-iff : (S : ℕ) → So (after_load f C x y S) ↔ (((So (source? f S x) × So (writer? f y x)) × So (not (eqb y S))) × So (C S y))
  after-iff S = four

  pub after-other : writer? f y x ≡ false → (S : ℕ) → after_load f C x y S ≡ false
  after-other n S = off (λ t. false≢true (sym n ∙ ((after-iff S).0 t).0.0.1))

  module _ (S : ℕ) where
    pub after-apart : (not (eqb y S) && C S y) ≡ false → after_load f C x y S ≡ false
    after-apart n = off (λ t. let p = (after-iff S).0 t in false≢true (sym n ∙ (and-iff same-iff same-iff).1 (p.0.1, p.1)))

    pub after-unread : source? f S x ≡ false → after_load f C x y S ≡ false
    after-unread n = off (λ t. false≢true (sym n ∙ ((after-iff S).0 t).0.0.0))

    pub after-found : So (writer? f y x) → So (not (eqb y S) && C S y) → So (source? f S x) → So (after_load f C x y S)
    after-found w b s = let p = (and-iff same-iff same-iff).0 b in (after-iff S).1 (((s, w), p.0), p.1)
