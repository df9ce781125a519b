-- A valid order stays valid when records go.
--
--   Part f g K J r == g is a part of f: record x of g is record r x of f, no load of g has lost its source, and what J keeps K kept
--   order_of        == the operations that are left, in the order in which they stood
--   part-valid     == it is a valid order of the part
--   part-fault     == so a trace of which a part has no valid order has none
use mathlib.Core.Path.{◌≡◌, sym, ap, ◌∙◌, subst}
use mathlib.Core.Logic.{◌≢◌, ◌↔◌, inl, inr}
use mathlib.Core.Bool.{So}
use mathlib.Core.List.{List}
use Prim.Native.Nat.{ℕ, ◌≤◌}
use native.Mathlib.Omega.{arith}
use lib.Dec.{ltb}
use Rattle.laws.specs.Places.{pos, Before}
use Rattle.laws.specs.Relation.{Table, Transitive}
use Rattle.laws.specs.inner.Sorted.{On, sorted}
use Rattle.laws.proofs.Tests.{so-lt, eq?}
use Rattle.laws.proofs.Sorted.{sorted-once, sorted-keeps}
use Rattle.rules.specs.Frame.{Frame, Good, Source}
use Rattle.rules.specs.Order.{Visible, Sees, nobody, latest, Valid}
use Rattle.rules.proofs.Orders.{apart, either}

pub record Part (f g : Frame) (K J : Table) (r : ℕ → ℕ) : Type 0 where
  pub one : (x y : ℕ) → So (g.operation x) → So (g.operation y) → r x ≡ r y → x ≡ y
  pub operation : (x : ℕ) → So (g.operation x) → So (f.operation (r x))
  pub reads : (x : ℕ) → So (g.reads x) → So (f.reads (r x))
  pub writes : (x : ℕ) → So (g.writes x) → So (f.writes (r x))
  pub address : (x : ℕ) → So (g.operation x) → g.address x ≡ f.address (r x)
  pub read : (x : ℕ) → So (g.operation x) → g.read x ≡ f.read (r x)
  pub written : (x : ℕ) → So (g.operation x) → g.written x ≡ f.written (r x)
  pub first : (a : ℕ) → g.first a ≡ f.first a
  pub earlier : (x y : ℕ) → So (g.operation x) → So (g.operation y) → So (g.earlier x y) ↔ So (f.earlier (r x) (r y))
  -- a fence that went keeps nothing any more
  pub kept : (x y : ℕ) → So (J x y) → So (g.operation x) × So (K (r x) (r y))
  -- with a writer went whoever read from it
  pub sources : (S L : ℕ) → So (g.reads L) → Source f S (r L) → (T : ℕ) × So (g.writes T) × (r T ≡ S)

-- as their images stand in the order
abbrev places : (ℕ → ℕ) → List ℕ → Table
places r xs x y = ltb (pos xs (r x)) (pos xs (r y))

abbrev pub order_of : Frame → (ℕ → ℕ) → List ℕ → List ℕ
order_of g r xs = sorted g.operation (places r xs) g.records

module _ (f g : Frame) (K J : Table) (r : ℕ → ℕ) (gf : Good f) (gg : Good g) (p : Part f g K J r) (xs : List ℕ) (v : Valid f K xs) where
  join : Transitive (On (places r xs))
  unfolding Transitive
  join x y z a b = (so-lt {m = pos xs (r x)} {n = pos xs (r z)}).1 (omega (arith, (so-lt {m = pos xs (r x)} {n = pos xs (r y)}).0 a, (so-lt {m = pos xs (r y)} {n = pos xs (r z)}).0 b))

  never : (x : ℕ) → So (places r xs x x) → ⊥
  never x a = omega (arith, (so-lt {m = pos xs (r x)} {n = pos xs (r x)}).0 a)

  keeps : (x y : ℕ) → So (g.operation x) → Before xs (r x) (r y) → Before (order_of g r xs) x y
  keeps x y t b = sorted-keeps g.operation (places r xs) join never g.records gg.below x y t (so-lt.1 b)

  other : (x y : ℕ) → So (g.operation x) → So (g.operation y) → x ≢ y → r x ≢ r y
  other x y t u d e = d (p.one x y t u e)

  back : (x y : ℕ) → So (g.operation x) → So (g.operation y) → Before (order_of g r xs) x y → Before xs (r x) (r y)
  back x y t u b = elim (eq? x y) [
    | inl e ↦ absurd (omega (arith, ap (pos (order_of g r xs)) e))
    | inr d ↦ elim (either f xs v.all (p.operation x t) (other x y t u d)) [ inl h ↦ h | inr h ↦ absurd (omega (arith, keeps y x u h)) ]
  ]

  -- whom L's value is taken from, there and here
  there : (S L : ℕ) → So (g.reads L) → Visible g (order_of g r xs) S L → Visible f xs (r S) (r L)
  there S L l c =
      let s : So (g.operation S) = gg.writes S c.writer.writes in
      let m : So (g.operation L) = gg.reads L l in
      record {
        writer = record { writes = p.writes S c.writer.writes; same = sym (p.address S s) ∙ c.writer.same ∙ p.address L m; other = other S L s m c.writer.other };
        early = elim c.early [ inl b ↦ inl (back S L s m b) | inr e ↦ inr ((p.earlier S L s m).0 e) ];
      }

  here : (S L : ℕ) → So (g.reads L) → So (g.writes S) → Visible f xs (r S) (r L) → Visible g (order_of g r xs) S L
  here S L l w c =
      let s : So (g.operation S) = gg.writes S w in
      let m : So (g.operation L) = gg.reads L l in
      record {
        writer = record { writes = w; same = p.address S s ∙ c.writer.same ∙ sym (p.address L m); other = λ e. c.writer.other (ap r e) };
        early = elim c.early [ inl b ↦ inl (keeps S L s b) | inr e ↦ inr ((p.earlier S L s m).1 e) ];
      }

  value : (L : ℕ) → So (g.reads L) → Sees g (order_of g r xs) L (g.read L)
  value L l = go (v.value (r L) (p.reads L l))
    where
      m : So (g.operation L)
      m = gg.reads L l

      go : Sees f xs (r L) (f.read (r L)) → Sees g (order_of g r xs) L (g.read L)
      go (nobody e h) = nobody (p.read L m ∙ e ∙ ap f.first (sym (p.address L m)) ∙ sym (p.first (g.address L))) (λ S c. h (r S) (there S L l c))
      go (latest S e c h) = found (p.sources S L l source)
        where
          source : Source f S (r L)
          source = record {
            writer = c.writer;
            reads = p.reads L l;
            value = e;
            later = λ q. gf.fresh S c.writer.writes (sym e ∙ q ∙ ap f.first (sym c.writer.same));
          }

          found : (T : ℕ) × So (g.writes T) × (r T ≡ S) → Sees g (order_of g r xs) L (g.read L)
          found (T, w, q) =
              let t : So (g.operation T) = gg.writes T w in
              latest T (p.read L m ∙ e ∙ ap f.written (sym q) ∙ sym (p.written T t)) (here T L l w (subst (λ (s : ℕ). Visible f xs s (r L)) (sym q) c)) (last t)
            where
              last : So (g.operation T) → (S' : ℕ) → Visible g (order_of g r xs) S' L → pos (order_of g r xs) S' ≤ pos (order_of g r xs) T
              last t S' c' =
                  let s : So (g.operation S') = gg.writes S' c'.writer.writes in
                  elim (eq? S' T) [
                    | inl i ↦ omega (arith, ap (pos (order_of g r xs)) i)
                    | inr d ↦ omega (
                      arith,
                      keeps S' T s (omega (arith, h (r S') (there S' L l c'), ap (pos xs) q, apart f xs v.all (r S') (r T) (p.operation S' s) (other S' T s t d))),
                    )
                  ]

  pub part-valid : Valid g J (order_of g r xs)
  part-valid = record {
    all = sorted-once g.operation (places r xs) g.records gg.below;
    kept = λ x y k. keeps x y (p.kept x y k).0 (v.kept (r x) (r y) (p.kept x y k).1);
    value = value;
  }

pub part-fault : (f g : Frame) (K J : Table) (r : ℕ → ℕ) → Good f → Good g → Part f g K J r → ((ys : List ℕ) → Valid g J ys → ⊥) → (xs : List ℕ) → Valid f K xs → ⊥
part-fault f g K J r gf gg p none xs v = none (order_of g r xs) (part-valid f g K J r gf gg p xs v)
