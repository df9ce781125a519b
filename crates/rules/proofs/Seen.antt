-- What a load must read in a list that has each operation once.
--
--   at_most_one, operation-there == a list that has each operation once has no number twice, and operations only
--   visible-iff                  == `visible?` is whom a load's value is taken from
--   sees-one, seen-sees          == a load sees one value, and `seen` is it
use mathlib.Core.Path.{◌≡◌, sym, ap, ◌∙◌, subst}
use mathlib.Core.Logic.{inl, inr, ◌↔◌}
use mathlib.Core.Bool.{cond, So, ◌&&◌, ◌||◌}
use mathlib.Core.List.{List}
use Prim.Native.Nat.{ℕ, ◌≤◌, ◌<◌}
use native.Mathlib.Omega.{arith}
use lib.Dec.{ltb}
use lib.ListN.{length, get_or}
use Rattle.laws.specs.Places.{pos, count, Before}
use Rattle.laws.specs.Latest.{Latest, nobody-yet, at}
use Rattle.laws.proofs.Tests.{and-iff, or-iff, same-iff, so-lt, test}
use Rattle.laws.proofs.Places.{pos_inj, pos-at, at-pos}
use Rattle.laws.proofs.Latest.{latest-of}
use Rattle.rules.specs.Frame.{Frame, Good}
use Rattle.rules.specs.Order.{Visible, Sees, nobody, latest, Once}
use Rattle.rules.specs.RuleTests.{writer?}
use Rattle.rules.proofs.RuleTests.{writer-iff}
use Rattle.rules.proofs.Orders.{placed}
use Rattle.rules.specs.Seen.{visible?, seen}

module _ (f : Frame) (xs : List ℕ) (o : Once f xs) where
  pub at_most_one : (x : ℕ) → count x xs ≤ 1
  at_most_one x = elim (test (f.operation x)) [ inl t ↦ omega (arith, o x ∙ ap (λ b. cond b 1 0) t) | inr t ↦ omega (arith, o x ∙ ap (λ b. cond b 1 0) t) ]

  pub operation-there : (x : ℕ) → 0 < count x xs → So (f.operation x)
  operation-there x h = elim (test (f.operation x)) [ inl t ↦ t | inr t ↦ absurd (omega (arith, o x ∙ ap (λ b. cond b 1 0) t)) ]

  pub visible-iff : (i L : ℕ) → i < length xs → So (visible? f xs i L) ↔ Visible f xs (get_or xs i 0) L
  unfolding visible?
  visible-iff i L l =
      let e : pos xs (get_or xs i 0) ≡ i = pos-at xs i l (at_most_one (get_or xs i 0)) in
      let n : So (ltb i (pos xs L)) ↔ Before xs (get_or xs i 0) L = subst (λ (j : ℕ). So (ltb i (pos xs L)) ↔ (j < pos xs L)) (sym e) so-lt in
      let p : So (writer? f (get_or xs i 0) L && (ltb i (pos xs L) || f.earlier (get_or xs i 0) L)) ↔ _ = and-iff (writer-iff f (get_or xs i 0) L) (or-iff n same-iff) in
      (λ t. let r = p.0 t in record { writer = r.0; early = r.1 }, λ v. p.1 (v.writer, v.early))

  module _ (g : Good f) (L : ℕ) where
    pub sees-one : (v w : ℕ) → Sees f xs L v → Sees f xs L w → v ≡ w
    sees-one v w (nobody e h) (nobody e' h') = e ∙ sym e'
    sees-one v w (nobody e h) (latest S' e' c' h') = absurd (h S' c')
    sees-one v w (latest S e c h) (nobody e' h') = absurd (h' S c)
    sees-one v w (latest S e c h) (latest S' e' c' h') =
        let q : S ≡ S' = pos_inj xs S S' (placed f xs o S (g.writes S c.writer.writes)) (omega (arith, h S' c', h' S c)) in
        e ∙ ap f.written q ∙ sym e'

    pub seen-sees : Sees f xs L (seen f xs L)
    unfolding seen
    seen-sees = go (latest-of (λ i. visible? f xs i L) (λ i. f.written (get_or xs i 0)) (f.first (f.address L)) (length xs))
      where
        -- a writer stands at its place
        place : (S : ℕ) → Visible f xs S L → pos xs S < length xs
        place S c = placed f xs o S (g.writes S c.writer.writes)

        here : (S : ℕ) → Visible f xs S L → So (visible? f xs (pos xs S) L)
        here S c = (visible-iff (pos xs S) L (place S c)).1 (rw (at-pos xs S (place S c)) c)

        go : {v : ℕ} → Latest (λ i. visible? f xs i L) (λ i. f.written (get_or xs i 0)) (f.first (f.address L)) (length xs) v → Sees f xs L v
        go (nobody-yet q h) = nobody q (λ S c. h (pos xs S) (place S c) (here S c))
        go (at j b q c h) = latest (get_or xs j 0) q ((visible-iff j L b).0 c) (λ S c'. omega (arith, pos-at xs j b (at_most_one (get_or xs j 0)), h (pos xs S) (place S c') (here S c')))
