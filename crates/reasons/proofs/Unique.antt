-- No second answer meets the contract of a public function, and what the writer owes.
--
--   FUNCTION-settles == the contract settles what the function gives back
--   FUNCTION-leaves  == and what the lent memory holds
--   write-shows      == there is something to show exactly where there is no valid order and no source is missing
--   write-accepted   == what is shown is accepted by the small reader
use mathlib.Core.Path.{◌≡◌, sym, ap₂, ◌∙◌, subst}
use mathlib.Core.Logic.{◌↔◌, inl, inr}
use mathlib.Core.Bool.{So}
use mathlib.Core.List.{List}
use Prim.Native.Nat.{ℕ, ◌≤◌}
use native.Mathlib.Decide.{dec_lt}
use native.Mathlib.Omega.{arith}
use lib.ListN.{length, take, drop}
use lib.Seq.{take-append_seam}
use Rattle.laws.specs.Settles.{Settles, Leaves}
use Rattle.laws.proofs.Tests.{test}
use Rattle.trace.specs.Bounds.{RECORDS}
use Rattle.trace.specs.Meaning.{frame_of}
use Rattle.trace.specs.WellFormed.{well_formed}
use Rattle.trace.specs.declared.Trace.{Trace}
use Rattle.trace.proofs.Good.{good}
use Rattle.trace.proofs.WellFormed.{form-iff}
use Rattle.pairs.specs.Kept.{modelled, kept_of}
use Rattle.pairs.proofs.KeptPairs.{kept-joins}
use Rattle.rules.specs.Verdict.{Verdict, no_source, circle, order, none_left, Says}
use Rattle.rules.proofs.Says.{verdict-one, circle-none}
use Rattle.rules.specs.Order.{Valid}
use Rattle.rules.specs.Missing.{Sourced}
use Rattle.papers.specs.Paper.{spell, accepted}
use Rattle.papers.specs.Accepts.{Paper}
use Rattle.reasons.specs.Writes.{LaidInFront, ListedBy, Writes}
use Rattle.reasons.specs.Writing.{paper}
use Rattle.reasons.specs.declared.listing.Reason.{Reason}
use Rattle.reasons.specs.declared.listing.Reason.TheVariants.{TooLong}
use Rattle.std.specs.Prelude.{Option, Some, None, Result, Ok, Err}
use Rattle.reasons.proofs.Writing.{paper-right}
use Rattle.reasons.proofs.listing.write.Reads as write
use Rattle.reasons.proofs.listing.write.Kinds as write-kinds

module _ (t : Trace) (m : ℕ) (before : List ℕ) where
  front-one : (ws a b : List ℕ) (x y : Result (Option ℕ) Reason) → LaidInFront ws before a x → LaidInFront ws before b y → (x ≡ y) × (a ≡ b)
  front-one ws a b x y p q = elim (dec_lt (length before) (length ws)) [
    | yes l ↦ let u = p.long l in let v = q.long l in (u.0 ∙ sym v.0, u.1 ∙ sym v.1)
    | no l ↦ let u = p.fits (omega arith) in let v = q.fits (omega arith) in (u.0 ∙ sym v.0, u.1 ∙ sym v.1)
  ]

  by_one : (v : Verdict) (a b : List ℕ) (x y : Result (Option ℕ) Reason) → ListedBy (frame_of t) (kept_of m t) v before a x → ListedBy (frame_of t) (kept_of m t) v before b y → (x ≡ y) × (a ≡ b)
  by_one (no_source z) a b x y p q = (p.0 ∙ sym q.0, p.1 ∙ sym q.1)
  by_one (circle c rs) a b x y p q = front-one (spell (paper (frame_of t) (kept_of m t))) a b x y p q
  by_one (order xs) a b x y p q = (p.0 ∙ sym q.0, p.1 ∙ sym q.1)
  by_one none_left a b x y p q = front-one (spell (paper (frame_of t) (kept_of m t))) a b x y p q

  pub writes_one : (a b : List ℕ) (x y : Result (Option ℕ) Reason) → Writes t m before a x → Writes t m before b y → (x ≡ y) × (a ≡ b)
  writes_one a b x y p q = elim (test (modelled m)) [
    | inr e ↦ let u = p.nine e in let v = q.nine e in (u.0 ∙ sym v.0, u.1 ∙ sym v.1)
    | inl k ↦ elim (test (well_formed t)) [
      | inr e ↦ let u = p.ten k e in let v = q.ten k e in (u.0 ∙ sym v.0, u.1 ∙ sym v.1)
      | inl w ↦
          let (u, s, d) = p.says k w in
          let (v, r, e) = q.says k w in
          by_one u a b x y d (subst (λ (v : Verdict). ListedBy (frame_of t) (kept_of m t) v before b y) (verdict-one (frame_of t) (kept_of m t) v u r s) e)
    ]
  ]

  module _ (k : So (modelled m)) (w : So (well_formed t)) where
    small : (frame_of t).records ≤ RECORDS
    unfolding frame_of
    small = ((form-iff t).0 w).fits

    abbrev NoOrder : Type 0
    NoOrder = (xs : List ℕ) → Valid (frame_of t) (kept_of m t) xs → ⊥

    -- a list that is shown is the writer's
    shown-is : (after : List ℕ) (n : ℕ) → LaidInFront (spell (paper (frame_of t) (kept_of m t))) before after (Ok (Some n)) → take n after ≡ spell (paper (frame_of t) (kept_of m t))
    shown-is after n d = elim (dec_lt (length before) (length (spell (paper (frame_of t) (kept_of m t))))) [
      | yes l ↦ absurd (differs n (d.long l).0)
      | no l ↦ let (e, q) = d.fits (omega arith) in
          ap₂ take (same n (length (spell (paper (frame_of t) (kept_of m t)))) e) q
          ∙ take-append_seam (spell (paper (frame_of t) (kept_of m t))) (drop (length (spell (paper (frame_of t) (kept_of m t)))) before)
    ]
      where
        differs : (n : ℕ) → ◌≡◌ {A = Result (Option ℕ) Reason} (Ok (Some n)) (Err TooLong) → ⊥
        differs n e = let z : ◌≡◌ {A = ℕ} 0 1 = cc in omega arith

        same : (n k : ℕ) → ◌≡◌ {A = Result (Option ℕ) Reason} (Ok (Some n)) (Ok (Some k)) → n ≡ k
        same n k e = cc

    pub write-accepted : (after : List ℕ) (n : ℕ) → Writes t m before after (Ok (Some n)) → Paper (frame_of t) (kept_of m t) (take n after)
    unfolding accepted
    write-accepted after n p = let (v, s, d) = p.says k w in go v s d
      where
        differs : ◌≡◌ {A = Result (Option ℕ) Reason} (Ok (Some n)) (Ok None) → ⊥
        differs e = let z : ◌≡◌ {A = ℕ} 0 1 = cc in omega arith

        right : Sourced (frame_of t) → NoOrder → So (accepted (frame_of t) (kept_of m t) (paper (frame_of t) (kept_of m t)))
        right s n = (paper-right (frame_of t) (good t w) small (kept_of m t) (kept-joins m t) s).1 n

        go : (v : Verdict) → Says (frame_of t) (kept_of m t) v → ListedBy (frame_of t) (kept_of m t) v before after (Ok (Some n)) → Paper (frame_of t) (kept_of m t) (take n after)
        go (no_source x) s d = absurd (differs d.0)
        go (circle c rs) s d = (paper (frame_of t) (kept_of m t), shown-is after n d, right s.0 (circle-none (frame_of t) (kept_of m t) (good t w) (c, rs) s.1))
        go (order xs) s d = absurd (differs d.0)
        go none_left s d = (paper (frame_of t) (kept_of m t), shown-is after n d, right s.0 s.2)

    pub write-shows : (after : List ℕ) (r : Result (Option ℕ) Reason) → Writes t m before after r → (r ≡ Ok None → ⊥) ↔ (Sourced (frame_of t) × NoOrder)
    write-shows after r p = let (v, s, d) = p.says k w in go v s d
      where
        front : LaidInFront (spell (paper (frame_of t) (kept_of m t))) before after r → r ≡ Ok None → ⊥
        front d e = elim (dec_lt (length before) (length (spell (paper (frame_of t) (kept_of m t))))) [
          | yes l ↦ let q = (d.long l).0 in let z : ◌≡◌ {A = ℕ} 0 1 = cc in omega arith
          | no l ↦ let q = (d.fits (omega arith)).0 in let z : ◌≡◌ {A = ℕ} 0 1 = cc in omega arith
        ]

        go : (v : Verdict) → Says (frame_of t) (kept_of m t) v → ListedBy (frame_of t) (kept_of m t) v before after r → (r ≡ Ok None → ⊥) ↔ (Sourced (frame_of t) × NoOrder)
        go (no_source x) s d = (λ n. absurd (n d.0), λ h. absurd (h.0 x s.0))
        go (circle c rs) s d = (λ _. (s.0, circle-none (frame_of t) (kept_of m t) (good t w) (c, rs) s.1), λ _. front d)
        go (order xs) s d = (λ n. absurd (n d.0), λ h. absurd (h.1 xs s.2.0))
        go none_left s d = (λ _. (s.0, s.2), λ _. front d)

pub write-settles : Settles 1 write-kinds.ps write-kinds.r write.Post
write-settles κs a x y s t p q = (writes_one a.0 a.1.0 a.1.1.0.now s.1.1.0.now t.1.1.0.now x y p q).0

pub write-leaves : Leaves 1 write-kinds.ps write-kinds.r (λ κs s. s.1.1.0.now) write.Post
write-leaves κs a x y s t p q = (writes_one a.0 a.1.0 a.1.1.0.now s.1.1.0.now t.1.1.0.now x y p q).1
