-- No second answer meets the contract of the small reader, and what its yes means.
--
--   accepts-one     == two answers that fit a list are equal
--   accepts-settles == the contract settles what the reader gives back
--   accepts-none    == a list is accepted only where there is no valid order, whoever wrote it
use mathlib.Core.Path.{◌≡◌, refl, sym, ◌∙◌}
use mathlib.Core.Bool.{Bool, true, false, false≢true}
use mathlib.Core.List.{List}
use Prim.Native.Nat.{ℕ}
use Rattle.laws.specs.Settles.{Settles}
use Rattle.trace.specs.Meaning.{frame_of}
use Rattle.rules.specs.Order.{Valid}
use Rattle.trace.specs.declared.Trace.{Trace}
use Rattle.trace.proofs.Good.{good}
use Rattle.pairs.specs.Kept.{kept_of}
use Rattle.papers.specs.Paper.{accepted}
use Rattle.papers.specs.Accepts.{Accepts}
use Rattle.papers.specs.declared.reading.Refusal.{Refusal}
use Rattle.papers.specs.declared.reading.Refusal.TheVariants.{NoModel, NotWellFormed}
use Rattle.std.specs.Prelude.{Result, Ok, Err}
use Rattle.papers.proofs.Sound.{accepted-sound}
use Rattle.papers.proofs.reading.accepts.Reads as accepts
use Rattle.papers.proofs.reading.accepts.Kinds as accepts-kinds

pub accepts-one : (t : Trace) (m : ℕ) (l : List ℕ) (a b : Result Bool Refusal) → Accepts t m l a → Accepts t m l b → a ≡ b
accepts-one t m l (Err NoModel) (Err NoModel) p q = refl
accepts-one t m l (Err NoModel) (Err NotWellFormed) p q = absurd (false≢true (sym p ∙ q.0))
accepts-one t m l (Err NoModel) (Ok true) p q = absurd (false≢true (sym p ∙ q.0))
accepts-one t m l (Err NoModel) (Ok false) p q = absurd (false≢true (sym p ∙ q.0))
accepts-one t m l (Err NotWellFormed) (Err NoModel) p q = absurd (false≢true (sym q ∙ p.0))
accepts-one t m l (Err NotWellFormed) (Err NotWellFormed) p q = refl
accepts-one t m l (Err NotWellFormed) (Ok true) p q = absurd (false≢true (sym p.1 ∙ q.1))
accepts-one t m l (Err NotWellFormed) (Ok false) p q = absurd (false≢true (sym p.1 ∙ q.1))
accepts-one t m l (Ok true) (Err NoModel) p q = absurd (false≢true (sym q ∙ p.0))
accepts-one t m l (Ok true) (Err NotWellFormed) p q = absurd (false≢true (sym q.1 ∙ p.1))
accepts-one t m l (Ok true) (Ok true) p q = refl
accepts-one t m l (Ok true) (Ok false) p q = absurd (q.2 p.2)
accepts-one t m l (Ok false) (Err NoModel) p q = absurd (false≢true (sym q ∙ p.0))
accepts-one t m l (Ok false) (Err NotWellFormed) p q = absurd (false≢true (sym q.1 ∙ p.1))
accepts-one t m l (Ok false) (Ok true) p q = absurd (p.2 q.2)
accepts-one t m l (Ok false) (Ok false) p q = refl

pub accepts-settles : Settles 1 accepts-kinds.ps accepts-kinds.r accepts.Post
accepts-settles κs a x y s t p q = accepts-one a.0 a.1.0 a.1.1.0.now x y p q

pub accepts-none : (t : Trace) (m : ℕ) (l : List ℕ) → Accepts t m l (Ok true) → (xs : List ℕ) → Valid (frame_of t) (kept_of m t) xs → ⊥
unfolding accepted
accepts-none t m l a = accepted-sound (frame_of t) (good t a.1) (kept_of m t) a.2.0 a.2.2
