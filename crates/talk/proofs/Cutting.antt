-- A number that is cut, being past every bound, is answered as the whole one.
--
--   suppose-cut, ask-cut, model-cut == call by call
--   no-model  == no model has a number past the last
--   asked-cut == hence a line may be looked at with its numbers cut
use mathlib.Core.Path.{◌≡◌, refl, sym, ap, ap₂, ◌∙◌}
use mathlib.Core.Logic.{◌⊎◌, inl, inr}
use mathlib.Core.Bool.{false, So, ◌&&◌, and-false}
use mathlib.Core.List.{List}
use Prim.Native.Nat.{ℕ, ◌<◌, ◌≤◌}
use native.Mathlib.Decide.{dec_lt}
use native.Mathlib.Omega.{arith}
use lib.Dec.{ltb}
use borrow.Author.Tests.{lt-leb}
use Rattle.laws.proofs.Tests.{off, test}
use Rattle.trace.specs.Bounds.{VALUES}
use Rattle.trace.specs.Meaning.{frame_of}
use Rattle.trace.proofs.WellFormed.{form-iff}
use Rattle.trace.proofs.Meaning.{operation-iff}
use Rattle.pairs.specs.Kept.{MODELS, modelled}
use Rattle.text.specs.Number.{cut}
use Rattle.session.specs.Opening.{is_done}
use Rattle.session.specs.Closings.{Closings}
use Rattle.session.specs.Session.{intact}
use Rattle.session.specs.Entries.{pair_turn, suppose_of, ask_of}
use Rattle.session.specs.declared.Reason.{Reason}
use Rattle.session.specs.declared.Reason.TheVariants.{Unlike, NoOperation}
use Rattle.session.specs.declared.Answer.TheVariants.{Refused}
use Rattle.session.specs.declared.Session.{Session}
use Rattle.session.specs.declared.Reply.{Reply}
use Rattle.session.proofs.Openings.{openable-iff}
use Rattle.session.proofs.Sessions.{intact-iff}
use Rattle.session.proofs.Answering.{pair-unlike, pair-fence, suppose-pair, suppose-refused, ask-refused}
use Rattle.talk.specs.Command.{cut_command}
use Rattle.talk.specs.LineAnswers.{replied, model_of, asked_of}
use Rattle.talk.specs.declared.asking.Command.{Command}
use Rattle.talk.specs.declared.asking.Command.TheVariants.{Suppose, Ask, TakeBack, Waiting, Model, Nothing}
use Rattle.talk.specs.declared.telling.Talk.{Talk}

-- a number, or past every bound
near : (n : ℕ) → (cut n ≡ n) ⊎ (VALUES < n)
near n = elim (dec_lt VALUES n) [ yes h ↦ inr h | no h ↦ inl (omega arith) ]

module _ (C : Closings) (s : Session) where
  -- no record has such a number
  past : So (intact C s) → (z : ℕ) → VALUES ≤ z → (frame_of s.trace).operation z ≡ false
  past i z h = off (λ o.
      let f = ((form-iff s.trace).0 ((openable-iff s.trace s.model).0 ((intact-iff C s).0 i).opens).form).fits in
      let l = ((operation-iff s.trace z).0 o).0 in
      omega arith)

  abbrev Past : ℕ → ℕ → Type 0
  Past u v = (VALUES ≤ u) ⊎ (VALUES ≤ v)

  none : So (intact C s) → (u v : ℕ) → Past u v → ((frame_of s.trace).operation u && (frame_of s.trace).operation v) ≡ false
  none i u v (inl h) = rw (past i u h) refl
  none i u v (inr h) = rw (past i v h) (and-false ((frame_of s.trace).operation u))

  abbrev stays : Reason → Reply
  stays r = record { answer = Refused r; session = s }

  supposes : (r : Reason) (u v : ℕ) → pair_turn C s u v ≡ Refused r → suppose_of C s u v ≡ stays r
  supposes r u v p = let e = suppose-pair C s u v (ap is_done p) ∙ p in sym (suppose-refused C s u v (Refused r) (sym e) refl)

  asks : (r : Reason) (u v : ℕ) → pair_turn C s u v ≡ Refused r → ask_of C s u v ≡ stays r
  asks r u v p = sym (ask-refused C s u v (Refused r) (sym p) refl)

  -- one answer to both
  one : (of : ℕ → ℕ → Reply) → ((r : Reason) (u v : ℕ) → pair_turn C s u v ≡ Refused r → of u v ≡ stays r) → (x y u v : ℕ) → Past x y → Past u v → of x y ≡ of u v
  one of h x y u v p q = elim (test (intact C s)) [
    | inl i ↦ h NoOperation x y (pair-fence C s x y i (none i x y p)) ∙ sym (h NoOperation u v (pair-fence C s u v i (none i u v q)))
    | inr n ↦ h Unlike x y (pair-unlike C s x y n) ∙ sym (h Unlike u v (pair-unlike C s u v n))
  ]

  both : (of : ℕ → ℕ → Reply) → ((r : Reason) (u v : ℕ) → pair_turn C s u v ≡ Refused r → of u v ≡ stays r) → (x y : ℕ) → of (cut x) (cut y) ≡ of x y
  both of h x y = elim (near x) [
    | inr p ↦ one of h (cut x) (cut y) x y (inl (omega arith)) (inl (omega arith))
    | inl p ↦ elim (near y) [
      | inr q ↦ one of h (cut x) (cut y) x y (inr (omega arith)) (inr (omega arith))
      | inl q ↦ ap₂ of p q
    ]
  ]

  pub suppose-cut : (x y : ℕ) → suppose_of C s (cut x) (cut y) ≡ suppose_of C s x y
  suppose-cut = both (suppose_of C s) supposes

  pub ask-cut : (x y : ℕ) → ask_of C s (cut x) (cut y) ≡ ask_of C s x y
  ask-cut = both (ask_of C s) asks

-- nor has a model
pub no-model : (n : ℕ) → MODELS < n → modelled n ≡ false
no-model n h = rw (lt-leb n MODELS (omega arith)) (and-false (ltb 0 n))

pub model-cut : (C : Closings) (k : Talk) (n : ℕ) → model_of C k (cut n) ≡ model_of C k n
unfolding model_of
model-cut C k n = elim (near n) [
  | inl p ↦ ap (model_of C k) p
  | inr p ↦ rw (no-model (cut n) (omega arith), no-model n (omega arith)) refl
]

pub asked-cut : (C : Closings) (k : Talk) (bytes : List ℕ) (c : Command) → asked_of C k bytes (cut_command c) ≡ asked_of C k bytes c
asked-cut C k bytes (Suppose x y) = ap (replied k) (suppose-cut C k.session x y)
asked-cut C k bytes (Ask x y) = ap (replied k) (ask-cut C k.session x y)
asked-cut C k bytes TakeBack = refl
asked-cut C k bytes Waiting = refl
asked-cut C k bytes (Model n) = model-cut C k n
asked-cut C k bytes Nothing = refl
