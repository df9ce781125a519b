-- No second answer meets the contract of a public function. Of the functions over the struct it is shown first what their clause says, as the checker
-- reads it.
--
--   FUNCTION-settles == the contract settles what the function gives back
--   FUNCTION-shows   == the contract settles the part of the text that it hands back: where it lies and its bytes
--   FUNCTION-says    == the clause of a function over the struct is this statement of what comes back, and nothing else
--   FUNCTION-read-settles, FUNCTION-read-shows == the same of that contract as Reads has it
use mathlib.Core.Path.{◌≡◌, refl, ◌∙◌, sym}
use mathlib.Core.List.{List}
use Prim.Native.Nat.{ℕ}
use seplogic.Ra.Ura.{Ura}
use base.Logic.{SProp}
use prog.Memory.{Memory}
use prog.Routine.{Routine}
use types.Logic.{Logic}
use contract.Lifetimes.{Lfts}
use contract.Monad.{Fun, fact}
use denote.Ref.{Bor}
use denote.Triple.Clauses.{AtExit}
use Rattle.laws.specs.Settles.{Settles, Shows}
use Rattle.text.specs.Lines.{next_at}
use Rattle.text.specs.Part.{LineOf, laid_part}
use Rattle.text.proofs.Part.{part-one}
use Rattle.lines.specs.declared.Reader.{Reader}
use Rattle.lines.specs.contracts.new as new
use Rattle.lines.specs.contracts.line as line
use Rattle.lines.specs.contracts.next as next
use Rattle.lines.proofs.new.Reads as new-reads
use Rattle.lines.proofs.new.Kinds as new-kinds
use Rattle.lines.proofs.line.Reads as line-reads
use Rattle.lines.proofs.line.Kinds as line-kinds
use Rattle.lines.proofs.next.Reads as next-reads
use Rattle.lines.proofs.next.Kinds as next-kinds
use Rattle.lines.proofs.line_at.Reads as line-at
use Rattle.lines.proofs.line_at.Kinds as line-at-kinds
use Rattle.lines.proofs.next_at.Reads as next-at
use Rattle.lines.proofs.next_at.Kinds as next-at-kinds

pub line-at-shows : Shows 1 line-at-kinds.ps line-at-kinds.r (λ κs x. laid_part x) line-at.Post
line-at-shows κs a x y s t p q = part-one a.0 p q

pub next-at-settles : Settles 1 next-at-kinds.ps next-at-kinds.r next-at.Post
next-at-settles κs a x y s t p q = p ∙ sym q

-- what the three over the struct promise
abbrev New : Bor (List ℕ) → Reader → Type 0
New text r = (r.text ≡ text) × (r.at ≡ 0)

abbrev Next : Reader → Reader → Type 0
Next r s = (s.text ≡ r.text) × (s.at ≡ next_at r.text.now r.at)

module _ {M : Type 1} {𝓤 : Ura M} (𝓛 : Logic 𝓤) (mem : Memory → SProp 𝓤) (run : Routine → Fun 𝓤) (κs : Lfts 1) where
  pub new-says : (text : Bor (List ℕ)) (g : (new.clauses 𝓛 mem run κs (text, tt)).ghost) (x : Reader) (s : AtExit new.ended κs) → (new.clauses 𝓛 mem run κs (text, tt)).ensures g x s ≡ fact 𝓤 (New text x)
  new-says text g x s = refl

  pub line-says : (r : Reader) (g : (line.clauses 𝓛 mem run κs (r, tt)).ghost) (x : Bor (List ℕ)) (s : AtExit line.ended κs) → (line.clauses 𝓛 mem run κs (r, tt)).ensures g x s ≡ fact 𝓤 (LineOf r.text r.at x)
  line-says r g x s = refl

  pub next-says : (r : Reader) (g : (next.clauses 𝓛 mem run κs (r, tt)).ghost) (x : Reader) (s : AtExit next.ended κs) → (next.clauses 𝓛 mem run κs (r, tt)).ensures g x s ≡ fact 𝓤 (Next r x)
  next-says r g x s = refl

pub new-settles : (text : Bor (List ℕ)) (x y : Reader) → New text x → New text y → x ≡ y
new-settles text x y p q i = record { text = (p.0 ∙ sym q.0) i; at = (p.1 ∙ sym q.1) i }

pub line-shows : (r : Reader) (x y : Bor (List ℕ)) → LineOf r.text r.at x → LineOf r.text r.at y → laid_part x ≡ laid_part y
line-shows r x y p q = part-one r.text p q

pub next-settles : (r x y : Reader) → Next r x → Next r y → x ≡ y
next-settles r x y p q i = record { text = (p.0 ∙ sym q.0) i; at = (p.1 ∙ sym q.1) i }

-- the same of their contracts as every other function's is told
pub new-read-settles : Settles 1 new-kinds.ps new-kinds.r new-reads.Post
new-read-settles κs a x y s t p q = new-settles a.0 x y p q

pub line-read-shows : Shows 1 line-kinds.ps line-kinds.r (λ κs x. laid_part x) line-reads.Post
line-read-shows κs a x y s t p q = line-shows a.0 x y p q

pub next-read-settles : Settles 1 next-kinds.ps next-kinds.r next-reads.Post
next-read-settles κs a x y s t p q = next-settles a.0 x y p q
