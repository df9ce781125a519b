-- No second answer meets the contract of a public function. Each contract is an equation, so each theorem is a line.
--
--   FUNCTION-settles == the contract settles what the function gives back
--   FUNCTION-shows   == the contract settles the part of the text that it hands back: where it lies and its bytes
--   FUNCTION-leaves  == the contract settles what the lent buffer holds
use mathlib.Core.Path.{◌∙◌, sym}
use Rattle.laws.specs.Settles.{Settles, Shows, Leaves}
use Rattle.text.specs.Part.{laid_part}
use Rattle.text.proofs.Part.{part-one}
use Rattle.text.proofs.Cursor.new.Reads as cursor-new
use Rattle.text.proofs.Cursor.new.Kinds as cursor-new-kinds
use Rattle.text.proofs.Cursor.next.Reads as cursor-next
use Rattle.text.proofs.Cursor.next.Kinds as cursor-next-kinds
use Rattle.text.proofs.walk.line_end.Reads as line-end
use Rattle.text.proofs.walk.line_end.Kinds as line-end-kinds
use Rattle.text.proofs.digits.class_of.Reads as class_of
use Rattle.text.proofs.digits.class_of.Kinds as class-of-kinds
use Rattle.text.proofs.digits.is_digit.Reads as is_digit
use Rattle.text.proofs.digits.is_digit.Kinds as is-digit-kinds
use Rattle.text.proofs.digits.run_at.Reads as run_at
use Rattle.text.proofs.digits.run_at.Kinds as run-at-kinds
use Rattle.text.proofs.digits.number_at.Reads as number_at
use Rattle.text.proofs.digits.number_at.Kinds as number-at-kinds
use Rattle.text.proofs.room.put.Reads as put
use Rattle.text.proofs.room.put.Kinds as put-kinds
use Rattle.text.proofs.templates.fit.Reads as fit
use Rattle.text.proofs.templates.fit.Kinds as fit-kinds
use Rattle.text.proofs.Cursor.line.Reads as cursor-line
use Rattle.text.proofs.Cursor.line.Kinds as cursor-line-kinds

pub cursor-new-settles : Settles 0 cursor-new-kinds.ps cursor-new-kinds.r cursor-new.Post
cursor-new-settles κs a x y s t p q = p ∙ sym q

pub cursor-next-settles : Settles 1 cursor-next-kinds.ps cursor-next-kinds.r cursor-next.Post
cursor-next-settles κs a x y s t p q = p ∙ sym q

pub line-end-settles : Settles 1 line-end-kinds.ps line-end-kinds.r line-end.Post
line-end-settles κs a x y s t p q = p ∙ sym q

pub class-of-settles : Settles 0 class-of-kinds.ps class-of-kinds.r class_of.Post
class-of-settles κs a x y s t p q = p ∙ sym q

pub is-digit-settles : Settles 0 is-digit-kinds.ps is-digit-kinds.r is_digit.Post
is-digit-settles κs a x y s t p q = p ∙ sym q

pub run-at-settles : Settles 1 run-at-kinds.ps run-at-kinds.r run_at.Post
run-at-settles κs a x y s t p q = p ∙ sym q

pub number-at-settles : Settles 1 number-at-kinds.ps number-at-kinds.r number_at.Post
number-at-settles κs a x y s t p q = p ∙ sym q

pub fit-settles : Settles 2 fit-kinds.ps fit-kinds.r fit.Post
fit-settles κs a x y s t p q = p ∙ sym q

pub cursor-line-shows : Shows 1 cursor-line-kinds.ps cursor-line-kinds.r (λ κs x. laid_part x) cursor-line.Post
cursor-line-shows κs a x y s t p q = part-one a.1.0 p q

pub put-settles : Settles 2 put-kinds.ps put-kinds.r put.Post
put-settles κs a x y s t p q = p.0 ∙ sym q.0

pub put-leaves : Leaves 2 put-kinds.ps put-kinds.r (λ κs s. s.1.0.now) put.Post
put-leaves κs a x y s t p q = p.1 ∙ sym q.1
