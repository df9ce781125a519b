-- No second answer meets the contract of a public function. Each contract is an equation, so each theorem is a line.
--
--   FUNCTION-settles == the contract settles what the function gives back
--   FUNCTION-shows   == the contract settles the part of the text that it hands back: where it lies and its bytes
use mathlib.Core.Path.{◌∙◌, sym}
use Rattle.laws.specs.Settles.{Settles, Shows}
use Rattle.text.specs.Part.{laid_part}
use Rattle.text.proofs.Part.{part-one}
use Rattle.reader.proofs.forms.form.Reads as form
use Rattle.reader.proofs.forms.form.Kinds as form-kinds
use Rattle.reader.proofs.forms.init.Reads as init
use Rattle.reader.proofs.forms.init.Kinds as init-kinds
use Rattle.reader.proofs.turns.number.Reads as number
use Rattle.reader.proofs.turns.number.Kinds as number-kinds
use Rattle.reader.proofs.turns.in_bounds.Reads as in_bounds
use Rattle.reader.proofs.turns.in_bounds.Kinds as in-bounds-kinds
use Rattle.reader.proofs.turns.one_address.Reads as one_address
use Rattle.reader.proofs.turns.one_address.Kinds as one-address-kinds
use Rattle.reader.proofs.turns.joined.Reads as joined
use Rattle.reader.proofs.turns.joined.Kinds as joined-kinds
use Rattle.reader.proofs.turns.checked.Reads as checked
use Rattle.reader.proofs.turns.checked.Kinds as checked-kinds
use Rattle.reader.proofs.turns.turned.Reads as turned
use Rattle.reader.proofs.turns.turned.Kinds as turned-kinds
use Rattle.reader.proofs.turns.begin.Reads as begin
use Rattle.reader.proofs.turns.begin.Kinds as begin-kinds
use Rattle.reader.proofs.read.Reads as read
use Rattle.reader.proofs.read.Kinds as read-kinds
use Rattle.reader.proofs.bad_place.Reads as bad-place
use Rattle.reader.proofs.bad_place.Kinds as bad-place-kinds
use Rattle.reader.proofs.read_whole.Reads as read_whole
use Rattle.reader.proofs.read_whole.Kinds as read-whole-kinds
use Rattle.reader.proofs.bad_line.Reads as bad-line
use Rattle.reader.proofs.bad_line.Kinds as bad-line-kinds

pub form-settles : Settles 1 form-kinds.ps form-kinds.r form.Post
form-settles κs a x y s t p q = p ∙ sym q

pub init-settles : Settles 1 init-kinds.ps init-kinds.r init.Post
init-settles κs a x y s t p q = p ∙ sym q

pub number-settles : Settles 0 number-kinds.ps number-kinds.r number.Post
number-settles κs a x y s t p q = p ∙ sym q

pub in-bounds-settles : Settles 0 in-bounds-kinds.ps in-bounds-kinds.r in_bounds.Post
in-bounds-settles κs a x y s t p q = p ∙ sym q

pub one-address-settles : Settles 0 one-address-kinds.ps one-address-kinds.r one_address.Post
one-address-settles κs a x y s t p q = p ∙ sym q

pub joined-settles : Settles 0 joined-kinds.ps joined-kinds.r joined.Post
joined-settles κs a x y s t p q = p ∙ sym q

pub checked-settles : Settles 0 checked-kinds.ps checked-kinds.r checked.Post
checked-settles κs a x y s t p q = p ∙ sym q

pub turned-settles : Settles 1 turned-kinds.ps turned-kinds.r turned.Post
turned-settles κs a x y s t p q = p ∙ sym q

pub begin-settles : Settles 2 begin-kinds.ps begin-kinds.r begin.Post
begin-settles κs a x y s t p q = p ∙ sym q

pub read-settles : Settles 1 read-kinds.ps read-kinds.r read.Post
read-settles κs a x y s t p q = p ∙ sym q

pub bad-place-settles : Settles 1 bad-place-kinds.ps bad-place-kinds.r bad-place.Post
bad-place-settles κs a x y s t p q = p ∙ sym q

pub read-whole-settles : Settles 1 read-whole-kinds.ps read-whole-kinds.r read_whole.Post
read-whole-settles κs a x y s t p q = p ∙ sym q

pub bad-line-shows : Shows 1 bad-line-kinds.ps bad-line-kinds.r (λ κs x. laid_part x) bad-line.Post
bad-line-shows κs a x y s t p q = part-one a.0 p q
