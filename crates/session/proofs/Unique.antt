-- No second answer meets the contract of a public function.
--
--   FUNCTION-settles == the contract settles what the function gives back
use mathlib.Core.Path.{◌∙◌, sym}
use Rattle.laws.specs.Settles.{Settles}
use Rattle.session.proofs.Forcing.{closings-some}
use Rattle.session.proofs.calls.open.Reads as opens
use Rattle.session.proofs.calls.open.Kinds as open-kinds
use Rattle.session.proofs.calls.afresh.Reads as afresh
use Rattle.session.proofs.calls.afresh.Kinds as afresh-kinds
use Rattle.session.proofs.calls.suppose.Reads as suppose
use Rattle.session.proofs.calls.suppose.Kinds as suppose-kinds
use Rattle.session.proofs.calls.take_back.Reads as take_back
use Rattle.session.proofs.calls.take_back.Kinds as take-back-kinds
use Rattle.session.proofs.calls.ask.Reads as ask
use Rattle.session.proofs.calls.ask.Kinds as ask-kinds
use Rattle.session.proofs.calls.add.Reads as add
use Rattle.session.proofs.calls.add.Kinds as add-kinds
use Rattle.session.proofs.calls.waiting.Reads as waiting
use Rattle.session.proofs.calls.waiting.Kinds as waiting-kinds

pub open-settles : Settles 0 open-kinds.ps open-kinds.r opens.Post
open-settles κs a x y s t p q = p closings-some ∙ sym (q closings-some)

pub afresh-settles : Settles 0 afresh-kinds.ps afresh-kinds.r afresh.Post
afresh-settles κs a x y s t p q = p closings-some ∙ sym (q closings-some)

pub suppose-settles : Settles 0 suppose-kinds.ps suppose-kinds.r suppose.Post
suppose-settles κs a x y s t p q = p closings-some ∙ sym (q closings-some)

pub take-back-settles : Settles 0 take-back-kinds.ps take-back-kinds.r take_back.Post
take-back-settles κs a x y s t p q = p closings-some ∙ sym (q closings-some)

pub ask-settles : Settles 0 ask-kinds.ps ask-kinds.r ask.Post
ask-settles κs a x y s t p q = p closings-some ∙ sym (q closings-some)

pub add-settles : Settles 0 add-kinds.ps add-kinds.r add.Post
add-settles κs a x y s t p q = p closings-some ∙ sym (q closings-some)

pub waiting-settles : Settles 0 waiting-kinds.ps waiting-kinds.r waiting.Post
waiting-settles κs a x y s t p q = p closings-some ∙ sym (q closings-some)
