-- No second answer meets the contract of a public function.
--
--   FUNCTION-settles == the contract settles what the function gives back
--   lines-leave      == what is noted of any lines settles the talk after them
use mathlib.Core.Path.{◌≡◌, sym, ap, ◌∙◌}
use mathlib.Core.List.{List}
use Rattle.laws.specs.Settles.{Settles}
use Rattle.text.specs.Lines.{Line}
use Rattle.session.specs.Closings.{Closings}
use Rattle.session.proofs.Forcing.{closings-some}
use Rattle.talk.specs.Noted.{Notes, Sound, talk_of, talk_after, noted_after}
use Rattle.talk.proofs.Lasting.{lines-afresh}
use Rattle.talk.proofs.asking.command_of.Reads as command
use Rattle.talk.proofs.asking.command_of.Kinds as command-kinds
use Rattle.talk.proofs.telling.fresh.Reads as fresh
use Rattle.talk.proofs.telling.fresh.Kinds as fresh-kinds
use Rattle.talk.proofs.telling.answer.Reads as answer
use Rattle.talk.proofs.telling.answer.Kinds as answer-kinds

pub command-of-settles : Settles 1 command-kinds.ps command-kinds.r command.Post
command-of-settles κs a x y s t p q = p ∙ sym q

pub fresh-settles : Settles 0 fresh-kinds.ps fresh-kinds.r fresh.Post
fresh-settles κs a x y s t p q = p closings-some ∙ sym (q closings-some)

pub answer-settles : Settles 1 answer-kinds.ps answer-kinds.r answer.Post
answer-settles κs a x y s t p q = p closings-some ∙ sym (q closings-some)

-- the session is the one made afresh on the first values and records so far, under the model named last, with the pairs still standing
pub lines-leave : (C : Closings) (ls ls' : List Line) (q q' : Notes) → Sound q → Sound q' → noted_after q ls ≡ noted_after q' ls' → talk_after C (talk_of C q) ls ≡ talk_after C (talk_of C q') ls'
lines-leave C ls ls' q q' s s' e = lines-afresh C ls q s ∙ ap (talk_of C) e ∙ sym (lines-afresh C ls' q' s')
