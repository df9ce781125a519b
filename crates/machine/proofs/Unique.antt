-- No second answer meets the contract of a public function.
--
--   FUNCTION-settles == the contract settles what the function gives back
use mathlib.Core.Path.{◌∙◌, sym}
use Rattle.laws.specs.Settles.{Settles}
use Rattle.machine.proofs.running.machined.Reads as machined
use Rattle.machine.proofs.running.machined.Kinds as machined-kinds
use Rattle.machine.proofs.running.run.Reads as run
use Rattle.machine.proofs.running.run.Kinds as run-kinds
use Rattle.machine.proofs.replaying.steps_of.Reads as steps_of
use Rattle.machine.proofs.replaying.steps_of.Kinds as steps-of-kinds

pub machined-settles : Settles 0 machined-kinds.ps machined-kinds.r machined.Post
machined-settles κs a x y s t p q = p ∙ sym q

pub run-settles : Settles 1 run-kinds.ps run-kinds.r run.Post
run-settles κs a x y s t p q = p ∙ sym q

pub steps-of-settles : Settles 1 steps-of-kinds.ps steps-of-kinds.r steps_of.Post
steps-of-settles κs a x y s t p q = p ∙ sym q
