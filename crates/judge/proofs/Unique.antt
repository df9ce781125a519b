-- No second answer meets the contract of a public function.
--
--   FUNCTION-settles == the contract settles what the function gives back
use mathlib.Core.Path.{◌∙◌, sym}
use Rattle.laws.specs.Settles.{Settles}
use Rattle.judge.proofs.judging.judge.Reads as judge
use Rattle.judge.proofs.judging.judge.Kinds as judge-kinds

pub judge-settles : Settles 1 judge-kinds.ps judge-kinds.r judge.Post
judge-settles κs a x y s t p q = p ∙ sym q
