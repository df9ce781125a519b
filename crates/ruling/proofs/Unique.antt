-- No second answer meets the contract of a public function.
--
--   FUNCTION-settles == the contract settles what the function gives back
use mathlib.Core.Path.{◌∙◌, sym}
use Rattle.laws.specs.Settles.{Settles}
use Rattle.ruling.proofs.lowest_rule.Reads as lowest-rule
use Rattle.ruling.proofs.lowest_rule.Kinds as lowest-rule-kinds
use Rattle.ruling.proofs.lowest_rule_by.Reads as lowest-rule-by
use Rattle.ruling.proofs.lowest_rule_by.Kinds as lowest-rule-by-kinds
use Rattle.ruling.proofs.gives.Reads as gives
use Rattle.ruling.proofs.gives.Kinds as gives-kinds

pub lowest-rule-settles : Settles 1 lowest-rule-kinds.ps lowest-rule-kinds.r lowest-rule.Post
lowest-rule-settles κs a x y s t p q = p ∙ sym q

pub lowest-rule-by-settles : Settles 2 lowest-rule-by-kinds.ps lowest-rule-by-kinds.r lowest-rule-by.Post
lowest-rule-by-settles κs a x y s t p q = p ∙ sym q

pub gives-settles : Settles 1 gives-kinds.ps gives-kinds.r gives.Post
gives-settles κs a x y s t p q = p ∙ sym q
