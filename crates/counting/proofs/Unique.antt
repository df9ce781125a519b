-- No second answer meets the contract of a public function.
--
--   plain-search-settles == the contract settles what the function gives back
use mathlib.Core.Path.{sym, ◌∙◌}
use Rattle.laws.specs.Settles.{Settles}
use Rattle.counting.proofs.steps.plain_search.Reads as plain-search
use Rattle.counting.proofs.steps.plain_search.Kinds as plain-search-kinds

pub plain-search-settles : Settles 0 plain-search-kinds.ps plain-search-kinds.r plain-search.Post
plain-search-settles κs a x y s t p q = p ∙ sym q
