-- No second answer meets the contract of a public function. Where a contract is an equation, its theorem is a line.
--
--   FUNCTION-settles == the contract settles what the function gives back
use mathlib.Core.Path.{◌∙◌, sym}
use Rattle.laws.specs.Settles.{Settles}
use Rattle.pairs.proofs.kind.Reads as kind
use Rattle.pairs.proofs.kind.Kinds as kind-kinds
use Rattle.pairs.proofs.modelled.Reads as modelled
use Rattle.pairs.proofs.modelled.Kinds as modelled-kinds
use Rattle.pairs.proofs.kept_by.Reads as kept_by
use Rattle.pairs.proofs.kept_by.Kinds as kept-by-kinds
use Rattle.pairs.proofs.op_at.Reads as op-at
use Rattle.pairs.proofs.op_at.Kinds as op-at-kinds
use Rattle.pairs.proofs.kept_pair.Reads as Kept-pair
use Rattle.pairs.proofs.kept_pair.Kinds as kept-pair-kinds
use Rattle.pairs.proofs.fenced.Reads as fenced
use Rattle.pairs.proofs.fenced.Kinds as fenced-kinds
use Rattle.pairs.proofs.kept.Reads as kept
use Rattle.pairs.proofs.kept.Kinds as kept-kinds
use Rattle.pairs.proofs.source_of.Reads as source_of
use Rattle.pairs.proofs.source_of.Kinds as source-of-kinds
use Rattle.pairs.proofs.frame.operation.Reads as operation
use Rattle.pairs.proofs.frame.operation.Kinds as operation-kinds
use Rattle.pairs.proofs.frame.earlier_by.Reads as earlier-by
use Rattle.pairs.proofs.frame.earlier_by.Kinds as earlier-by-kinds
use Rattle.pairs.proofs.frame.earlier.Reads as earlier
use Rattle.pairs.proofs.frame.earlier.Kinds as earlier-kinds
use Rattle.pairs.proofs.frame.writer_by.Reads as writer-by
use Rattle.pairs.proofs.frame.writer_by.Kinds as writer-by-kinds
use Rattle.pairs.proofs.frame.writer.Reads as writer
use Rattle.pairs.proofs.frame.writer.Kinds as writer-kinds
use Rattle.pairs.proofs.frame.source.Reads as source
use Rattle.pairs.proofs.frame.source.Kinds as source-kinds
use Rattle.pairs.proofs.frame.begins.Reads as begins
use Rattle.pairs.proofs.frame.begins.Kinds as begins-kinds

pub kind-settles : Settles 0 kind-kinds.ps kind-kinds.r kind.Post
kind-settles κs a x y s t p q = p ∙ sym q

pub modelled-settles : Settles 0 modelled-kinds.ps modelled-kinds.r modelled.Post
modelled-settles κs a x y s t p q = p ∙ sym q

pub kept-by-settles : Settles 0 kept-by-kinds.ps kept-by-kinds.r kept_by.Post
kept-by-settles κs a x y s t p q = p ∙ sym q

pub op-at-settles : Settles 0 op-at-kinds.ps op-at-kinds.r op-at.Post
op-at-settles κs a x y s t p q = p ∙ sym q

pub kept-pair-settles : Settles 0 kept-pair-kinds.ps kept-pair-kinds.r Kept-pair.Post
kept-pair-settles κs a x y s t p q = p ∙ sym q

pub fenced-settles : Settles 0 fenced-kinds.ps fenced-kinds.r fenced.Post
fenced-settles κs a x y s t p q = p ∙ sym q

pub kept_settles : Settles 0 kept-kinds.ps kept-kinds.r kept.Post
kept_settles κs a x y s t p q = p ∙ sym q

pub source-of-settles : Settles 0 source-of-kinds.ps source-of-kinds.r source_of.Post
source-of-settles κs a x y s t p q = p ∙ sym q

pub operation-settles : Settles 0 operation-kinds.ps operation-kinds.r operation.Post
operation-settles κs a x y s t p q = p ∙ sym q

pub earlier-by-settles : Settles 0 earlier-by-kinds.ps earlier-by-kinds.r earlier-by.Post
earlier-by-settles κs a x y s t p q = p ∙ sym q

pub earlier-settles : Settles 0 earlier-kinds.ps earlier-kinds.r earlier.Post
earlier-settles κs a x y s t p q = p ∙ sym q

pub writer-by-settles : Settles 0 writer-by-kinds.ps writer-by-kinds.r writer-by.Post
writer-by-settles κs a x y s t p q = p ∙ sym q

pub writer-settles : Settles 0 writer-kinds.ps writer-kinds.r writer.Post
writer-settles κs a x y s t p q = p ∙ sym q

pub source-settles : Settles 0 source-kinds.ps source-kinds.r source.Post
source-settles κs a x y s t p q = p ∙ sym q

pub begins-settles : Settles 0 begins-kinds.ps begins-kinds.r begins.Post
begins-settles κs a x y s t p q = p ∙ sym q
