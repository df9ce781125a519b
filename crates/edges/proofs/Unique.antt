-- No second answer meets the contract of a public function.
--
--   FUNCTION-settles == the contract settles what the function gives back
use mathlib.Core.Path.{◌∙◌, sym}
use Rattle.laws.specs.Settles.{Settles}
use Rattle.rows.specs.Lent.{lent_of}
use Rattle.edges.proofs.KeptRows.{kept-rows-one}
use Rattle.edges.proofs.ForcedPairs.{rounded-one, rounded-by-one, forces-one, forces-by-one}
use Rattle.edges.proofs.RoundBefore.{prior-one}
use Rattle.edges.proofs.SourcesLaid.{sources-one}
use Rattle.edges.proofs.sources.sources_of.Reads as sources-of
use Rattle.edges.proofs.sources.sources_of.Kinds as sources-of-kinds
use Rattle.edges.proofs.sources.missing.Reads as missing
use Rattle.edges.proofs.sources.missing.Kinds as missing-kinds
use Rattle.edges.proofs.kept.kept_rows.Reads as kept-rows
use Rattle.edges.proofs.kept.kept_rows.Kinds as kept-rows-kinds
use Rattle.edges.proofs.force.last_round.Reads as last-round
use Rattle.edges.proofs.force.last_round.Kinds as last-round-kinds
use Rattle.edges.proofs.force.last_round_by.Reads as last-round-by
use Rattle.edges.proofs.force.last_round_by.Kinds as last-round-by-kinds
use Rattle.edges.proofs.force.round_before.Reads as round-before
use Rattle.edges.proofs.force.round_before.Kinds as round-before-kinds
use Rattle.edges.proofs.force.forced.Reads as forced
use Rattle.edges.proofs.force.forced.Kinds as forced-kinds
use Rattle.edges.proofs.force.forced_by.Reads as forced-by
use Rattle.edges.proofs.force.forced_by.Kinds as forced-by-kinds

pub kept-rows-settles : Settles 0 kept-rows-kinds.ps kept-rows-kinds.r kept-rows.Post
kept-rows-settles κs a x y s t p q = kept-rows-one a.0 a.1.0 x y p q

pub sources-of-settles : Settles 0 sources-of-kinds.ps sources-of-kinds.r sources-of.Post
sources-of-settles κs a x y s t p q = sources-one a.0 x y p q

pub missing-settles : Settles 0 missing-kinds.ps missing-kinds.r missing.Post
missing-settles κs a x y s t p q = p ∙ sym q

pub last-round-settles : Settles 1 last-round-kinds.ps last-round-kinds.r last-round.Post
last-round-settles κs a x y s t p q = rounded-one a.0 a.1.1.0.now a.1.0 x y p q

pub last-round-by-settles : Settles 2 last-round-by-kinds.ps last-round-by-kinds.r last-round-by.Post
last-round-by-settles κs a x y s t p q = rounded-by-one a.0 a.1.1.0.now (lent_of a.0 a.1.0.now) x y p q

pub round-before-settles : Settles 1 round-before-kinds.ps round-before-kinds.r round-before.Post
round-before-settles κs a x y s t p q = prior-one a.0 a.1.0 a.1.1.0.now a.1.1.1.0 a.1.1.1.1.0 a.1.1.1.1.1.0 x y p q

pub forced-settles : Settles 1 forced-kinds.ps forced-kinds.r forced.Post
forced-settles κs a x y s t p q = forces-one a.0 a.1.1.0.now a.1.0 x y p q

pub forced-by-settles : Settles 2 forced-by-kinds.ps forced-by-kinds.r forced-by.Post
forced-by-settles κs a x y s t p q = forces-by-one a.0 a.1.1.0.now (lent_of a.0 a.1.0.now) x y p q
