-- The rounds as tests that compute. Each says what the notion of its name says; proofs/RuleTests.antt shows it.
--
--   step? f K P C x y     == some rule gives it
--   chains? f K P k x y   == a chain leads from x to y before round k
--   edge? f K P k x y     == round k has the edge x, y
use Rattle.std.specs.Prelude.{false, ℕ, zero, suc}
use Rattle.laws.specs.Tests.{any}
use Rattle.laws.specs.Relation.{Table}
use Rattle.laws.specs.Warshall.{chains}
use Rattle.rules.specs.Frame.{Frame}
use Rattle.rules.specs.RuleTests.{gives?}

unfoldable pub step? : Frame → Table → Table → Table → Table
step? f K P C x y = any 9 (gives? f K P C x y)

unfoldable pub chains? : Frame → Table → Table → ℕ → Table
chains? f K P zero = λ x y. false
chains? f K P (suc k) = let c = chains? f K P k in chains f.records (step? f K P c)

unfoldable pub edge? : Frame → Table → Table → ℕ → Table
edge? f K P k = step? f K P (chains? f K P k)
