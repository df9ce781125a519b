-- `search::seek::stops`: any of the three stops.
use mathlib.Core.Bool.{false≢true}
use mathlib.Core.Logic.{inl, inr}
use Rattle.search.proofs.seek.stops.Goals as goal

pub returns-then-unread : goal.returns-then-unread
returns-then-unread c = λ t. inl (inl (c.unread.ensures c.if-unread.true))

pub returns-then-covered : goal.returns-then-covered
returns-then-covered c = λ t. inl (inr (c.covered.ensures c.if-covered.true))

pub returns-then-not-asks : goal.returns-then-not-asks
returns-then-not-asks c = λ t. absurd (false≢true t)

pub returns : goal.returns
returns c = λ t. inr (c.refuted.ensures t)
