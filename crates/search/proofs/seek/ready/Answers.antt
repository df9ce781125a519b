-- `search::seek::ready`: its two tests are the two parts.
use mathlib.Core.Bool.{false≢true}
use mathlib.Core.Path.{sym, ◌∙◌}
use Rattle.search.proofs.seek.ready.Goals as goal

pub returns-then-within : goal.returns-then-within
returns-then-within c = (λ t. record { after = c.within.ensures.0 c.if-within.true; quiet = c.quiet.ensures.0 t }, λ r. c.quiet.ensures.1 r.quiet)

pub returns-else-within : goal.returns-else-within
returns-else-within c = (λ t. absurd (false≢true (sym c.if-within.false ∙ t)), λ r. c.within.ensures.1 r.after)
