use Prim.Native.Nat.{◌≤◌}
use lib.ListN.{take}
use Rattle.trace.specs.Meaning.{frame_of}
use Rattle.rows.specs.Rows.{bit}
use Rattle.rows.specs.Lent.{lent_of}
use Rattle.circle.specs.inner.NamedRules.{RulesNamed}
use Rattle.circle.proofs.show.name_rules.Given as goal

abbrev pub invariant-loop-i : goal.invariant-loop-i
invariant-loop-i l = (l.i ≤ l.len) × RulesNamed (frame_of l.t) (lent_of l.t l.kept) (bit l.chains) (take l.len l.operations) l.i l.initial.rules l.rules
