-- What any list of calls comes to.
--
--   session_after C s cs  == the session after the calls, turned back or not
--   pairs_after t ps a    == the pairs that stand after a call, where ps stood before it
--   recorded t a         == the trace after a call: none takes a record back
--   recorded_after t cs, standing_after t ps cs == the same for any calls
--   suppose_all ps        == the calls that suppose the pairs of a list in turn
use Rattle.std.specs.Prelude.{cond, ◌&&◌, List, [], ◌∷◌, ◌++◌, ◌-◌, ltb, length, take}
use Rattle.trace.specs.Trace.{pushed}
use Rattle.trace.specs.declared.Trace.{Trace}
use Rattle.session.specs.Bounds.{PAIRS}
use Rattle.session.specs.Stack.{supposable}
use Rattle.session.specs.Closings.{Closings}
use Rattle.session.specs.Entries.{joins}
use Rattle.session.specs.Numbers.{Act, supposes, takes_back, asks, adds, awaits, reply_of}
use Rattle.session.specs.declared.Pair.{Pair}
use Rattle.session.specs.declared.Session.{Session}

unfoldable pub session_after : Closings → Session → List Act → Session
session_after C s [] = s
session_after C s (a ∷ cs) = session_after C (reply_of C s a).session cs

abbrev pub pairs_after : Trace → List Pair → Act → List Pair
pairs_after t ps (supposes x y) = cond (supposable t (record { first = x; second = y }) && ltb (length ps) PAIRS) (ps ++ record { first = x; second = y } ∷ []) ps
pairs_after t ps takes_back = take (length ps - 1) ps
pairs_after t ps (asks x y) = ps
pairs_after t ps (adds o) = ps
pairs_after t ps awaits = ps

abbrev pub recorded : Trace → Act → Trace
recorded t (supposes x y) = t
recorded t takes_back = t
recorded t (asks x y) = t
recorded t (adds o) = cond (joins t o) (pushed t o) t
recorded t awaits = t

unfoldable pub recorded_after : Trace → List Act → Trace
recorded_after t [] = t
recorded_after t (a ∷ cs) = recorded_after (recorded t a) cs

unfoldable pub standing_after : Trace → List Pair → List Act → List Pair
standing_after t ps [] = ps
standing_after t ps (a ∷ cs) = standing_after (recorded t a) (pairs_after t ps a) cs

unfoldable pub suppose_all : List Pair → List Act
suppose_all [] = []
suppose_all (p ∷ ps) = supposes p.first p.second ∷ suppose_all ps
