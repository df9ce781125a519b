-- When a contract leaves room for one answer only. It speaks of the contract as the checker reads it, `Reads.Post` of a function (of n lifetimes,
-- parameters ps and result r: the function's Kinds), so that a changed clause changes what a theorem about it says.
--
--   Settles Post     == for the same arguments no second result meets the contract
--   Shows see Post   == nor a second part of lent memory, as `see` reads what is handed back
--   Leaves look Post == nor does it leave lent memory in a second state, as `look` reads it
use Rattle.std.specs.Prelude.{◌≡◌, List, ℕ}
use contract.Lifetimes.{Lfts}
use denote.Triple.Clauses.{AtExit}
use borrow.Fn.Kinds.{ParamKind, ResultKind, Dens, Out, res_t, ended_of}

module _ (n : ℕ) (ps : List (ParamKind n)) (r : ResultKind n) where
  abbrev pub Settles : Out n ps r → Type 0
  Settles Post = (κs : Lfts n) (a : Dens κs ps) (x y : (res_t r κs).Denot) (s t : AtExit (ended_of n ps r) κs) → Post κs a x s → Post κs a y t → x ≡ y

  abbrev pub Shows : ((κs : Lfts n) → (res_t r κs).Denot → List ℕ) → Out n ps r → Type 0
  Shows see Post = (κs : Lfts n) (a : Dens κs ps) (x y : (res_t r κs).Denot) (s t : AtExit (ended_of n ps r) κs) → Post κs a x s → Post κs a y t → see κs x ≡ see κs y

  abbrev pub Leaves : ((κs : Lfts n) → AtExit (ended_of n ps r) κs → List ℕ) → Out n ps r → Type 0
  Leaves look Post = (κs : Lfts n) (a : Dens κs ps) (x y : (res_t r κs).Denot) (s t : AtExit (ended_of n ps r) κs) → Post κs a x s → Post κs a y t → look κs s ≡ look κs t
