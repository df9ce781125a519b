-- A line behind its thread and colon. Every form begins with those, so the code reads them once.
--
--   load_else, swap_else, fence_else == what is left to the second form, the third, the last
--   plain_of, exchange_of, sync_of   == the same where only a store or load, only a swap, only a fence can be meant
--   first_form thread rest == the raw record of the first form that gives `rest` behind the thread
--   behind_of thread rest == the same with its numbers cut, as the code holds it
use Rattle.std.specs.Prelude.{List, ℕ, Option, None}
use Rattle.text.specs.Template.{also, found}
use Rattle.reader.specs.LineForms.{store_rest, load_rest, swap_rest, sync, or_else, store_of, load_of, swap_of, fence_of, cut_form}
use Rattle.reader.specs.declared.Raw.{Raw}

-- what is left to each form by those before it
abbrev pub fence_else : ℕ → List ℕ → Option Raw
fence_else thread rest = or_else (also thread (found sync rest)) fence_of None

abbrev pub swap_else : ℕ → List ℕ → Option Raw
swap_else thread rest = or_else (also thread (found swap_rest rest)) swap_of (fence_else thread rest)

abbrev pub load_else : ℕ → List ℕ → Option Raw
load_else thread rest = or_else (also thread (found load_rest rest)) load_of (swap_else thread rest)

abbrev pub first_form : ℕ → List ℕ → Option Raw
first_form thread rest = or_else (also thread (found store_rest rest)) store_of (load_else thread rest)

-- the first byte tells which form can be meant
abbrev pub plain_of : ℕ → List ℕ → Option Raw
plain_of thread rest = or_else (also thread (found store_rest rest)) store_of (or_else (also thread (found load_rest rest)) load_of None)

abbrev pub exchange_of : ℕ → List ℕ → Option Raw
exchange_of thread rest = or_else (also thread (found swap_rest rest)) swap_of None

abbrev pub sync_of : ℕ → List ℕ → Option Raw
sync_of thread rest = fence_else thread rest

abbrev pub behind_of : ℕ → List ℕ → Option Raw
behind_of thread rest = cut_form (first_form thread rest)
