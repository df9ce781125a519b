-- The four line forms: a line is of a form exactly when it is the rendering of some raw record, whose numbers may be of any size.
--
--   thread_then rest                          == a form that goes on with `rest` behind the thread
--   store_rest, load_rest, swap_rest, sync      == what stands behind the thread in each form, a hole for each number
--   store_form, load_form, swap_form, fence_form == the forms
--   render raw      == the line of a raw record
--   form_of line    == the raw record that a line renders, if any
--   cut_form form   == the same with its numbers cut, as the code holds it
--   render_op op    == the line of a record
--   init a v        == an init line's address and value
--   init_of line    == those of the init line that a line is, if it is one
--   cut_init i      == the same cut, as the code holds them
use Rattle.std.specs.Prelude.{List, [], ◌∷◌, ℕ, get_or, Option, Some, None}
use Rattle.trace.specs.declared.Op.{Op}
use Rattle.trace.specs.declared.Op.TheVariants as op
use Rattle.text.specs.Number.{cut}
use Rattle.text.specs.Template.{Hit, hit, miss, fill, found}
use Rattle.reader.specs.declared.Raw.{Raw}
use Rattle.reader.specs.declared.Raw.TheVariants.{Load, Store, Swap, Fence}
use Rattle.reader.specs.declared.Init.{Init}

-- every form begins with the thread, a colon and a space:  #:
abbrev pub thread_then : List ℕ → List ℕ
thread_then rest = 35 ∷ 58 ∷ 32 ∷ rest

-- M[#] := #
abbrev pub store_rest : List ℕ
store_rest = 77 ∷ 91 ∷ 35 ∷ 93 ∷ 32 ∷ 58 ∷ 61 ∷ 32 ∷ 35 ∷ []

-- M[#] == #
abbrev pub load_rest : List ℕ
load_rest = 77 ∷ 91 ∷ 35 ∷ 93 ∷ 32 ∷ 61 ∷ 61 ∷ 32 ∷ 35 ∷ []

-- { M[#] == #; M[#] := # }
abbrev pub swap_rest : List ℕ
swap_rest =
    123 ∷ 32 ∷ 77 ∷ 91 ∷ 35 ∷ 93 ∷ 32 ∷ 61 ∷ 61 ∷ 32 ∷ 35 ∷ 59 ∷ 32 ∷ 77 ∷ 91 ∷ 35 ∷ 93 ∷ 32 ∷ 58 ∷ 61 ∷ 32 ∷ 35 ∷ 32 ∷ 125 ∷ []

-- the word sync is the four bytes 73 79 6E 63
abbrev pub sync : List ℕ
sync = 0x73 ∷ 0x79 ∷ 0x6E ∷ 0x63 ∷ []

abbrev pub store_form : List ℕ
store_form = thread_then store_rest

abbrev pub load_form : List ℕ
load_form = thread_then load_rest

abbrev pub swap_form : List ℕ
swap_form = thread_then swap_rest

abbrev pub fence_form : List ℕ
fence_form = thread_then sync

unfoldable pub render : Raw → List ℕ
render (Load t a r) = fill load_form (t ∷ a ∷ r ∷ [])
render (Store t a w) = fill store_form (t ∷ a ∷ w ∷ [])
render (Swap t a r b w) = fill swap_form (t ∷ a ∷ r ∷ b ∷ w ∷ [])
render (Fence t) = fill fence_form (t ∷ [])

-- the record made of the numbers found, or what another form says
abbrev pub or_else : Hit → (List ℕ → Raw) → Option Raw → Option Raw
or_else (hit ns) make other = Some (make ns)
or_else miss make other = other

abbrev pub load_of : List ℕ → Raw
load_of ns = Load (get_or ns 0 0) (get_or ns 1 0) (get_or ns 2 0)

abbrev pub store_of : List ℕ → Raw
store_of ns = Store (get_or ns 0 0) (get_or ns 1 0) (get_or ns 2 0)

abbrev pub swap_of : List ℕ → Raw
swap_of ns = Swap (get_or ns 0 0) (get_or ns 1 0) (get_or ns 2 0) (get_or ns 3 0) (get_or ns 4 0)

abbrev pub fence_of : List ℕ → Raw
fence_of ns = Fence (get_or ns 0 0)

unfoldable pub form_of : List ℕ → Option Raw
form_of line =
    or_else (found store_form line) store_of
    (or_else (found load_form line) load_of
    (or_else (found swap_form line) swap_of
    (or_else (found fence_form line) fence_of None)))

abbrev pub cut_raw : Raw → Raw
cut_raw (Load t a r) = Load (cut t) (cut a) (cut r)
cut_raw (Store t a w) = Store (cut t) (cut a) (cut w)
cut_raw (Swap t a r b w) = Swap (cut t) (cut a) (cut r) (cut b) (cut w)
cut_raw (Fence t) = Fence (cut t)

abbrev pub cut_form : Option Raw → Option Raw
cut_form (Some raw) = Some (cut_raw raw)
cut_form None = None

-- init: M[#] := #
abbrev pub init_form : List ℕ
init_form = 105 ∷ 110 ∷ 105 ∷ 116 ∷ 58 ∷ 32 ∷ store_rest

unfoldable pub render_init : ℕ → ℕ → List ℕ
render_init a v = fill init_form (a ∷ v ∷ [])

abbrev pub init : ℕ → ℕ → Init
init a v = record { addr = a; value = v }

abbrev pub init_hit : Hit → Option Init
init_hit (hit ns) = Some (init (get_or ns 0 0) (get_or ns 1 0))
init_hit miss = None

unfoldable pub init_of : List ℕ → Option Init
init_of line = init_hit (found init_form line)

abbrev pub cut_init : Option Init → Option Init
cut_init (Some i) = Some (init (cut i.addr) (cut i.value))
cut_init None = None

-- a record as a raw one: a swap's address stands twice
abbrev pub raw_of : Op → Raw
raw_of (op.Load t a r) = Load t a r
raw_of (op.Store t a w) = Store t a w
raw_of (op.Swap t a r w) = Swap t a r a w
raw_of (op.Fence t) = Fence t

abbrev pub render_op : Op → List ℕ
render_op o = render (raw_of o)
