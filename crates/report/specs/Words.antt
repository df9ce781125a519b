-- The words of an answer, as bytes.
--
--   sc        == `SC`
--   tso       == `TSO`
--   pso       == `PSO`
--   wmo       == `WMO`
--   names     == the models' names by their numbers; there is no model 0
--   colon     == `: `
--   order     == `order`
--   no_order  == `no order, `
--   no_source == `no source `
--   circle    == `circle`
--   by        == ` by`
--   none_left == `none left`
--   refused   == `refused `
--   on_line   == ` line `
--   SPACE     == a space
use Rattle.std.specs.Prelude.{List, [], ◌∷◌, ℕ}

abbrev pub SPACE : ℕ
SPACE = 32

abbrev pub sc : List ℕ
sc = 83 ∷ 67 ∷ []

abbrev pub tso : List ℕ
tso = 84 ∷ 83 ∷ 79 ∷ []

abbrev pub pso : List ℕ
pso = 80 ∷ 83 ∷ 79 ∷ []

abbrev pub wmo : List ℕ
wmo = 87 ∷ 77 ∷ 79 ∷ []

abbrev pub names : List (List ℕ)
names = [] ∷ sc ∷ tso ∷ pso ∷ wmo ∷ []

abbrev pub colon : List ℕ
colon = 58 ∷ 32 ∷ []

abbrev pub order : List ℕ
order = 111 ∷ 114 ∷ 100 ∷ 101 ∷ 114 ∷ []

abbrev pub no_order : List ℕ
no_order = 110 ∷ 111 ∷ 32 ∷ 111 ∷ 114 ∷ 100 ∷ 101 ∷ 114 ∷ 44 ∷ 32 ∷ []

abbrev pub no_source : List ℕ
no_source = 110 ∷ 111 ∷ 32 ∷ 115 ∷ 111 ∷ 117 ∷ 114 ∷ 99 ∷ 101 ∷ 32 ∷ []

abbrev pub circle : List ℕ
circle = 99 ∷ 105 ∷ 114 ∷ 99 ∷ 108 ∷ 101 ∷ []

abbrev pub by : List ℕ
by = 32 ∷ 98 ∷ 121 ∷ []

abbrev pub none_left : List ℕ
none_left = 110 ∷ 111 ∷ 110 ∷ 101 ∷ 32 ∷ 108 ∷ 101 ∷ 102 ∷ 116 ∷ []

abbrev pub refused : List ℕ
refused = 114 ∷ 101 ∷ 102 ∷ 117 ∷ 115 ∷ 101 ∷ 100 ∷ 32 ∷ []

abbrev pub on_line : List ℕ
on_line = 32 ∷ 108 ∷ 105 ∷ 110 ∷ 101 ∷ 32 ∷ []
