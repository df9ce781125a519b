-- The lines that make a call on the session of a talk. None of them is a trace's line: those begin with a digit or with `init`.
--
--   suppose_form, ask_form, model_form, back_form, waiting_form == the lines, a hole for each number
--   or_command hit make other == the call made of the numbers found, or what another line says
--   command_of line        == the call that a line makes, if any
--   cut_command c          == the same with its numbers cut, as the code holds it
use Rattle.std.specs.Prelude.{List, [], ◌∷◌, ℕ, get_or}
use Rattle.text.specs.Number.{cut}
use Rattle.text.specs.Template.{Hit, hit, miss, found}
use Rattle.talk.specs.declared.asking.Command.{Command}
use Rattle.talk.specs.declared.asking.Command.TheVariants.{Suppose, Ask, TakeBack, Waiting, Model, Nothing}

-- suppose # #
abbrev pub suppose_form : List ℕ
suppose_form = 115 ∷ 117 ∷ 112 ∷ 112 ∷ 111 ∷ 115 ∷ 101 ∷ 32 ∷ 35 ∷ 32 ∷ 35 ∷ []

-- ask # #
abbrev pub ask_form : List ℕ
ask_form = 97 ∷ 115 ∷ 107 ∷ 32 ∷ 35 ∷ 32 ∷ 35 ∷ []

-- model #
abbrev pub model_form : List ℕ
model_form = 109 ∷ 111 ∷ 100 ∷ 101 ∷ 108 ∷ 32 ∷ 35 ∷ []

-- take back
abbrev pub back_form : List ℕ
back_form = 116 ∷ 97 ∷ 107 ∷ 101 ∷ 32 ∷ 98 ∷ 97 ∷ 99 ∷ 107 ∷ []

-- waiting
abbrev pub waiting_form : List ℕ
waiting_form = 119 ∷ 97 ∷ 105 ∷ 116 ∷ 105 ∷ 110 ∷ 103 ∷ []

abbrev pub or_command : Hit → (List ℕ → Command) → Command → Command
or_command (hit ns) make other = make ns
or_command miss make other = other

abbrev pub suppose_from : List ℕ → Command
suppose_from ns = Suppose (get_or ns 0 0) (get_or ns 1 0)

abbrev pub ask_from : List ℕ → Command
ask_from ns = Ask (get_or ns 0 0) (get_or ns 1 0)

abbrev pub model_from : List ℕ → Command
model_from ns = Model (get_or ns 0 0)

abbrev pub back_from : List ℕ → Command
back_from ns = TakeBack

abbrev pub waiting_from : List ℕ → Command
waiting_from ns = Waiting

-- what is left to each line by those before it
abbrev pub waiting_else : List ℕ → Command
waiting_else line = or_command (found waiting_form line) waiting_from Nothing

abbrev pub back_else : List ℕ → Command
back_else line = or_command (found back_form line) back_from (waiting_else line)

abbrev pub model_else : List ℕ → Command
model_else line = or_command (found model_form line) model_from (back_else line)

abbrev pub ask_else : List ℕ → Command
ask_else line = or_command (found ask_form line) ask_from (model_else line)

unfoldable pub command_of : List ℕ → Command
command_of line = or_command (found suppose_form line) suppose_from (ask_else line)

abbrev pub cut_command : Command → Command
cut_command (Suppose x y) = Suppose (cut x) (cut y)
cut_command (Ask x y) = Ask (cut x) (cut y)
cut_command TakeBack = TakeBack
cut_command Waiting = Waiting
cut_command (Model n) = Model (cut n)
cut_command Nothing = Nothing
