-- The script that bytes are, or their first fault.
use Rattle.std.specs.Prelude.{◌≡◌, ◌≤◌, ◌<◌, ◌+◌, ◌++◌, ℕ, cond, List, [], ◌∷◌, Option, Some, None, option_map, length}
use Rattle.std.specs.Str.{is_utf8}
use Rattle.text_lines.specs.Lines.{is_comment, lines_of}
use Rattle.limits.specs.Limits.{most_bytes}
use Rattle.edit_script.specs.declared.commands.TheConstants.{MOST_COMMANDS}
use Rattle.edit_script.specs.declared.commands.Act.{Act}
use Rattle.edit_script.specs.declared.commands.ScriptCommand.{ScriptCommand}
use Rattle.edit_script.specs.declared.commands.ScriptFault.{ScriptFault}
use Rattle.edit_script.specs.declared.commands.ScriptFault.TheVariants as F
use Rattle.edit_script.specs.Acts.{said_by}

-- how many commands a script has at most
abbrev pub most_commands : ℕ
most_commands = MOST_COMMANDS

-- the act as a list of one command
abbrev pub on_line : ℕ → Act → List ScriptCommand
on_line n act = record { line = n; act = act } ∷ []

-- the commands that line n says: none where it is skipped, else one; it says nothing at all where
-- it isn't UTF-8 or has the wrong form
abbrev pub says : ℕ → List ℕ → Option (List ScriptCommand)
says n line = cond (is_utf8 line)
    (cond (is_comment line) (Some []) (option_map (on_line n) (said_by line))) None

-- the lines, of which the first has the number n, say the commands in order
abbrev pub Say : ℕ → List (List ℕ) → List ScriptCommand → Type 0
Say n [] commands = commands ≡ []
Say n (line ∷ lines) commands = (here : List ScriptCommand) × (others : List ScriptCommand)
    × (commands ≡ here ++ others) × (says n line ≡ Some here) × Say (n + 1) lines others

-- the bytes are this script
pub record IsScript (bytes : List ℕ) (commands : List ScriptCommand) : Type 0 where
  pub small : length bytes ≤ most_bytes
  pub say : Say 1 (lines_of bytes) commands
  pub few : length commands ≤ most_commands

-- line n is the first that has the wrong form
pub record IsFirstWrong (lines : List (List ℕ)) (n : ℕ) : Type 0 where
  pub before : List (List ℕ)
  pub line : List ℕ
  pub behind : List (List ℕ)
  pub split : lines ≡ before ++ line ∷ behind
  pub commands : List ScriptCommand
  pub say : Say 1 before commands
  pub number : n ≡ length before + 1
  pub wrong : says n line ≡ None

-- more commands than a script has
pub record AreMany (lines : List (List ℕ)) : Type 0 where
  pub commands : List ScriptCommand
  pub say : Say 1 lines commands
  pub many : most_commands < length commands

-- the first fault: too many bytes, then the first line that has the wrong form, then too many
-- commands
abbrev pub IsFault : List ℕ → ScriptFault → Type 0
IsFault bytes F.Large = most_bytes < length bytes
IsFault bytes (F.Line n) = (length bytes ≤ most_bytes) × IsFirstWrong (lines_of bytes) n
IsFault bytes F.Many = (length bytes ≤ most_bytes) × AreMany (lines_of bytes)
IsFault bytes F.Memory = ⊥
