-- How far a reader of a script has come.
use Rattle.std.specs.Prelude.{◌≡◌, ◌≤◌, ◌+◌, ◌++◌, ℕ, List, [], ◌∷◌, Option, None, Some, length, take}
use Rattle.limits.specs.Limits.{most_bytes}
use Rattle.text_lines.specs.Lines.{lines_of}
use Rattle.edit_script.specs.declared.commands.ScriptCommand.{ScriptCommand}
use Rattle.edit_script.specs.Scripts.{Say, most_commands}

-- the commands that are kept of all that were said: one more at most than a script has
abbrev pub kept : List ScriptCommand → List ScriptCommand
kept said = take (most_commands + 1) said

-- behind a line, what is kept of what was said before and here
abbrev pub IsNext : List ScriptCommand → List ScriptCommand → List ScriptCommand → Type 0
IsNext old here new = (said : List ScriptCommand) → old ≡ kept said → new ≡ kept (said ++ here)

-- the same of a line that says something
abbrev pub Takes : Option (List ScriptCommand) → List ScriptCommand → List ScriptCommand → Type 0
Takes says old new = (here : List ScriptCommand) × (says ≡ Some here) × IsNext old here new

-- the command as a list, where there is one
abbrev pub one_or_none : Option ScriptCommand → List ScriptCommand
one_or_none None = []
one_or_none (Some command) = command ∷ []

-- the commands of all lines, as far as they are kept
pub record Kept (bytes : List ℕ) (commands : List ScriptCommand) : Type 0 where
  pub said : List ScriptCommand
  pub say : Say 1 (lines_of bytes) said
  pub are : commands ≡ kept said

-- the lines before what is left say the commands, and the next line has the number
pub record HasRead (bytes rest : List ℕ) (number : ℕ) (commands : List ScriptCommand) : Type 0 where
  pub before : List (List ℕ)
  pub lines : lines_of bytes ≡ before ++ lines_of rest
  pub said : List ScriptCommand
  pub say : Say 1 before said
  pub are : commands ≡ kept said
  pub counts : number ≡ length before + 1
  pub room : number + length rest ≤ most_bytes + 1
