-- What a command takes as the code lists it, and what that is.
use Rattle.std.specs.Prelude.{ℕ, List, [], ◌∷◌, ◌++◌, map}
use Rattle.clap.specs.Words.{App, Rule, new_app}
use Rattle.command_words.specs.Options.{valued, needed, flag, output, file, files, list_options, unnamed, with_rules}
use Rattle.command_words.specs.declared.options.Taken.{Taken}
use Rattle.command_words.specs.declared.options.Taken.TheVariants.{Valued, Needed, Flag, Output, File, Files}

-- one of what a command takes
abbrev pub taken_rule : Taken → Rule
taken_rule (Valued name) = valued name.now
taken_rule (Needed name) = needed (valued name.now)
taken_rule (Flag name) = flag name.now
taken_rule Output = output
taken_rule File = file
taken_rule Files = files

-- the command of that name with its own options, those of each command that takes lists, and its
-- files
abbrev pub list_reader_of : List ℕ → List Taken → Taken → App
list_reader_of name own last =
    with_rules (with_rules (unnamed (new_app name)) (map taken_rule own))
    (list_options ++ taken_rule last ∷ [])
