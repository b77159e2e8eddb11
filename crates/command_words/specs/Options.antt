-- The options and the positional words of each command, as one simple command of `clap`.
use Rattle.std.specs.Prelude.{ℕ, List, [], ◌∷◌, ◌++◌, Some, codes, true}
use Rattle.clap.specs.Lexer.{usize_max}
use Rattle.clap.specs.Words.{App, Rule, new_app, new_rule, with_rule}
use Rattle.clap.specs.declared.builder.action.ArgAction.TheVariants.{Append, Set, SetTrue}
use Rattle.command_words.specs.Names.{word_of}
use Rattle.command_words.specs.declared.names.Verb.{Verb}
use Rattle.command_words.specs.declared.names.Verb.TheVariants.{Convert, Cat, Stat, Tool, Frames, Edit, Drill, Pull, Media}

-- the option `--NAME`, which takes a value
abbrev pub valued : List ℕ → Rule
valued name = record (new_rule name) { long = Some name; action = Some Set }

-- the flag `--NAME`, which takes none
abbrev pub flag : List ℕ → Rule
flag name = record (new_rule name) { long = Some name; action = Some SetTrue }

-- an option that is `-LETTER` too
abbrev pub lettered : ℕ → Rule → Rule
lettered letter rule = record rule { short = Some letter }

-- the name of the output: `--output` or `-o`
abbrev pub output : Rule
output = lettered 111 (valued (codes "output"))

-- an option that has to be given
abbrev pub needed : Rule → Rule
needed rule = record rule { required = true }

-- the one file, which has to be named
abbrev pub file : Rule
file = record (new_rule (codes "file")) { action = Some Set; required = true }

-- one file or more; of a drill, its seed and its count
abbrev pub files : Rule
files = record (new_rule (codes "file")) {
  action = Some Append;
  range = Some (record { start_inclusive = 1; end_inclusive = usize_max });
  required = true;
}

-- the flags of `tool`
abbrev pub tool_flags : List Rule
tool_flags = flag (codes "list-tracks") ∷ flag (codes "list-clips") ∷ flag (codes "list-media")
    ∷ flag (codes "stats") ∷ flag (codes "video-only") ∷ flag (codes "audio-only")
    ∷ flag (codes "keep-flattened-tracks") ∷ flag (codes "remove-transitions")
    ∷ flag (codes "concat") ∷ flag (codes "stack") ∷ []

-- the options of one command alone
abbrev pub own_options : Verb → List Rule
own_options Convert =
    valued (codes "from") ∷ valued (codes "to") ∷ valued (codes "family")
    ∷ flag (codes "drop") ∷ flag (codes "wide") ∷ flag (codes "notes") ∷ []
own_options Cat = []
own_options Stat = []
own_options Tool = valued (codes "trim") ∷ valued (codes "flatten") ∷ tool_flags
own_options Frames =
    valued (codes "child") ∷ valued (codes "start") ∷ valued (codes "count") ∷ []
own_options Edit = needed (valued (codes "script")) ∷ []
own_options Drill = []
own_options Pull = valued (codes "handles") ∷ []
own_options Media = []

-- the options of each command that takes lists
abbrev pub list_options : List Rule
list_options = valued (codes "rate") ∷ valued (codes "media") ∷ output ∷ []

-- the options that a command has like others
abbrev pub shared_options : Verb → List Rule
shared_options Convert = list_options
shared_options Cat = list_options
shared_options Stat = list_options
shared_options Tool = list_options
shared_options Frames = list_options
shared_options Edit = list_options
shared_options Drill = output ∷ []
shared_options Pull = list_options
shared_options Media = output ∷ []

-- the positional words of a command
abbrev pub files_of : Verb → Rule
files_of Convert = file
files_of Cat = files
files_of Stat = file
files_of Tool = files
files_of Frames = file
files_of Edit = file
files_of Drill = files
files_of Pull = file
files_of Media = file

-- a command with more options, each in its turn
abbrev pub with_rules : App → List Rule → App
with_rules app [] = app
with_rules app (rule ∷ rules) = with_rules (with_rule app rule) rules

-- a command of words that don't begin with its name
abbrev pub unnamed : App → App
unnamed app = record app { top = record app.top { no_binary_name = true } }

-- the command of `clap` that reads the words after a command's own word
abbrev pub reader_of : Verb → App
reader_of verb = with_rules (unnamed (new_app (word_of verb)))
    (own_options verb ++ shared_options verb ++ files_of verb ∷ [])
