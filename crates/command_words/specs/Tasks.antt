-- What a command line asks for: a command on files, or a drill.
use Rattle.std.specs.Prelude.{◌≡◌, ℕ, List, Option}
use Rattle.std.specs.Option.{option_map}
use Rattle.command_words.specs.Asked.{Ask, IsRequest, OtherNames, other_names}
use Rattle.command_words.specs.Drills.{AsksDrill, IsDrill}
use Rattle.command_words.specs.Given.{Given}
use Rattle.command_words.specs.declared.names.Verb.{Verb}
use Rattle.command_words.specs.declared.names.Verb.TheVariants as verbs
use Rattle.command_words.specs.declared.requests.Command.{Command}
use Rattle.command_words.specs.declared.requests.Task.{Task}
use Rattle.command_words.specs.declared.requests.Task.TheVariants.{OnFiles, Drill}

-- the words ask for this
abbrev pub IsTask : List (List ℕ) → Task → Type 0
IsTask words (OnFiles request) = Ask words request.command request.name.now
    (other_names request.others) (option_map (λ s. s.now) request.target)
IsTask words (Drill drill) =
    AsksDrill words drill.seed drill.count (option_map (λ s. s.now) drill.target)

-- what is given after a command's own word asks for this
abbrev pub IsTaskOf : Verb → Given → Task → Type 0
IsTaskOf verb given (OnFiles request) = IsRequest verb request.command request.name.now
    (other_names request.others) (option_map (λ s. s.now) request.target) given
IsTaskOf verb given (Drill drill) = (verb ≡ verbs.Drill)
    × IsDrill drill.seed drill.count (option_map (λ s. s.now) drill.target) given

-- what is given after a command's own word asks for nothing
pub record HasNoTask (verb : Verb) (given : Given) : Type 0 where
  pub no_request : (command : Command) (name : List ℕ) (others : OtherNames)
      (target : Option (List ℕ)) → IsRequest verb command name others target given → ⊥
  pub no_drill : (seed count : ℕ) (target : Option (List ℕ)) → verb ≡ verbs.Drill
      → IsDrill seed count target given → ⊥
