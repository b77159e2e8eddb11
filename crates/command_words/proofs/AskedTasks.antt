-- What words ask for, by what is given after a command's own word.
use Rattle.std.proofs.Common.{◌≡◌, ℕ, List, ◌∷◌, Option, Some, None, MatchOption, sym, ◌∙◌, ap₂, subst}
use Rattle.clap.specs.Words.{fault_of}
use Rattle.command_words.specs.Asked.{AskNothing, IsRequest, NoRequest}
use Rattle.command_words.specs.Drills.{IsDrill}
use Rattle.command_words.specs.Given.{Given, Gives, GivesNothing}
use Rattle.command_words.specs.Names.{word_of}
use Rattle.command_words.specs.Options.{reader_of}
use Rattle.command_words.specs.Tasks.{HasNoTask, IsTask, IsTaskOf}
use Rattle.command_words.specs.declared.faults.WordsFault.{WordsFault}
use Rattle.command_words.specs.declared.faults.WordsFault.TheVariants.{Usage, Memory}
use Rattle.command_words.specs.declared.names.Verb.{Verb}
use Rattle.command_words.specs.declared.names.Verb.TheVariants as verbs
use Rattle.command_words.specs.declared.requests.Task.{Task}
use Rattle.command_words.specs.declared.requests.Task.TheVariants.{OnFiles, Drill}
use Rattle.command_words.proofs.Asking.{same_given, same_words}

-- where the words after a command's own word have no match, nothing is asked for
pub unmatched : (words behind : List (List ℕ)) (verb : Verb) (fault : WordsFault)
    → words ≡ word_of verb ∷ behind → GivesNothing verb behind fault → NoRequest words fault
unmatched words behind verb Usage w none = record {
  no_command = λ command name others target ask.
      let same = same_words words behind ask.behind verb ask.verb w ask.words_are in
      none (ap₂ (λ v ws. fault_of (reader_of v) ws) same.verbs same.words ∙ ask.gives.taken);
  no_drill = λ seed count target ask.
      let same = same_words words behind ask.behind verb verbs.Drill w ask.words_are in
      none (ap₂ (λ v ws. fault_of (reader_of v) ws) same.verbs same.words ∙ ask.gives.taken);
}
unmatched words behind verb Memory w none = tt

-- what the words after a command's own word give is what the words ask for
pub task_asks : (words behind : List (List ℕ)) (verb : Verb) (given : Given) (result : Option Task)
    → words ≡ word_of verb ∷ behind → Gives verb behind given
    → MatchOption result (HasNoTask verb given) (λ task. IsTaskOf verb given task)
    → MatchOption result (AskNothing words) (λ task. IsTask words task)
task_asks words behind verb given None w g m = record {
  no_command = λ command name others target ask.
      let same = same_words words ask.behind behind ask.verb verb ask.words_are w in
      let given_same =
      same_given ask.verb verb ask.behind behind ask.given given same ask.gives g in
      m.no_request command name others target
      (subst (λ v. IsRequest v command name others target given) same.verbs
      (subst (IsRequest ask.verb command name others target) given_same ask.is));
  no_drill = λ seed count target ask.
      let same = same_words words ask.behind behind verbs.Drill verb ask.words_are w in
      let given_same =
      same_given verbs.Drill verb ask.behind behind ask.given given same ask.gives g in
      m.no_drill seed count target (sym same.verbs)
      (subst (IsDrill seed count target) given_same ask.is);
}
task_asks words behind verb given (Some (OnFiles request)) w g m = record {
  verb = verb;
  behind = behind;
  words_are = w;
  given = given;
  gives = g;
  is = m;
}
task_asks words behind verb given (Some (Drill drill)) w g m = record {
  behind = behind;
  words_are = subst (λ v. words ≡ word_of v ∷ behind) m.0 w;
  given = given;
  gives = subst (λ v. Gives v behind given) m.0 g;
  is = m.1;
}
