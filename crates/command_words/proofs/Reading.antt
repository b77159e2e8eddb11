-- The commands of `clap`, and their errors.
use Rattle.std.proofs.Common.{◌≡◌, ◌<◌, ◌≤◌, ◌+◌, ◌↔◌, ◌∙◌, ℕ, true, Some, List, [], ◌∷◌, inl, inr, refl, sym, ap, drop, length, map, get_or}
use Rattle.std.proofs.lemmas.List.{drop_all, drop_more}
use Rattle.clap.specs.Kinds.{Kinds, HasKind}
use Rattle.clap.specs.Simple.{app_of_fields}
use Rattle.clap.specs.Words.{App, Text, app_of, fault_of, is_simple, is_simple_and_free, kind_of, rule_of, with_rule}
use Rattle.clap.specs.declared.builder.arg.Arg.{Arg}
use Rattle.clap.specs.declared.builder.command.Command.{Command}
use Rattle.clap.specs.declared.builder.command.Command.TheViews.{out-Command}
use Rattle.clap.specs.declared.error.Error.{Error}
use Rattle.clap.specs.declared.error.kind.ErrorKind.TheVariants as kind
use Rattle.command_words.specs.Given.{GivesNothing}
use Rattle.command_words.specs.Options.{lettered, needed, reader_of, unnamed, with_rules}
use Rattle.command_words.specs.Taken.{taken_rule}
use Rattle.command_words.specs.declared.faults.WordsFault.{WordsFault}
use Rattle.command_words.specs.declared.faults.WordsFault.TheVariants.{Usage, Memory}
use Rattle.command_words.specs.declared.names.Verb.{Verb}
use Rattle.command_words.specs.declared.names.Verb.TheVariants.{Convert, Cat, Stat, Tool, Frames, Edit, Drill, Pull, Media}
use Rattle.command_words.specs.declared.options.Taken.{Taken}

-- a command whose words don't begin with its name
pub unnamed_app : (old new : Command)
    → out-Command new ≡ record (out-Command old) { no_binary_name = true }
    → app_of new ≡ unnamed (app_of old)
unnamed_app old new e = ap app_of_fields e

-- an option under a letter too, and one that has to be given
pub lettered_rule : (old new : Arg) (letter : ℕ) → new ≡ record old { short = Some letter }
    → rule_of new ≡ lettered letter (rule_of old)
lettered_rule old new letter e = ap rule_of e

pub needed_rule : (old new : Arg) → new ≡ record old { required = true }
    → rule_of new ≡ needed (rule_of old)
needed_rule old new e = ap rule_of e

-- a command with the next of what is left, and with nothing left
pub with_next : (all : List Taken) (i : ℕ) (d : Taken) (old new whole : App) → i < length all
    → new ≡ with_rule old (taken_rule (get_or all i d))
    → with_rules old (map taken_rule (drop i all)) ≡ whole
    → with_rules new (map taken_rule (drop (i + 1) all)) ≡ whole
with_next all i d old new whole lt e h =
    ap (λ a. with_rules a (map taken_rule (drop (i + 1) all))) e
    ∙ sym (ap (λ l. with_rules old (map taken_rule l)) (drop_more all i d lt)) ∙ h

pub with_none : (all : List Taken) (i : ℕ) (app whole : App) → length all ≤ i
    → with_rules app (map taken_rule (drop i all)) ≡ whole → app ≡ whole
with_none all i app whole le h =
    sym (ap (λ l. with_rules app (map taken_rule l)) (drop_all i all le)) ∙ h

-- each command is one of which `clap` publishes the meaning
pub readers_are_free : (verb : Verb) → is_simple_and_free (reader_of verb) ≡ true
readers_are_free Convert = refl
readers_are_free Cat = refl
readers_are_free Stat = refl
readers_are_free Tool = refl
readers_are_free Frames = refl
readers_are_free Edit = refl
readers_are_free Drill = refl
readers_are_free Pull = refl
readers_are_free Media = refl

pub readers_are_simple : (verb : Verb) → is_simple (reader_of verb) ≡ true
readers_are_simple Convert = refl
readers_are_simple Cat = refl
readers_are_simple Stat = refl
readers_are_simple Tool = refl
readers_are_simple Frames = refl
readers_are_simple Edit = refl
readers_are_simple Drill = refl
readers_are_simple Pull = refl
readers_are_simple Media = refl

-- an error that tells of no lack of memory has a kind that the words have
pub has_fault : (kinds : Kinds) (e : Error) → HasKind kinds e → (kind_of e ≡ kind.OutOfMemory → ⊥)
    → kinds ≡ [] → ⊥
has_fault [] e (inl memory) other none = other memory
has_fault [] e (inr among) other none = among
has_fault (k ∷ ks) e h other none = cc

-- such an error tells why nothing is given
pub gives_nothing : (verb : Verb) (words : List Text) (fault : WordsFault) (e : Error)
    → HasKind (fault_of (reader_of verb) words) e
    → (fault ≡ Memory) ↔ (kind_of e ≡ kind.OutOfMemory) → GivesNothing verb words fault
gives_nothing verb words Usage e h same =
    has_fault (fault_of (reader_of verb) words) e h
    (λ memory. let wrong : Usage ≡ Memory = same.1 memory in cc)
gives_nothing verb words Memory e h same = tt
