-- What a command line asks for.
use Rattle.std.specs.Prelude.{◌≡◌, ◌⊎◌, ℕ, ◌<◌, ◌≤◌, pos, Bool, true, false, List, [], ◌∷◌, ◌++◌, Option, Some, None, IsSome, bytes_eq, codes, count_by, length, map}
use Rattle.std.specs.Option.{option_map}
use Rattle.tick_time.specs.declared.rates.Rate.{Rate}
use Rattle.tick_time.specs.RateWords.{IsRateWord}
use Rattle.smpte_tc.specs.Words.{IsWholeNumber, IsPoint}
use Rattle.command_words.specs.Names.{HasList, IsListName, word_of}
use Rattle.command_words.specs.Given.{Given, Gives, IsValue}
use Rattle.command_words.specs.Tools.{AreTools}
use Rattle.command_words.specs.Drills.{AskNoDrill}
use Rattle.command_words.specs.declared.conversions.Form.{Form}
use Rattle.command_words.specs.declared.conversions.Form.TheVariants as form
use Rattle.command_words.specs.declared.faults.WordsFault.{WordsFault}
use Rattle.command_words.specs.declared.faults.WordsFault.TheVariants.{Usage, Memory}
use Rattle.command_words.specs.declared.requests.Command.{Command}
use Rattle.command_words.specs.declared.requests.Command.TheVariants.{ListToList, ListToObjects, TimelineToList, ToObjects, ToJson, Frames, ListFrames, Edit, ListEdit}
use Rattle.command_words.specs.declared.requests.Command.TheVariants.{Cat, ListCat, Stat, ListStat, Tool, ListTool, Pull, ListPull, LogToMedia}
use Rattle.command_words.specs.declared.requests.FramesAsked.{FramesAsked}
use Rattle.command_words.specs.declared.requests.Others.{Others}
use Rattle.command_words.specs.declared.tools.ToolAsked.{ToolAsked}
use Rattle.command_words.specs.declared.names.Verb.{Verb}
use Rattle.command_words.specs.declared.names.Verb.TheVariants as verbs

-- the rate of lists: the one that is asked for, else 24 frames a second
abbrev pub IsRate : Option (List ℕ) → Rate → Type 0
IsRate None rate = (rate.num ≡ pos 24) × (rate.den ≡ pos 1)
IsRate (Some word) rate = IsRateWord word rate

-- what the file is read as: as the option says, else as a list where its name is that of a list,
-- and as objects where it isn't
abbrev pub IsInput : Option (List ℕ) → List ℕ → Form → Type 0
IsInput None name form.Objects = IsListName name → ⊥
IsInput None name form.List = IsListName name
IsInput None name form.Json = ⊥
IsInput (Some word) name form.Objects = word ≡ codes "otio"
IsInput (Some word) name form.List = word ≡ codes "edl"
IsInput (Some word) name form.Json = ⊥

-- what an output of that name is written as where no option says so: a list where the name is that
-- of a list, else objects
abbrev pub IsDefault : Option (List ℕ) → Form → Type 0
IsDefault None form.Objects = Unit {0}
IsDefault None form.List = ⊥
IsDefault None form.Json = ⊥
IsDefault (Some target) form.Objects = IsListName target → ⊥
IsDefault (Some target) form.List = IsListName target
IsDefault (Some target) form.Json = ⊥

-- what is written: as the option says, else by the name of the output
abbrev pub IsOutput : Option (List ℕ) → Option (List ℕ) → Form → Type 0
IsOutput None target form = IsDefault target form
IsOutput (Some word) target form.Objects = word ≡ codes "otio"
IsOutput (Some word) target form.List = word ≡ codes "edl"
IsOutput (Some word) target form.Json = word ≡ codes "json"

-- whether the older family of schemas is asked for: the first one, and the second where none is
abbrev pub IsFamily : Option (List ℕ) → Bool → Type 0
IsFamily None older = older ≡ false
IsFamily (Some word) true = word ≡ codes "1"
IsFamily (Some word) false = word ≡ codes "2"

-- how what is written is asked for: lists with drop-frame timecode and in the wide layout, objects
-- in the older family, and notes with both
pub record Ways : Type 0 where
  pub drop : Bool
  pub wide : Bool
  pub older : Bool
  pub notes : Bool

-- The command: a list is written as a list at this rate, or as the timeline that it conforms to;
-- objects as a list, as objects or as JSON. Lists are written with drop-frame timecode, in the wide
-- layout and with notes where the three flags are there, and notes go to timelines where the last
-- one is. Objects are written in the family that is asked for.
abbrev pub IsAskedOf : Command → Form → Form → Rate → Ways → Type 0
IsAskedOf (ListToList rate drop wide notes) form.List form.List asked ways =
    (rate ≡ asked) × (drop ≡ ways.drop) × (wide ≡ ways.wide) × (notes ≡ ways.notes)
IsAskedOf (ListToObjects rate older notes) form.List form.Objects asked ways =
    (rate ≡ asked) × (older ≡ ways.older) × (notes ≡ ways.notes)
IsAskedOf (TimelineToList drop wide notes) form.Objects form.List asked ways =
    (drop ≡ ways.drop) × (wide ≡ ways.wide) × (notes ≡ ways.notes)
IsAskedOf (ToObjects older) form.Objects form.Objects asked ways = older ≡ ways.older
IsAskedOf ToJson form.Objects form.Json asked ways = Unit {0}
IsAskedOf command input output asked ways = ⊥

-- the ways that the options of `convert` ask for, where the family is known
abbrev pub ways_in : Given → Bool → Ways
ways_in given older = record {
  drop = given.drop;
  wide = given.wide;
  older = older;
  notes = given.notes;
}

-- What the options and the file of `convert` ask for. Other options have a value that is allowed
-- even where the command doesn't need it.
pub record IsConversion (command : Command) (name : List ℕ) (given : Given) : Type 0 where
  pub file : given.file ≡ Some name
  pub input : Form
  pub reads : IsInput given.from name input
  pub output : Form
  pub writes : IsOutput given.to given.target output
  pub rate : Rate
  pub is_rate : IsRate given.rate rate
  pub older : Bool
  pub family : IsFamily given.family older
  pub means : IsAskedOf command input output rate (ways_in given older)

-- a count of record frames, from 1 to a million
abbrev pub IsCount : List ℕ → ℕ → Type 0
IsCount word n = IsWholeNumber word n × (1 ≤ n) × (n ≤ 1000000)

-- which child, from where and how many record frames the options of `frames` ask for
pub record AreFrames (given : Given) (asked : FramesAsked) : Type 0 where
  pub child : IsValue IsWholeNumber given.child asked.child
  pub start : IsValue IsPoint given.start asked.start
  pub count : IsValue IsCount given.count asked.count

-- The command: these frames of a timeline, or of what a list conforms to at this rate where the
-- file's name is that of a list.
abbrev pub IsListing : Command → List ℕ → Rate → FramesAsked → Type 0
IsListing (Frames asked) name rate frames = (IsListName name → ⊥) × (asked ≡ frames)
IsListing (ListFrames asked_rate asked) name rate frames =
    IsListName name × (asked_rate ≡ rate) × (asked ≡ frames)
IsListing command name rate frames = ⊥

-- what the options and the file of `frames` ask for
pub record IsFrameList (command : Command) (name : List ℕ) (given : Given) : Type 0 where
  pub file : given.file ≡ Some name
  pub frames : FramesAsked
  pub are : AreFrames given frames
  pub rate : Rate
  pub is_rate : IsRate given.rate rate
  pub means : IsListing command name rate frames

-- The command: a timeline is edited, or the one that a list conforms to at this rate where the
-- file's name is that of a list.
abbrev pub IsEditing : Command → List ℕ → Rate → Type 0
IsEditing Edit name rate = IsListName name → ⊥
IsEditing (ListEdit asked) name rate = IsListName name × (asked ≡ rate)
IsEditing command name rate = ⊥

-- what the options and the file of `edit` ask for; a script must be named
pub record IsEdit (command : Command) (name : List ℕ) (given : Given) : Type 0 where
  pub file : given.file ≡ Some name
  pub script : IsSome given.script
  pub rate : Rate
  pub is_rate : IsRate given.rate rate
  pub means : IsEditing command name rate

-- The command: this one on timelines alone, or that one at this rate where a list is among the
-- files.
abbrev pub IsByNames : Command → (Rate → Command) → Command → List (List ℕ) → Rate → Type 0
IsByNames timelines lists command names rate =
    ((HasList names → ⊥) × (command ≡ timelines)) ⊎ (HasList names × (command ≡ lists rate))

-- at most 10 000 files are named: one, and these
abbrev pub AreFew : List (List ℕ) → Type 0
AreFew more = length more < 10000

-- what the options and the files of `cat` ask for
pub record IsCat (command : Command) (name : List ℕ) (given : Given) : Type 0 where
  pub file : given.file ≡ Some name
  pub few : AreFew given.more
  pub rate : Rate
  pub is_rate : IsRate given.rate rate
  pub means : IsByNames Cat ListCat command (name ∷ given.more) rate

-- what the options and the file of `stat` ask for
pub record IsStat (command : Command) (name : List ℕ) (given : Given) : Type 0 where
  pub file : given.file ≡ Some name
  pub rate : Rate
  pub is_rate : IsRate given.rate rate
  pub means : IsByNames Stat ListStat command (name ∷ []) rate

-- what the options and the files of `tool` ask for
pub record IsTool (command : Command) (name : List ℕ) (given : Given) : Type 0 where
  pub file : given.file ≡ Some name
  pub few : AreFew given.more
  pub tool : ToolAsked
  pub are : AreTools given tool
  pub rate : Rate
  pub is_rate : IsRate given.rate rate
  pub means : IsByNames (Tool tool) (λ r. ListTool r tool) command (name ∷ given.more) rate

-- how many frames on both sides of each a word asks for, at most 10 000
abbrev pub IsHandles : List ℕ → ℕ → Type 0
IsHandles word n = IsWholeNumber word n × (n ≤ 10000)

-- those of an option, 0 where it isn't given
abbrev pub AreHandles : Option (List ℕ) → ℕ → Type 0
AreHandles None n = n ≡ 0
AreHandles (Some word) n = IsHandles word n

-- what the options and the file of `pull` ask for
pub record IsPull (command : Command) (name : List ℕ) (given : Given) : Type 0 where
  pub file : given.file ≡ Some name
  pub handles : ℕ
  pub are : AreHandles given.handles handles
  pub rate : Rate
  pub is_rate : IsRate given.rate rate
  pub means : IsByNames (Pull handles) (λ r. ListPull r handles) command (name ∷ []) rate

-- what the file of `media` asks for
pub record IsLogList (command : Command) (name : List ℕ) (given : Given) : Type 0 where
  pub file : given.file ≡ Some name
  pub means : command ≡ LogToMedia

-- what the options and the files of a command ask for; a drill has no file
abbrev pub IsAskedBy : Verb → Command → List ℕ → Given → Type 0
IsAskedBy verbs.Convert command name given = IsConversion command name given
IsAskedBy verbs.Cat command name given = IsCat command name given
IsAskedBy verbs.Stat command name given = IsStat command name given
IsAskedBy verbs.Tool command name given = IsTool command name given
IsAskedBy verbs.Frames command name given = IsFrameList command name given
IsAskedBy verbs.Edit command name given = IsEdit command name given
IsAskedBy verbs.Drill command name given = ⊥
IsAskedBy verbs.Pull command name given = IsPull command name given
IsAskedBy verbs.Media command name given = IsLogList command name given

-- The media list that is read: the one that is named, where a list is conformed, or a timeline
-- edited or written as a list. Elsewhere the name has no effect, but that a list to a list is asked
-- for without one.
abbrev pub IsMedia : Command → Option (List ℕ) → Option (List ℕ) → Type 0
IsMedia (ListToList rate drop wide notes) named media = (named ≡ None) × (media ≡ None)
IsMedia (ListToObjects rate older notes) named media = media ≡ named
IsMedia (TimelineToList drop wide notes) named media = media ≡ named
IsMedia (ToObjects older) named media = media ≡ None
IsMedia ToJson named media = media ≡ None
IsMedia Cat named media = media ≡ None
IsMedia (ListCat rate) named media = media ≡ named
IsMedia Stat named media = media ≡ None
IsMedia (ListStat rate) named media = media ≡ named
IsMedia (Tool asked) named media = media ≡ None
IsMedia (ListTool rate asked) named media = media ≡ named
IsMedia (Frames asked) named media = media ≡ None
IsMedia (ListFrames rate asked) named media = media ≡ named
IsMedia Edit named media = media ≡ named
IsMedia (ListEdit rate) named media = media ≡ named
IsMedia (Pull handles) named media = media ≡ None
IsMedia (ListPull rate handles) named media = media ≡ named
IsMedia LogToMedia named media = media ≡ None

-- the script that is read: the one that is named, where a timeline is edited
abbrev pub IsScript : Command → Option (List ℕ) → Option (List ℕ) → Type 0
IsScript Edit named script = script ≡ named
IsScript (ListEdit rate) named script = script ≡ named
IsScript command named script = script ≡ None

-- the names of the files that are read after the first, where there are any
pub record OtherNames : Type 0 where
  pub more : List (List ℕ)
  pub script : Option (List ℕ)
  pub media : Option (List ℕ)

abbrev pub other_names : Others → OtherNames
other_names others = record {
  more = map (λ s. s.now) others.more.items;
  script = option_map (λ s. s.now) others.script;
  media = option_map (λ s. s.now) others.media;
}

-- the name of the standard input
abbrev pub standard_input : List ℕ
standard_input = codes "-"

abbrev pub is_standard : List ℕ → Bool
is_standard name = bytes_eq name standard_input

-- the name, where there is one
abbrev pub as_list : Option (List ℕ) → List (List ℕ)
as_list None = []
as_list (Some name) = name ∷ []

-- the names of the files that are read: the first, those after it, the script and the media list
abbrev pub names_read : List ℕ → OtherNames → List (List ℕ)
names_read name others = (name ∷ others.more) ++ (as_list others.script ++ as_list others.media)

-- the standard input is read at most once
abbrev pub ReadsOnce : List ℕ → OtherNames → Type 0
ReadsOnce name others = count_by is_standard (names_read name others) ≤ 1

-- What is given asks for this command on the file of this name, with this script and media list
-- where they are read, and with the output into the file of the target's name, or to the standard
-- output where there is none.
pub record IsRequest (verb : Verb) (command : Command) (name : List ℕ) (others : OtherNames)
    (target : Option (List ℕ)) (given : Given) : Type 0 where
  pub asked : IsAskedBy verb command name given
  pub more_are : others.more ≡ given.more
  pub script_is : IsScript command given.script others.script
  pub media_is : IsMedia command given.media others.media
  pub once : ReadsOnce name others
  pub target_is : given.target ≡ target

-- The words ask for this: the command's own word, and after it words that `clap` has a match for,
-- with values and names that the command allows together.
pub record Ask (words : List (List ℕ)) (command : Command) (name : List ℕ) (others : OtherNames)
    (target : Option (List ℕ)) : Type 0 where
  pub verb : Verb
  pub behind : List (List ℕ)
  pub words_are : words ≡ word_of verb ∷ behind
  pub given : Given
  pub gives : Gives verb behind given
  pub is : IsRequest verb command name others target given

-- the words ask for no command on files
abbrev pub AskNoCommand : List (List ℕ) → Type 0
AskNoCommand words = (command : Command) (name : List ℕ) (others : OtherNames)
    (target : Option (List ℕ)) → Ask words command name others target → ⊥

-- the words ask for no command on files, and for no drill
pub record AskNothing (words : List (List ℕ)) : Type 0 where
  pub no_command : AskNoCommand words
  pub no_drill : AskNoDrill words

-- why no request is given: the words ask for none, or memory ran out, which may come at any words
abbrev pub NoRequest : List (List ℕ) → WordsFault → Type 0
NoRequest words Usage = AskNothing words
NoRequest words Memory = Unit {0}
