-- What the words after a command's own word give: the value of each option, whether a flag is
-- there, and the files.
use Rattle.std.specs.Prelude.{◌≡◌, ◌≢◌, ℕ, Bool, false, List, [], Option, Some, None, codes, bytes_eq, drop, map}
use Rattle.std.specs.Option.{option_map}
use Rattle.clap.specs.Words.{Row, all_of, fault_of, first_of, matches_of}
use Rattle.command_words.specs.Options.{reader_of}
use Rattle.command_words.specs.declared.lines.Line.{Line}
use Rattle.command_words.specs.declared.lines.ToolLine.{ToolLine}
use Rattle.command_words.specs.declared.faults.WordsFault.{WordsFault}
use Rattle.command_words.specs.declared.faults.WordsFault.TheVariants.{Usage, Memory}
use Rattle.command_words.specs.declared.names.Verb.{Verb}

-- what the options of `tool` alone give
pub record ToolGiven : Type 0 where
  pub trim : Option (List ℕ)
  pub flatten : Option (List ℕ)
  pub list_tracks : Bool
  pub list_clips : Bool
  pub list_media : Bool
  pub stats : Bool
  pub video_only : Bool
  pub audio_only : Bool
  pub keep_flattened : Bool
  pub remove_transitions : Bool
  pub concat : Bool
  pub stack : Bool

-- all of it; `more` are the files after the first
pub record Given : Type 0 where
  pub from : Option (List ℕ)
  pub to : Option (List ℕ)
  pub family : Option (List ℕ)
  pub rate : Option (List ℕ)
  pub target : Option (List ℕ)
  pub child : Option (List ℕ)
  pub start : Option (List ℕ)
  pub count : Option (List ℕ)
  pub media : Option (List ℕ)
  pub script : Option (List ℕ)
  pub handles : Option (List ℕ)
  pub drop : Bool
  pub wide : Bool
  pub notes : Bool
  pub tool : ToolGiven
  pub file : Option (List ℕ)
  pub more : List (List ℕ)

-- a flag is there: `clap` gives it the value `true` then, else `false`
abbrev pub is_there : Option (List ℕ) → Bool
is_there None = false
is_there (Some value) = bytes_eq value (codes "true")

-- the names after the first
abbrev pub names_behind : Option (List (List ℕ)) → List (List ℕ)
names_behind None = []
names_behind (Some names) = drop 1 names

abbrev pub tool_in : List Row → ToolGiven
tool_in rows = record {
  trim = first_of (codes "trim") rows;
  flatten = first_of (codes "flatten") rows;
  list_tracks = is_there (first_of (codes "list-tracks") rows);
  list_clips = is_there (first_of (codes "list-clips") rows);
  list_media = is_there (first_of (codes "list-media") rows);
  stats = is_there (first_of (codes "stats") rows);
  video_only = is_there (first_of (codes "video-only") rows);
  audio_only = is_there (first_of (codes "audio-only") rows);
  keep_flattened = is_there (first_of (codes "keep-flattened-tracks") rows);
  remove_transitions = is_there (first_of (codes "remove-transitions") rows);
  concat = is_there (first_of (codes "concat") rows);
  stack = is_there (first_of (codes "stack") rows);
}

-- what the matches of `clap` give: nothing for an option that a command hasn't
abbrev pub given_in : List Row → Given
given_in rows = record {
  from = first_of (codes "from") rows;
  to = first_of (codes "to") rows;
  family = first_of (codes "family") rows;
  rate = first_of (codes "rate") rows;
  target = first_of (codes "output") rows;
  child = first_of (codes "child") rows;
  start = first_of (codes "start") rows;
  count = first_of (codes "count") rows;
  media = first_of (codes "media") rows;
  script = first_of (codes "script") rows;
  handles = first_of (codes "handles") rows;
  drop = is_there (first_of (codes "drop") rows);
  wide = is_there (first_of (codes "wide") rows);
  notes = is_there (first_of (codes "notes") rows);
  tool = tool_in rows;
  file = first_of (codes "file") rows;
  more = names_behind (all_of (codes "file") rows);
}

-- `clap` has no match for the words after a command's own word: an option that the command hasn't,
-- one that is given twice or lacks its value, a file too many or none, `--help`
abbrev pub HasNoMatch : Verb → List (List ℕ) → Type 0
HasNoMatch verb words = fault_of (reader_of verb) words ≢ []

-- the words after a command's own word have a match of `clap`, which gives this
pub record Gives (verb : Verb) (words : List (List ℕ)) (given : Given) : Type 0 where
  pub taken : fault_of (reader_of verb) words ≡ []
  pub is : given ≡ given_in (matches_of (reader_of verb) words)

-- why nothing is given: the words have no match, or memory ran out, which may come at any words
abbrev pub GivesNothing : Verb → List (List ℕ) → WordsFault → Type 0
GivesNothing verb words Usage = HasNoMatch verb words
GivesNothing verb words Memory = Unit {0}

-- what an option asks for by its value; nothing where it isn't given
abbrev pub IsValue : {A : Type 0} → (List ℕ → A → Type 0) → Option (List ℕ) → Option A → Type 0
IsValue Is None None = Unit {0}
IsValue Is None (Some value) = ⊥
IsValue Is (Some word) None = ⊥
IsValue Is (Some word) (Some value) = Is word value

abbrev pub tool_by : ToolLine → ToolGiven
tool_by line = record {
  trim = option_map (λ s. s.now) line.trim;
  flatten = option_map (λ s. s.now) line.flatten;
  list_tracks = line.list_tracks;
  list_clips = line.list_clips;
  list_media = line.list_media;
  stats = line.stats;
  video_only = line.video_only;
  audio_only = line.audio_only;
  keep_flattened = line.keep_flattened;
  remove_transitions = line.remove_transitions;
  concat = line.concat;
  stack = line.stack;
}

abbrev pub given_by : Line → Given
given_by line = record {
  from = option_map (λ s. s.now) line.from;
  to = option_map (λ s. s.now) line.to;
  family = option_map (λ s. s.now) line.family;
  rate = option_map (λ s. s.now) line.rate;
  target = option_map (λ s. s.now) line.target;
  child = option_map (λ s. s.now) line.child;
  start = option_map (λ s. s.now) line.start;
  count = option_map (λ s. s.now) line.count;
  media = option_map (λ s. s.now) line.media;
  script = option_map (λ s. s.now) line.script;
  handles = option_map (λ s. s.now) line.handles;
  drop = line.drop;
  wide = line.wide;
  notes = line.notes;
  tool = tool_by line.tool;
  file = option_map (λ s. s.now) line.file;
  more = map (λ s. s.now) line.more.items;
}
