-- The sound timelines that files hold, or that their lists conform to.
use Rattle.std.specs.Prelude.{◌≡◌, ◌≢◌, ◌⊎◌, ◌≤◌, ℕ, List, [], ◌∷◌, Some, None, map}
use Rattle.limits.specs.Limits.{most_items}
use Rattle.otio_model.specs.declared.timelines.Timeline.{Timeline}
use Rattle.coord.specs.Soundness.{IsFaultless, IsFaultOf}
use Rattle.coord.specs.declared.faults.CoordFault.{CoordFault}
use Rattle.coord.specs.declared.faults.CoordFault.TheVariants as coord
use Rattle.edl_list.specs.declared.list.EventList.{EventList}
use Rattle.media_rows.specs.Rows.{MediaRows}
use Rattle.edl_frames.specs.Conformed.{IsTimelineOf}
use Rattle.edl_frames.specs.Refused.{IsAccepted}
use Rattle.edl_frames.specs.Counted.{item_count}
use Rattle.edl_frames.specs.Faults.{IsConformFault}
use Rattle.edl_frames.specs.declared.faults.ConformFault.{ConformFault}
use Rattle.edl_frames.specs.declared.faults.ConformFault.TheVariants as conform
use Rattle.source_files.specs.Faults.{coord_fault_text, conform_fault_text}
use Rattle.source_files.specs.Order.{EachIs, FirstIsNot}
use Rattle.source_files.specs.Reading.{Source}
use Rattle.source_files.specs.Contents.{Content}
use Rattle.source_files.specs.Contents as content
use Rattle.otio_tools.specs.Conformed.{AnswersConformed}
use Rattle.otio_tools.specs.Forms.{Answer, refused}

-- the timeline of a list, which is accepted and makes few items
pub record IsConformedTo (list : EventList) (media : MediaRows)
    (timeline : Timeline) : Type 0 where
  pub is : IsTimelineOf list media timeline
  pub accepted : IsAccepted list media
  pub few : item_count list ≤ most_items

-- the sound timeline that is worked on: that of the file, or one that its list conforms to
abbrev pub IsOpened : Content → MediaRows → Timeline → Type 0
IsOpened (content.Film film) media timeline = timeline ≡ film
IsOpened (content.Events list) media timeline = IsConformedTo list media timeline
IsOpened (content.Noted list notes) media timeline = ⊥
IsOpened (content.Value value) media timeline = ⊥
IsOpened (content.Root object) media timeline = ⊥
IsOpened (content.Rows rows) media timeline = ⊥
IsOpened (content.Commands commands) media timeline = ⊥

-- a timeline isn't sound, as it is told
abbrev pub IsUnsound : Timeline → List ℕ → Type 0
IsUnsound timeline why = (fault : CoordFault) × (fault ≢ coord.Memory) × IsFaultOf timeline fault
    × (why ≡ coord_fault_text fault)

-- a list isn't conformed, as it is told
abbrev pub IsUnconformed : EventList → MediaRows → List ℕ → Type 0
IsUnconformed list media why = (fault : ConformFault) × (fault ≢ conform.Memory)
    × IsConformFault list media fault × (why ≡ conform_fault_text fault)

-- why there is no timeline to work on
abbrev pub IsUnopened : Content → MediaRows → List ℕ → Type 0
IsUnopened (content.Film film) media why = IsUnsound film why
IsUnopened (content.Events list) media why = IsUnconformed list media why
    ⊎ ((timeline : Timeline) × IsConformedTo list media timeline × IsUnsound timeline why)
IsUnopened (content.Noted list notes) media why = ⊥
IsUnopened (content.Value value) media why = ⊥
IsUnopened (content.Root object) media why = ⊥
IsUnopened (content.Rows rows) media why = ⊥
IsUnopened (content.Commands commands) media why = ⊥

-- why there is no timeline of what a file holds, sound or not: its list isn't conformed
abbrev pub IsUnmade : Content → MediaRows → List ℕ → Type 0
IsUnmade (content.Events list) media why = IsUnconformed list media why
IsUnmade held media why = ⊥

-- the answer to what a file holds by its timeline, which a list conforms to with this media list
abbrev pub AnswersInput : List ℕ → Content → MediaRows → (Timeline → Answer → Type 0) → Answer
    → Type 0
AnswersInput name (content.Film film) media Is answer = Is film answer
AnswersInput name (content.Events list) media Is answer = AnswersConformed name list media Is answer
AnswersInput name held media Is answer = ⊥

-- ---- several inputs

-- an input: the name of its file, and what that holds
pub record Input : Type 0 where
  pub name : List ℕ
  pub content : Content

-- the inputs among what files hold: timelines and lists
abbrev pub inputs_in : List Source → List Content → List Input
inputs_in [] contents = []
inputs_in (file ∷ files) [] = []
inputs_in (file ∷ files) (content.Film timeline ∷ more) =
    record { name = file.name; content = content.Film timeline } ∷ inputs_in files more
inputs_in (file ∷ files) (content.Events list ∷ more) =
    record { name = file.name; content = content.Events list } ∷ inputs_in files more
inputs_in (file ∷ files) (content.Noted list notes ∷ more) = []
inputs_in (file ∷ files) (content.Value value ∷ more) = []
inputs_in (file ∷ files) (content.Root object ∷ more) = []
inputs_in (file ∷ files) (content.Rows rows ∷ more) = []
inputs_in (file ∷ files) (content.Commands commands ∷ more) = []

-- their names
abbrev pub names_in : List Source → List Content → List (List ℕ)
names_in files contents = map (λ i. i.name) (inputs_in files contents)

-- the media list after the inputs, where one was read
abbrev pub media_behind : List Content → MediaRows
media_behind [] = None
media_behind (content.Rows rows ∷ more) = Some rows
media_behind (content.Film timeline ∷ more) = media_behind more
media_behind (content.Events list ∷ more) = media_behind more
media_behind (content.Noted list notes ∷ more) = None
media_behind (content.Value value ∷ more) = None
media_behind (content.Root object ∷ more) = None
media_behind (content.Commands commands ∷ more) = None

-- the sound timeline of an input
abbrev pub IsOpenedInput : MediaRows → Input → Timeline → Type 0
IsOpenedInput media input timeline =
    IsOpened input.content media timeline × IsFaultless timeline

-- the answer to an input that there is no timeline of
abbrev pub AnswersUnopened : MediaRows → Input → Answer → Type 0
AnswersUnopened media input answer =
    (why : List ℕ) × IsUnopened input.content media why × (answer ≡ refused input.name why)

-- The answer to the first input that there is no sound timeline of, each before it having one; else
-- the answer to their timelines.
pub data AnswersOpened (media : MediaRows) (inputs : List Input)
    (Is : List Timeline → Answer → Type 0) (answer : Answer) : Type 0 where
  Unopened : FirstIsNot (IsOpenedInput media) (AnswersUnopened media) inputs answer
      → AnswersOpened media inputs Is answer
  Opened : (timelines : List Timeline) → EachIs (IsOpenedInput media) inputs timelines
      → Is timelines answer → AnswersOpened media inputs Is answer
