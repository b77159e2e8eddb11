-- What is kept of a timeline that is written as a list.
use Rattle.std.specs.Prelude.{◌≡◌, ◌≤◌, ◌∷◌, ℕ, Bool, true, false, List, length, Some, None}
use Rattle.std.specs.declared.option.Option.{Option}
use Rattle.limits.specs.Limits.{most_bytes}
use Rattle.dev_io.specs.Handed.{Handed}
use Rattle.dev_io.specs.Known.{KnownFiles}
use Rattle.otio_model.specs.declared.timelines.Timeline.{Timeline}
use Rattle.media_list.specs.Lists.{IsMediaList}
use Rattle.ale_text.specs.Logs.{IsLog}
use Rattle.media_rows.specs.Rows.{MediaRows}
use Rattle.media_rows.specs.declared.row.MediaRow.{MediaRow}
use Rattle.edl_law.specs.Kept.{KeepsFrames}
use Rattle.edl_law.specs.Premises.{AreInRange}
use Rattle.source_files.specs.HandedFiles.{GivesAll}
use Rattle.source_files.specs.Reading.{Held, Source, AreRead}
use Rattle.source_files.specs.Contents.{Content, Film}
use Rattle.command_words.specs.Asked.{Ask, OtherNames}
use Rattle.command_words.specs.declared.requests.Command.TheVariants.{TimelineToList}
use Rattle.otio_tools.specs.Asked.{files_of, is_log}
use Rattle.otio_tools.specs.Plan.{media_content}
use Rattle.otio_tools.specs.Run.{Streams, Sends, Directs}
use Rattle.otio_tools.specs.declared.Status.{Status}
use Rattle.otio_tools.specs.declared.Status.TheVariants.{Done, Usage, Refused, Input, Output, Memory}

-- the bytes are a log of these rows, or a media list of them
abbrev pub AreRowsAs : Bool → List ℕ → List MediaRow → Type 0
AreRowsAs true bytes rows = IsLog bytes rows
AreRowsAs false bytes rows = IsMediaList bytes rows

-- the media list of that name says these rows; there are none where no name is given
abbrev pub HoldsRows : Held → Option (List ℕ) → MediaRows → Type 0
HoldsRows held None None = Unit {0}
HoldsRows held None (Some rows) = ⊥
HoldsRows held (Some name) None = ⊥
HoldsRows held (Some name) (Some rows) =
    (bytes : List ℕ) × (held name ≡ Some bytes) × AreRowsAs (is_log name) bytes rows

-- The files are a timeline and the media list of these rows, where one is named, and a text was
-- sent, in the wide layout or the narrow one. Where that has at most 32 MiB it keeps the timeline's
-- frames: it reads as one list and no other, which these rows hold, there is a timeline that this
-- conforms to, since the media of the rows lie within a million seconds of 0, and each one shows
-- what the first timeline shows. In the narrow layout it makes no more items than a timeline may
-- have.
pub record SendsFrames (AreHeld : List Content → Type 0) (wide : Bool)
    (target : Option (List ℕ)) (d : Streams) : Type 0 where
  pub timeline : Timeline
  pub rows : MediaRows
  pub held : AreHeld (Film timeline ∷ media_content rows)
  pub ranged : AreInRange rows
  pub text : List ℕ
  pub sent : Sends (Directs target text) d
  pub keeps : length text ≤ most_bytes → KeepsFrames timeline rows wide text

-- what arguments that ask for a timeline written as a list have sent, where the run is done, with
-- what files hold
abbrev pub KeepsShown : List (List ℕ) → Streams → Status → (List Source → List Content → Type 0)
    → Type 0
KeepsShown words d Done AreHeld =
    (drop wide notes : Bool) (name : List ℕ) (others : OtherNames) (target : Option (List ℕ))
    → Ask words (TimelineToList drop wide notes) name others target
    → SendsFrames (AreHeld (files_of (TimelineToList drop wide notes) name others)) wide target d
KeepsShown words d Usage AreHeld = Unit {0}
KeepsShown words d Refused AreHeld = Unit {0}
KeepsShown words d Input AreHeld = Unit {0}
KeepsShown words d Output AreHeld = Unit {0}
KeepsShown words d Memory AreHeld = Unit {0}

-- by what the calls gave of the files
abbrev pub KeepsGiven : List (List ℕ) → Streams → Status → List Handed → Type 0
KeepsGiven words d result calls =
    KeepsShown words d result (λ files contents. GivesAll files contents calls)

-- by what is known of them
abbrev pub KeepsKnown : List (List ℕ) → Streams → Status → KnownFiles → Type 0
KeepsKnown words d result old =
    KeepsShown words d result (λ files contents. AreRead old.held files contents)
