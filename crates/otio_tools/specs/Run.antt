-- What a run sends.
use Rattle.std.specs.Prelude.{◌≡◌, ◌⊎◌, ℕ, List, codes, Some, None}
use Rattle.std.specs.declared.option.Option.{Option}
use Rattle.dev_io.specs.Known.{KnownOut}
use Rattle.dev_io.specs.Calls.{Tells, Adds, AddsPrefix}
use Rattle.dev_io.specs.Causes.{Rose}
use Rattle.command_words.specs.Asked.{Ask, OtherNames}
use Rattle.command_words.specs.declared.requests.Command.{Command}
use Rattle.otio_model.specs.declared.timelines.Timeline.{Timeline}
use Rattle.show_prog.specs.Rows.{ListsMix, listing_text}
use Rattle.show_prog.specs.declared.frame_range.Listing.{Listing}
use Rattle.otio_tools.specs.Asked.{ListsFrames}
use Rattle.otio_tools.specs.declared.Status.{Status}
use Rattle.otio_tools.specs.declared.Status.TheVariants.{Done, Usage, Refused, Input, Output, Memory}

-- what the streams of output and messages counted and told, before a run and after it
pub record Streams : Type 0 where
  pub out_before : ℕ
  pub out_now : ℕ
  pub out_old : Option KnownOut
  pub out_new : Option KnownOut
  pub err_before : ℕ
  pub err_now : ℕ
  pub err_old : Option KnownOut
  pub err_new : Option KnownOut

abbrev pub streams : {W E : Type 0} → (W → ℕ) → (W → Option KnownOut) → (E → ℕ)
    → (E → Option KnownOut) → W → W → E → E → Streams
streams out_faults out_known err_faults err_known out out' err err' = record {
  out_before = out_faults out;
  out_now = out_faults out';
  out_old = out_known out;
  out_new = out_known out';
  err_before = err_faults err;
  err_now = err_faults err';
  err_old = err_known err;
  err_new = err_known err';
}

-- a text was sent: whole, or a prefix of it where the count rose
abbrev pub Says : ℕ → ℕ → Option KnownOut → Option KnownOut → List ℕ → Type 0
Says before now old new text =
    Tells (Adds text) old new ⊎ (Rose before now × Tells (AddsPrefix text) old new)

-- the message was sent, or a prefix of it where the stream of messages failed
abbrev pub Message : List ℕ → Streams → Type 0
Message message d = Says d.err_before d.err_now d.err_old d.err_new message

abbrev pub OutFailed : Streams → Type 0
OutFailed d = Rose d.out_before d.out_now

-- what was sent to the output
abbrev pub Sends : (KnownOut → KnownOut → Type 0) → Streams → Type 0
Sends step d = Tells step d.out_old d.out_new

-- nothing was sent, and the target is the same
abbrev pub SendsNothing : KnownOut → KnownOut → Type 0
SendsNothing old new = new ≡ old

-- where the stream writes once it is directed to the target
abbrev pub aimed : Option (List ℕ) → KnownOut → KnownOut
aimed None old = old
aimed (Some name) old = record old { target = Some name }

-- these bytes were sent to the target
abbrev pub Directs : Option (List ℕ) → List ℕ → KnownOut → KnownOut → Type 0
Directs target bytes old new = Adds bytes (aimed target old) new

-- a prefix of the bytes was sent to the target
abbrev pub DirectsFront : Option (List ℕ) → List ℕ → KnownOut → KnownOut → Type 0
DirectsFront target bytes old new = AddsPrefix bytes (aimed target old) new

-- the stream was left as it was, or a prefix of the bytes was sent to the target
abbrev pub DirectsPrefix : Option (List ℕ) → List ℕ → KnownOut → KnownOut → Type 0
DirectsPrefix target bytes old new = SendsNothing old new ⊎ DirectsFront target bytes old new

abbrev pub no_memory : List ℕ
no_memory = codes "otio: no memory\n"

abbrev pub output_failed : List ℕ
output_failed = codes "otio: output failed\n"

-- the words ask for frames
pub record AsksFrames (words : List (List ℕ)) : Type 0 where
  pub command : Command
  pub lists : ListsFrames command
  pub name : List ℕ
  pub others : OtherNames
  pub target : Option (List ℕ)
  pub ask : Ask words command name others target

-- the text is rows of frames, and one of these rows shows a mix
pub record HasMixedRows (text : List ℕ) : Type 0 where
  pub timeline : Timeline
  pub listing : Listing
  pub is : text ≡ listing_text timeline listing
  pub mix : ListsMix timeline listing

-- What is known whatever the files tell: under every status but Done and Output nothing is sent,
-- but where memory runs out over the rows of frames.
abbrev pub KeepsStill : List (List ℕ) → Streams → Status → Type 0
KeepsStill words d Done = Unit {0}
KeepsStill words d Output = OutFailed d
KeepsStill words d Usage = Sends SendsNothing d
KeepsStill words d Refused = Sends SendsNothing d
KeepsStill words d Input = Sends SendsNothing d
KeepsStill words d Memory = Sends SendsNothing d ⊎ AsksFrames words
