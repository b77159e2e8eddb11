-- What the reader keeps of the lines that it has taken: of these words public contracts cite
-- `Stands` alone, by `HasRead`.
use Rattle.std.specs.Prelude.{◌≡◌, ◌⊎◌, ◌==◌, ◌||◌, ◌&&◌, ◌-◌, ℕ, suc, Bool, false, not, nat_lt, pos, unwrap_or, List, [], ◌∷◌, ◌++◌, map, Option, Some, None, is_some, is_none, Result, Ok, Err, length, AllPairs, if◌then◌else◌}
use Rattle.std.specs.List.{list_all}
use Rattle.tick_time.specs.declared.rates.Rate.{Rate}
use Rattle.edl_text.specs.Statements.{Statement, EventLine}
use Rattle.edl_text.specs.declared.statement_types.Channels.{Channels}
use Rattle.edl_text.specs.declared.statement_types.Kind.{Kind}
use Rattle.edl_text.specs.declared.statement_types.Labels.{Labels}
use Rattle.edl_list.specs.declared.list.Channel.{Channel}
use Rattle.edl_list.specs.declared.list.Event.{Event}
use Rattle.edl_list.specs.Formed.{AreApart}
use Rattle.edl_list.specs.declared.list.EventList.{EventList}
use Rattle.edl_list.specs.declared.list.Reel.{Reel}
use Rattle.edl_list.specs.declared.list.Side.{Side}
use Rattle.edl_text.specs.declared.faults.EdlFault.{EdlFault}
use Rattle.edl_text.specs.declared.faults.EdlFault.TheVariants.{Memory}
use Rattle.edl_text.specs.declared.event_frames.Frames.{Frames}
use Rattle.edl_text.specs.declared.open_event.Pending.{Pending}
use Rattle.edl_text.specs.declared.list_so_far.Said.{Said}
use Rattle.smpte_tc.specs.Frames.{label_frame}
use Rattle.edl_text.specs.Past.{Block, mode_in, title_in, blocks_in, first_mode_in}
use Rattle.edl_text.specs.StateSides.{side_of}
use Rattle.edl_text.specs.Sides.{reel_of, is_one_reel, is_cut, duration, source_in, source_out, record_in, record_out, incoming, from_side, begun}
use Rattle.edl_text.specs.Events.{channels_of, events_of}
use Rattle.edl_text.specs.Late.{AreFine, IsLateFault}
use Rattle.edl_text.specs.Lists.{events_in, IsSaid}
use Rattle.edl_text.specs.Lines.{are_same_channels, IsSound, IsFaulty, fault_behind}

-- whether four labels are labels of the day
abbrev pub are_labels : Rate → Bool → Labels → Bool
are_labels rate drop labels =
    list_all (λ label. is_some (label_frame rate drop label))
    (labels.source_in.now ∷ labels.source_out.now ∷ labels.record_in.now ∷ labels.record_out.now
    ∷ [])

-- the frame numbers that four labels name
pub record AreFrames (rate : Rate) (drop : Bool) (labels : Labels) (frames : Frames) : Type 0 where
  pub source_in : label_frame rate drop labels.source_in.now ≡ Some frames.source_in
  pub source_out : label_frame rate drop labels.source_out.now ≡ Some frames.source_out
  pub record_in : label_frame rate drop labels.record_in.now ≡ Some frames.record_in
  pub record_out : label_frame rate drop labels.record_out.now ≡ Some frames.record_out

-- whether an out lies before its in
abbrev pub run_back : Frames → Bool
run_back frames =
    nat_lt frames.source_out frames.source_in || nat_lt frames.record_out frames.record_in

-- whether the side has the reel, and no speed
abbrev pub wants : Reel → Side → Bool
wants reel side = is_none side.speed && is_one_reel reel side.reel

-- the side at that speed
abbrev pub at_speed : ℕ → Side → Side
at_speed tenths side = record side { speed = Some tenths }

-- the outgoing side at that speed, where it has the reel and no speed
abbrev pub given : Reel → ℕ → Option Side → Option Side
given reel tenths None = None
given reel tenths (Some side) = if wants reel side then Some (at_speed tenths side) else None

-- the latest event line with that outgoing side, where there is one
abbrev pub with_outgoing : Pending → Option Side → Option Pending
with_outgoing pending None = None
with_outgoing pending (Some side) = Some (record pending { from = Some side })

-- the same, and with a speed of its own side
abbrev pub at_speed_with : ℕ → Pending → Option Side → Option Pending
at_speed_with tenths pending None = None
at_speed_with tenths pending (Some side) =
    Some (record pending { to = at_speed tenths pending.to; from = Some side })

-- the latest event line with a speed for its own side's reel, by the speed that the side has so far
abbrev pub sped_by : Option ℕ → Reel → ℕ → Pending → Option Pending
sped_by None reel tenths pending = Some (record pending { to = at_speed tenths pending.to })
sped_by (Some earlier) reel tenths pending =
    at_speed_with tenths pending (given reel earlier pending.from)

-- the latest event line with a speed for a reel, where a side wants it
abbrev pub sped_up : Reel → ℕ → Pending → Option Pending
sped_up reel tenths pending =
    if is_one_reel reel pending.to.reel then sped_by pending.to.speed reel tenths pending
    else with_outgoing pending (given reel tenths pending.from)

-- the side with a name
abbrev pub with_name : List ℕ → Side → Side
with_name name side = record side { name = Some name }

-- the latest event line with the name of the clip that it comes from, by its outgoing side
abbrev pub named_by : List ℕ → Option Side → Pending → Pending
named_by name None pending = record pending { to = with_name name pending.to }
named_by name (Some side) pending = record pending { from = Some (with_name name side) }

-- the latest event line with that name, which is none where it is empty
abbrev pub named_from : List ℕ → Pending → Pending
named_from [] pending = pending
named_from (byte ∷ name) pending = named_by (byte ∷ name) pending.from pending

-- the latest event line with the name of the clip that it goes to, which is none where it is empty
-- or there is no outgoing side
abbrev pub named_to : List ℕ → Pending → Pending
named_to [] pending = pending
named_to (byte ∷ name) pending =
    if is_some pending.from then record pending { to = with_name (byte ∷ name) pending.to }
    else pending

-- whether the latest event line is a `C` line of that number and those channels
abbrev pub is_first_line : Option Pending → ℕ → Channels → Bool
is_first_line None number channels = false
is_first_line (Some pending) number channels =
    is_cut pending.kind && (pending.number == number) && are_same_channels pending.channels channels

-- whether a line of this kind with these frames doesn't fit the latest event line in the record, or
-- lasts longer than its record length
abbrev pub misses_by : Option Pending → Kind → Frames → Bool
misses_by None kind frames = false
misses_by (Some pending) kind frames =
    not (is_cut kind) && (not (pending.frames.record_out == frames.record_in) || nat_lt
    (frames.record_out - frames.record_in) (duration kind))

-- the side that begins where it ends
abbrev pub from_end : Side → Side
from_end side = record side { src_in = side.src_out }

-- the outgoing side that the latest event line is for a line of this kind
abbrev pub closed_from : Option Pending → Kind → Option Side
closed_from None kind = None
closed_from (Some pending) kind = if duration kind == 0 then None else Some (from_end pending.to)

-- the event of the latest line on one channel
abbrev pub event_of : Pending → Channel → Event
event_of pending channel = record {
  line = pending.line;
  channel = channel;
  to = pending.to;
  cross = begun pending.kind pending.from;
  rec_in = pos pending.frames.record_in;
  rec_out = pos pending.frames.record_out;
}

-- its events
abbrev pub events_given : Pending → List Event
events_given pending =
    if pending.frames.record_in == pending.frames.record_out then []
    else map (event_of pending) (channels_of pending.channels)

-- the events of the latest event line, where there is one
abbrev pub closed_events : Option Pending → List Event
closed_events None = []
closed_events (Some pending) = events_given pending

-- all but the event lines is as it was
pub record IsSameButLines (old new : Said) : Type 0 where
  pub counted : new.rate ≡ old.rate
  pub line : new.line ≡ old.line
  pub title : new.title ≡ old.title
  pub drop : new.drop ≡ old.drop
  pub first : new.first_drop ≡ old.first_drop

-- what is kept of an event line
abbrev pub pending_of : EventLine → Frames → Said → Pending
pending_of event frames said = record {
  line = said.line;
  number = event.number;
  channels = event.channels;
  kind = event.kind;
  frames = frames;
  to = side_of (reel_of event.reel) frames;
  from = closed_from said.pending event.kind;
}

-- the event line in hand becomes the latest
pub record Begins (event : EventLine) (frames : Frames) (old new : Said) : Type 0 where
  pub counted : new.rate ≡ old.rate
  pub line : new.line ≡ old.line
  pub title : new.title ≡ old.title
  pub drop : new.drop ≡ old.drop
  pub first : new.first_drop ≡ Some (unwrap_or old.first_drop old.drop)
  pub events : new.events.items ≡ old.events.items ++ closed_events old.pending
  pub pending : new.pending ≡ Some (pending_of event frames old)

-- the latest line is the event line of that block
pub record IsPending (rate : Rate) (pending : Pending) (block : Block)
    (before : List Block) : Type 0 where
  pub line : pending.line ≡ block.line
  pub number : pending.number ≡ block.says.number
  pub channels : pending.channels ≡ block.says.channels
  pub kind : pending.kind ≡ block.says.kind
  pub source_in : source_in rate block ≡ pending.frames.source_in
  pub source_out : source_out rate block ≡ pending.frames.source_out
  pub record_in : record_in rate block ≡ pending.frames.record_in
  pub record_out : record_out rate block ≡ pending.frames.record_out
  pub to : pending.to ≡ incoming rate block before
  pub from : pending.from ≡ from_side rate block before

-- the latest line is the latest of the event lines, and the events are those of the others
abbrev pub Hold : Rate → Option Pending → List Event → List Block → Type 0
Hold rate None events [] = events ≡ []
Hold rate None events (block ∷ before) = ⊥
Hold rate (Some pending) events [] = ⊥
Hold rate (Some pending) events (block ∷ before) =
    IsPending rate pending block before × (events ≡ events_of rate before)

-- what is kept is what the statements say together
pub record Holds (rate : Rate) (past : List Statement) (said : Said) : Type 0 where
  pub counted : said.rate ≡ rate
  pub title : said.title ≡ title_in past
  pub drop : said.drop ≡ mode_in past
  pub first : said.first_drop ≡ first_mode_in past
  pub lines : Hold rate said.pending said.events.items (blocks_in past)

-- so many lines were taken, and say these statements
pub record Stands (rate : Rate) (past : List Statement) (said : Said) : Type 0 where
  pub line : said.line ≡ length past
  pub holds : Holds rate past said

-- the same, where the number is already that of the next line
pub record StandsAtNext (rate : Rate) (past : List Statement) (said : Said) : Type 0 where
  pub line : said.line ≡ suc (length past)
  pub holds : Holds rate past said

-- the statement was taken behind those before, or has this fault there; want of memory is free
abbrev pub Takes : {T : Type 0} → Result T EdlFault → Rate → List Statement → Statement → Said
    → Type 0
Takes (Ok _) rate past statement said =
    (fault_behind rate past statement ≡ None) × Stands rate (statement ∷ past) said
Takes (Err fault) rate past statement said =
    (fault ≡ Memory) ⊎ (fault_behind rate past statement ≡ Some fault)

-- the same of a line
abbrev pub TakesLine : {T : Type 0} → Result T EdlFault → Rate → List Statement → List ℕ → Said
    → Type 0
TakesLine (Ok _) rate past line said =
    (statement : Statement) × IsSound rate past line statement × Stands rate (statement ∷ past) said
TakesLine (Err fault) rate past line said = (fault ≡ Memory) ⊎ IsFaulty rate past line fault

-- each statement was said by a line that has no fault behind those before it
abbrev pub AreSaid : Rate → List Statement → Type 0
AreSaid rate [] = Unit {0}
AreSaid rate (statement ∷ past) =
    (line : List ℕ) × IsSound rate past line statement × AreSaid rate past

-- all lines were taken: the list that they say, or the fault of its events; want of memory is free
abbrev pub Gives : Result EventList EdlFault → Rate → List Statement → Type 0
Gives (Ok list) rate past =
    AreFine (events_in rate past) × IsSaid rate past list × AllPairs AreApart list.events
Gives (Err fault) rate past = (fault ≡ Memory) ⊎ IsLateFault (events_in rate past) fault
