-- The events that event lines give.
use Rattle.std.specs.Prelude.{◌==◌, Bool, pos, List, [], ◌∷◌, ◌++◌, map, if◌then◌else◌}
use Rattle.tick_time.specs.declared.rates.Rate.{Rate}
use Rattle.edl_text.specs.declared.statement_types.Channels.{Channels}
use Rattle.edl_list.specs.declared.list.Channel.{Channel}
use Rattle.edl_list.specs.declared.list.Channel.TheVariants.{V, A, A2}
use Rattle.edl_list.specs.declared.list.Event.{Event}
use Rattle.edl_text.specs.Past.{Block}
use Rattle.edl_text.specs.Sides.{incoming, from_side, begun, record_in, record_out}

-- the channel, where the line has it
abbrev pub where_set : Bool → Channel → List Channel
where_set set channel = if set then channel ∷ [] else []

-- the channels of a line
abbrev pub channels_of : Channels → List Channel
channels_of channels =
    where_set channels.picture V ++ (where_set channels.first_sound A
    ++ where_set channels.second_sound A2)

-- the event of a line on one channel, with the event lines before it
abbrev pub event_on : Rate → Block → List Block → Channel → Event
event_on rate block before channel = record {
  line = block.line;
  channel = channel;
  to = incoming rate block before;
  cross = begun block.says.kind (from_side rate block before);
  rec_in = pos (record_in rate block);
  rec_out = pos (record_out rate block);
}

-- the events of a line, one for each of its channels; none where its record length is 0
abbrev pub events_at : Rate → Block → List Block → List Event
events_at rate block before =
    if record_in rate block == record_out rate block then []
    else map (event_on rate block before) (channels_of block.says.channels)

-- the events of the lines, in the order of the lines
abbrev pub events_of : Rate → List Block → List Event
events_of rate [] = []
events_of rate (block ∷ before) = events_of rate before ++ events_at rate block before
