-- The statement of the code as plain data.
use Rattle.edl_text.specs.Statements as plain
use Rattle.edl_text.specs.declared.statement_types.ReelName.{ReelName}
use Rattle.edl_text.specs.declared.statement_types.ReelName.TheVariants as reels
use Rattle.edl_text.specs.declared.statement_types.EventLine.{EventLine}
use Rattle.edl_text.specs.declared.statement_types.SpeedLine.{SpeedLine}
use Rattle.edl_text.specs.declared.statement_types.Statement.{Statement}
use Rattle.edl_text.specs.declared.statement_types.Statement.TheVariants as lines

-- a reel, its name as bytes
abbrev pub reel_said : ReelName → plain.Reel
reel_said reels.Black = plain.Black
reel_said (reels.Named name) = plain.Named name.now

-- an event line, its labels as bytes
abbrev pub event_said : EventLine → plain.EventLine
event_said event = record {
  number = event.number;
  reel = reel_said event.reel;
  channels = event.channels;
  kind = event.kind;
  source_in = event.labels.source_in.now;
  source_out = event.labels.source_out.now;
  record_in = event.labels.record_in.now;
  record_out = event.labels.record_out.now;
}

-- a speed line, its label as bytes
abbrev pub speed_said : SpeedLine → plain.SpeedLine
speed_said speed = record {
  reel = reel_said speed.reel;
  reverse = speed.reverse;
  tenths = speed.tenths;
  label = speed.label.now;
}

-- what a line says, its texts as bytes
abbrev pub said : Statement → plain.Statement
said lines.Nothing = plain.Nothing
said (lines.Title title) = plain.Title title.now
said (lines.Mode drop) = plain.Mode drop
said (lines.Event event) = plain.Event (event_said event)
said (lines.Speed speed) = plain.Speed (speed_said speed)
said (lines.FromName name) = plain.FromName name.now
said (lines.ToName name) = plain.ToName name.now
