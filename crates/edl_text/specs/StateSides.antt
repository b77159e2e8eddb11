-- A side that no note has changed yet.
use Rattle.std.specs.Prelude.{pos, None}
use Rattle.edl_list.specs.declared.list.Reel.{Reel}
use Rattle.edl_list.specs.declared.list.Side.{Side}
use Rattle.edl_text.specs.declared.event_frames.Frames.{Frames}

-- the side of an event line before any note on it
abbrev pub side_of : Reel → Frames → Side
side_of reel frames = record {
  reel = reel;
  name = None;
  src_in = pos frames.source_in;
  src_out = pos frames.source_out;
  speed = None;
}
