-- The sides of an event line: their reels, frames, names and speeds. A pair is a `D` or `W` line
-- with a duration, which gives the incoming side, and the event line before it, a `C` line, which
-- gives the outgoing side.
use Rattle.std.specs.Prelude.{ℕ, Bool, true, false, nat_lt, pos, List, [], ◌∷◌, Option, Some, None, is_some, unwrap_or, bytes_eq, if◌then◌else◌}
use Rattle.std.specs.Option.{option_or}
use Rattle.std.specs.List.{list_all}
use Rattle.tick_time.specs.declared.rates.Rate.{Rate}
use Rattle.edl_text.specs.Statements as said
use Rattle.edl_text.specs.Statements.{Statement, EventLine, Speed, FromName, ToName, labels_of}
use Rattle.edl_text.specs.declared.statement_types.Kind.{Kind}
use Rattle.edl_text.specs.declared.statement_types.Kind.TheVariants as kinds
use Rattle.edl_list.specs.declared.list.Reel.{Reel}
use Rattle.edl_list.specs.declared.list.Reel.TheVariants.{Black, Named}
use Rattle.edl_list.specs.declared.list.Side.{Side}
use Rattle.edl_list.specs.declared.list.Cross.{Cross}
use Rattle.edl_list.specs.declared.list.Cross.TheVariants.{Cut, Dissolve, Wipe}
use Rattle.smpte_tc.specs.Frames.{label_frame}
use Rattle.edl_text.specs.Past.{Block}

-- the reel that a line names
abbrev pub reel_of : said.Reel → Reel
reel_of said.Black = Black
reel_of (said.Named name) = Named name

-- whether two reels are the same
abbrev pub is_one_reel : Reel → Reel → Bool
is_one_reel Black Black = true
is_one_reel (Named a) (Named b) = bytes_eq a b
is_one_reel Black (Named b) = false
is_one_reel (Named a) Black = false

-- the duration of an event line in frames, 0 for a cut
abbrev pub duration : Kind → ℕ
duration kinds.Cut = 0
duration (kinds.Dissolve frames) = frames
duration (kinds.Wipe code frames) = frames

-- whether an event line is a `C` line
abbrev pub is_cut : Kind → Bool
is_cut kinds.Cut = true
is_cut (kinds.Dissolve frames) = false
is_cut (kinds.Wipe code frames) = false

-- whether the line is the second one of a pair, with the event lines before it; a `D` or `W` line
-- with a duration of 0 is a cut
abbrev pub is_pair : Block → List Block → Bool
is_pair block [] = false
is_pair block (before ∷ blocks) = nat_lt 0 (duration block.says.kind)

-- whether the four labels of the line are labels of the day, in the mode in force at the line
abbrev pub has_labels : Rate → Block → Bool
has_labels rate block =
    list_all (λ label. is_some (label_frame rate block.drop label)) (labels_of block.says)

-- the frame number that a label of the line names
abbrev pub frame_at : Rate → Block → List ℕ → ℕ
frame_at rate block label = unwrap_or (label_frame rate block.drop label) 0

abbrev pub source_in : Rate → Block → ℕ
source_in rate block = frame_at rate block block.says.source_in

abbrev pub source_out : Rate → Block → ℕ
source_out rate block = frame_at rate block block.says.source_out

abbrev pub record_in : Rate → Block → ℕ
record_in rate block = frame_at rate block block.says.record_in

abbrev pub record_out : Rate → Block → ℕ
record_out rate block = frame_at rate block block.says.record_out

-- a text, where it isn't empty
abbrev pub some_text : List ℕ → Option (List ℕ)
some_text [] = None
some_text (byte ∷ bytes) = Some (byte ∷ bytes)

-- the name that the latest `FROM` note with a text gives
abbrev pub from_name : List Statement → Option (List ℕ)
from_name [] = None
from_name (FromName name ∷ notes) = option_or (some_text name) (from_name notes)
from_name (note ∷ notes) = from_name notes

-- the name that the latest `TO` note with a text gives
abbrev pub to_name : List Statement → Option (List ℕ)
to_name [] = None
to_name (ToName name ∷ notes) = option_or (some_text name) (to_name notes)
to_name (note ∷ notes) = to_name notes

-- the speeds that M2 lines give a reel, in tenths of a frame a second, the latest first
abbrev pub speeds_of : Reel → List Statement → List ℕ
speeds_of reel [] = []
speeds_of reel (Speed speed ∷ notes) =
    if is_one_reel (reel_of speed.reel) reel then speed.tenths ∷ speeds_of reel notes
    else speeds_of reel notes
speeds_of reel (note ∷ notes) = speeds_of reel notes

-- the latest of some speeds
abbrev pub latest : List ℕ → Option ℕ
latest [] = None
latest (speed ∷ speeds) = Some speed

-- Of the speeds that M2 lines behind a pair give the reel of its outgoing side, the one of that
-- side. Where both sides have that reel, a lone one is the incoming side's, and of two the earlier
-- is the outgoing side's.
abbrev pub outgoing_speed : Bool → List ℕ → Option ℕ
outgoing_speed false speeds = latest speeds
outgoing_speed true [] = None
outgoing_speed true (speed ∷ speeds) = latest speeds

-- the reel of an event line
abbrev pub reel_at : Block → Reel
reel_at block = reel_of block.says.reel

-- The incoming side of a pair, or the side of a cut, with the event lines before it. A pair names
-- it by a `TO` note, and a cut by a `FROM` note.
abbrev pub incoming : Rate → Block → List Block → Side
incoming rate block before = record {
  reel = reel_at block;
  name = (if is_pair block before then to_name block.notes else from_name block.notes);
  src_in = pos (source_in rate block);
  src_out = pos (source_out rate block);
  speed = latest (speeds_of (reel_at block) block.notes);
}

-- The outgoing side of a pair, whose lines are these two. It begins and ends at the first line's
-- source out. An M2 line or a `FROM` note between the lines counts for it too.
abbrev pub outgoing : Rate → Block → Block → Side
outgoing rate block before = record {
  reel = reel_at before;
  name = option_or (from_name block.notes) (from_name before.notes);
  src_in = pos (source_out rate before);
  src_out = pos (source_out rate before);
  speed = option_or (latest (speeds_of (reel_at before) before.notes))
      (outgoing_speed (is_one_reel (reel_at before) (reel_at block))
      (speeds_of (reel_at before) block.notes));
}

-- the outgoing side of a line that is the second one of a pair, with the event lines before it
abbrev pub from_side : Rate → Block → List Block → Option Side
from_side rate block [] = None
from_side rate block (before ∷ blocks) =
    if nat_lt 0 (duration block.says.kind) then Some (outgoing rate block before) else None

-- how an event of this kind begins, with its outgoing side
abbrev pub begun : Kind → Option Side → Cross
begun kind None = Cut
begun kinds.Cut (Some from) = Cut
begun (kinds.Dissolve frames) (Some from) = Dissolve frames from
begun (kinds.Wipe code frames) (Some from) = Wipe code frames from
