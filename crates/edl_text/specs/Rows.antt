-- The lines of an event, each without its end.
use Rattle.std.specs.Prelude.{◌==◌, ◌&&◌, ◌||◌, ◌*◌, ◌/◌, ℕ, Bool, not, cond, Option, Some, None, List, [], ◌∷◌, ◌++◌, codes, bytes_eq, unwrap_or}
use Rattle.std.specs.List.{concat}
use Rattle.tick_time.specs.declared.rates.Rate.{Rate}
use Rattle.edl_list.specs.declared.layout.Layout.{Layout}
use Rattle.edl_list.specs.declared.list.Channel.{Channel}
use Rattle.edl_list.specs.declared.list.Side.{Side}
use Rattle.edl_list.specs.declared.list.Cross.TheVariants.{Cut}
use Rattle.edl_list.specs.declared.list.Event.{Event}
use Rattle.edl_list.specs.Labelled.{outgoing}
use Rattle.edl_list.specs.Speeds.{count_of, side_speed}
use Rattle.edl_text.specs.Columns.{speed_width, channel_width, spaces, column, digits, reel_text, channel_text, kind_column, duration_column, label_text, cleaned}

-- An event line: the number in the digits and the reel in the column of the layout with two spaces
-- between, the channel in five columns, the type in four, the duration in three digits or spaces,
-- and the labels of source in, source out, record in and record out, with one space between all of
-- these.
abbrev pub event_line : Layout → ℕ → List ℕ → Channel → List ℕ → List ℕ → List ℕ → List ℕ → List ℕ
    → List ℕ → List ℕ
event_line layout number reel channel kind duration source_in source_out record_in record_out =
    concat (digits layout.number_width number ∷ codes "  " ∷ column layout.reel_width reel
    ∷ codes " " ∷ column channel_width (channel_text channel) ∷ codes " " ∷ kind ∷ codes " "
    ∷ duration ∷ codes " " ∷ source_in ∷ codes " " ∷ source_out ∷ codes " " ∷ record_in ∷ codes " "
    ∷ record_out ∷ [])

-- the one line of a cut, and the second line of a pair
abbrev pub main_line : Rate → Bool → Layout → ℕ → Event → List ℕ
main_line rate drop layout number event =
    event_line layout number (reel_text event.to.reel) event.channel (kind_column event.cross)
    (duration_column event.cross)
    (label_text rate drop event.to.src_in) (label_text rate drop event.to.src_out)
    (label_text rate drop event.rec_in) (label_text rate drop event.rec_out)

-- the first line of a pair: a cut of no length, with the source in of the outgoing side twice
abbrev pub first_line : Rate → Bool → Layout → ℕ → Event → Side → List ℕ
first_line rate drop layout number event from =
    event_line layout number (reel_text from.reel) event.channel (kind_column Cut)
    (duration_column Cut)
    (label_text rate drop from.src_in) (label_text rate drop from.src_in)
    (label_text rate drop event.rec_in) (label_text rate drop event.rec_in)

abbrev pub first_lines : Rate → Bool → Layout → ℕ → Event → Option Side → List (List ℕ)
first_lines rate drop layout number event None = []
first_lines rate drop layout number event (Some from) =
    first_line rate drop layout number event from ∷ []

-- the tenths of a frame a second that an M2 line gives a side: its own, or those of the rate's own
-- speed
abbrev pub written_tenths : Rate → Side → ℕ
written_tenths rate side = unwrap_or side.speed (10 * count_of rate)

-- an M2 line: the reel in the column of the layout, the speed as `ddd.d`, sixteen spaces, and the
-- label of the side's source in
abbrev pub speed_line : Rate → Bool → Layout → Side → List ℕ
speed_line rate drop layout side = concat (
    codes "M2   " ∷ column layout.reel_width (reel_text side.reel) ∷ codes " "
    ∷ digits speed_width (written_tenths rate side / 10) ∷ codes "."
    ∷ digits 1 (written_tenths rate side)
    ∷ spaces 16 ∷ label_text rate drop side.src_in ∷ [])

-- a side's speed isn't the rate's own
abbrev pub has_speed : Rate → Side → Bool
has_speed rate side = not (side_speed rate side == 1000000)

-- both sides have one reel
abbrev pub has_one_reel : Side → Side → Bool
has_one_reel a b = bytes_eq (reel_text a.reel) (reel_text b.reel)

-- an outgoing side has an M2 line where its speed isn't the rate's own; so has an incoming side,
-- and besides where the outgoing side of its reel has one
abbrev pub needs_line : Rate → Side → Option Side → Bool
needs_line rate to None = has_speed rate to
needs_line rate to (Some from) = has_speed rate to || (has_speed rate from && has_one_reel from to)

abbrev pub speed_lines_if : Rate → Bool → Layout → Bool → Side → List (List ℕ)
speed_lines_if rate drop layout needed side = cond needed (speed_line rate drop layout side ∷ []) []

-- the M2 lines of an event, outgoing first
abbrev pub speed_lines : Rate → Bool → Layout → Side → Option Side → List (List ℕ)
speed_lines rate drop layout to None = speed_lines_if rate drop layout (needs_line rate to None) to
speed_lines rate drop layout to (Some from) =
    speed_lines_if rate drop layout (has_speed rate from) from
    ++ speed_lines_if rate drop layout (needs_line rate to (Some from)) to

-- a line of this head and this text; none where the text is empty
abbrev pub headed : List ℕ → List ℕ → List (List ℕ)
headed head [] = []
headed head (b ∷ text) = (head ++ (b ∷ text)) ∷ []

-- the note of a name that isn't empty as it is written
abbrev pub name_lines : List ℕ → Option (List ℕ) → List (List ℕ)
name_lines head None = []
name_lines head (Some name) = headed head (cleaned name)

abbrev pub from_head : List ℕ
from_head = codes "* FROM CLIP NAME: "

abbrev pub to_head : List ℕ
to_head = codes "* TO CLIP NAME: "

-- the notes of an event: FROM for a cut, and FROM for the outgoing and TO for the incoming side of
-- a pair
abbrev pub note_lines : Side → Option Side → List (List ℕ)
note_lines to None = name_lines from_head to.name
note_lines to (Some from) = name_lines from_head from.name ++ name_lines to_head to.name

-- the lines of an event of this number with this outgoing side
abbrev pub lines_with : Rate → Bool → Layout → ℕ → Event → Option Side → List (List ℕ)
lines_with rate drop layout number event from =
    first_lines rate drop layout number event from
    ++ (main_line rate drop layout number event
    ∷ (speed_lines rate drop layout event.to from ++ note_lines event.to from))

-- the lines of an event of this number
abbrev pub event_lines : Rate → Bool → Layout → ℕ → Event → List (List ℕ)
event_lines rate drop layout number event =
    lines_with rate drop layout number event (outgoing event.cross)
