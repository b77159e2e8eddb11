-- The sides of the events of a track.
use Rattle.std.specs.Prelude.{ℕ, ℤ, pos, ◌+ℤ◌, ◌-ℤ◌, ◌*ℤ◌, nat_le, unsigned_abs, false, ◌&&◌, cond, List, [], ◌∷◌, Option, Some, None, length, option_and_then}
use Rattle.std.specs.Int.{int_div_euclid}
use Rattle.otio_model.specs.declared.media.Media.{Media as Reference}
use Rattle.otio_model.specs.declared.compositions.Clip.{Clip as ClipRow}
use Rattle.otio_model.specs.declared.compositions.ItemOf.TheVariants.{Clip}
use Rattle.otio_model.specs.declared.compositions.Listed.{Listed}
use Rattle.otio_model.specs.Lengths.{active_media, trimmed_start}
use Rattle.edl_list.specs.declared.list.Reel.{Reel}
use Rattle.edl_list.specs.declared.list.Reel.TheVariants.{Black, Named}
use Rattle.edl_list.specs.declared.list.Side.{Side}
use Rattle.edl_list.specs.declared.list.Cross.{Cross}
use Rattle.edl_list.specs.declared.list.Cross.TheVariants.{Cut, Dissolve, Wipe}
use Rattle.media_rows.specs.declared.row.MediaRow.{MediaRow}
use Rattle.media_rows.specs.Rows.{by_url, MediaRows}
use Rattle.coord.specs.Keys.{reel_of}
use Rattle.coord.specs.Speeds.{speed_of, media_at}
use Rattle.coord.specs.Images.{Kind, Dissolve as IsDissolve, Wipe as IsWipe, Other, kind_of}
use Rattle.std.specs.Ordering.{int_eq}
use Rattle.edl_list.specs.declared.layout.Layout.{Layout}
use Rattle.text_lines.specs.ReelNames.{is_reel_name}
use Rattle.edl_frames.specs.Jobs.{Job, frames_in, mode_in, count_in, tenths_of}
use Rattle.edl_frames.specs.Seats.{Lap, ItemAt, Past, clip_in}
use Rattle.otio_model.specs.declared.media.Media.TheVariants as M

-- the URL of external media
abbrev pub url_in : Option Reference → Option (List ℕ)
url_in None = None
url_in (Some (M.External m)) = Some m.target_url
url_in (Some (M.Missing m)) = None
url_in (Some (M.Generator m)) = None
url_in (Some (M.Sequence m)) = None
url_in (Some (M.Kept k)) = None

-- the row of a clip's url
abbrev pub clip_row : MediaRows → ClipRow → Option MediaRow
clip_row None c = None
clip_row (Some rows) c = option_and_then (λ url. by_url url rows) (url_in (active_media c))

-- the reel of a row
abbrev pub reel_in : Option MediaRow → Option (List ℕ)
reel_in None = None
reel_in (Some row) = Some row.reel

-- the name, where it is one of a reel and its column has room for it
abbrev pub if_reel : Layout → Option (List ℕ) → Option (List ℕ)
if_reel layout None = None
if_reel layout (Some name) =
    cond (is_reel_name name && nat_le (length name) layout.reel_width) (Some name) None

-- the reel of a clip: the listed one, or without a media list that of its metadata
abbrev pub clip_reel : Layout → MediaRows → ClipRow → Option (List ℕ)
clip_reel layout None c = if_reel layout (reel_of c)
clip_reel layout (Some rows) c = if_reel layout (reel_in (clip_row (Some rows) c))

-- the speed of a clip in millionths
abbrev pub speed_in : ClipRow → ℤ
speed_in c = speed_of {C = Listed} (Clip c)

-- the source frame of a clip that starts at an instant of the track, at another one
abbrev pub source_at : Job → ClipRow → ℤ → ℤ → ℤ
source_at j c start u = frames_in j
    (media_at (trimmed_start {C = Listed} (Clip c)) (speed_in c) (u -ℤ start))

-- a reel of this name; black without one
abbrev pub reel_named : Option (List ℕ) → Reel
reel_named None = Black
reel_named (Some name) = Named name

-- a clip's name, where it isn't empty
abbrev pub name_in : List ℕ → Option (List ℕ)
name_in [] = None
name_in (b ∷ name) = Some (b ∷ name)

-- the tenths that give a speed in millionths; none at the rate's own speed
abbrev pub speed_in_tenths : Job → ℤ → Option ℕ
speed_in_tenths j speed = cond (int_eq speed (pos 1000000)) None
    (tenths_of (count_in (mode_in j.rate false)) speed)

-- the side of a clip from an instant of the track on, over so many record frames
abbrev pub side_of : Job → ClipRow → ℤ → ℤ → ℤ → Side
side_of j c start u count = record {
  reel = reel_named (clip_reel j.layout j.media c);
  name = name_in c.name;
  src_in = source_at j c start u;
  src_out = source_at j c start u +ℤ int_div_euclid (count *ℤ speed_in c) (pos 1000000);
  speed = speed_in_tenths j (speed_in c);
}

-- black over so many record frames
abbrev pub black_side : ℤ → Side
black_side count = record {
  reel = Black;
  name = None;
  src_in = pos 0;
  src_out = count;
  speed = None;
}

-- the side that goes out at an instant
abbrev pub side_out : Job → Option ItemAt → ℤ → Side
side_out j None u = black_side (pos 0)
side_out j (Some s) u = elim (clip_in s.item)
    [ None ↦ black_side (pos 0) | Some c ↦ side_of j c s.start u (pos 0) ]

-- how an event begins, by the kind of its transition
abbrev pub crossing : Kind → ℕ → Side → Cross
crossing IsDissolve frames from = Dissolve frames from
crossing (IsWipe code) frames from = Wipe code frames from
crossing (Other type) frames from = Cut

-- how an event behind an overlap begins: with the side that goes out, over as many frames as the
-- overlap has
abbrev pub cross_in : Job → Past → Option Lap → Cross
cross_in j past None = Cut
cross_in j past (Some lap) = crossing (kind_of lap.type)
    (unsigned_abs (frames_in j (lap.end -ℤ lap.begin))) (side_out j past.item lap.begin)
