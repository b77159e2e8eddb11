-- What is known of overlaps, clips that are shown, and sides of clips.
use Rattle.std.specs.Prelude.{◌≡◌, ℕ, ◌*◌, List}
use Rattle.limits.specs.Limits.{most_ticks}
use Rattle.otio_model.specs.declared.compositions.Clip.{Clip as ClipRow}
use Rattle.otio_model.specs.declared.compositions.ItemOf.TheVariants.{Clip}
use Rattle.otio_model.specs.declared.compositions.Listed.{Listed}
use Rattle.otio_model.specs.Lengths.{trimmed_start}
use Rattle.coord.specs.Looks as L
use Rattle.coord.specs.Images as I
use Rattle.edl_frames.specs.Sides.{speed_in}
use Rattle.edl_frames.specs.ChildReasons as C
use Rattle.edl_conform.specs.declared.overlaps.Overlap.{Overlap}
use Rattle.edl_conform.specs.declared.visible_clips.Shot.{Shot}
use Rattle.edl_conform.specs.declared.clip_sides.Part.{Part}
use Rattle.edl_conform.specs.declared.clips.LapKind.{LapKind}
use Rattle.edl_conform.specs.declared.clips.LapKind.TheVariants as K
use Rattle.edl_conform.specs.Ranges.{IsNear}

abbrev pub stated_overlap : Overlap → L.Overlap
stated_overlap o = record { kind = o.kind.now; before = o.before; after = o.after }

-- its offsets are times
pub record IsOverlap (o : Overlap) : Type 0 where
  pub before : IsNear most_ticks o.before
  pub after : IsNear most_ticks o.after

abbrev pub clip_of : Shot → ClipRow
clip_of s = s.clip.now

-- the clip's speed, and where its trimmed range starts
pub record IsShot (s : Shot) : Type 0 where
  pub speed : s.speed ≡ speed_in s.clip.now
  pub start : s.start ≡ trimmed_start {C = Listed} (Clip s.clip.now)
  pub slow : IsNear 1000000000 s.speed
  pub near : IsNear most_ticks s.start

abbrev pub stated_part : Part → C.Part
stated_part p = record { at = p.at; frames = p.frames; counted = p.counted }

-- a side within the instants and frames that there are
pub record IsNearPart (p : Part) : Type 0 where
  pub at : IsNear (2 * most_ticks) p.at
  pub frames : IsNear 1000000000000 p.frames
  pub counted : IsNear 1000000000000 p.counted

-- the kind of mix that a transition of this type makes
abbrev pub stated_kind : List ℕ → LapKind → I.Kind
stated_kind type K.Dissolve = I.Dissolve
stated_kind type (K.Wipe code) = I.Wipe code
stated_kind type K.Other = I.Other type
