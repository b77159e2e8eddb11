-- What is known of a timeline that is written as a list.
use Rattle.std.specs.Prelude.{◌≡◌, ℕ, List, Some, None, Bool, All}
use Rattle.otio_model.specs.declared.compositions.Clip.{Clip as ClipRow}
use Rattle.edl_list.specs.declared.list.EventList.{EventList}
use Rattle.edl_list.specs.declared.layout.Layout.{Layout}
use Rattle.edl_list.specs.Layouts.{layout_of, FitsLayout}
use Rattle.edl_list.specs.Labelled.{IsLabelled}
use Rattle.edl_list.specs.Formed.{IsWellFormed}
use Rattle.edl_list.specs.Alike.{IsEven}
use Rattle.edl_frames.specs.Refused.{IsAccepted}
use Rattle.coord.specs.Keys.{key_of, reel_of}
use Rattle.edl_frames.specs.Channels.{KeySeen}
use Rattle.media_rows.specs.Rows.{AreRows, IsRowInRange, MediaRows}
use Rattle.edl_frames.specs.Shown.{reel_key}
use Rattle.edl_frames.specs.Sides.{clip_reel}

-- the reel of a clip tells its key
abbrev pub KnowsKeys : KeySeen → MediaRows → Type 0
KnowsKeys key media = (layout : Layout) (c : ClipRow) (reel : List ℕ)
    → clip_reel layout media c ≡ Some reel → key (reel_of c) (key_of c) ≡ reel_key media reel

-- no reel and no URL stands twice in the media list, where there is one
abbrev pub AreListed : MediaRows → Type 0
AreListed None = Unit {0}
AreListed (Some rows) = AreRows rows

-- the media of each row of the media list, where there is one, lie within a million seconds of 0,
-- as each media list has them
abbrev pub AreInRange : MediaRows → Type 0
AreInRange None = Unit {0}
AreInRange (Some rows) = All IsRowInRange rows

-- A list that has a text in a mode and a layout, and that its media list holds: it is well formed
-- and even, the layout has room for it, and each of its labels is below the day in that mode.
pub record IsFine (list : EventList) (media : MediaRows) (drop wide : Bool) : Type 0 where
  pub formed : IsWellFormed list
  pub even : IsEven list
  pub carried : IsAccepted list media
  pub fits : FitsLayout (layout_of wide) list
  pub labels : All (IsLabelled list.rate drop) list.events
