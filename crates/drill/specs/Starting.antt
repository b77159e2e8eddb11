-- The timeline that a drill begins with.
use Rattle.std.specs.Prelude.{◌≡◌, ℕ, zero, suc, ℤ, pos, true, List, [], ◌∷◌, Some, None, codes}
use Rattle.tick_time.specs.declared.times.Time.{Time}
use Rattle.otio_model.specs.declared.compositions.StackOf.{StackOf}
use Rattle.otio_model.specs.declared.compositions.ItemOf.{ItemOf}
use Rattle.otio_model.specs.declared.compositions.Listed.{Listed}
use Rattle.otio_model.specs.declared.timelines.Timeline.{Timeline}
use Rattle.otio_model.specs.Timelines.{bare}
use Rattle.otio_model.specs.Trees.{listed}
use Rattle.otio_model.specs.Plain.{track_with}
use Rattle.tick_time.specs.FixedRates.{rate_24}
use Rattle.edit_script.specs.declared.commands.Put.{Put}
use Rattle.edit_script.specs.Items.{IsItem}
use Rattle.tick_time.specs.Frames.{IsFrames}
use Rattle.drill.specs.Acts.{clips}
use Rattle.drill.specs.Draws.{after}
use Rattle.drill.specs.Media.{rows}

-- the number of the first record frame
abbrev pub first_frame : ℤ
first_frame = pos 86400

-- a Video track with these items, and nothing else
abbrev pub video_track : List (ItemOf Listed) → ItemOf Listed
video_track xs = track_with (codes "Video") [] (listed xs)

-- the root stack with an item alone
abbrev pub root_of : ItemOf Listed → StackOf Listed
root_of x = record {
  metadata = [];
  name = codes "tracks";
  source_range = None;
  effects = [];
  markers = [];
  enabled = true;
  children = listed (x ∷ []);
  rest = [];
}

-- the timeline with that track alone
abbrev pub timeline_with : Time → List (ItemOf Listed) → Timeline
timeline_with start xs = record {
  metadata = [];
  name = codes "drill";
  global_start_time = Some start;
  tracks = root_of (video_track xs);
  rest = [];
  spare = record { room = 0; taken = 0; loose = 0 };
}

-- the generator's number after so many clips
abbrev pub behind : ℕ → ℕ → ℕ
behind zero x = x
behind (suc n) x = behind n (after 2 x)

-- the forty clips of the timeline, and the generator's number after them
unfoldable pub start_clips : ℕ → List Put
start_clips x = clips 0 40 x

unfoldable pub behind_start : ℕ → ℕ
behind_start x = behind 40 x

-- the items are those that are put in, one after another, at 24 frames a second
abbrev pub AreItems : List Put → List (ItemOf Listed) → Type 0
AreItems [] xs = xs ≡ []
AreItems (put ∷ puts) xs = (x : ItemOf Listed) × (others : List (ItemOf Listed))
    × (xs ≡ x ∷ others) × IsItem rate_24 (Some rows) put x × AreItems puts others

-- the timeline of forty clips, drawn where the generator's number is x
pub record IsStart (x : ℕ) (t : Timeline) : Type 0 where
  pub start : Time
  pub begins : IsFrames rate_24 first_frame start
  pub items : List (ItemOf Listed)
  pub drawn : AreItems (start_clips x) items
  pub is : bare t ≡ timeline_with start items
