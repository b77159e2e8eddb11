-- What is reached below a stack in a track, and what pins a track there, worked out by hand at 24
-- frames a second.
use Rattle.std.specs.Prelude.{◌≡◌, ℕ, ℤ, pos, ◌-ℤ◌, Bool, true, false, List, [], ◌∷◌, Option, Some, None, codes}
use Rattle.tick_time.specs.declared.spans.Span.{Span}
use Rattle.otio_model.specs.declared.compositions.ItemOf.{ItemOf}
use Rattle.otio_model.specs.declared.compositions.ItemOf.TheVariants.{Stack, Track}
use Rattle.otio_model.specs.declared.compositions.Listed.{Listed}
use Rattle.otio_model.specs.declared.timelines.Timeline.{Timeline}
use Rattle.otio_model.specs.Trees.{items_of}
use Rattle.edits.specs.WorkedItems.{frames, span, at_speed, put}
use Rattle.edits.specs.Refusals.{unpinned}
use Rattle.edits_law.specs.Down.{down}

abbrev pub track : Bool → List ℕ → Option Span → Listed → ItemOf Listed
track enabled kind range children = Track (record {
  metadata = [];
  name = [];
  source_range = range;
  effects = [];
  markers = [];
  enabled = enabled;
  children = children;
  kind = kind;
  rest = [];
})

-- a stack at twice its speed
abbrev pub stack : Option Span → Listed → ItemOf Listed
stack range children = Stack (record {
  metadata = [];
  name = [];
  source_range = range;
  effects = at_speed (pos 2000000);
  markers = [];
  enabled = true;
  children = children;
  rest = [];
})

-- a timeline whose only track has 10 frames, a stack, and 10 frames; the stack has one track
pub record IsNested (range own : Option Span) (enabled : Bool) (kind : List ℕ) (t : Timeline)
    (top middle deep : Listed) : Type 0 where
  pub root : items_of t.tracks.children ≡ track true (codes "Video") (span 0 40) top ∷ []
  pub outer : items_of top ≡ put 10 ∷ stack range middle ∷ put 10 ∷ []
  pub inner : items_of middle ≡ track enabled kind own deep ∷ []

-- in each such timeline that instant of the root child reaches this one at the place
abbrev pub Reaches : Bool → List ℕ → List ℕ → ℤ → Option ℤ → Type 0
Reaches enabled kind place u m = (t : Timeline) (top middle deep : Listed)
    → IsNested (span 0 20) (span 0 60) enabled kind t top middle deep → down t place u ≡ m

-- the stack plays from frame 10 to frame 29
pub record AreReached : Type 0 where
  pub track : Reaches true (codes "Video") (0 ∷ []) (frames 12) (Some (frames 12))
  pub stack : Reaches true (codes "Video") (0 ∷ 1 ∷ []) (frames 12) (Some (frames 4))
  pub inner : Reaches true (codes "Video") (0 ∷ 1 ∷ 0 ∷ []) (frames 12) (Some (frames 4))
  pub first : Reaches true (codes "Video") (0 ∷ 1 ∷ 0 ∷ []) (frames 10) (Some (frames 0))
  pub last : Reaches true (codes "Video") (0 ∷ 1 ∷ 0 ∷ []) (frames 29) (Some (frames 38))
  pub before : Reaches true (codes "Video") (0 ∷ 1 ∷ 0 ∷ []) (frames 9) None
  pub behind : Reaches true (codes "Video") (0 ∷ 1 ∷ 0 ∷ []) (frames 30) None
  pub outside : Reaches true (codes "Video") (0 ∷ []) (frames 40) None
  pub early : Reaches true (codes "Video") (0 ∷ []) (pos 0 -ℤ pos 1) None
  pub nowhere : Reaches true (codes "Video") [] (frames 12) None
  pub clip : Reaches true (codes "Video") (0 ∷ 0 ∷ []) (frames 5) None
  pub disabled : Reaches false (codes "Video") (0 ∷ 1 ∷ 0 ∷ []) (frames 12) None
  pub other_kind : Reaches true (codes "Audio") (0 ∷ 1 ∷ 0 ∷ []) (frames 12) None

-- in each such timeline this is the place that isn't pinned
abbrev pub Names : Option Span → Option Span → List ℕ → Option (List ℕ) → Type 0
Names range own place free = (t : Timeline) (top middle deep : Listed)
    → IsNested range own true (codes "Video") t top middle deep → unpinned place t ≡ free

pub record ArePinned : Type 0 where
  pub free : Names None None (0 ∷ 1 ∷ 0 ∷ []) (Some (0 ∷ 1 ∷ []))
  pub by_stack : Names (span 0 20) None (0 ∷ 1 ∷ 0 ∷ []) None
  pub by_itself : Names None (span 0 60) (0 ∷ 1 ∷ 0 ∷ []) None
  pub root : Names None None (0 ∷ []) None
