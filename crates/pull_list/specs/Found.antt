-- What is found on the way to a pull list; no public clause cites these words.
use Rattle.std.specs.Prelude.{◌≡◌, ◌⊎◌, ◌++◌, ◌∷◌, [], ◌↔◌, ◌<◌, ℕ, ℤ, pos, ◌-ℤ◌, ◌*ℤ◌, ◌≤ℤ◌, ◌<ℤ◌, Bool, not, List, map, Option, Some, None, AllPairs, Contains, slice_get}
use Rattle.otio_model.specs.Lengths.{clip_range}
use Rattle.otio_model.specs.declared.compositions.Clip.{Clip as ClipRow}
use Rattle.otio_model.specs.declared.compositions.ItemOf.{ItemOf}
use Rattle.otio_model.specs.declared.compositions.Listed.{Listed}
use Rattle.coord.specs.Keys.{frame_rate, media_rate}
use Rattle.coord.specs.Looks.{FrameRate, Show, is_blank}
use Rattle.coord.specs.Programs.{child_shows}
use Rattle.show_prog.specs.Pictures.{key_of}
use Rattle.show_prog.specs.Spots.{Spot, spots, spots_of}
use Rattle.otio_model.specs.declared.timelines.Timeline.{Timeline}
use Rattle.pull_list.specs.Used.{ClipGroup, IsSeen, IsUsed}
use Rattle.pull_list.specs.Wanted.{HasAvailable, IsOf, clips_of}
use Rattle.pull_list.specs.Pulled.{StandsFirst}
use Rattle.pull_list.specs.Labels.{HasNumber, IsNumber}
use Rattle.pull_list.specs.Runs.{Adds, Each, Has, IsRun, IsWithin, far, further}
use Rattle.tick_time.specs.declared.spans.Span.{Span}
use Rattle.pull_list.specs.declared.groups.Group.{Group as Common}
use Rattle.pull_list.specs.declared.runs.Run.{Run}

-- the group that a caller sees
abbrev pub group_in : Common → ClipGroup
group_in g = record { key = key_of g.key; rate = frame_rate g.rate }

-- the clips of children at all levels, and of an item
abbrev pub clips_in : Listed → List ClipRow
clips_in l = map (λ (s : Spot). s.clip) (spots l)

abbrev pub clips_of_item : ItemOf Listed → List ClipRow
clips_of_item x = map (λ (s : Spot). s.clip) (spots_of x)

-- the group is that of the clip, or the clip has none
abbrev pub IsGroupOf : ClipRow → Option ClipGroup → Type 0
IsGroupOf c None = media_rate c ≡ None
IsGroupOf c (Some g) = IsOf g c

-- the group was added after the others, or it was one of them
abbrev pub AddsGroup : List ClipGroup → List ClipGroup → ClipGroup → Type 0
AddsGroup old new g = ((new ≡ old) × HasNumber old g)
    ⊎ ((new ≡ old ++ g ∷ []) × (HasNumber old g → ⊥))

-- some clip is of the group
pub record HasClip (clips : List ClipRow) (g : ClipGroup) : Type 0 where
  pub clip : ClipRow
  pub among : Contains clips clip
  pub is : IsOf g clip

-- these are the groups of the clips, in the order of their first clips
pub record AreGroups (clips : List ClipRow) (groups : List ClipGroup) : Type 0 where
  pub of_clips : (g : ClipGroup) → HasNumber groups g → HasClip clips g
  pub all : (g : ClipGroup) → HasClip clips g → HasNumber groups g
  pub ordered : AllPairs (StandsFirst clips) groups

-- the group of the number has a clip with the frame
pub record IsHad (clips : List ClipRow) (groups : List ClipGroup) (k : ℕ) (v : ℤ) : Type 0 where
  pub group : ClipGroup
  pub at : slice_get groups k ≡ Some group
  pub clip : ClipRow
  pub among : Contains clips clip
  pub is : IsOf group clip
  pub has : HasAvailable (clip_range clip) group.rate v

-- the runs have the available frames, up to a distance beyond all that is wanted
pub record AreAvailable (clips : List ClipRow) (groups : List ClipGroup) (runs : List Run) : Type 0
  where
    pub only : (k : ℕ) (v : ℤ) → Has runs k v → IsHad clips groups k v
    pub all : (k : ℕ) (v : ℤ) → (pos 0 -ℤ pos further) ≤ℤ v → v <ℤ pos further
        → IsHad clips groups k v → Has runs k v
    pub are_runs : Each IsRun runs

-- the group of the number has this frame in what is shown
pub record IsShown (groups : List ClipGroup) (s : Show) (k : ℕ) (v : ℤ) : Type 0 where
  pub group : ClipGroup
  pub at : slice_get groups k ≡ Some group
  pub seen : IsSeen group v s

-- what was found of these clips
pub record IsStock (clips : List ClipRow) (groups : List ClipGroup) (runs : List Run) : Type 0 where
  pub are_groups : AreGroups clips groups
  pub available : AreAvailable clips groups runs

-- the number lies where all that is wanted lies
abbrev pub IsNearby : ℤ → Type 0
IsNearby v = ((pos 0 -ℤ pos further) ≤ℤ v) × (v <ℤ pos further)

-- from the first to the last frame that is available, or none is
abbrev pub AreFrames : Option Span → FrameRate → Option (ℤ × ℤ) → Type 0
AreFrames range rate None = (v : ℤ) → HasAvailable range rate v → ⊥
AreFrames range rate (Some frames) = (frames.0 <ℤ frames.1)
    × ((v : ℤ) → frames.0 ≤ℤ v → v <ℤ frames.1 → HasAvailable range rate v)
    × ((v : ℤ) → IsNearby v → HasAvailable range rate v → (frames.0 ≤ℤ v) × (v <ℤ frames.1))
    × ((pos 0 -ℤ pos further) ≤ℤ frames.0) × (frames.1 ≤ℤ pos further)

-- the available frames were added under the group's number
pub record AddsFrames (old new : List Run) (group : ℕ) (range : Option Span) (rate : FrameRate)
    : Type 0 where
  pub only : (k : ℕ) (v : ℤ) → Has new k v → Has old k v ⊎ ((k ≡ group) × HasAvailable range rate v)
  pub old_stay : (k : ℕ) (v : ℤ) → Has old k v → Has new k v
  pub all : (v : ℤ) → IsNearby v → HasAvailable range rate v → Has new group v
  pub are_runs : Each IsRun old → Each IsRun new

-- the frame was taken in under the group's number
pub record IsTaken (groups : List ClipGroup) (g : ClipGroup) (v : ℤ) (old new : List Run)
    : Type 0 where
  pub number : ℕ
  pub is : IsNumber groups g number
  pub adds : Adds old new number v

-- it was, or the group isn't known and nothing was taken in
abbrev pub TakesFrame : List ClipGroup → ClipGroup → ℤ → List Run → List Run → Type 0
TakesFrame groups g v old new =
    IsTaken groups g v old new ⊎ ((HasNumber groups g → ⊥) × (new ≡ old))

-- the frames of what is shown were taken in
pub record Takes (groups : List ClipGroup) (old new : List Run) (s : Show) : Type 0 where
  pub has : (k : ℕ) (v : ℤ) → Has new k v ↔ (Has old k v ⊎ IsShown groups s k v)
  pub runs : Each IsRun new
  pub within : Each (IsWithin far) old → Each (IsWithin far) new

-- and it is known whether any was shown, and the groups of what is shown are those of these clips
pub record Collects (groups : List ClipGroup) (clips : List ClipRow) (old new : List Run)
    (any : Bool) (s : Show) : Type 0 where
  pub takes : Takes groups old new s
  pub told : any ≡ not (is_blank s)
  pub among : (g : ClipGroup) (v : ℤ) → IsSeen g v s → HasClip clips g

-- the frames of what is shown were taken in, and its groups are those of these clips
pub record AddsShown (groups : List ClipGroup) (clips : List ClipRow) (old new : List Run)
    (s : Show) : Type 0 where
  pub takes : Takes groups old new s
  pub among : (g : ClipGroup) (v : ℤ) → IsSeen g v s → HasClip clips g

-- what a root child shows at a record frame of so many ticks, counted from its start
abbrev pub frame_shown : ItemOf Listed → ℕ → ℕ → Show
frame_shown x ticks n = child_shows (λ rate. rate) x (pos n *ℤ pos ticks)

-- it is shown at one of so many record frames
pub record IsShownIn (groups : List ClipGroup) (x : ItemOf Listed) (ticks count k : ℕ) (v : ℤ)
    : Type 0 where
  pub frame : ℕ
  pub low : frame < count
  pub shown : IsShown groups (frame_shown x ticks frame) k v

-- the frames that a root child shows at so many record frames were taken in
pub record AddsChild (groups : List ClipGroup) (x : ItemOf Listed) (ticks count : ℕ)
    (old new : List Run) : Type 0 where
  pub has : (k : ℕ) (v : ℤ) → Has new k v ↔ (Has old k v ⊎ IsShownIn groups x ticks count k v)
  pub are_runs : Each IsRun new
  pub within : Each (IsWithin far) old → Each (IsWithin far) new
  pub among : (n : ℕ) (g : ClipGroup) (v : ℤ) → n < count → IsSeen g v (frame_shown x ticks n)
      → HasClip (clips_of_item x) g

-- the frame of the group of this number is used
pub record IsUsedBy (groups : List ClipGroup) (t : Timeline) (k : ℕ) (v : ℤ) : Type 0 where
  pub group : ClipGroup
  pub at : slice_get groups k ≡ Some group
  pub used : IsUsed t group v

-- the used frames were taken in
pub record AddsUsed (groups : List ClipGroup) (t : Timeline) (old new : List Run) : Type 0 where
  pub has : (k : ℕ) (v : ℤ) → Has new k v ↔ (Has old k v ⊎ IsUsedBy groups t k v)
  pub are_runs : Each IsRun new
  pub within : Each (IsWithin far) old → Each (IsWithin far) new
  pub among : (g : ClipGroup) (v : ℤ) → IsUsed t g v → HasClip (clips_of t) g
