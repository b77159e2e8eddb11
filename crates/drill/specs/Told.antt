-- What a drill comes to, and what it reports.
use Rattle.std.specs.Prelude.{◌≡◌, ℕ, ◌+◌, Option, Some, None, length, slice_get}
use Rattle.otio_model.specs.declared.compositions.ItemOf.{ItemOf}
use Rattle.otio_model.specs.declared.compositions.Listed.{Listed as Children}
use Rattle.otio_model.specs.declared.timelines.Timeline.{Timeline}
use Rattle.otio_model.specs.Trees.{children_of, items_of}
use Rattle.undo_log.specs.States.{State}
use Rattle.script_law.specs.Shown.{opened}
use Rattle.coord.specs.Programs.{start_frame}
use Rattle.drill.specs.Lists.{IsListed}
use Rattle.drill.specs.declared.list_outcome.Listed.{Listed}
use Rattle.drill.specs.declared.list_outcome.Listed.TheVariants as L
use Rattle.drill.specs.Media.{rows}
use Rattle.drill.specs.Starting.{IsStart, behind_start}
use Rattle.drill.specs.Rounds.{Drills, Round}
use Rattle.drill.specs.Rewinding.{rewound}
use Rattle.drill.specs.Sums.{channel_sum, frames_of, back_sum}
use Rattle.drill.specs.declared.tally.Carried.{Carried}
use Rattle.drill.specs.declared.tally.Carried.TheVariants as C
use Rattle.drill.specs.declared.tally.Tally.{Tally}

-- how many children a list of children has, 0 where there is none
abbrev pub length_of : Option Children → ℕ
length_of None = 0
length_of (Some l) = length (items_of l)

-- how many children an item has, 0 where there is none
abbrev pub children_in : Option (ItemOf Children) → ℕ
children_in None = 0
children_in (Some x) = length_of (children_of x)

-- how many children the first root child has
abbrev pub track_children : Timeline → ℕ
track_children t = children_in (slice_get (items_of t.tracks.children) 0)

-- what is reported of what became of the list of a timeline: how many events it has, how many
-- record frames the first root child of the timeline takes, and the numbers of the source frames
-- that the timeline which the list conforms to shows at them, added up; else why there is no list
abbrev pub carried_of : Timeline → Listed → Carried
carried_of t (L.List events again) =
    C.List events (frames_of t) (channel_sum again (start_frame t) (frames_of t))
carried_of t (L.No why) = C.No why

-- what is reported of the list of a timeline
pub record IsToldOf (t : Timeline) (carried : Carried) : Type 0 where
  pub list : Listed
  pub is : IsListed t rows list
  pub told : carried ≡ carried_of t list

-- before the first edit
abbrev pub begun : ℕ → Timeline → Round
begun seed t = record { number = behind_start seed; state = opened t; accepted = 0 }

-- From a round on so many edits are drawn and tried, the list is made and conformed, and all edits
-- are undone. The state is that of the accepted edits and as many undos.
pub record GoesThrough (from : Round) (count : ℕ) (tally : Tally) (state : State) : Type 0 where
  pub edited : Round
  pub drills : Drills (Some rows) count from edited
  pub rewinds : state ≡ rewound edited.state
  pub edits : tally.edits ≡ edited.accepted
  pub refused : tally.edits + tally.refused ≡ count
  pub items : tally.items ≡ track_children edited.state.now
  pub carried : IsToldOf edited.state.now tally.carried
  pub back : tally.back ≡ back_sum state.now

-- a drill of a seed: the timeline of forty clips is made, and the edits begin there
pub record DrillsTo (seed count : ℕ) (tally : Tally) (state : State) : Type 0 where
  pub first : Timeline
  pub starts : IsStart seed first
  pub goes : GoesThrough (begun seed first) count tally state
