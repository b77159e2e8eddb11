-- The layouts of a written list: the narrow one, and the wide one for long reels and many events.
use Rattle.std.specs.Prelude.{◌≤◌, ◌^◌, ◌-◌, ℕ, Bool, cond, IfSome, length, All}
use Rattle.edl_list.specs.declared.layout.Layout.{Layout}
use Rattle.edl_list.specs.declared.list.Reel.{Reel}
use Rattle.edl_list.specs.declared.list.Reel.TheVariants.{Black, Named}
use Rattle.edl_list.specs.declared.list.Event.{Event}
use Rattle.edl_list.specs.declared.list.EventList.{EventList}
use Rattle.edl_list.specs.Labelled.{outgoing}

-- event numbers of three digits and reels in eight columns
abbrev pub narrow : Layout
narrow = record { number_width = 3; reel_width = 8 }

-- event numbers of six digits and reels in thirty-two columns
abbrev pub wide_layout : Layout
wide_layout = record { number_width = 6; reel_width = 32 }

abbrev pub layout_of : Bool → Layout
layout_of wide = cond wide wide_layout narrow

-- the events that a layout has numbers for
abbrev pub most_events : Layout → ℕ
most_events layout = 10 ^ layout.number_width - 1

-- the reel stands in its column
abbrev pub FitsReel : Layout → Reel → Type 0
FitsReel layout Black = Unit {0}
FitsReel layout (Named name) = length name ≤ layout.reel_width

-- so do the reels of both sides of an event
pub record FitsEvent (layout : Layout) (event : Event) : Type 0 where
  pub to : FitsReel layout event.to.reel
  pub from : IfSome (outgoing event.cross) (λ side. FitsReel layout side.reel)

-- the list has a number for each event and a column for each reel
pub record FitsLayout (layout : Layout) (list : EventList) : Type 0 where
  pub few : length list.events ≤ most_events layout
  pub reels : All (FitsEvent layout) list.events
