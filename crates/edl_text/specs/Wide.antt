-- The first event that has a wide reel.
use Rattle.std.specs.Prelude.{ℕ, Option, List}
use Rattle.edl_list.specs.declared.list.Event.{Event}
use Rattle.edl_list.specs.Layouts.{narrow, FitsEvent}
use Rattle.edl_text.specs.Labelled.{IsFirstNot}

-- the line of the first of these events of which a side has a reel that the narrow layout has no
-- column for; none where no event has one
abbrev pub IsFirstWide : List Event → Option ℕ → Type 0
IsFirstWide events line = IsFirstNot (FitsEvent narrow) events line
