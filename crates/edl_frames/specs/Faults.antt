-- Why a list isn't conformed.
use Rattle.std.specs.Prelude.{◌≡◌, ◌<◌, Some}
use Rattle.limits.specs.Limits.{most_items}
use Rattle.edl_list.specs.declared.list.EventList.{EventList}
use Rattle.edl_frames.specs.declared.faults.ConformFault.{ConformFault}
use Rattle.edl_frames.specs.declared.faults.ConformFault.TheVariants.{NoReel, Rate, Outside, Items, Memory}
use Rattle.media_rows.specs.Rows.{MediaRows}
use Rattle.edl_frames.specs.Refused.{first_fault, IsAccepted}
use Rattle.edl_frames.specs.Counted.{item_count}

-- what a fault says of a list: it is the first one of its events, or its media list holds them all
-- and they would make too many items; want of memory says nothing
abbrev pub IsConformFault : EventList → MediaRows → ConformFault → Type 0
IsConformFault list media (NoReel line) =
    first_fault list.rate media list.events ≡ Some (NoReel line)
IsConformFault list media (Rate line) = first_fault list.rate media list.events ≡ Some (Rate line)
IsConformFault list media (Outside line) =
    first_fault list.rate media list.events ≡ Some (Outside line)
IsConformFault list media Items = IsAccepted list media × (most_items < item_count list)
IsConformFault list media Memory = Unit {0}
