-- That the text of a list is read as the same list.
use Rattle.std.specs.Prelude.{◌≡◌, ◌≤◌, Bool, IfSome, IsUtf8, length, All}
use Rattle.edl_list.specs.declared.list.Side.{Side}
use Rattle.edl_list.specs.declared.list.Event.{Event}
use Rattle.edl_list.specs.declared.list.EventList.{EventList}
use Rattle.edl_list.specs.Formed.{IsWellFormed}
use Rattle.edl_list.specs.Alike.{IsEven, IsSame}
use Rattle.edl_list.specs.Labelled.{outgoing, IsLabelled}
use Rattle.edl_list.specs.Layouts.{layout_of, FitsLayout}
use Rattle.edl_text.specs.Spelling.{spelling}
use Rattle.edl_text.specs.Lists.{IsList}
use Rattle.limits.specs.Limits.{most_bytes}

-- the name of a side, where it has one, is UTF-8, as each text is
abbrev pub HasName : Side → Type 0
HasName side = IfSome side.name IsUtf8

-- so are the names of an event
pub record HasNames (event : Event) : Type 0 where
  pub to : HasName event.to
  pub from : IfSome (outgoing event.cross) HasName

-- A list that has a text, with drop-frame or without, in the wide layout or the narrow one, and one
-- that a reader takes: it is well formed and even, it fits the layout, the labels of its events are
-- below the day, its texts are UTF-8, and its text isn't too large.
pub record HasText (list : EventList) (drop wide : Bool) : Type 0 where
  pub formed : IsWellFormed list
  pub even : IsEven list
  pub fits : FitsLayout (layout_of wide) list
  pub labels : All (IsLabelled list.rate drop) list.events
  pub title : IsUtf8 list.title
  pub names : All HasNames list.events
  pub small : length (spelling list drop wide) ≤ most_bytes

-- the text of the list has exactly one reading at the list's rate, and it is the same list
pub record IsReadAgain (list : EventList) (drop wide : Bool) : Type 0 where
  pub read : EventList
  pub reads : IsList list.rate (spelling list drop wide) read
  pub same : IsSame list read
  pub only : (other : EventList) → IsList list.rate (spelling list drop wide) other → other ≡ read

-- each list that has a text is read again from it
abbrev pub SpellingIsRead : Type 0
SpellingIsRead =
    (list : EventList) (drop wide : Bool) → HasText list drop wide → IsReadAgain list drop wide
