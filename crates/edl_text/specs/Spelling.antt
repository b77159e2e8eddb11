-- The one text of a list, at its rate, with drop-frame or without, in the wide layout or the narrow
-- one.
use Rattle.std.specs.Prelude.{◌+◌, ℕ, Bool, cond, List, [], ◌∷◌, ◌++◌, codes}
use Rattle.tick_time.specs.declared.rates.Rate.{Rate}
use Rattle.edl_list.specs.declared.layout.Layout.{Layout}
use Rattle.edl_list.specs.declared.list.Event.{Event}
use Rattle.edl_list.specs.declared.list.EventList.{EventList}
use Rattle.edl_list.specs.Layouts.{layout_of}
use Rattle.edl_text.specs.Columns.{cleaned}
use Rattle.edl_text.specs.Rows.{headed, event_lines}

-- the text of lines, each with a line feed at its end
abbrev pub text_of : List (List ℕ) → List ℕ
text_of [] = []
text_of (line ∷ lines) = line ++ 10 ∷ text_of lines

-- the line of a title that isn't empty as it is written
abbrev pub title_lines : List ℕ → List (List ℕ)
title_lines title = headed (codes "TITLE: ") (cleaned title)

-- the frame code mode
abbrev pub mode_line : Bool → List ℕ
mode_line drop = cond drop (codes "FCM: DROP FRAME") (codes "FCM: NON-DROP FRAME")

-- the lines of events, numbered from this number on
abbrev pub lines_from : Rate → Bool → Layout → ℕ → List Event → List (List ℕ)
lines_from rate drop layout number [] = []
lines_from rate drop layout number (event ∷ events) =
    event_lines rate drop layout number event ++ lines_from rate drop layout (number + 1) events

-- the lines before the events: the title and the frame code mode
abbrev pub head_lines : EventList → Bool → List (List ℕ)
head_lines list drop = title_lines list.title ++ (mode_line drop ∷ [])

-- the lines of a list in a layout: its title, the frame code mode, and its events numbered from 1
abbrev pub lines_in : EventList → Bool → Layout → List (List ℕ)
lines_in list drop layout =
    title_lines list.title ++ (mode_line drop ∷ lines_from list.rate drop layout 1 list.events)

-- the lines of a list in the wide layout or the narrow one
abbrev pub list_lines : EventList → Bool → Bool → List (List ℕ)
list_lines list drop wide = lines_in list drop (layout_of wide)

-- the text of an event of this number
abbrev pub event_text : Rate → Bool → Bool → ℕ → Event → List ℕ
event_text rate drop wide number event =
    text_of (event_lines rate drop (layout_of wide) number event)

-- the text of a list
abbrev pub spelling : EventList → Bool → Bool → List ℕ
spelling list drop wide = text_of (list_lines list drop wide)
