-- The one text of a list with notes, at its rate, with drop-frame or without, in the wide layout or
-- the narrow one.
use Rattle.std.specs.Prelude.{◌+◌, ℕ, Bool, List, [], ◌∷◌, ◌++◌, codes, map}
use Rattle.std.specs.List.{concat}
use Rattle.tick_time.specs.declared.rates.Rate.{Rate}
use Rattle.edl_list.specs.declared.layout.Layout.{Layout}
use Rattle.edl_list.specs.declared.list.Event.{Event}
use Rattle.edl_list.specs.declared.list.EventList.{EventList}
use Rattle.edl_list.specs.Layouts.{layout_of}
use Rattle.edl_text.specs.Columns.{cleaned, column, label_text}
use Rattle.edl_text.specs.Rows.{event_lines}
use Rattle.edl_text.specs.Spelling.{head_lines, text_of}
use Rattle.note_text.specs.Belonging.{own_notes}
use Rattle.note_text.specs.declared.notes.Triple.{Triple}
use Rattle.note_text.specs.declared.notes.Said.{Said}
use Rattle.note_text.specs.declared.notes.Said.TheVariants.{Loc, Sop, Sat}
use Rattle.note_text.specs.declared.notes.Note.{Note}

-- how wide the column of a color is
abbrev pub color_width : ℕ
color_width = 7

-- a color and a name: where the name isn't empty, the color stands left in its column
abbrev pub color_and_name : List ℕ → List ℕ → List ℕ
color_and_name color [] = color
color_and_name color (b ∷ name) = column color_width color ++ 32 ∷ b ∷ name

-- three numerals in parentheses, with one space between
abbrev pub triple_text : Triple → List ℕ
triple_text t =
    concat (codes "(" ∷ t.r ∷ codes " " ∷ t.g ∷ codes " " ∷ t.b ∷ codes ")" ∷ [])

-- the line of a note: a locator has the label of its frame, and its name as names are written
abbrev pub note_line : Rate → Bool → Said → List ℕ
note_line rate drop (Loc at color name) =
    codes "* LOC: " ++ (label_text rate drop at ++ 32 ∷ color_and_name color (cleaned name))
note_line rate drop (Sop slope offset power) =
    codes "* ASC_SOP: " ++ (triple_text slope ++ (triple_text offset ++ triple_text power))
note_line rate drop (Sat numeral) = codes "* ASC_SAT: " ++ numeral

-- the lines of the notes of the event at a place
abbrev pub own_lines : Rate → Bool → ℕ → List Note → List (List ℕ)
own_lines rate drop index notes =
    map (λ note. note_line rate drop note.said) (own_notes index notes)

-- the lines of events from the one at this place on, numbered from 1 in the list, each followed by
-- its notes
abbrev pub noted_lines_from : Rate → Bool → Layout → ℕ → List Event → List Note → List (List ℕ)
noted_lines_from rate drop layout index [] notes = []
noted_lines_from rate drop layout index (event ∷ events) notes =
    event_lines rate drop layout (index + 1) event ++ (own_lines rate drop index notes
    ++ noted_lines_from rate drop layout (index + 1) events notes)

-- the lines of a list with notes in a layout
abbrev pub noted_lines_in : EventList → List Note → Bool → Layout → List (List ℕ)
noted_lines_in list notes drop layout =
    head_lines list drop ++ noted_lines_from list.rate drop layout 0 list.events notes

-- the text of a list with notes
abbrev pub noted_spelling : EventList → List Note → Bool → Bool → List ℕ
noted_spelling list notes drop wide = text_of (noted_lines_in list notes drop (layout_of wide))
