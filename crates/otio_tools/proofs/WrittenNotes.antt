-- The notes of a list that is written: the text depends on the notes of each event alone, and each
-- note can be written.
use Rattle.std.proofs.Common.{◌≡◌, ◌==◌, ℕ, Bool, true, false, cond, ◌+◌, ◌++◌, List, [], ◌∷◌, map, refl, sym, ap, ap₂, subst, arith}
use Rattle.std.specs.Prelude.{All}
use Rattle.std.proofs.lemmas.List.Elements.{All-head, All-tail, All-cons, All-filter}
use Rattle.tick_time.specs.declared.rates.Rate.{Rate}
use Rattle.edl_list.specs.declared.layout.Layout.{Layout}
use Rattle.edl_list.specs.declared.list.Event.{Event}
use Rattle.edl_list.specs.declared.list.EventList.{EventList}
use Rattle.edl_list.specs.Layouts.{layout_of}
use Rattle.edl_text.specs.Rows.{event_lines}
use Rattle.edl_text.specs.Spelling.{head_lines, text_of}
use Rattle.note_text.specs.Belonging.{HaveSameOwn, IsNoteOf, below_day, own_notes}
use Rattle.note_text.specs.Noted.{IsNoteFor}
use Rattle.note_text.specs.NotedSpelling.{note_line, noted_lines_from, noted_spelling}
use Rattle.note_text.specs.declared.notes.Note.{Note}
use Rattle.note_text.proofs.NotedLists.{notes_can}

lines_once : (rate : Rate) (drop : Bool) (layout : Layout) (index : ℕ) (events : List Event)
    (a b : List Note) → HaveSameOwn b a
    → noted_lines_from rate drop layout index events a
    ≡ noted_lines_from rate drop layout index events b
lines_once rate drop layout index [] a b same = refl
lines_once rate drop layout index (event ∷ events) a b same =
    ap₂ (λ own more. event_lines rate drop layout (index + 1) event
    ++ (map (λ (note : Note). note_line rate drop note.said) own ++ more)) (same index)
    (lines_once rate drop layout (index + 1) events a b same)

-- the text of a list depends on the notes of each of its events
pub noted_once : (list : EventList) (a b : List Note) (drop wide : Bool) → HaveSameOwn b a
    → noted_spelling list a drop wide ≡ noted_spelling list b drop wide
noted_once list a b drop wide same =
    ap (λ lines. text_of (head_lines list drop ++ lines))
    (lines_once list.rate drop (layout_of wide) 0 list.events a b same)

-- what is so of all notes of each event is so of all
own_all : (Is : Note → Type 0) (notes : List Note) → ((index : ℕ) → All Is (own_notes index notes))
    → All Is notes
own_all Is [] h = λ k d l. absurd (omega (arith, l))
own_all Is (note ∷ notes) h =
    All-cons Is note notes (first (note.event == note.event) (equal note.event) (h note.event))
    (own_all Is notes (λ index. rest index (note.event == index) (h index)))
  where
    equal : (n : ℕ) → (n == n) ≡ true
    equal n = grind arith

    first : (t : Bool) → t ≡ true
        → All Is (cond t (note ∷ own_notes note.event notes) (own_notes note.event notes)) → Is note
    first true e a = All-head Is note (own_notes note.event notes) a
    first false e a = absurd (cc e)

    rest : (index : ℕ) (t : Bool)
        → All Is (cond t (note ∷ own_notes index notes) (own_notes index notes))
        → All Is (own_notes index notes)
    rest index true a = All-tail Is note (own_notes index notes) a
    rest index false a = a

-- notes in the order of their events are written where the others are
pub sorted_all : (Is : Note → Type 0) (a b : List Note) → HaveSameOwn a b → All Is a → All Is b
sorted_all Is a b same h =
    own_all Is b (λ index. subst (All Is) (sym (same index))
    (All-filter (λ (note : Note). note.event == index) Is a h))

-- the notes of a list that are below the day, in the order of their events, can be written
pub notes_fit : (list : EventList) (drop : Bool) (notes sorted : List Note)
    → All (IsNoteFor list) notes → HaveSameOwn (below_day list.rate drop notes) sorted
    → All (IsNoteOf list drop) sorted
notes_fit list drop notes sorted h same =
    sorted_all (IsNoteOf list drop) (below_day list.rate drop notes) sorted same
    (notes_can list drop notes h)
