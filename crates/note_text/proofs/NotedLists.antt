-- The notes of a list, and those of them that can be written.
use Rattle.std.proofs.Common.{◌≡◌, ◌<◌, ◌+◌, ◌==◌, ℕ, ℤ, pos, negsuc, suc, Bool, true, false, ◌&&◌, not, cond, int_le, int_lt, List, [], ◌∷◌, All, Option, Some, None, Ok, length, refl, sym, ap, subst, arith}
use Rattle.std.specs.List.{slice_get}
use Rattle.std.proofs.lemmas.Int.{ints}
use Rattle.std.proofs.lemmas.Option.{slice_get_within}
use Rattle.std.proofs.lemmas.List.Elements.{All-append, All-cons, All-nil, All-head, All-tail}
use Rattle.tick_time.specs.declared.rates.Rate.{Rate}
use Rattle.smpte_tc.specs.declared.modes.Mode.{Mode}
use Rattle.smpte_tc.specs.Modes.{mode_of}
use Rattle.smpte_tc.specs.Day.{counted_of}
use Rattle.smpte_tc.specs.Answers.{WritesAt}
use Rattle.smpte_tc.proofs.Labels.{labels_there}
use Rattle.smpte_tc.proofs.WrittenLabels.{mode_fair}
use Rattle.edl_list.specs.Labelled.{IsBelowDay}
use Rattle.edl_list.specs.declared.list.Event.{Event}
use Rattle.edl_list.specs.declared.list.EventList.{EventList}
use Rattle.edl_frames.specs.Conformed.{is_black}
use Rattle.note_text.specs.Belonging.{AreNotes, does_count, is_owner, notes_from, notes_said, is_day_frame, is_said_below_day, below_day, IsSaidBelowDay, IsNoteOf}
use Rattle.note_text.specs.Noted.{IsNoteFor}
use Rattle.note_text.specs.declared.notes.Heard.{Heard}
use Rattle.note_text.specs.declared.notes.Note.{Note}
use Rattle.note_text.specs.declared.notes.Said.{Said}
use Rattle.note_text.specs.declared.notes.Said.TheVariants.{Loc, Sop, Sat}

-- the events from this place on are these
abbrev AreFrom : EventList → ℕ → List Event → Type 0
AreFrom list index events = (k : ℕ) → slice_get list.events (index + k) ≡ slice_get events k

owner_counts : (line black counts : Bool) → (line && (not black && counts)) ≡ true → counts ≡ true
owner_counts true false counts e = e
owner_counts true true counts e = absurd (cc e)
owner_counts false black counts e = absurd (cc e)

note_for : (list : EventList) (index : ℕ) (e : Event) (events : List Event) (heard : Heard)
    → AreFrom list index (e ∷ events) → is_owner list.rate heard e ≡ true
    → IsNoteFor list (record { event = index; said = heard.said })
note_for list index e events heard from owner = record {
  event = e;
  there = subst (λ n. slice_get list.events n ≡ Some e) (omega arith) (from 0);
  counts = owner_counts (e.line == heard.line) (is_black e.to.reel)
      (does_count list.rate e heard.said) owner;
}

one_more : (list : EventList) (index : ℕ) (e : Event) (events : List Event) (heard : Heard)
    (b : Bool) (more : List Note) → is_owner list.rate heard e ≡ b
    → AreFrom list index (e ∷ events) → All (IsNoteFor list) more
    → All (IsNoteFor list)
    (cond b (record { event = index; said = heard.said } ∷ more) more)
one_more list index e events heard true more owner from h =
    All-cons (IsNoteFor list) _ more (note_for list index e events heard from owner) h
one_more list index e events heard false more owner from h = h

from_for : (list : EventList) (index : ℕ) (events : List Event) (heard : Heard)
    → AreFrom list index events
    → All (IsNoteFor list) (notes_from list.rate index events heard)
from_for list index [] heard from = All-nil (IsNoteFor list)
from_for list index (e ∷ events) heard from =
    one_more list index e events heard (is_owner list.rate heard e) _ refl from
    (from_for list (suc index) events heard
    (λ k. subst (λ n. slice_get list.events n ≡ slice_get events k) (omega arith)
    (from (suc k))))

said_for : (list : EventList) (heard : List Heard)
    → All (IsNoteFor list) (notes_said list.rate list.events heard)
said_for list [] = All-nil (IsNoteFor list)
said_for list (one ∷ more) =
    All-append (IsNoteFor list) (notes_from list.rate 0 list.events one)
    (notes_said list.rate list.events more)
    (from_for list 0 list.events one (λ k. ap (λ n. slice_get list.events n) (omega arith)))
    (said_for list more)

-- notes of bytes are notes of the list
pub notes_for : (bytes : List ℕ) (list : EventList) (notes : List Note) → AreNotes bytes list notes
    → All (IsNoteFor list) notes
notes_for bytes list notes are =
    subst (All (IsNoteFor list)) (sym are.are) (said_for list are.heard)

day_number : (mode : Mode) (n : ℤ)
    → (int_le (pos 0) n && int_lt n (pos (length (counted_of mode)))) ≡ true
    → (k : ℕ) × (n ≡ pos k) × (k < length (counted_of mode))
day_number mode (pos k) e =
    (k, refl, within (int_le (pos 0) (pos k)) (int_lt (pos k) (pos (length (counted_of mode)))) refl refl e)
  where
    within : (a b : Bool) → int_le (pos 0) (pos k) ≡ a
        → int_lt (pos k) (pos (length (counted_of mode))) ≡ b → (a && b) ≡ true
        → k < length (counted_of mode)
    within true true p q r = grind (arith, ints, q)
    within true false p q r = absurd (cc r)
    within false b p q r = absurd (cc r)
day_number mode (negsuc k) e =
    let f : int_le (pos 0) (negsuc k) ≡ false = grind (arith, ints) in
    let g : (false && int_lt (negsuc k) (pos (length (counted_of mode)))) ≡ true = rw f at e in
    absurd (cc g)

below_by : (rate : Rate) (drop : Bool) (n : ℤ) (o : Option Mode) → mode_of rate drop ≡ o
    → is_day_frame o n ≡ true → IsBelowDay rate drop n
below_by rate drop n None e f = absurd (cc f)
below_by rate drop n (Some mode) e f =
    let k = day_number mode n f in
    let label = labels_there mode (mode_fair rate drop mode e) k.0 k.2 in
    record {
      label = label.0;
      written = subst (λ o. WritesAt o n (Ok label.0)) (sym e) (k.0, k.1, label.1);
    }

said_below : (rate : Rate) (drop : Bool) (said : Said) → is_said_below_day rate drop said ≡ true
    → IsSaidBelowDay rate drop said
said_below rate drop (Loc at color name) e = below_by rate drop at (mode_of rate drop) refl e
said_below rate drop (Sop slope offset power) e = tt
said_below rate drop (Sat numeral) e = tt

one_below : (list : EventList) (drop : Bool) (note : Note) (notes : List Note) (b : Bool)
    → is_said_below_day list.rate drop note.said ≡ b → IsNoteFor list note
    → All (IsNoteOf list drop) (below_day list.rate drop notes)
    → All (IsNoteOf list drop) (cond b (note ∷ below_day list.rate drop notes)
    (below_day list.rate drop notes))
one_below list drop note notes true e h more =
    All-cons (IsNoteOf list drop) note (below_day list.rate drop notes) (record {
      event = slice_get_within list.events note.event h.event h.there;
      below = said_below list.rate drop note.said e;
    }) more
one_below list drop note notes false e h more = more

-- those that are below the day can be written
pub notes_can : (list : EventList) (drop : Bool) (notes : List Note) → All (IsNoteFor list) notes
    → All (IsNoteOf list drop) (below_day list.rate drop notes)
notes_can list drop [] h = All-nil (IsNoteOf list drop)
notes_can list drop (note ∷ notes) h =
    one_below list drop note notes (is_said_below_day list.rate drop note.said) refl
    (All-head (IsNoteFor list) note notes h)
    (notes_can list drop notes (All-tail (IsNoteFor list) note notes h))
