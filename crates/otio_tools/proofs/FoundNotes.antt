-- The notes of a timeline for its list: they have texts, and can be written.
use Rattle.std.proofs.Common.{◌≡◌, ◌<◌, ◌+◌, ℕ, Bool, List, None, All, get_or, length, slice_index_or, subst, take}
use Rattle.std.proofs.lemmas.List.Elements.{All-more}
use Rattle.std.proofs.lemmas.Option.{slice_get_within}
use Rattle.tick_time.specs.declared.rates.Rate.{Rate}
use Rattle.otio_model.specs.declared.timelines.Timeline.{Timeline}
use Rattle.coord.specs.Soundness.{IsCalm}
use Rattle.edl_list.specs.declared.list.EventList.{EventList}
use Rattle.media_rows.specs.Rows.{MediaRows}
use Rattle.edl_frames.specs.Carried.{not_carried, IsListOf}
use Rattle.edl_law.specs.Premises.{AreListed}
use Rattle.edl_law.proofs.ListDays.{list_is_fine}
use Rattle.note_text.specs.Belonging.{IsNoteOf, IsSaidBelowDay}
use Rattle.note_text.specs.Found.{AreNotesOf}
use Rattle.note_text.specs.declared.notes.Note.{Note}
use Rattle.note_text.specs.declared.notes.Said.{Said}
use Rattle.note_text.specs.declared.notes.Said.TheVariants.{Loc, Sop, Sat}
use Rattle.note_law.specs.Law.{HasText, IsSpelled}
use Rattle.note_law.proofs.FoundOwn.{found_own, found_spelled}

-- one note more has a text
pub more_texts : (notes : List Note) (i : ℕ) (note : Note) → i < length notes
    → note ≡ get_or notes i note → All (λ (note : Note). HasText note.said) (take i notes)
    → HasText note.said → All (λ (note : Note). HasText note.said) (take (i + 1) notes)
more_texts notes i note within is before text =
    All-more (λ (note : Note). HasText note.said) notes i note within before
    (subst (λ (note : Note). HasText note.said) is text)

-- the notes of a timeline have texts
pub found_texts : (t : Timeline) (rows : MediaRows) (drop wide : Bool) (list : EventList)
    (notes : List Note) → IsCalm t → AreListed rows → not_carried t rows drop wide ≡ None
    → IsListOf t rows drop wide list → AreNotesOf t list notes
    → All (λ (note : Note). HasText note.said) notes
    → All (λ (note : Note). IsSpelled list.rate drop note.said) notes
found_texts t rows drop wide list notes calm listed none is found texts =
    let fine = list_is_fine t list rows drop wide calm listed none is in
    found_spelled t list drop notes fine.formed fine.labels texts found

said_below : (rate : Rate) (drop : Bool) (said : Said) → IsSpelled rate drop said
    → IsSaidBelowDay rate drop said
said_below rate drop (Loc at color name) h = h.0
said_below rate drop (Sop slope offset power) h = tt
said_below rate drop (Sat numeral) h = tt

-- and can be written
pub found_fit : (t : Timeline) (rows : MediaRows) (drop wide : Bool) (list : EventList)
    (notes : List Note) → IsCalm t → AreListed rows → not_carried t rows drop wide ≡ None
    → IsListOf t rows drop wide list → AreNotesOf t list notes
    → All (λ (note : Note). HasText note.said) notes → All (IsNoteOf list drop) notes
found_fit t rows drop wide list notes calm listed none is found texts =
    let fine = list_is_fine t list rows drop wide calm listed none is in
    let own = found_own t list notes fine.formed found in
    let spelled = found_texts t rows drop wide list notes calm listed none is found texts in
    λ k d l. record {
      event = slice_get_within list.events (slice_index_or notes k d).event (own.each k d l).event
          (own.each k d l).there;
      below = said_below list.rate drop (slice_index_or notes k d).said (spelled k d l);
    }
