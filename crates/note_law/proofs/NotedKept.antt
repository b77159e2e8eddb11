-- The text of a timeline's list with notes keeps the timeline's frames.
use Rattle.std.proofs.Common.{◌≡◌, ◌≤◌, Bool, List, None, All, IsUtf8, length}
use Rattle.limits.specs.Limits.{most_bytes}
use Rattle.otio_model.specs.declared.timelines.Timeline.{Timeline}
use Rattle.coord.specs.Soundness.{IsSound}
use Rattle.edl_list.specs.declared.list.EventList.{EventList}
use Rattle.edl_frames.specs.Carried.{not_carried, IsListOf}
use Rattle.media_rows.specs.Rows.{MediaRows}
use Rattle.edl_law.specs.Kept.{KeepsFrames}
use Rattle.edl_law.specs.Law.{HasNames}
use Rattle.edl_law.specs.Premises.{AreListed}
use Rattle.edl_law.proofs.KeptFrames.{frames_kept_by}
use Rattle.edl_law.proofs.ListDays.{list_is_fine}
use Rattle.note_text.specs.NotedSpelling.{noted_spelling}
use Rattle.note_text.specs.declared.notes.Note.{Note}
use Rattle.note_law.specs.Law.{HasNotedText}
use Rattle.note_law.proofs.NotedTexts.{AllSpelled, read_again}

-- a list of a timeline with notes has a text
noted_text : (t : Timeline) (media : MediaRows) (drop wide : Bool) (list : EventList) (notes : List Note) → IsSound t → AreListed media → not_carried t media drop wide ≡ None
    → IsListOf t media drop wide list → IsUtf8 list.title → All HasNames list.events → AllSpelled list.rate drop notes → length (noted_spelling list notes drop wide) ≤ most_bytes
    → HasNotedText list notes drop wide
noted_text t media drop wide list notes sound rows carried i title names spelled small =
    let fine = list_is_fine t list media drop wide sound.calm rows carried i in
    record { formed = fine.formed; even = fine.even; fits = fine.fits; labels = fine.labels; title = title; names = names; notes_are = spelled; small = small }

pub noted_frames_kept : (t : Timeline) (media : MediaRows) (drop wide : Bool) (list : EventList) (notes : List Note) → IsSound t → AreListed media → not_carried t media drop wide ≡ None
    → IsListOf t media drop wide list → IsUtf8 list.title → All HasNames list.events → AllSpelled list.rate drop notes → length (noted_spelling list notes drop wide) ≤ most_bytes
    → KeepsFrames t media wide (noted_spelling list notes drop wide)
noted_frames_kept t media drop wide list notes sound rows carried i title names spelled small =
    let again = read_again list notes drop wide (noted_text t media drop wide list notes sound rows carried i title names spelled small) in
    frames_kept_by t media drop wide list sound rows carried i (noted_spelling list notes drop wide) again.read again.reads again.same again.only
