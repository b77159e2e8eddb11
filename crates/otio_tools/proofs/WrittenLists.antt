-- The list of a timeline's events: it can be written, and keeps the timeline's frames.
use Rattle.std.proofs.Common.{◌≡◌, ◌≤◌, ℕ, Bool, true, false, cond, List, IsSome, Some, None, length, refl, sym, ap, subst, ◌∙◌}
use Rattle.std.specs.declared.option.Option.{Option}
use Rattle.limits.specs.Limits.{most_bytes}
use Rattle.smpte_tc.specs.declared.modes.Mode.{Mode}
use Rattle.smpte_tc.specs.Modes.{mode_of}
use Rattle.otio_model.specs.declared.timelines.Timeline.{Timeline}
use Rattle.coord.specs.Programs.{record_rate}
use Rattle.coord.specs.Soundness.{IsFaultless, IsCalm}
use Rattle.edl_list.specs.declared.list.EventList.{EventList}
use Rattle.media_rows.specs.Rows.{MediaRows}
use Rattle.edl_frames.specs.Jobs.{mode_in}
use Rattle.edl_frames.specs.Seats.{is_there}
use Rattle.edl_frames.specs.Carried.{not_carried, IsListOf}
use Rattle.edl_frames.specs.declared.reasons.Why.{Why}
use Rattle.edl_frames.specs.declared.reasons.Why.TheVariants as why
use Rattle.edl_law.specs.Premises.{AreListed}
use Rattle.edl_law.proofs.ListDays.{list_is_fine}
use Rattle.edl_law.proofs.ListShows.{carried_all}
use Rattle.edl_text.specs.Spelling.{spelling}
use Rattle.edl_law.specs.Kept.{KeepsFrames}
use Rattle.edl_law.proofs.KeptFrames.{frames_kept}
use Rattle.otio_tools.specs.Carried.{HasTexts, IsTextOf}
use Rattle.note_law.proofs.NotedKept.{noted_frames_kept}
use Rattle.otio_tools.specs.Plan.{IsWritableIn}
use Rattle.otio_tools.proofs.FoundNotes.{found_texts}

-- the text that was written keeps the timeline's frames
pub written_keeps : (t : Timeline) (rows : MediaRows) (drop wide : Bool) (list : EventList)
    → IsFaultless t → IsCalm t → AreListed rows → not_carried t rows drop wide ≡ None
    → IsListOf t rows drop wide list → HasTexts list
    → length (spelling list drop wide) ≤ most_bytes
    → KeepsFrames t rows wide (spelling list drop wide)
written_keeps t rows drop wide list sound calm listed none is texts small =
    frames_kept t rows drop wide list (record { faultless = sound; calm = calm }) listed none is
    texts.title texts.names small

-- so does that with the notes of its clips, and that of either kind
pub text_keeps : (notes : Bool) (t : Timeline) (rows : MediaRows) (drop wide : Bool)
    (list : EventList) (text : List ℕ) → IsFaultless t → IsCalm t → AreListed rows
    → not_carried t rows drop wide ≡ None → IsListOf t rows drop wide list → HasTexts list
    → IsTextOf notes t drop wide list text → length text ≤ most_bytes
    → KeepsFrames t rows wide text
text_keeps false t rows drop wide list text sound calm listed none is texts p small =
    subst (KeepsFrames t rows wide) (sym p) (written_keeps t rows drop wide list sound calm listed
    none is
    texts (subst (λ x. length x ≤ most_bytes) p small))
text_keeps true t rows drop wide list text sound calm listed none is texts p small =
    subst (KeepsFrames t rows wide) (sym p.3) (noted_frames_kept t rows drop wide list p.0
    (record { faultless = sound; calm = calm }) listed none is texts.title texts.names
    (found_texts t rows drop wide list p.0 calm listed none is p.1 p.2)
    (subst (λ x. length x ≤ most_bytes) p.3 small))

some_there : (o : Option Mode) → is_there o ≡ true → IsSome o
some_there None e = absurd (cc e)
some_there (Some mode) e = refl

timed : (b : Bool) → ◌≡◌ {A = Option Why} (cond b None (Some why.NoTimecode)) None → b ≡ true
timed true e = refl
timed false e = absurd (cc e)

-- a list that carries a timeline can be written in its mode and layout
pub carried_fits : (t : Timeline) (rows : MediaRows) (drop wide : Bool) (list : EventList)
    → IsCalm t → AreListed rows → not_carried t rows drop wide ≡ None
    → IsListOf t rows drop wide list → IsWritableIn list drop wide
carried_fits t rows drop wide list calm listed none is =
    let fine = list_is_fine t list rows drop wide calm listed none is in
    let there = timed (is_there (mode_in (record_rate t) drop))
    (carried_all t rows drop wide none).timed in
    record {
      formed = fine.formed;
      can = record {
        timecode = some_there (mode_of list.rate drop)
            (ap (λ r. is_there (mode_in r drop)) is.rate ∙ there);
        fits = fine.fits;
      };
      labelled = fine.labels;
    }
