-- Sides of clips, from what the code reckons of them.
use Rattle.std.proofs.Common.{◌≡◌, refl, sym, ap, ap₂, subst, ◌∙◌, ℤ, pos, ◌+ℤ◌, ◌-ℤ◌, ◌*ℤ◌, Bool, true, false, not, ◌&&◌, ◌||◌, List, [], ◌∷◌, ◌++◌, Option, Some}
use Rattle.std.specs.Prelude.{int_lt, int_le}
use Rattle.std.specs.Ordering.{int_eq}
use Rattle.std.specs.Int.{int_div_euclid, int_rem_euclid}
use Rattle.otio_model.specs.declared.compositions.ItemOf.TheVariants.{Clip}
use Rattle.otio_model.specs.declared.compositions.Listed.{Listed}
use Rattle.otio_model.specs.Lengths.{trimmed_start}
use Rattle.media_rows.specs.declared.row.MediaRow.{MediaRow}
use Rattle.coord.specs.Speeds.{media_at}
use Rattle.edl_frames.specs.Jobs as D
use Rattle.edl_frames.specs.Jobs.{frames_in, is_in_day, ticks_of}
use Rattle.edl_frames.specs.Sides.{source_at, speed_in}
use Rattle.edl_frames.specs.Seats as T
use Rattle.edl_frames.specs.ChildReasons as C
use Rattle.edl_conform.specs.declared.clip_sides.Part.{Part}
use Rattle.edl_conform.specs.declared.visible_clips.Shot.{Shot}
use Rattle.std.proofs.lemmas.List.Folds.{list_any-append}
use Rattle.otio_model.specs.declared.compositions.Clip.{Clip as ClipRow}
use Rattle.edl_conform.specs.declared.clip_sides.Tested.{Tested}
use Rattle.edl_conform.specs.Drafts.{IsTested, event_part_at, going_side, tested_either}
use Rattle.edl_conform.specs.Shots.{IsShot, clip_of, stated_part}

-- the side of an event
pub part_is : (j : D.Job) (begin end a f : ℤ) → int_lt begin end ≡ true → a ≡ begin
    → f ≡ frames_in j (end -ℤ begin)
    → Some (record { at = a; frames = f; counted = f }) ≡ event_part_at j begin end
part_is j begin end a f less ea ef = rw less (ap₂ (λ x y. Some (part_with x y)) ea ef)
  where
    part_with : ℤ → ℤ → C.Part
    part_with x y = record { at = x; frames = y; counted = y }

-- the source frame at an instant
pub source_is : (j : D.Job) (shot : Shot) (start at r m s v u : ℤ) → IsShot shot
    → r ≡ frames_in j m → m ≡ media_at s v u → s ≡ shot.start → v ≡ shot.speed
    → u ≡ at -ℤ start → r ≡ source_at j (clip_of shot) start at
source_is j shot start at r m s v u is er em es ev eu =
    er ∙ ap (frames_in j) (em
    ∙ ap (λ x. media_at x v u) (es ∙ is.start)
    ∙ ap (λ x. media_at (trimmed_start {C = Listed} (Clip (clip_of shot))) x u) (ev ∙ is.speed)
    ∙ ap (λ x. media_at (trimmed_start {C = Listed} (Clip (clip_of shot)))
    (speed_in (clip_of shot)) x) eu)

-- whether the source stands between two frames
pub between_is : (j : D.Job) (shot : Shot) (start : ℤ) (part : Part) (b : Bool) (a f : ℤ)
    → IsShot shot → b ≡ int_eq (int_rem_euclid a f) (pos 0)
    → a ≡ (shot.start *ℤ pos 1000000) +ℤ ((part.at -ℤ start) *ℤ shot.speed)
    → f ≡ ticks_of j *ℤ pos 1000000
    → not b ≡ C.is_between j (clip_of shot) start (stated_part part)
between_is j shot start part b a f is eb ea ef =
    ap not (eb ∙ ap₂ (λ x y. int_eq (int_rem_euclid x y) (pos 0))
    (ea ∙ ap₂ (λ x y. (x *ℤ pos 1000000) +ℤ ((part.at -ℤ start) *ℤ y)) is.start is.speed) ef)

-- whether its labels are past the day
pub past_day_is : (j : D.Job) (shot : Shot) (start : ℤ) (part : Part) (x y z : Bool) (a b p : ℤ)
    → IsShot shot → x ≡ (y && z) → y ≡ is_in_day j a → z ≡ is_in_day j b
    → a ≡ source_at j (clip_of shot) start part.at → b ≡ a +ℤ p
    → p ≡ int_div_euclid (part.counted *ℤ shot.speed) (pos 1000000)
    → not x ≡ C.is_past_day j (clip_of shot) start (stated_part part)
past_day_is j shot start part x y z a b p is ex ey ez ea eb ep =
    ap not (ex ∙ ap₂ (λ u v. u && v) (ey ∙ ap (is_in_day j) ea)
    (ez ∙ ap (is_in_day j) (eb ∙ ap₂ (λ u v. u +ℤ v) ea
    (ep ∙ ap (λ v. int_div_euclid (part.counted *ℤ v) (pos 1000000)) is.speed))))

-- whether its frames lie outside those of a row
pub outside_is : (j : D.Job) (shot : Shot) (start : ℤ) (row : MediaRow) (part : Part) (x : Bool)
    (a b p : ℤ)
    → IsShot shot → x ≡ (int_lt a row.start || int_le (row.start +ℤ row.count) b)
    → a ≡ source_at j (clip_of shot) start part.at → b ≡ a +ℤ p
    → p ≡ int_div_euclid ((part.frames -ℤ pos 1) *ℤ shot.speed) (pos 1000000)
    → x ≡ C.is_outside_row j (clip_of shot) start (Some row) (stated_part part)
outside_is j shot start row part x a b p is ex ea eb ep =
    ex ∙ ap₂ (λ u v. int_lt u row.start || int_le (row.start +ℤ row.count) v) ea
    (eb ∙ ap₂ (λ u v. u +ℤ v) ea
    (ep ∙ ap (λ v. int_div_euclid ((part.frames -ℤ pos 1) *ℤ v) (pos 1000000)) is.speed))

or_false : (b : Bool) → b ≡ (b || false)
or_false true = refl
or_false false = refl

-- the tests of one side, at what its start comes to
pub tested_one : (j : D.Job) (c : ClipRow) (start at : ℤ) (row : Option MediaRow) (p : C.Part)
    (t : Tested) → at ≡ start → t.is_between ≡ C.is_between j c at p
    → t.is_past_day ≡ C.is_past_day j c at p → t.is_outside ≡ C.is_outside_row j c at row p
    → IsTested j c start row (p ∷ []) t
tested_one j c start at row p t is a b d = subst (λ s. IsTested j c s row (p ∷ []) t) is
    (record {
      between = a ∙ or_false (C.is_between j c at p);
      past_day = b ∙ or_false (C.is_past_day j c at p);
      outside = d ∙ or_false (C.is_outside_row j c at row p);
    })

-- the tests of some sides and others
pub tested_both : (j : D.Job) (c : ClipRow) (start : ℤ) (row : Option MediaRow)
    (xs ys : List C.Part)
    (a b t : Tested) → IsTested j c start row xs a → IsTested j c start row ys b
    → t ≡ tested_either a b → IsTested j c start row (xs ++ ys) t
tested_both j c start row xs ys a b t h k e = record {
  between = ap (λ (x : Tested). x.is_between) e ∙ ap₂ (λ x y. x || y) h.between k.between
      ∙ sym (list_any-append (C.is_between j c start) xs ys);
  past_day = ap (λ (x : Tested). x.is_past_day) e ∙ ap₂ (λ x y. x || y) h.past_day k.past_day
      ∙ sym (list_any-append (C.is_past_day j c start) xs ys);
  outside = ap (λ (x : Tested). x.is_outside) e ∙ ap₂ (λ x y. x || y) h.outside k.outside
      ∙ sym (list_any-append (C.is_outside_row j c start row) xs ys);
}

-- tests at what the start comes to
pub tested_at : (j : D.Job) (c : ClipRow) (start at : ℤ) (row : Option MediaRow) (xs : List C.Part)
    (t : Tested) → at ≡ start → IsTested j c at row xs t → IsTested j c start row xs t
tested_at j c start at row xs t is h = subst (λ s. IsTested j c s row xs t) is h

abbrev pub going_with : ℤ → ℤ → C.Part
going_with x y = record { at = x; frames = y; counted = pos 0 }

-- the side that goes out
pub going_is : (j : D.Job) (lap : T.Lap) (a f : ℤ) → a ≡ lap.begin
    → f ≡ frames_in j (lap.end -ℤ lap.begin)
    → going_with a f ≡ going_side j lap
going_is j lap a f ea ef = ap₂ going_with ea ef
