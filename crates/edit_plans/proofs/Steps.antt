-- The moves of the definitions, step by step.
use Rattle.std.proofs.Common.{◌≡◌, refl, sym, ap, ap₂, ◌∙◌, ℤ, pos, ◌-ℤ◌, false, Option, Some, None}
use Rattle.std.proofs.Common.{FitsSigned, arith}
use mir.Syntax.{w128}
use Rattle.std.proofs.lemmas.Int.{ints}
use Rattle.std.specs.Prelude.{option_map}
use Rattle.otio_model.specs.declared.compositions.ItemOf.{ItemOf}
use Rattle.otio_model.specs.declared.compositions.Listed.{Listed}
use Rattle.edits.specs.Children.{ticks}
use Rattle.edits.specs.Edges.{Held, Moves, Handles, clamped, first_item, gap_ticks, head_room, is_zero}
use Rattle.edits.specs.Edges.{last_item, lesser, clip_handles, handles_in, ripple_by, roll_head}
use Rattle.edits.specs.Edges.{roll_tail, slip_by, tail_room, trim_by, whole_frames, whole_limit}
use Rattle.edit_plans.specs.Bounds.{IsMove}
use Rattle.edit_plans.specs.Meanings.{gap_of_before, handles_of}
use Rattle.edit_plans.specs.declared.media_handles.Handles.{Handles as HandlesRow}
use Rattle.tick_time.specs.declared.spans.Span.{Span}
use Rattle.otio_model.specs.declared.compositions.Clip.{Clip as ClipRow}
use Rattle.otio_model.specs.declared.compositions.ItemOf.TheVariants.{Clip}
use Rattle.otio_model.specs.Lengths.{clip_range, trimmed_start}
use Rattle.coord.specs.Speeds.{speed_of}

-- a move is a number of 128 bits
pub move-fits : (z : ℤ) → IsMove z → FitsSigned w128 z
move-fits z h = omega (arith, ints, h.low, h.high)

pub slips : (f by r a b : ℤ) (x : ItemOf Listed) → Some
    (let m : Handles = record { before = a; behind = b } in m) ≡ clip_handles x
    → r ≡ clamped (Some (whole_frames f a)) (Some (whole_frames f b)) by
    → (h : Held) → h.item ≡ x → r ≡ slip_by f h by
slips f by r a b x e g h k =
    g ∙ ap (λ (o : Option Handles). elim o [
      | None ↦ by
      | Some room ↦
          clamped (Some (whole_frames f room.before)) (Some (whole_frames f room.behind)) by
    ])
    (e ∙ ap clip_handles (sym k))

abbrev pub both : ℤ → ℤ → Moves
both a b = record { head = a; tail = b }

-- the head and the tail of a ripple
abbrev pub head_rippled : ℤ → ItemOf Listed → ℤ → ℤ
head_rippled f x by = clamped (whole_limit f (head_room x))
    (Some (whole_frames f (ticks x -ℤ pos 1))) by

abbrev pub tail_rippled : ℤ → ItemOf Listed → ℤ → ℤ → ℤ
tail_rippled f x by head = clamped (Some (whole_frames f ((ticks x -ℤ head) -ℤ pos 1)))
    (whole_limit f (tail_room x)) by

pub ripples : (f a b : ℤ) (x : ItemOf Listed) (m : Moves) → a ≡ head_rippled f x m.head
    → b ≡ tail_rippled f x m.tail a → both a b ≡ ripple_by f x m
ripples f a b x m e g = ap₂ both e (g ∙ ap (tail_rippled f x m.tail) e)

abbrev pub head_trimmed : ℤ → Option (ItemOf Listed) → ItemOf Listed → ℤ → ℤ
head_trimmed f o x by = clamped (lesser (Some (whole_frames f (gap_of_before o)))
    (whole_limit f (head_room x))) (Some (whole_frames f (ticks x -ℤ pos 1))) by

abbrev pub tail_trimmed : ℤ → ItemOf Listed → Option (ItemOf Listed) → ℤ → ℤ → ℤ
tail_trimmed f x p by head = clamped (Some (whole_frames f ((ticks x -ℤ head) -ℤ pos 1)))
    (lesser (whole_limit f (option_map gap_ticks p)) (whole_limit f (tail_room x))) by

pub trims : (f a b : ℤ) (o p : Option (ItemOf Listed)) (x : ItemOf Listed) (m : Moves)
    → a ≡ head_trimmed f o x m.head → b ≡ tail_trimmed f x p m.tail a
    → (h : Held) → last_item h.before ≡ o → h.item ≡ x → first_item h.behind ≡ p
    → both a b ≡ trim_by f h m
trims f a b o p x m e g h i j k =
    let head : a ≡ head_trimmed f (last_item h.before) h.item m.head = e
    ∙ ap₂ (λ q y. head_trimmed f q y m.head) (sym i) (sym j) in
    ap₂ both head (g ∙ ap₂ (λ q y. tail_trimmed f y q m.tail a) (sym k) (sym j)
    ∙ ap (tail_trimmed f h.item (first_item h.behind) m.tail) head)

pub rolls_head : (f by r : ℤ) (y x : ItemOf Listed) → is_zero by ≡ false
    → r ≡ clamped (lesser (whole_limit f (head_room x)) (Some (whole_frames f (ticks y -ℤ pos 1))))
    (lesser (Some (whole_frames f (ticks x -ℤ pos 1))) (whole_limit f (tail_room y))) by
    → (h : Held) → last_item h.before ≡ Some y → h.item ≡ x → r ≡ roll_head f h by
rolls_head f by r y x s g h e k =
    let same : roll_head f h by ≡ clamped (lesser (whole_limit f (head_room h.item))
    (Some (whole_frames f (ticks y -ℤ pos 1))))
    (lesser (Some (whole_frames f (ticks h.item -ℤ pos 1))) (whole_limit f (tail_room y)))
    by =
    rw (e, roll_head, s) refl in
    g ∙ ap (λ z. clamped (lesser (whole_limit f (head_room z))
    (Some (whole_frames f (ticks y -ℤ pos 1))))
    (lesser (Some (whole_frames f (ticks z -ℤ pos 1))) (whole_limit f (tail_room y))) by)
    (sym k)
    ∙ sym same

pub rolls_tail : (f head by r : ℤ) (x y : ItemOf Listed) → is_zero by ≡ false
    → r ≡ clamped (lesser (Some (whole_frames f ((ticks x -ℤ head) -ℤ pos 1)))
    (whole_limit f (head_room y))) (lesser (whole_limit f (tail_room x))
    (Some (whole_frames f (ticks y -ℤ pos 1)))) by
    → (h : Held) → h.item ≡ x → first_item h.behind ≡ Some y → r ≡ roll_tail f h head by
rolls_tail f head by r x y s g h k e =
    let same : roll_tail f h head by ≡ clamped (lesser
    (Some (whole_frames f ((ticks h.item -ℤ head) -ℤ pos 1))) (whole_limit f (head_room y)))
    (lesser (whole_limit f (tail_room h.item)) (Some (whole_frames f (ticks y -ℤ pos 1))))
    by =
    rw (e, roll_tail, s) refl in
    g ∙ ap (λ z. clamped (lesser (Some (whole_frames f ((ticks z -ℤ head) -ℤ pos 1)))
    (whole_limit f (head_room y))) (lesser (whole_limit f (tail_room z))
    (Some (whole_frames f (ticks y -ℤ pos 1)))) by) (sym k)
    ∙ sym same

-- the media that a clip has left
pub room_is : (x : ItemOf Listed) (c : ClipRow) (media : Span) (s n v : ℤ) (r : HandlesRow)
    → x ≡ Clip c → clip_range c ≡ Some media → s ≡ trimmed_start x → n ≡ ticks x → v ≡ speed_of x
    → r.before ≡ (handles_in media s n v).before → r.behind ≡ (handles_in media s n v).behind
    → Some (handles_of r) ≡ clip_handles x
room_is x c media s n v r e f g h i j k =
    let room : handles_of r ≡ handles_in media s n v = ap₂
    (λ a b. let m : Handles = record { before = a; behind = b } in m) j k in
    let same : handles_in media s n v ≡ handles_in media (trimmed_start x) (ticks x) (speed_of x) =
    ap₂ (λ a b. handles_in media a b v) g h ∙ ap (handles_in media (trimmed_start x) (ticks x)) i in
    let whole : clip_handles (Clip c) ≡ Some (handles_in media (trimmed_start {C = Listed} (Clip c))
    (ticks (Clip c)) (speed_of {C = Listed} (Clip c))) =
    ap (option_map (λ m. handles_in m (trimmed_start {C = Listed} (Clip c)) (ticks (Clip c))
    (speed_of {C = Listed} (Clip c)))) f in
    ap Some (room ∙ same) ∙ ap (λ y. Some (handles_in media (trimmed_start y) (ticks y) (speed_of y)))
    e ∙ sym whole ∙ ap clip_handles (sym e)
