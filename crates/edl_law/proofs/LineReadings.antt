-- Each written line is of bytes from the space on.
use Rattle.std.proofs.Common.{◌≡◌, ◌+◌, ◌-◌, ◌/◌, ℕ, Bool, true, false, List, [], ◌∷◌, ◌++◌, Some, None, Option, All, IfSome, codes, length, refl}
use Rattle.std.proofs.lemmas.List.Elements.{All-head, All-tail}
use Rattle.tick_time.specs.declared.rates.Rate.{Rate}
use Rattle.edl_list.specs.declared.layout.Layout.{Layout}
use Rattle.edl_list.specs.declared.list.Channel.{Channel}
use Rattle.edl_list.specs.declared.list.Reel.{Reel}
use Rattle.edl_list.specs.declared.list.Side.{Side}
use Rattle.edl_list.specs.declared.list.Cross.{Cross}
use Rattle.edl_list.specs.declared.list.Cross.TheVariants.{Cut, Dissolve, Wipe}
use Rattle.edl_list.specs.declared.list.Event.{Event}
use Rattle.edl_list.specs.Formed.{IsReel, IsEvent, IsCross}
use Rattle.edl_list.specs.Speeds.{day_of}
use Rattle.edl_text.specs.Columns.{digits, spaces, column, reel_text, channel_text, channel_width, kind_column, duration_column, label_text, cleaned}
use Rattle.edl_text.specs.Rows.{event_line, speed_lines, speed_lines_if, needs_line, has_speed, headed, name_lines, from_head, to_head, lines_with, event_lines, written_tenths}
use Rattle.edl_list.specs.Labelled.{outgoing, IsLabelled, IsBelowDay}
use Rattle.edl_text.specs.Spelling.{title_lines, mode_line, lines_from}
use Rattle.edl_law.proofs.SolidTexts.{shown, shown_append, shown_solid, shown_spaces, solid_digits}
use Rattle.edl_law.proofs.LineLemmas.{AreShown, shown_lines}
use Rattle.edl_law.proofs.FieldLemmas.{IsField, labels_text, channel_field}
use Rattle.edl_law.proofs.LineForms.{reel_field, speed_text}
use Rattle.edl_law.proofs.LabelLemmas.{label_field}
use Rattle.edl_law.proofs.NameLemmas.{cleaned_shown}

shown_column : (width : ℕ) (text : List ℕ) → shown text ≡ true → shown (column width text) ≡ true
shown_column width text p = shown_append text (spaces (width - length text)) p (shown_spaces (width - length text))

shown_field : (field : List ℕ) → IsField field → shown field ≡ true
shown_field field h = shown_solid field h.above

spaced : (text : List ℕ) → shown text ≡ true → shown (32 ∷ text) ≡ true
spaced text p = p

shown_digits : (width n : ℕ) → shown (digits width n) ≡ true
shown_digits width n = shown_solid (digits width n) (solid_digits width n)

shown_kind : (cross : Cross) → shown (kind_column cross) ≡ true
shown_kind Cut = refl
shown_kind (Dissolve frames from) = refl
shown_kind (Wipe code frames from) = shown_append (codes "W") (digits 3 code) refl (shown_digits 3 code)

shown_duration : (cross : Cross) → shown (duration_column cross) ≡ true
shown_duration Cut = refl
shown_duration (Dissolve frames from) = shown_digits 3 frames
shown_duration (Wipe code frames from) = shown_digits 3 frames

shown_labels : (a b c d : List ℕ) → IsField a → IsField b → IsField c → IsField d → shown (labels_text a b c d) ≡ true
shown_labels a b c d p q r s =
    let last = shown_append d [] (shown_field d s) refl in
    shown_append a (32 ∷ (b ++ 32 ∷ (c ++ 32 ∷ (d ++ [])))) (shown_field a p)
    (spaced (b ++ 32 ∷ (c ++ 32 ∷ (d ++ []))) (shown_append b (32 ∷ (c ++ 32 ∷ (d ++ []))) (shown_field b q)
    (spaced (c ++ 32 ∷ (d ++ [])) (shown_append c (32 ∷ (d ++ [])) (shown_field c r) (spaced (d ++ []) last)))))

shown_event : (layout : Layout) (number : ℕ) (reel : Reel) (channel : Channel) (cross : Cross) (a b c d : List ℕ) → IsReel reel → IsField a → IsField b → IsField c → IsField d
    → shown (event_line layout number (reel_text reel) channel (kind_column cross) (duration_column cross) a b c d) ≡ true
shown_event layout number reel channel cross a b c d is p q r s =
    let tail = labels_text a b c d in
    let last = shown_append (duration_column cross) (32 ∷ tail) (shown_duration cross) (spaced tail (shown_labels a b c d p q r s)) in
    let kinds = shown_append (kind_column cross) (32 ∷ (duration_column cross ++ 32 ∷ tail)) (shown_kind cross) (spaced (duration_column cross ++ 32 ∷ tail) last) in
    let rest = kind_column cross ++ 32 ∷ (duration_column cross ++ 32 ∷ tail) in
    let name = column channel_width (channel_text channel) in
    let names = shown_append name (32 ∷ rest) (shown_column channel_width (channel_text channel) (shown_field (channel_text channel) (channel_field channel))) (spaced rest kinds) in
    let reels = shown_append (column layout.reel_width (reel_text reel)) (32 ∷ (name ++ 32 ∷ rest)) (shown_column layout.reel_width (reel_text reel) (shown_field (reel_text reel) (reel_field reel is))) (spaced (name ++ 32 ∷ rest) names) in
    let behind = column layout.reel_width (reel_text reel) ++ 32 ∷ (name ++ 32 ∷ rest) in
    shown_append (digits layout.number_width number) (32 ∷ 32 ∷ behind) (shown_digits layout.number_width number) (spaced (32 ∷ behind) (spaced behind reels))

shown_speed : (layout : Layout) (reel : Reel) (tenths : ℕ) (label : List ℕ) → IsReel reel → IsField label → shown (speed_text layout reel tenths label) ≡ true
shown_speed layout reel tenths label is h =
    let last = shown_append label [] (shown_field label h) refl in
    let point = shown_append (digits 1 tenths) (spaces 16 ++ (label ++ [])) (shown_digits 1 tenths) (shown_append (spaces 16) (label ++ []) refl last) in
    let units = shown_append (digits 3 (tenths / 10)) (46 ∷ (digits 1 tenths ++ (spaces 16 ++ (label ++ [])))) (shown_digits 3 (tenths / 10)) point in
    let rest = digits 3 (tenths / 10) ++ (46 ∷ (digits 1 tenths ++ (spaces 16 ++ (label ++ [])))) in
    let reels = shown_append (column layout.reel_width (reel_text reel)) (32 ∷ rest) (shown_column layout.reel_width (reel_text reel) (shown_field (reel_text reel) (reel_field reel is))) (spaced rest units) in
    shown_append (codes "M2   ") (column layout.reel_width (reel_text reel) ++ 32 ∷ rest) refl reels

speeds_if : (rate : Rate) (drop : Bool) (layout : Layout) (needed : Bool) (side : Side) → IsReel side.reel → IsBelowDay rate drop side.src_in → AreShown (speed_lines_if rate drop layout needed side)
speeds_if rate drop layout true side is below = (shown_speed layout side.reel (written_tenths rate side) (label_text rate drop side.src_in) is (label_field rate drop side.src_in below), tt)
speeds_if rate drop layout false side is below = tt

shown_headed : (head text : List ℕ) → shown head ≡ true → shown text ≡ true → AreShown (headed head text)
shown_headed head [] p q = tt
shown_headed head (b ∷ text) p q = (shown_append head (b ∷ text) p q, tt)

shown_name : (head : List ℕ) (name : Option (List ℕ)) → shown head ≡ true → AreShown (name_lines head name)
shown_name head None p = tt
shown_name head (Some name) p = shown_headed head (cleaned name) p (cleaned_shown name)

-- an outgoing side that can be written
pub record IsOutSide (rate : Rate) (drop : Bool) (from : Side) : Type 0 where
  pub reel : IsReel from.reel
  pub below : IsBelowDay rate drop from.src_in

shown_with : (rate : Rate) (drop : Bool) (layout : Layout) (number : ℕ) (event : Event) (from : Option Side) → IsReel event.to.reel → IsLabelled rate drop event → IfSome from (IsOutSide rate drop) → AreShown (lines_with rate drop layout number event from)
shown_with rate drop layout number event None is labels out = (
  shown_event layout number event.to.reel event.channel event.cross _ _ _ _ is (label_field rate drop event.to.src_in labels.source_in) (label_field rate drop event.to.src_out labels.source_out)
      (label_field rate drop event.rec_in labels.record_in) (label_field rate drop event.rec_out labels.record_out),
  shown_lines (speed_lines rate drop layout event.to None) (name_lines from_head event.to.name) (speeds_if rate drop layout (needs_line rate event.to None) event.to is labels.source_in) (shown_name from_head event.to.name refl),
)
shown_with rate drop layout number event (Some from) is labels out = (
  shown_event layout number from.reel event.channel Cut _ _ _ _ out.reel (label_field rate drop from.src_in out.below) (label_field rate drop from.src_in out.below)
      (label_field rate drop event.rec_in labels.record_in) (label_field rate drop event.rec_in labels.record_in),
  (
    shown_event layout number event.to.reel event.channel event.cross _ _ _ _ is (label_field rate drop event.to.src_in labels.source_in) (label_field rate drop event.to.src_out labels.source_out)
        (label_field rate drop event.rec_in labels.record_in) (label_field rate drop event.rec_out labels.record_out),
    shown_lines (speed_lines rate drop layout event.to (Some from)) (name_lines from_head from.name ++ name_lines to_head event.to.name)
        (shown_lines (speed_lines_if rate drop layout (has_speed rate from) from) (speed_lines_if rate drop layout (needs_line rate event.to (Some from)) event.to)
        (speeds_if rate drop layout (has_speed rate from) from out.reel out.below) (speeds_if rate drop layout (needs_line rate event.to (Some from)) event.to is labels.source_in))
        (shown_lines (name_lines from_head from.name) (name_lines to_head event.to.name) (shown_name from_head from.name refl) (shown_name to_head event.to.name refl)),
  ),
)

out_by : (rate : Rate) (drop : Bool) (event : Event) (cross : Cross) → IsCross (day_of rate) event.rec_in event.rec_out cross → IfSome (outgoing cross) (λ from. IsBelowDay rate drop from.src_in)
    → IfSome (outgoing cross) (IsOutSide rate drop)
out_by rate drop event Cut is below = tt
out_by rate drop event (Dissolve frames from) is below = record { reel = is.1.reel; below = below }
out_by rate drop event (Wipe code frames from) is below = record { reel = is.2.reel; below = below }

-- the lines of events
pub shown_events : (rate : Rate) (drop : Bool) (layout : Layout) (number : ℕ) (events : List Event) → All (IsEvent (day_of rate)) events → All (IsLabelled rate drop) events → AreShown (lines_from rate drop layout number events)
shown_events rate drop layout number [] is labels = tt
shown_events rate drop layout number (event ∷ events) is labels =
    let one = All-head (IsEvent (day_of rate)) event events is in
    let label = All-head (IsLabelled rate drop) event events labels in
    shown_lines (event_lines rate drop layout number event) (lines_from rate drop layout (number + 1) events)
    (shown_with rate drop layout number event (outgoing event.cross) one.to.reel label (out_by rate drop event event.cross one.cross label.outgoing_in))
    (shown_events rate drop layout (number + 1) events (All-tail (IsEvent (day_of rate)) event events is) (All-tail (IsLabelled rate drop) event events labels))

-- the line of a title, and of the frame code mode
pub shown_title : (title : List ℕ) → AreShown (title_lines title)
shown_title title = shown_headed (codes "TITLE: ") (cleaned title) refl (cleaned_shown title)

pub shown_mode : (drop : Bool) → shown (mode_line drop) ≡ true
shown_mode true = refl
shown_mode false = refl
