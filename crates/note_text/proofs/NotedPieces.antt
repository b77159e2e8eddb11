-- The lines of notes after lines, piece by piece.
use Rattle.std.proofs.Common.{◌≡◌, ◌≢◌, ◌<◌, ◌≤◌, ◌+◌, ◌==◌, ℕ, zero, suc, Bool, true, false, List, [], ◌∷◌, ◌++◌, length, take, drop, get_or, slice_index_or, map, AllPairs, refl, sym, ap, subst, ◌∙◌, append_assoc, append-nil, arith}
use Rattle.std.proofs.lemmas.Bool.Decides.{nat_tests}
use Rattle.std.proofs.lemmas.List.{map-append, take_more, length-take-le, take-append-drop, get_or_default}
use Rattle.std.proofs.lemmas.List.Elements.{filter-append}
use Rattle.tick_time.specs.declared.rates.Rate.{Rate}
use Rattle.edl_list.specs.declared.layout.Layout.{Layout}
use Rattle.edl_list.specs.declared.list.Event.{Event}
use Rattle.edl_text.specs.Rows.{event_lines}
use Rattle.edl_text.specs.Spelling.{text_of}
use Rattle.edl_text.proofs.Texts.{text_append}
use Rattle.note_text.specs.Belonging.{own_notes}
use Rattle.note_text.specs.NotedSpelling.{note_line, own_lines, noted_lines_from}
use Rattle.note_text.specs.declared.notes.Note.{Note}

own_push : (rate : Rate) (drop : Bool) (index : ℕ) (notes : List Note) (note : Note)
    → text_of (own_lines rate drop index (notes ++ note ∷ [])) ≡ text_of (own_lines rate drop index notes) ++ text_of (own_lines rate drop index (note ∷ []))
own_push rate drop index notes note =
    ap (λ l. text_of (map (λ n. note_line rate drop n.said) l)) (filter-append (λ n. n.event == index) notes (note ∷ []))
    ∙ ap text_of (map-append (λ n. note_line rate drop n.said) (own_notes index notes) (own_notes index (note ∷ [])))
    ∙ text_append (own_lines rate drop index notes) (own_lines rate drop index (note ∷ []))

own_next : (rate : Rate) (drop : Bool) (index : ℕ) (notes : List Note) (i : ℕ) (note : Note) → i < length notes → note ≡ get_or notes i note
    → text_of (own_lines rate drop index (take (i + 1) notes)) ≡ text_of (own_lines rate drop index (take i notes)) ++ text_of (own_lines rate drop index (note ∷ []))
own_next rate drop index notes i note within is =
    let taken : take (i + 1) notes ≡ take i notes ++ note ∷ [] = take_more notes i note within ∙ ap (λ e. take i notes ++ e ∷ []) (sym is) in
    ap (λ l. text_of (own_lines rate drop index l)) taken ∙ own_push rate drop index (take i notes) note

-- one note more, which is the event's
pub own_more : (rate : Rate) (drop : Bool) (index : ℕ) (notes : List Note) (i : ℕ) (note : Note) → i < length notes → note ≡ get_or notes i note → note.event ≡ index
    → text_of (own_lines rate drop index (take i notes)) ++ text_of (note_line rate drop note.said ∷ []) ≡ text_of (own_lines rate drop index (take (i + 1) notes))
own_more rate drop index notes i note within is here =
    let same : (note.event == index) ≡ true = grind (arith, nat_tests, here) in
    let one : own_lines rate drop index (note ∷ []) ≡ note_line rate drop note.said ∷ [] = rw same refl in
    sym (own_next rate drop index notes i note within is ∙ ap (λ l. text_of (own_lines rate drop index (take i notes)) ++ text_of l) one)

-- one note more, which isn't
pub own_same : (rate : Rate) (drop : Bool) (index : ℕ) (notes : List Note) (i : ℕ) (note : Note) → i < length notes → note ≡ get_or notes i note → note.event ≢ index
    → text_of (own_lines rate drop index (take i notes)) ≡ text_of (own_lines rate drop index (take (i + 1) notes))
own_same rate drop index notes i note within is elsewhere =
    let other : (note.event == index) ≡ false = grind (arith, nat_tests, elsewhere) in
    let none_of : own_lines rate drop index (note ∷ []) ≡ [] = rw other refl in
    sym (own_next rate drop index notes i note within is ∙ ap (λ l. text_of (own_lines rate drop index (take i notes)) ++ text_of l) none_of
    ∙ append-nil (text_of (own_lines rate drop index (take i notes))))

threefold : {A : Type 0} (a b c d : List A) → a ++ (b ++ (c ++ d)) ≡ (a ++ (b ++ c)) ++ d
threefold a b c d = sym (append_assoc a (b ++ c) d ∙ ap (λ l. a ++ l) (append_assoc b c d))

noted_push : (rate : Rate) (drop : Bool) (layout : Layout) (k : ℕ) (events : List Event) (e : Event) (notes : List Note)
    → noted_lines_from rate drop layout k (events ++ e ∷ []) notes ≡ noted_lines_from rate drop layout k events notes
    ++ (event_lines rate drop layout (k + length events + 1) e ++ own_lines rate drop (k + length events) notes)
noted_push rate drop layout k [] e notes =
    let at : k ≡ k + 0 = omega arith in
    ap (λ l. event_lines rate drop layout (k + 1) e ++ l) (append-nil (own_lines rate drop k notes))
    ∙ ap (λ n. event_lines rate drop layout (n + 1) e ++ own_lines rate drop n notes) at
noted_push rate drop layout k (first ∷ events) e notes =
    let at : k + 1 + length events ≡ k + length (first ∷ events) = omega arith in
    ap (λ l. event_lines rate drop layout (k + 1) first ++ (own_lines rate drop k notes ++ l))
    (noted_push rate drop layout (k + 1) events e notes
    ∙ ap (λ n. noted_lines_from rate drop layout (k + 1) events notes ++ (event_lines rate drop layout (n + 1) e ++ own_lines rate drop n notes)) at)
    ∙ threefold (event_lines rate drop layout (k + 1) first) (own_lines rate drop k notes) (noted_lines_from rate drop layout (k + 1) events notes) _

-- one event more, with its notes
pub noted_more : (rate : Rate) (drop : Bool) (layout : Layout) (events : List Event) (i number : ℕ) (e : Event) (notes : List Note) → number ≡ i + 1 → i < length events → e ≡ get_or events i e
    → text_of (noted_lines_from rate drop layout 0 (take i events) notes) ++ (text_of (event_lines rate drop layout number e) ++ text_of (own_lines rate drop i notes))
    ≡ text_of (noted_lines_from rate drop layout 0 (take (i + 1) events) notes)
noted_more rate drop layout events i number e notes next within is =
    let taken : take (i + 1) events ≡ take i events ++ e ∷ [] = take_more events i e within ∙ ap (λ l. take i events ++ l ∷ []) (sym is) in
    let count : 0 + length (take i events) ≡ i = omega (arith, length-take-le i events (omega arith)) in
    let lines = noted_lines_from rate drop layout 0 (take i events) notes in
    sym (ap (λ l. text_of (noted_lines_from rate drop layout 0 l notes)) taken
    ∙ ap text_of (noted_push rate drop layout 0 (take i events) e notes)
    ∙ ap (λ n. text_of (lines ++ (event_lines rate drop layout (n + 1) e ++ own_lines rate drop n notes))) count
    ∙ ap (λ n. text_of (lines ++ (event_lines rate drop layout n e ++ own_lines rate drop i notes))) (sym next)
    ∙ text_append lines (event_lines rate drop layout number e ++ own_lines rate drop i notes)
    ∙ ap (λ l. text_of lines ++ l) (text_append (event_lines rate drop layout number e) (own_lines rate drop i notes)))

-- ---- notes in order

apart : (note : Note) (index : ℕ) → note.event ≢ index → (note.event == index) ≡ false
apart note index e = grind (arith, nat_tests, e)

all_late : (index : ℕ) (notes : List Note) → ((j : ℕ) (d : Note) → j < length notes → index < (slice_index_or notes j d).event) → own_notes index notes ≡ []
all_late index [] h = refl
all_late index (note ∷ notes) h =
    let off : (note.event == index) ≡ false = apart note index (λ e. absurd (omega (arith, e, h 0 note (omega arith)))) in
    rw off (all_late index notes (λ j d within. h (suc j) d (omega (arith, within))))

late_none : (index : ℕ) (notes : List Note) (at : ℕ) → ((j : ℕ) (d : Note) → at ≤ j → j < length notes → index < (slice_index_or notes j d).event) → own_notes index (drop at notes) ≡ []
late_none index notes zero h = all_late index notes (λ j d within. h j d (omega arith) within)
late_none index [] (suc at) h = refl
late_none index (note ∷ notes) (suc at) h = late_none index notes at (λ j d low within. h (suc j) d (omega (arith, low)) (omega (arith, within)))

early_none : (index : ℕ) (notes : List Note) (at : ℕ) → at ≤ length notes → ((j : ℕ) (d : Note) → j < at → (slice_index_or notes j d).event < index) → own_notes index (take at notes) ≡ []
early_none index notes zero most h = refl
early_none index [] (suc at) most h = refl
early_none index (note ∷ notes) (suc at) most h =
    let off : (note.event == index) ≡ false = apart note index (λ e. absurd (omega (arith, e, h 0 note (omega arith)))) in
    rw off (early_none index notes at (omega (arith, most)) (λ j d within. h (suc j) d (omega (arith, within))))

-- no note stands before the event's own
pub own_none : (rate : Rate) (drops : Bool) (index : ℕ) (notes : List Note) (at : ℕ) → at ≤ length notes → ((j : ℕ) (d : Note) → j < at → (slice_index_or notes j d).event < index)
    → [] ≡ text_of (own_lines rate drops index (take at notes))
own_none rate drops index notes at most h = sym (ap (λ l. text_of (map (λ n. note_line rate drops n.said) l)) (early_none index notes at most h))

-- all notes after these are of later events
pub own_all : (rate : Rate) (drops : Bool) (index : ℕ) (notes : List Note) (at : ℕ) → ((j : ℕ) (d : Note) → at ≤ j → j < length notes → index < (slice_index_or notes j d).event)
    → text_of (own_lines rate drops index (take at notes)) ≡ text_of (own_lines rate drops index notes)
own_all rate drops index notes at h =
    let all : own_notes index notes ≡ own_notes index (take at notes) =
    ap (own_notes index) (sym (take-append-drop at notes)) ∙ filter-append (λ n. n.event == index) (take at notes) (drop at notes)
    ∙ ap (λ l. own_notes index (take at notes) ++ l) (late_none index notes at h) ∙ append-nil (own_notes index (take at notes)) in
    ap (λ l. text_of (map (λ n. note_line rate drops n.said) l)) (sym all)

later_by : (notes : List Note) (at index j : ℕ) (d : Note) (b : Bool) → (at == j) ≡ b → index < (slice_index_or notes at d).event
    → (at < j → (slice_index_or notes at d).event ≤ (slice_index_or notes j d).event) → at ≤ j → index < (slice_index_or notes j d).event
later_by notes at index j d true e first order low = let k : at ≡ j = grind (arith, nat_tests, e) in subst (λ n. index < (slice_index_or notes n d).event) k first
later_by notes at index j d false e first order low = let k : at < j = grind (arith, nat_tests, e, low) in omega (arith, first, order k)

-- the first of them is of a later event
pub later : (notes : List Note) (at index : ℕ) → AllPairs (λ a b. a.event ≤ b.event) notes → ((d : Note) → index < (slice_index_or notes at d).event)
    → (j : ℕ) (d : Note) → at ≤ j → j < length notes → index < (slice_index_or notes j d).event
later notes at index order first j d low within = later_by notes at index j d (at == j) refl (first d) (λ k. order at j d k within) low

strict : (a b : ℕ) → a ≤ b → b ≢ a → a < b
strict a b low apart = grind (arith, low, apart)

-- the same where the test of a loop says it
pub later_is : (notes : List Note) (at index : ℕ) (seen : Note) → AllPairs (λ a b. a.event ≤ b.event) notes → at < length notes → (slice_index_or notes at seen).event ≢ index
    → ((d : Note) → index ≤ (slice_index_or notes at d).event)
    → (j : ℕ) (d : Note) → at ≤ j → j < length notes → index < (slice_index_or notes j d).event
later_is notes at index seen order within other low =
    later notes at index order (λ d. strict index (slice_index_or notes at d).event (low d) (λ e. other (ap (λ n. n.event) (get_or_default notes at seen d within) ∙ e)))

earlier_by : (notes : List Note) (at index j : ℕ) (d : Note) (b : Bool) → (at == j) ≡ b → (slice_index_or notes at d).event ≡ index
    → (j < at → (slice_index_or notes j d).event ≤ index) → j < at + 1 → (slice_index_or notes j d).event ≤ index
earlier_by notes at index j d true e here before within =
    let k : at ≡ j = grind (arith, nat_tests, e) in subst (λ n. (slice_index_or notes n d).event ≤ index) k (omega (arith, here))
earlier_by notes at index j d false e here before within = let k : j < at = grind (arith, nat_tests, e, within) in before k

-- one more of the event's own
pub earlier : (notes : List Note) (at index : ℕ) (seen : Note) → at < length notes → (slice_index_or notes at seen).event ≡ index
    → ((j : ℕ) (d : Note) → j < at → (slice_index_or notes j d).event ≤ index)
    → (j : ℕ) (d : Note) → j < at + 1 → (slice_index_or notes j d).event ≤ index
earlier notes at index seen within here before j d k =
    earlier_by notes at index j d (at == j) refl (ap (λ n. n.event) (get_or_default notes at d seen within) ∙ here) (before j d) k

pub here_is : (notes : List Note) (at index : ℕ) (seen note : Note) → at < length notes → (slice_index_or notes at seen).event ≡ index → note ≡ slice_index_or notes at note → note.event ≡ index
here_is notes at index seen note within here is = ap (λ n. n.event) (is ∙ get_or_default notes at note seen within) ∙ here
