-- The notes of a timeline for its list are those of its events, and can be written.
use Rattle.std.proofs.Common.{◌≡◌, ◌<◌, ◌≤◌, ◌+◌, ◌&&◌, ◌⊎◌, inl, inr, ℕ, zero, suc, ℤ, pos, negsuc, ◌+ℤ◌, ◌-ℤ◌, ◌*ℤ◌, ◌≤ℤ◌, ◌<ℤ◌, Bool, true, false, cond, List, [], ◌∷◌, ◌++◌, All, Option, Some, None, Ok, codes, length, map, get_or, option_map, slice_get, unsigned_abs, refl, sym, ap, ap₂, subst, ◌∙◌, arith}
use Rattle.std.specs.Int.{int_div_euclid}
use Rattle.std.specs.Ordering.{int_eq}
use Rattle.std.proofs.lemmas.Int.{ints}
use Rattle.std.proofs.lemmas.List.Elements.{All-cons, All-head, All-tail}
use Rattle.std.proofs.lemmas.Option.{get_or_from_slice_get, slice_get-get_or}
use Rattle.limits.proofs.IntegerSums.{size-of_natural}
use Rattle.limits.proofs.IntegerTests.{below-int_le, below-int_lt}
use Rattle.limits.specs.Limits.{most_ticks}
use Rattle.text_lines.specs.Lines.{trimmed}
use Rattle.text_lines.proofs.Trimming.{all_trimmed, trimmed_tight}
use Rattle.tick_time.specs.declared.rates.Rate.{Rate}
use Rattle.tick_time.specs.declared.spans.Span.{Span}
use Rattle.tick_time.specs.Numerals.{IsNumeral}
use Rattle.tick_time.specs.Rates.{frame}
use Rattle.smpte_tc.specs.Answers.{WritesAt}
use Rattle.smpte_tc.specs.Day.{labels_of}
use Rattle.smpte_tc.specs.declared.modes.Mode.{Mode}
use Rattle.smpte_tc.specs.Modes.{mode_of}
use Rattle.coord.proofs.Members.{got_below}
use Rattle.json_value.specs.declared.Json.{Json}
use Rattle.otio_model.specs.declared.markers.Marker.{Marker}
use Rattle.otio_model.specs.declared.markers.Marker.TheVariants.{Known, Kept}
use Rattle.otio_model.specs.declared.markers.Mark.{Mark}
use Rattle.otio_model.specs.declared.compositions.Clip.{Clip as ClipRow}
use Rattle.otio_model.specs.declared.compositions.ItemOf.{ItemOf}
use Rattle.otio_model.specs.declared.compositions.ItemOf.TheVariants.{Clip, Gap, Transition, Stack, Track}
use Rattle.otio_model.specs.declared.compositions.Listed.{Listed}
use Rattle.otio_model.specs.declared.timelines.Timeline.{Timeline}
use Rattle.otio_model.specs.Trees.{item_at}
use Rattle.edl_list.specs.declared.list.Event.{Event}
use Rattle.edl_list.specs.declared.list.EventList.{EventList}
use Rattle.edl_list.specs.declared.list.Side.{Side}
use Rattle.edl_list.specs.Formed.{IsEvent, IsWellFormed}
use Rattle.edl_list.specs.Labelled.{IsBelowDay, IsLabelled}
use Rattle.edl_list.specs.Speeds.{day_of}
use Rattle.edl_frames.specs.Conformed.{is_black}
use Rattle.edl_frames.specs.Shown.{source_frame}
use Rattle.edl_text.specs.Columns.{cleaned, is_control, written_byte}
use Rattle.edl_law.proofs.FrameQuotients.{floor}
use Rattle.edl_law.proofs.ItemLooks.{ticks_some}
use Rattle.note_text.specs.Belonging.{does_count, first_from, first_shown, IsNoteOf, IsSaidBelowDay}
use Rattle.note_text.specs.Forms.{IsColor}
use Rattle.note_text.specs.Found.{AreNotesFrom, AreNotesOf, IsColorOf, IsNumeralOf, IsTripleOf, SayMarkers, SaysClip, SaysHome, SaysMark, SaysSat, SaysSop, as_notes, color_member, marked_frame}
use Rattle.note_text.specs.declared.notes.Triple.{Triple}
use Rattle.note_text.specs.declared.notes.Said.{Said}
use Rattle.note_text.specs.declared.notes.Said.TheVariants.{Loc, Sop, Sat}
use Rattle.note_text.specs.declared.notes.Note.{Note}
use Rattle.note_law.specs.Law.{AreInOrder, AreOwn, AreSpelled, HasText, IsClean, IsOwn, IsSpelled}
use Rattle.note_law.proofs.FoundOnce.{Shows, mark_cases}

-- ---- names as they are written

written_plain : (b : ℕ) (t : Bool) → is_control b ≡ t → is_control (written_byte b) ≡ false
written_plain b true e = rw e refl
written_plain b false e = rw e e

all_plain : (text : List ℕ) → All (λ b. is_control b ≡ false) (map written_byte text)
all_plain [] = λ k d h. absurd (omega (arith, h))
all_plain (b ∷ text) = All-cons (λ x. is_control x ≡ false) (written_byte b) (map written_byte text) (written_plain b (is_control b) refl) (all_plain text)

kept_byte : (b : ℕ) → is_control b ≡ false → written_byte b ≡ b
kept_byte b e = rw e refl

kept_bytes : (text : List ℕ) → All (λ b. is_control b ≡ false) text → map written_byte text ≡ text
kept_bytes [] h = refl
kept_bytes (b ∷ text) h =
    ap₂ (λ x xs. x ∷ xs) (kept_byte b (All-head (λ x. is_control x ≡ false) b text h)) (kept_bytes text (All-tail (λ x. is_control x ≡ false) b text h))

-- a name as it is written is written as it is
pub cleaned_again : (text : List ℕ) → cleaned text ≡ cleaned (cleaned text)
unfolding cleaned
cleaned_again text =
    sym (ap trimmed (kept_bytes (trimmed (map written_byte text)) (all_trimmed (λ b. is_control b ≡ false) (map written_byte text) (all_plain text)))
    ∙ trimmed_tight (map written_byte text))

-- ---- labels

label_before : (o : Option Mode) (n : ℤ) (j : ℕ) (label : List ℕ) → WritesAt o n (Ok label) → pos j ≤ℤ n → (bytes : List ℕ) × WritesAt o (pos j) (Ok bytes)
label_before None n j label h l = absurd (cc h)
label_before (Some m) n j label h l =
    let same = h.1 in
    let below = got_below (labels_of m) h.0 label h.2.stands in
    let lt : j < length (labels_of m) = omega (arith, ints, same, l, below) in
    (get_or (labels_of m) j [], (j, refl, record { stands = slice_get-get_or (labels_of m) j [] lt }))

below_before : (rate : Rate) (drop : Bool) (n at : ℤ) → IsBelowDay rate drop n → pos 0 ≤ℤ at → at ≤ℤ n → IsBelowDay rate drop at
below_before rate drop n (pos j) h low le = let k = label_before (mode_of rate drop) n j h.label h.written le in record { label = k.0; written = k.1 }
below_before rate drop n (negsuc j) h low le = absurd (omega (arith, ints, low))

-- ---- the frame that a locator names

record IsFirst (rate : Rate) (side : Side) (v : ℤ) (low left r : ℕ) : Type 0 where
  high : r < low + left
  from : low ≤ r
  shows : source_frame rate side (pos r) ≡ v

is_eq : (a b : ℤ) → int_eq a b ≡ true → a ≡ b
is_eq a b e = grind (arith, ints, e)

first_is : (left : ℕ) (rate : Rate) (side : Side) (v : ℤ) (k r : ℕ) → first_from rate side v k left ≡ Some r → IsFirst rate side v k left r
first_is zero rate side v k r e = absurd (cc e)
first_is (suc left) rate side v k r e = by (int_eq (source_frame rate side (pos k)) v) refl (first_is left rate side v (suc k) r) e
  where
    by : (b : Bool) → int_eq (source_frame rate side (pos k)) v ≡ b → (first_from rate side v (suc k) left ≡ Some r → IsFirst rate side v (suc k) left r)
        → cond b (Some k) (first_from rate side v (suc k) left) ≡ Some r → IsFirst rate side v k (suc left) r
    by true f h g =
        let same : k ≡ r = cc g in
        record { high = omega (arith, same); from = omega (arith, same); shows = ap (λ j. source_frame rate side (pos j)) (sym same) ∙ is_eq _ v f }
    by false f h g = let i = h g in let high = i.high in let from = i.from in record { high = omega (arith, high); from = omega (arith, from); shows = i.shows }

-- where a span starts in a source frame, that frame makes a time
frame_small : (rate : Rate) (mark : Mark) (v : ℤ) → marked_frame rate mark ≡ Some v → (v *ℤ pos (frame rate.num rate.den)) ≤ℤ pos most_ticks
frame_small rate mark v e = by mark.marked_range e
  where
    by : (o : Option Span) → option_map (λ (s : Span). int_div_euclid s.start.ticks (pos (frame rate.num rate.den))) o ≡ Some v → (v *ℤ pos (frame rate.num rate.den)) ≤ℤ pos most_ticks
    by None f = absurd (cc f)
    by (Some s) f =
        let n = frame rate.num rate.den in
        let same : int_div_euclid s.start.ticks (pos n) ≡ v = cc f in
        let fl = floor s.start.ticks n (ticks_some rate) in
        let whole = fl.whole in
        let high = s.start.high in
        subst (λ z. (z *ℤ pos n) ≤ℤ pos most_ticks) same (omega (arith, ints, whole, high))

-- ---- what is said of an event

-- it counts for the event, is as it is read again, and can be written where it has a text
record IsFine (rate : Rate) (drop : Bool) (e : Event) (said : Said) : Type 0 where
  counts : does_count rate e said ≡ true
  clean : IsClean said
  below : IsBelowDay rate drop e.rec_out → IsSaidBelowDay rate drop said
  spelled : IsBelowDay rate drop e.rec_out → HasText said → IsSpelled rate drop said

abbrev Every : (Said → Type 0) → List Said → Type 0
Every P [] = Unit {0}
Every P (said ∷ more) = P said × Every P more

every_append : (P : Said → Type 0) (a b : List Said) → Every P a → Every P b → Every P (a ++ b)
every_append P [] b h k = k
every_append P (x ∷ a) b h k = (h.0, every_append P a b h.1 k)

red_is : IsColor (codes "RED")
red_is = record {
  some = λ e. absurd (cc e);
  few = omega arith;
  letters = All-cons P 82 (69 ∷ 68 ∷ []) (omega arith, omega arith) (All-cons P 69 (68 ∷ []) (omega arith, omega arith) (All-cons P 68 [] (omega arith, omega arith) (λ k d h. absurd (omega (arith, h)))));
}
  where
    P : ℕ → Type 0
    P b = (65 ≤ b) × (b ≤ 90)

color_is : (mark : Mark) (color : List ℕ) → IsColorOf mark color → IsColor color
color_is mark color (IsColorOf.own x e c) = c
color_is mark color (IsColorOf.red n) = red_is

loc_fine : (rate : Rate) (drop : Bool) (e : Event) (mark : Mark) (v : ℤ) (k : ℕ) (color : List ℕ) → IsEvent (day_of rate) e → marked_frame rate mark ≡ Some v → first_shown rate e v ≡ Some k → IsColorOf mark color
    → IsFine rate drop e (Loc (e.rec_in +ℤ pos k) color (cleaned mark.name))
loc_fine rate drop e mark v k color is m f c =
    let first = first_is (unsigned_abs (e.rec_out -ℤ e.rec_in)) rate e.to v 0 k f in
    let below = first.high in
    let some = is.some in
    let long = size-of_natural (e.rec_out -ℤ e.rec_in) (omega (arith, ints, some)) in
    let a = is.rec_in.low in
    let at = e.rec_in +ℤ pos k in
    let early : e.rec_in ≤ℤ at = omega (arith, ints) in
    let late : at <ℤ e.rec_out = omega (arith, ints, below, long) in
    let back : at -ℤ e.rec_in ≡ pos k = omega (arith, ints) in
    let shows : source_frame rate e.to (at -ℤ e.rec_in) ≡ v = ap (source_frame rate e.to) back ∙ first.shows in
    let far : (source_frame rate e.to (at -ℤ e.rec_in) *ℤ pos (frame rate.num rate.den)) ≤ℤ pos most_ticks =
    subst (λ z. (z *ℤ pos (frame rate.num rate.den)) ≤ℤ pos most_ticks) (sym shows) (frame_small rate mark v m) in
    record {
      counts = ap₂ (λ p q. p && q) (ap₂ (λ p q. p && q) (below-int_le e.rec_in at early) (below-int_lt at e.rec_out late)) (below-int_le _ _ far);
      clean = cleaned_again mark.name;
      below = λ day. below_before rate drop e.rec_out at day (omega (arith, ints, a)) (omega (arith, ints, late));
      spelled = λ day text. (below_before rate drop e.rec_out at day (omega (arith, ints, a)) (omega (arith, ints, late)), color_is mark color c, text);
    }

mark_fine : (rate : Rate) (drop : Bool) (e : Event) (mark : Mark) (said : List Said) → IsEvent (day_of rate) e → SaysMark rate e mark said → Every (IsFine rate drop e) said
mark_fine rate drop e mark said is h = by (mark_cases rate e mark said h)
  where
    by : Shows rate e mark said ⊎ ((said ≡ []) × ((v : ℤ) (k : ℕ) → marked_frame rate mark ≡ Some v → first_shown rate e v ≡ Some k → ⊥)) → Every (IsFine rate drop e) said
    by (inl x) = subst (Every (IsFine rate drop e)) (sym x.is) (loc_fine rate drop e mark x.v x.k x.color is x.marked x.first x.is_color, tt)
    by (inr x) = subst (Every (IsFine rate drop e)) (sym x.0) tt

markers_fine : (rate : Rate) (drop : Bool) (e : Event) (ms : List Marker) (said : List Said) → IsEvent (day_of rate) e → SayMarkers rate e ms said → Every (IsFine rate drop e) said
markers_fine rate drop e [] said is h = subst (Every (IsFine rate drop e)) (sym h) tt
markers_fine rate drop e (Known mark ∷ ms) said is h =
    subst (Every (IsFine rate drop e)) (sym h.2) (every_append (IsFine rate drop e) h.0 h.1 (mark_fine rate drop e mark h.0 is h.3) (markers_fine rate drop e ms h.1 is h.4))
markers_fine rate drop e (Kept j ∷ ms) said is h =
    subst (Every (IsFine rate drop e)) (sym h.2) (every_append (IsFine rate drop e) h.0 h.1 (subst (Every (IsFine rate drop e)) (sym h.3) tt) (markers_fine rate drop e ms h.1 is h.4))

numerals_are : (name : List ℕ) (sop : Json) (t : Triple) → IsTripleOf name sop t → AreSpelled t
numerals_are name sop t h = record { r = h.numerals.r_is.1; g = h.numerals.g_is.1; b = h.numerals.b_is.1 }

sop_fine : (rate : Rate) (drop : Bool) (e : Event) (metadata : List (List ℕ × Json)) (said : List Said) → SaysSop metadata said → Every (IsFine rate drop e) said
sop_fine rate drop e metadata [] h = tt
sop_fine rate drop e metadata (Sop s o p ∷ []) (SaysSop.some x y z h) = (
  record {
    counts = refl;
    clean = tt;
    below = λ day. tt;
    spelled = λ day text. (numerals_are (codes "slope") h.sop s h.slope_is, numerals_are (codes "offset") h.sop o h.offset_is, numerals_are (codes "power") h.sop p h.power_is);
  },
  tt,
)
sop_fine rate drop e metadata (Loc at color name ∷ l) h = elim h [ ]
sop_fine rate drop e metadata (Sat numeral ∷ l) h = elim h [ ]
sop_fine rate drop e metadata (Sop s o p ∷ x ∷ l) h = elim h [ ]

numeral_is : (o : Option Json) (numeral : List ℕ) → IsNumeralOf o numeral → IsNumeral numeral
numeral_is None numeral h = absurd h
numeral_is (Some j) numeral h = h.1

sat_fine : (rate : Rate) (drop : Bool) (e : Event) (metadata : List (List ℕ × Json)) (said : List Said) → SaysSat metadata said → Every (IsFine rate drop e) said
sat_fine rate drop e metadata [] h = tt
sat_fine rate drop e metadata (Sat n ∷ []) (SaysSat.some x h) = (record { counts = refl; clean = tt; below = λ day. tt; spelled = λ day text. numeral_is (color_member (codes "asc_sat") metadata) n h }, tt)
sat_fine rate drop e metadata (Loc at color name ∷ l) h = elim h [ ]
sat_fine rate drop e metadata (Sop s o p ∷ l) h = elim h [ ]
sat_fine rate drop e metadata (Sat n ∷ x ∷ l) h = elim h [ ]

clip_fine : (rate : Rate) (drop : Bool) (e : Event) (c : ClipRow) (said : List Said) → IsEvent (day_of rate) e → SaysClip rate e c said → Every (IsFine rate drop e) said
clip_fine rate drop e c said is h =
    let P = IsFine rate drop e in
    subst (Every P) (sym h.is) (every_append P h.sop (h.sat ++ h.marks) (sop_fine rate drop e c.metadata h.sop h.is_sop)
    (every_append P h.sat h.marks (sat_fine rate drop e c.metadata h.sat h.is_sat) (markers_fine rate drop e c.markers h.marks is h.are_marks)))

-- what is said of an event that isn't black
record IsShown (rate : Rate) (drop : Bool) (e : Event) (said : Said) : Type 0 where
  shown : is_black e.to.reel ≡ false
  fine : IsFine rate drop e said

shown_all : (rate : Rate) (drop : Bool) (e : Event) (said : List Said) → is_black e.to.reel ≡ false → Every (IsFine rate drop e) said → Every (IsShown rate drop e) said
shown_all rate drop e [] b h = tt
shown_all rate drop e (x ∷ said) b h = (record { shown = b; fine = h.0 }, shown_all rate drop e said b h.1)

home_shown : (rate : Rate) (drop : Bool) (e : Event) (o : Option (ItemOf Listed)) (said : List Said) → IsEvent (day_of rate) e → SaysHome rate e o said → Every (IsShown rate drop e) said
home_shown rate drop e None said is h = subst (Every (IsShown rate drop e)) (sym h) tt
home_shown rate drop e (Some (Clip c)) said is h = by (is_black e.to.reel) refl h
  where
    by : (t : Bool) → is_black e.to.reel ≡ t → cond t (said ≡ []) (SaysClip rate e c said) → Every (IsShown rate drop e) said
    by true f k = subst (Every (IsShown rate drop e)) (sym k) tt
    by false f k = shown_all rate drop e said f (clip_fine rate drop e c said is k)
home_shown rate drop e (Some (Gap x)) said is h = subst (Every (IsShown rate drop e)) (sym h) tt
home_shown rate drop e (Some (Transition x)) said is h = subst (Every (IsShown rate drop e)) (sym h) tt
home_shown rate drop e (Some (Stack x)) said is h = subst (Every (IsShown rate drop e)) (sym h) tt
home_shown rate drop e (Some (Track x)) said is h = subst (Every (IsShown rate drop e)) (sym h) tt

-- ---- all notes

-- a note of an event of the list, of which that is known
record IsFound (list : EventList) (drop : Bool) (note : Note) : Type 0 where
  event : Event
  there : slice_get list.events note.event ≡ Some event
  is : IsShown list.rate drop event note.said

all_notes : (list : EventList) (drop : Bool) (index : ℕ) (e : Event) (said : List Said) (more : List Note) → slice_get list.events index ≡ Some e → Every (IsShown list.rate drop e) said → All (IsFound list drop) more
    → All (IsFound list drop) (as_notes index said ++ more)
all_notes list drop index e [] more there h k = k
all_notes list drop index e (s ∷ said) more there h k =
    All-cons (IsFound list drop) (record { event = index; said = s }) (as_notes index said ++ more) (record { event = e; there = there; is = h.0 }) (all_notes list drop index e said more there h.1 k)

found_from : (t : Timeline) (list : EventList) (drop : Bool) (index : ℕ) (es : List Event) (homes : List (List ℕ)) (notes : List Note) → IsWellFormed list → ((i : ℕ) → slice_get es i ≡ slice_get list.events (i + index))
    → AreNotesFrom t list.rate index es homes notes → All (IsFound list drop) notes
found_from t list drop index [] homes notes w at h = subst (All (IsFound list drop)) (sym h) (λ k d l. absurd (omega (arith, l)))
found_from t list drop index (e ∷ es) [] notes w at h = absurd h
found_from t list drop index (e ∷ es) (home ∷ homes) notes w at h =
    let there : slice_get list.events index ≡ Some e = ap (slice_get list.events) (let z : index ≡ 0 + index = omega arith in z) ∙ sym (at 0) in
    let is : IsEvent (day_of list.rate) e = subst (IsEvent (day_of list.rate)) (get_or_from_slice_get list.events index e e there) (w.events index e (got_below list.events index e there)) in
    subst (All (IsFound list drop)) (sym h.2)
    (all_notes list drop index e h.0 h.1 there (home_shown list.rate drop e (item_at home t.tracks.children) h.0 is h.3)
    (found_from t list drop (suc index) es homes h.1 w (λ i. at (suc i) ∙ ap (slice_get list.events) (let z : suc i + index ≡ i + suc index = omega arith in z)) h.4))

order_of : (low high index : ℕ) (said : List Said) (more : List Note) → low ≤ index → index < high → ((n : ℕ) → n ≤ index → AreInOrder n high more) → AreInOrder low high (as_notes index said ++ more)
order_of low high index [] more l h k = k low l
order_of low high index (s ∷ said) more l h k = (l, h, order_of index high index said more (omega arith) h k)

order_from : (t : Timeline) (rate : Rate) (es : List Event) (low high index : ℕ) (homes : List (List ℕ)) (notes : List Note) → low ≤ index → index + length es ≤ high → AreNotesFrom t rate index es homes notes → AreInOrder low high notes
order_from t rate [] low high index homes notes l m h = subst (AreInOrder low high) (sym h) tt
order_from t rate (e ∷ es) low high index [] notes l m h = absurd h
order_from t rate (e ∷ es) low high index (home ∷ homes) notes l m h =
    subst (AreInOrder low high) (sym h.2)
    (order_of low high index h.0 h.1 l (omega (arith, m)) (λ n le. order_from t rate es n high (suc index) homes h.1 (omega (arith, le)) (omega (arith, m)) h.4))

own_all : (list : EventList) (notes : List Note) → All (IsFound list false) notes → All (IsOwn list) notes
own_all list [] h = λ k d l. absurd (omega (arith, l))
own_all list (n ∷ notes) h =
    let f = All-head (IsFound list false) n notes h in
    All-cons (IsOwn list) n notes (record { event = f.event; there = f.there; shown = f.is.shown; counts = f.is.fine.counts; clean = f.is.fine.clean }) (own_all list notes (All-tail (IsFound list false) n notes h))

pub found_own : (t : Timeline) (list : EventList) (notes : List Note) → IsWellFormed list → AreNotesOf t list notes → AreOwn list notes
found_own t list notes w h = record {
  order = order_from t list.rate list.events 0 (length list.events) 0 h.homes notes (omega arith) (omega arith) h.are;
  each = own_all list notes (found_from t list false 0 list.events h.homes notes w (λ i. ap (slice_get list.events) (let z : i ≡ i + 0 = omega arith in z)) h.are);
}

spelled_all : (list : EventList) (drop : Bool) (notes : List Note) → All (IsLabelled list.rate drop) list.events → All (λ (note : Note). HasText note.said) notes → All (IsFound list drop) notes → All (λ (note : Note). IsSpelled list.rate drop note.said) notes
spelled_all list drop [] day text h = λ k d l. absurd (omega (arith, l))
spelled_all list drop (n ∷ notes) day text h =
    let f = All-head (IsFound list drop) n notes h in
    let label : IsLabelled list.rate drop f.event = subst (IsLabelled list.rate drop) (get_or_from_slice_get list.events n.event f.event f.event f.there) (day n.event f.event (got_below list.events n.event f.event f.there)) in
    All-cons (λ (note : Note). IsSpelled list.rate drop note.said) n notes (f.is.fine.spelled label.record_out (All-head (λ (note : Note). HasText note.said) n notes text))
    (spelled_all list drop notes day (All-tail (λ (note : Note). HasText note.said) n notes text) (All-tail (IsFound list drop) n notes h))

pub found_spelled : (t : Timeline) (list : EventList) (drop : Bool) (notes : List Note) → IsWellFormed list → All (IsLabelled list.rate drop) list.events → All (λ (note : Note). HasText note.said) notes → AreNotesOf t list notes
    → All (λ (note : Note). IsSpelled list.rate drop note.said) notes
found_spelled t list drop notes w day text h =
    spelled_all list drop notes day text (found_from t list drop 0 list.events h.homes notes w (λ i. ap (slice_get list.events) (let z : i ≡ i + 0 = omega arith in z)) h.are)

written_all : (list : EventList) (drop : Bool) (notes : List Note) → All (IsLabelled list.rate drop) list.events → All (IsFound list drop) notes → All (IsNoteOf list drop) notes
written_all list drop [] day h = λ k d l. absurd (omega (arith, l))
written_all list drop (n ∷ notes) day h =
    let f = All-head (IsFound list drop) n notes h in
    let below = got_below list.events n.event f.event f.there in
    let label : IsLabelled list.rate drop f.event = subst (IsLabelled list.rate drop) (get_or_from_slice_get list.events n.event f.event f.event f.there) (day n.event f.event below) in
    All-cons (IsNoteOf list drop) n notes (record { event = below; below = f.is.fine.below label.record_out })
    (written_all list drop notes day (All-tail (IsFound list drop) n notes h))

pub found_written : (t : Timeline) (list : EventList) (drop : Bool) (notes : List Note) → IsWellFormed list → All (IsLabelled list.rate drop) list.events → AreNotesOf t list notes → All (IsNoteOf list drop) notes
found_written t list drop notes w day h =
    written_all list drop notes day (found_from t list drop 0 list.events h.homes notes w (λ i. ap (slice_get list.events) (let z : i ≡ i + 0 = omega arith in z)) h.are)
