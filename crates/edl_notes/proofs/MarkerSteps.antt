-- Markers of locators, one after another.
use Rattle.std.proofs.Common.{◌≡◌, ◌<◌, ◌≤◌, ◌+◌, ◌&&◌, ℕ, ℤ, pos, ◌-ℤ◌, ◌*ℤ◌, ◌≤ℤ◌, ◌<ℤ◌, to_z, of_z, w64, true, Bor, List, [], ◌∷◌, ◌++◌, length, take, slice_index_or, refl, sym, ap, subst, ◌∙◌, append_assoc, append-nil, arith}
use Rattle.std.specs.Prelude.{int_le, int_lt}
use Rattle.std.proofs.lemmas.Int.{ints}
use Rattle.std.proofs.lemmas.List.{take_more}
use Rattle.limits.proofs.IntegerSums.{multiple-from_zero}
use Rattle.limits.specs.Limits.{most_ticks}
use Rattle.tick_time.specs.declared.rates.Rate.{Rate}
use Rattle.tick_time.specs.Rates.{frame}
use Rattle.tick_time.specs.Times.{IsInRange}
use Rattle.tick_time.proofs.BoolLemmas.{both}
use Rattle.otio_model.specs.declared.markers.Marker.{Marker}
use Rattle.edl_list.specs.declared.list.Event.{Event}
use Rattle.edl_list.specs.Formed.{IsEvent}
use Rattle.edl_list.specs.Speeds.{day_of, count_of}
use Rattle.edl_frames.specs.Shown.{source_frame}
use Rattle.note_text.specs.Belonging.{counts_at, does_count}
use Rattle.note_text.proofs.SourceFrames.{short_day, shown_low}
use Rattle.note_text.specs.Noted.{AreMarkersOf, IsMarkerOf}
use Rattle.note_text.specs.declared.notes.Said.{Said}
use Rattle.note_text.specs.declared.notes.Said.TheVariants.{Loc, Sop, Sat}
use Rattle.note_text.specs.declared.notes.Note.{Note}
use Rattle.edl_notes.specs.Steps.{AddsMarkers, IsMarkerAt, said_by}

markers_append : (rate : Rate) (e : Event) (a b : List Said) (xs ys : List Marker) → AreMarkersOf rate e a xs → AreMarkersOf rate e b ys → AreMarkersOf rate e (a ++ b) (xs ++ ys)
markers_append rate e [] b xs ys h k = subst (λ l. AreMarkersOf rate e b (l ++ ys)) (sym h) k
markers_append rate e (Loc at color name ∷ a) b xs ys h k = (h.0, h.1 ++ ys, ap (λ l. l ++ ys) h.2, h.3, markers_append rate e a b h.1 ys h.4 k)
markers_append rate e (Sop slope offset power ∷ a) b xs ys h k = markers_append rate e a b xs ys h k
markers_append rate e (Sat numeral ∷ a) b xs ys h k = markers_append rate e a b xs ys h k

adds_then : (rate : Rate) (e : Event) (a b : List Said) (old mid new : List Marker) → AddsMarkers rate e a old mid → AddsMarkers rate e b mid new → AddsMarkers rate e (a ++ b) old new
adds_then rate e a b old mid new h k = record {
  added = h.added ++ k.added;
  are = markers_append rate e a b h.added k.added h.are k.are;
  is = k.is ∙ ap (λ l. l ++ k.added) h.is ∙ append_assoc old h.added k.added;
}

pub adds_none : (rate : Rate) (e : Event) (old : List Marker) → AddsMarkers rate e [] old old
adds_none rate e old = record { added = []; are = refl; is = sym (append-nil old) }

said_more : (bs : List (Bor Note)) (b : Bor Note) → said_by (bs ++ b ∷ []) ≡ said_by bs ++ b.now.said ∷ []
said_more [] b = refl
said_more (a ∷ bs) b = ap (λ l. a.now.said ∷ l) (said_more bs b)

pub said_next : (bs : List (Bor Note)) (i : ℕ) (b : Bor Note) → i < length bs → b ≡ slice_index_or bs i b → said_by (take (i + 1) bs) ≡ said_by (take i bs) ++ b.now.said ∷ []
said_next bs i b within is =
    ap said_by (take_more bs i b within ∙ ap (λ x. take i bs ++ x ∷ []) (sym is)) ∙ said_more (take i bs) b

-- one note more
pub adds_next : (rate : Rate) (e : Event) (bs : List (Bor Note)) (i : ℕ) (b : Bor Note) (old mid new : List Marker) → i < length bs → b ≡ slice_index_or bs i b
    → AddsMarkers rate e (b.now.said ∷ []) mid new → AddsMarkers rate e (said_by (take i bs)) old mid → AddsMarkers rate e (said_by (take (i + 1) bs)) old new
adds_next rate e bs i b old mid new within is here before =
    subst (λ l. AddsMarkers rate e l old new) (sym (said_next bs i b within is)) (adds_then rate e (said_by (take i bs)) (b.now.said ∷ []) old mid new before here)

-- ---- a locator that counts

-- its record frame lies in the event, and its source frame in the range of times
pub record IsCounted (rate : Rate) (e : Event) (at : ℤ) : Type 0 where
  pub low : e.rec_in ≤ℤ at
  pub high : at <ℤ e.rec_out
  pub range : (source_frame rate e.to (at -ℤ e.rec_in) *ℤ pos (frame rate.num rate.den)) ≤ℤ pos most_ticks

is_le : (a b : ℤ) → int_le a b ≡ true → a ≤ℤ b
is_le a b e = grind (arith, ints)

is_lt_z : (a b : ℤ) → int_lt a b ≡ true → a <ℤ b
is_lt_z a b e = grind (arith, ints)

pub counted : (rate : Rate) (e : Event) (at : ℤ) → counts_at rate e at ≡ true → IsCounted rate e at
counted rate e at h =
    let far = source_frame rate e.to (at -ℤ e.rec_in) *ℤ pos (frame rate.num rate.den) in
    let p = both (int_le e.rec_in at && int_lt at e.rec_out) (int_le far (pos most_ticks)) h in
    let q = both (int_le e.rec_in at) (int_lt at e.rec_out) p.0 in
    record { low = is_le e.rec_in at q.0; high = is_lt_z at e.rec_out q.1; range = is_le far (pos most_ticks) p.1 }

-- the marker of a locator
pub marks : (rate : Rate) (e : Event) (at frame : ℤ) (color name : List ℕ) (m : Marker) → frame ≡ source_frame rate e.to (at -ℤ e.rec_in) → IsMarkerAt rate frame color name m → IsMarkerOf rate e at color name m
marks rate e at frame color name m is h = subst (λ f. IsMarkerAt rate f color name m → IsMarkerOf rate e at color name m) (sym is)
    (λ k. record { mark = k.mark; is = k.is; metadata = k.metadata; name_is = k.name_is; range = k.range; rest = k.rest }) h

-- a locator adds its marker
pub adds_marker : (rate : Rate) (e : Event) (at frame : ℤ) (color name : List ℕ) (m : Marker) (old new : List Marker) → frame ≡ source_frame rate e.to (at -ℤ e.rec_in)
    → IsMarkerAt rate frame color name m → new ≡ old ++ m ∷ [] → AddsMarkers rate e (Loc at color name ∷ []) old new
adds_marker rate e at frame color name m old new is h push = record {
  added = m ∷ [];
  are = (m, [], refl, marks rate e at frame color name m is h, refl);
  is = push;
}

pub adds_other : (rate : Rate) (e : Event) (said : Said) (old : List Marker) → ((at : ℤ) (color name : List ℕ) → said ≡ Loc at color name → ⊥) → AddsMarkers rate e (said ∷ []) old old
adds_other rate e (Loc at color name) old n = absurd (n at color name refl)
adds_other rate e (Sop slope offset power) old n = record { added = []; are = refl; is = sym (append-nil old) }
adds_other rate e (Sat numeral) old n = record { added = []; are = refl; is = sym (append-nil old) }

-- how far a locator that counts lies from the record in
pub record IsApart (e : Event) (at : ℤ) : Type 0 where
  pub is : to_z w64 (of_z w64 (to_z w64 (of_z w64 at) -ℤ to_z w64 (of_z w64 e.rec_in))) ≡ at -ℤ e.rec_in
  pub low : pos 0 ≤ℤ (at -ℤ e.rec_in)
  pub short : (at -ℤ e.rec_in) <ℤ pos 5184000

pub apart : (rate : Rate) (e : Event) (at : ℤ) → 1 ≤ count_of rate → IsEvent (day_of rate) e → IsCounted rate e at → IsApart e at
apart rate e at some h c =
    let day = short_day rate some in
    let a = h.rec_in.low in let b = h.rec_out.high in
    let low = c.low in let high = c.high in
    record {
      is = omega (arith, ints, day, a, b, low, high);
      low = omega (arith, ints, low);
      short = omega (arith, ints, day, a, b, low, high);
    }

-- the source frame of a locator that counts makes a time
pub in_range : (rate : Rate) (e : Event) (at : ℤ) → 1 ≤ count_of rate → IsEvent (day_of rate) e → IsCounted rate e at → IsInRange (source_frame rate e.to (at -ℤ e.rec_in) *ℤ pos (frame rate.num rate.den))
in_range rate e at some h c =
    let a = apart rate e at some h c in
    let low = multiple-from_zero (source_frame rate e.to (at -ℤ e.rec_in)) (frame rate.num rate.den) (shown_low rate e.to (at -ℤ e.rec_in) some h.to a.low a.short) in
    record { low = omega (arith, ints, low); high = c.range }

-- what is said counts, and so the locator does
pub counts_loc : (rate : Rate) (e : Event) (said : Said) (at : ℤ) (color name : List ℕ) → said ≡ Loc at color name → does_count rate e said ≡ true → IsCounted rate e at
counts_loc rate e said at color name is h = counted rate e at (ap (does_count rate e) (sym is) ∙ h)
