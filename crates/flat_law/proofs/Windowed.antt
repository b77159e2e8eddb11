-- A windowed timeline shows at each record frame what the window of each track shows there.
use Rattle.std.proofs.Common.{◌≡◌, refl, sym, subst, ap, ◌∙◌, ℕ, zero, suc, ◌<◌, ℤ, pos, ◌+ℤ◌, ◌-ℤ◌, ◌*ℤ◌, ◌≤ℤ◌, ◌<ℤ◌, ◌&&◌, true, false, Option, Some, None, cond, List, [], ◌∷◌, map, take, arith}
use Rattle.std.specs.Prelude.{int_le, slice_get, option_map, option_and_then, unwrap_or}
use Rattle.std.specs.Option.{option_or}
use Rattle.std.specs.Int.{int_div_euclid}
use Rattle.std.proofs.lemmas.Int.{ints, by_lt_z}
use Rattle.tick_time.specs.declared.rates.Rate.{Rate}
use Rattle.tick_time.specs.declared.spans.Span.{Span}
use Rattle.tick_time.specs.declared.times.Time.{Time}
use Rattle.tick_time.specs.Rates.{frame}
use Rattle.tick_time.proofs.Wholes.{count-product}
use Rattle.otio_model.specs.declared.compositions.Clip.{Clip as ClipRow}
use Rattle.otio_model.specs.declared.compositions.ItemOf.{ItemOf}
use Rattle.otio_model.specs.declared.compositions.ItemOf.TheVariants.{Clip, Gap, Transition, Stack, Track}
use Rattle.otio_model.specs.declared.compositions.TrackOf.{TrackOf}
use Rattle.otio_model.specs.declared.compositions.Listed.{Listed}
use Rattle.otio_model.specs.declared.timelines.Timeline.{Timeline}
use Rattle.otio_model.specs.Trees.{listed, items_of}
use Rattle.otio_model.specs.Lengths.{Range, from_zero, sum_of, length_of, lengths, clip_range}
use Rattle.coord.specs.Looks.{Show, Blank, Look, FrameRate, list_shows, total}
use Rattle.otio_model.specs.Overlaps.{within}
use Rattle.coord.specs.Keys.{frame_rate}
use Rattle.coord.specs.Sights.{viewer, View, sight, looks, lengths_seen, overlap_of}
use Rattle.coord.specs.Soundness.{IsFaultless}
use Rattle.otio_model.specs.Trees.{is_transition}
use Rattle.coord.specs.Programs.{child_shows, shown_by, at_by, start_frame, record_rate, frame_ticks, instant, rate_of_clip, clip_rate, first_clip, rate_24}
use Rattle.coord.proofs.SightLemmas.{seen_lengths, sights-items}
use Rattle.edits.specs.Finest as finest
use Rattle.edits.specs.Splices as L
use Rattle.edits.specs.Splices.{is_stripped}
use Rattle.edits.specs.Children.{ticks}
use Rattle.edits.specs.Cuts.{is_whole_at, strip, cuts_whole}
use Rattle.edits.specs.Edges.{added}
use Rattle.edits.specs.After.{rate_of, frame_of}
use Rattle.edits.specs.After as after
use Rattle.edits.specs.Good.{AreFair}
use Rattle.edits_law.proofs.Splice.{cases, place, stop, whole, inside}
use Rattle.edits_law.proofs.Pieces.{strip_looks, sum-times}
use Rattle.edits_law.proofs.ListLaws.{good_looks}
use Rattle.edits_law.proofs.Beside.{total_strip}
use Rattle.edits_law.proofs.Sorts.{point, thing, sort}
use Rattle.edits_law.proofs.Parted.{added_strip}
use Rattle.edits_law.proofs.EditShown.{frame_low}
use Rattle.limits.proofs.IntegerSums.{multiple-from_zero}
use Rattle.flat.specs.declared.faults.Cause.TheVariants as C
use Rattle.flat.specs.Roots.{is_plain, items_in, roots, with_roots}
use Rattle.flat.specs.Pieces.{cuts_at}
use Rattle.flat.specs.Blocked.{IsFree}
use Rattle.flat.specs.Windowed.{stripped, window_of, with_items, window_track, window_tracks, from_start, IsWindowed, WindowBlocks, not_plain, phase, window_shows}
use Rattle.flat_law.proofs.Givers.{bare_of}
use Rattle.std.proofs.lemmas.Bool.{and_parts}
use Rattle.coord.proofs.Members.{same_some}
use Rattle.edits_law.proofs.Made.{first_of_two}
use Rattle.flat_law.proofs.Flat.{fault_free, length_known, items-listed}
use Rattle.flat_law.proofs.Windows.{stripped_clear}
use Rattle.flat_law.proofs.CutOut.{AreKnown, known_sum, sum_known, known_strip, Windowing, early, cut, windowing, IsClearOf, same_window, any_plain, whole_before, whole_past, whole_in}

-- ---- cuts that aren't refused

cut_inside : (x : ItemOf Listed) (t : ℤ) → cuts_at x t ≡ true → pos 0 <ℤ t → t <ℤ ticks x → is_whole_at x t ≡ true
cut_inside x t e h k =
    let a : int_le t (pos 0) ≡ false = grind (arith, ints) in let b : int_le (ticks x) t ≡ false = grind (arith, ints) in
    rw (a, b) at e

whole_by : (l : List (ItemOf Listed)) (t : ℤ) → ((i : ℕ) (y : ItemOf Listed) → slice_get l i ≡ Some y → cuts_at y (t -ℤ added (take i l)) ≡ true) → cuts_whole l t ≡ true
whole_by [] t f = refl
whole_by (x ∷ l) t f = elim (place t (ticks x)) [
  | stop s ↦ whole_before (x ∷ l) t s
  | whole s k ↦ whole_past x l t s k ∙ whole_by l (t -ℤ ticks x) (λ i y e.
      subst (λ z. cuts_at y z ≡ true) (let g : t -ℤ (ticks x +ℤ added (take i l)) ≡ (t -ℤ ticks x) -ℤ added (take i l) = omega (arith, ints) in g) (f (suc i) y e))
  | inside s k ↦ whole_in x l t s k ∙ cut_inside x t (subst (λ z. cuts_at x z ≡ true) (let g : t -ℤ pos 0 ≡ t = omega (arith, ints) in g) (f 0 x refl)) s k
]

-- a transition is never cut, so it may go
pub whole_strip : (l : List (ItemOf Listed)) (a b t : ℤ) → cuts_whole l t ≡ true → cuts_whole (strip l a b) t ≡ true
whole_strip [] a b t c = refl
whole_strip (x ∷ l) a b t c = cases (is_stripped a b (overlap_of x))
    (λ s. rw s (whole_strip l a b t (elim (sort x) [
      | thing e f ↦ absurd (cc (rw f at s))
      | point o e f z ↦ by_lt_z (pos 0) t
          (λ h. subst (λ u. cuts_whole l u ≡ true) (let g : t -ℤ ticks x ≡ t = omega (arith, ints) in g) (sym (whole_past x l t h (omega (arith, ints))) ∙ c))
          (λ h. whole_before l t h)
    ])))
    (λ s. rw s (elim (place t (ticks x)) [
      | stop h ↦ whole_before (x ∷ strip l (a -ℤ ticks x) (b -ℤ ticks x)) t h
      | whole h k ↦ whole_past x (strip l (a -ℤ ticks x) (b -ℤ ticks x)) t h k ∙ whole_strip l (a -ℤ ticks x) (b -ℤ ticks x) (t -ℤ ticks x) (sym (whole_past x l t h k) ∙ c)
      | inside h k ↦ whole_in x (strip l (a -ℤ ticks x) (b -ℤ ticks x)) t h k ∙ sym (whole_in x l t h k) ∙ c
    ]))

-- ---- one track

pub total_stripped : (v : View) (l : List (ItemOf Listed)) (a b : ℤ) → total (looks v (stripped l a b)) ≡ added l
total_stripped v l a b = total_strip v (strip l a a) b b ∙ added_strip l a a

pub looks_clear : (v : View) (l : List (ItemOf Listed)) (a b : ℤ) → AreFair l → IsClearOf v (stripped l a b) a b
looks_clear v l a b f =
    let same : looks v (stripped l a b) ≡ L.strip (L.strip (looks v l) a a) b b = strip_looks v (strip l a a) b b ∙ ap (λ m. L.strip m b b) (strip_looks v l a a) in
    let c = stripped_clear (looks v l) a b (good_looks v l f) in
    record {
      good = subst L.AreGood (sym same) c.0;
      first = subst (Rattle.edits_law.proofs.Splice.AreClear a a) (sym same) c.1;
      second = subst (Rattle.edits_law.proofs.Splice.AreClear b b) (sym same) c.2;
    }

-- what is known of a root child
pub record IsPlainTrack (x : ItemOf Listed) (a b : ℤ) : Type 0 where
  pub plain : is_plain x ≡ true
  pub fair : AreFair (items_in x)
  pub known : AreKnown (items_in x)
  pub whole : cuts_whole (items_in x) a ≡ true

pub mapped : (x y : ItemOf Listed) (o : Option (List (ItemOf Listed))) → option_map (with_items x) o ≡ Some y → (m : List (ItemOf Listed)) × (o ≡ Some m) × (with_items x m ≡ y)
mapped x y None e = absurd (cc e)
mapped x y (Some m) e = (m, refl, same_some _ y e)

pub windowing_known : (v : View) (s : List (ItemOf Listed)) (a b : ℤ) (m : List (ItemOf Listed)) → Windowing v s a b m → AreKnown m
windowing_known v s a b m (early h e) = subst AreKnown (sym e) tt
windowing_known v s a b m (cut h c k) = k

track_window : (rate_kept : FrameRate → FrameRate) (r : Rate) (x y : ItemOf Listed) (a b u w : ℤ) → ((p q : FrameRate) → rate_kept p ≡ rate_kept q) → IsPlainTrack x a b → window_track r a b x ≡ Some y
    → w ≡ (u +ℤ a) → pos 0 ≤ℤ a → a ≤ℤ b → child_shows rate_kept y u ≡ window_shows rate_kept (Some x) a b w
track_window rate_kept r (Clip c) y a b u w blind p e f n h = absurd (cc p.plain)
track_window rate_kept r (Gap c) y a b u w blind p e f n h = absurd (cc p.plain)
track_window rate_kept r (Transition c) y a b u w blind p e f n h = absurd (cc p.plain)
track_window rate_kept r (Stack c) y a b u w blind p e f n h = absurd (cc p.plain)
track_window rate_kept r (Track t) y a b u w blind p e f n h =
    let v : View = viewer rate_kept (t.kind) in
    let l = items_of t.children in
    let s = stripped l a b in
    let bare_track = bare_of t p.plain in
    let m = mapped (Track t) y (window_of r a b s) e in
    let win = windowing v r s a b m.0 blind (looks_clear v l a b p.fair) n h (whole_strip (strip l a a) b b a (whole_strip l a a a p.whole)) (known_strip (strip l a a) b b (known_strip l a a p.known)) m.1 in
    let sum = known_sum m.0 (windowing_known v s a b m.0 win) in
    let new : TrackOf Listed = record t { children = listed m.0 } in
    let same = items-listed m.0 in
    let new_sum : sum_of (lengths_seen (map sight (items_of new.children))) ≡ Some sum.0 = ap (λ q. sum_of (lengths_seen (map sight q))) same ∙ sum.1 in
    ap (λ z. child_shows rate_kept z u) (sym m.2)
    ∙ any_plain rate_kept new sum.0 u (record { range = bare_track.range; effects = bare_track.effects }) new_sum
    ∙ ap (λ q. cond (t.enabled && within (pos 0) (total (looks v q)) u) (list_shows (looks v q) u) Blank) same
    ∙ same_window v t.enabled s a b u w m.0 win f h n
    ∙ ap (λ z. cond (t.enabled && (within a b w && within (pos 0) z w)) (list_shows (looks v s) w) Blank) (total_stripped v l a b)

-- ---- all tracks

abbrev pub ArePlainTracks : List (ItemOf Listed) → ℤ → ℤ → Type 0
ArePlainTracks [] a b = Unit {0}
ArePlainTracks (x ∷ l) a b = IsPlainTrack x a b × ArePlainTracks l a b

tracks_by : (l : List (ItemOf Listed)) (a b : ℤ) → ((i : ℕ) (x : ItemOf Listed) → slice_get l i ≡ Some x → IsPlainTrack x a b) → ArePlainTracks l a b
tracks_by [] a b f = tt
tracks_by (x ∷ l) a b f = (f 0 x refl, tracks_by l a b (λ i y e. f (suc i) y e))

all_windows : (rate_kept : FrameRate → FrameRate) (r : Rate) (l m : List (ItemOf Listed)) (a b u w : ℤ) (k : ℕ) → ((p q : FrameRate) → rate_kept p ≡ rate_kept q) → ArePlainTracks l a b → window_tracks r a b l ≡ Some m
    → w ≡ (u +ℤ a) → pos 0 ≤ℤ a → a ≤ℤ b → shown_by rate_kept (slice_get m k) u ≡ window_shows rate_kept (slice_get l k) a b w
all_windows rate_kept r [] m a b u w k blind p e f n h = ap (λ q. shown_by rate_kept (slice_get q k) u) (sym (same_some [] m e))
all_windows rate_kept r (x ∷ l) m a b u w zero blind p e f n h =
    let two = first_of_two (window_track r a b x) (window_tracks r a b l) m e in
    ap (λ q. shown_by rate_kept (slice_get q 0) u) two.4 ∙ track_window rate_kept r x two.0 a b u w blind p.0 two.2 f n h
all_windows rate_kept r (x ∷ l) m a b u w (suc k) blind p e f n h =
    let two = first_of_two (window_track r a b x) (window_tracks r a b l) m e in
    ap (λ q. shown_by rate_kept (slice_get q (suc k)) u) two.4 ∙ all_windows rate_kept r l two.1 a b u w k blind p.1 two.3 f n h

-- ---- frames

clip_rates : (c : ClipRow) → rate_of_clip c ≡ frame_rate (unwrap_or (after.clip_rate c) finest.rate_24)
clip_rates c = of (option_or (clip_range c) c.source_range)
  where
    of : (o : Option Span) → unwrap_or (option_map (λ (s : Span). frame_rate s.start.rate) o) rate_24 ≡ frame_rate (unwrap_or (option_map (λ (s : Span). s.start.rate) o) finest.rate_24)
    of None = refl
    of (Some s) = refl

pub same_rate : (t : Timeline) → record_rate t ≡ frame_rate (rate_of t)
same_rate t = of t.global_start_time
  where
    clips : (o : Option ClipRow) → clip_rate o ≡ frame_rate (unwrap_or (option_and_then after.clip_rate o) finest.rate_24)
    clips None = refl
    clips (Some c) = clip_rates c

    of : (o : Option Time) → Path Rattle.coord.specs.Looks.FrameRate (elim o [ None ↦ clip_rate (first_clip t.tracks.children) | Some start ↦ frame_rate start.rate ])
        (frame_rate (elim o [ None ↦ unwrap_or (option_and_then after.clip_rate (first_clip t.tracks.children)) finest.rate_24 | Some start ↦ start.rate ]))
    of None = clips (first_clip t.tracks.children)
    of (Some s) = refl

pub instant_is : (t : Timeline) (n : ℤ) → instant t n ≡ from_start t n
instant_is t n = ap (λ z. (n -ℤ start_frame t) *ℤ pos (frame_ticks z)) (same_rate t)

-- record frames of the new timeline, which begins at frame a
new_instant : (t : Timeline) (start : Time) (a n : ℤ) → start.ticks ≡ a *ℤ frame_of t → start.rate ≡ rate_of t
    → (n -ℤ int_div_euclid start.ticks (pos (frame_ticks (frame_rate start.rate)))) *ℤ pos (frame_ticks (frame_rate start.rate)) ≡ (n -ℤ a) *ℤ frame_of t
new_instant t start a n e f =
    let low = frame_low (rate_of t) in
    let one : int_div_euclid (a *ℤ frame_of t) (frame_of t) ≡ a = count-product a (frame_of t) (omega (arith, ints)) in
    ap (λ r. (n -ℤ int_div_euclid start.ticks (pos (frame_ticks (frame_rate r)))) *ℤ pos (frame_ticks (frame_rate r))) f
    ∙ ap (λ z. (n -ℤ int_div_euclid z (frame_of t)) *ℤ frame_of t) e
    ∙ ap (λ z. (n -ℤ z) *ℤ frame_of t) one

shifted : (f n a g : ℤ) → (n -ℤ g) *ℤ f ≡ ((n -ℤ a) *ℤ f) +ℤ ((a -ℤ g) *ℤ f)
shifted f n a g = (let e : n -ℤ g ≡ (n -ℤ a) +ℤ (a -ℤ g) = omega (arith, ints) in ap (λ z. z *ℤ f) e) ∙ sum-times (n -ℤ a) (a -ℤ g) f

-- ---- the law

pub plain_tracks : (t : Timeline) (a b : ℤ) → IsFaultless t → ((i : ℕ) (x : ItemOf Listed) → slice_get (roots t) i ≡ Some x → AreFair (items_in x)) → IsFree (WindowBlocks (roots t) a b) → ArePlainTracks (roots t) a b
plain_tracks t a b s fair f = tracks_by (roots t) a b (λ k x e.
    let p : is_plain x ≡ true = cases (is_plain x) (λ z. z) (λ z. absurd (f (k ∷ []) C.Nested (not_plain (k ∷ []) k x refl e z))) in
    record {
      plain = p;
      fair = fair k x e;
      known = of x p (let n = length_known x (no_transition x p) (fault_free t k x s e) in n.0) (let n = length_known x (no_transition x p) (fault_free t k x s e) in n.1);
      whole = whole_by (items_in x) a (λ i y g.
          let both = cases (cuts_at y (a -ℤ added (take i (items_in x))) && cuts_at y (b -ℤ added (take i (items_in x)))) (λ z. z) (λ z. absurd (f (k ∷ i ∷ []) C.Phase (phase (k ∷ i ∷ []) k i x y refl e g z))) in
          (and_parts _ _ both).0);
    })
  where
    no_transition : (x : ItemOf Listed) → is_plain x ≡ true → is_transition x ≡ false
    no_transition (Clip c) e = refl
    no_transition (Gap c) e = refl
    no_transition (Transition c) e = absurd (cc e)
    no_transition (Stack c) e = refl
    no_transition (Track c) e = refl

    inner : (n : ℕ) (o : Option ℕ) → option_map (λ (r : Range). r.len) (option_map from_zero o) ≡ Some n → o ≡ Some n
    inner n None m = absurd (cc m)
    inner n (Some c) m = m

    of : (x : ItemOf Listed) → is_plain x ≡ true → (n : ℕ) → length_of x ≡ Some n → AreKnown (items_in x)
    of (Clip c) e n g = absurd (cc e)
    of (Gap c) e n g = absurd (cc e)
    of (Transition c) e n g = absurd (cc e)
    of (Stack c) e n g = absurd (cc e)
    of (Track c) e n g =
        let r = bare_of c e in
        let h : option_map (λ (q : Range). q.len) (option_map from_zero (sum_of (lengths c.children))) ≡ Some n = rw r.range at g in
        let sum : sum_of (lengths_seen (map sight (items_of c.children))) ≡ Some n =
        ap (λ m. sum_of (lengths_seen m)) (sym (sights-items c.children)) ∙ ap sum_of (seen_lengths c.children) ∙ inner n (sum_of (lengths c.children)) h in
        sum_known (items_of c.children) n sum

pub windowed : (t r : Timeline) (a b : ℤ) (rate_kept : FrameRate → FrameRate) (k : ℕ) (n : ℤ) → ((p q : FrameRate) → rate_kept p ≡ rate_kept q)
    → IsFaultless t → ((i : ℕ) (x : ItemOf Listed) → slice_get (roots t) i ≡ Some x → AreFair (items_in x))
    → a <ℤ b → start_frame t ≤ℤ a → IsFree (WindowBlocks (roots t) (from_start t a) (from_start t b)) → IsWindowed t a b r
    → at_by rate_kept r k (instant r n) ≡ window_shows rate_kept (slice_get (roots t) k) (from_start t a) (from_start t b) (instant t n)
windowed t r a b rate_kept k n blind s fair h g f w =
    let new : Timeline = record (with_roots w.tracks t) { global_start_time = Some w.start } in
    let u = (n -ℤ a) *ℤ frame_of t in
    let low : pos 0 ≤ℤ from_start t a = multiple-from_zero (a -ℤ start_frame t) (frame (rate_of t).num (rate_of t).den) (omega (arith, ints)) in
    let zone : from_start t b ≡ ((b -ℤ a) *ℤ frame_of t) +ℤ from_start t a = shifted (frame_of t) b a (start_frame t) in
    let wide : pos 0 ≤ℤ ((b -ℤ a) *ℤ frame_of t) = multiple-from_zero (b -ℤ a) (frame (rate_of t).num (rate_of t).den) (omega (arith, ints)) in
    ap (λ (z : Timeline). at_by rate_kept z k (instant z n)) w.is
    ∙ ap (at_by rate_kept new k) (new_instant t w.start a n w.ticks w.rate)
    ∙ ap (λ q. shown_by rate_kept (slice_get q k) u) (items-listed w.tracks)
    ∙ all_windows rate_kept (rate_of t) (roots t) w.tracks (from_start t a) (from_start t b) u (from_start t n) k blind
    (plain_tracks t (from_start t a) (from_start t b) s fair f) w.are (shifted (frame_of t) n a (start_frame t)) low (omega (arith, ints))
    ∙ ap (window_shows rate_kept (slice_get (roots t) k) (from_start t a) (from_start t b)) (sym (instant_is t n))
