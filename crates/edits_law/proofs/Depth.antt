-- What a timeline shows after an edit at any depth.
use Rattle.std.proofs.Common.{◌≡◌, ◌≢◌, refl, sym, ap, ap₂, subst, ◌∙◌, ℕ, ◌+◌, ℤ, pos, ◌+ℤ◌, ◌==◌, true, false, cond, List, [], ◌∷◌, map, Option, Some, None, slice_get, arith}
use Rattle.std.specs.Prelude.{option_map, option_and_then, unsigned_abs, is_some}
use Rattle.std.proofs.lemmas.Int.{ints}
use Rattle.tick_time.specs.declared.rates.Rate.{Rate}
use Rattle.otio_model.specs.declared.compositions.TrackOf.{TrackOf}
use Rattle.otio_model.specs.declared.compositions.ItemOf.{ItemOf}
use Rattle.otio_model.specs.declared.compositions.ItemOf.TheVariants.{Clip, Gap, Transition, Stack, Track}
use Rattle.otio_model.specs.declared.compositions.Listed.{Listed}
use Rattle.otio_model.specs.declared.timelines.Timeline.{Timeline}
use Rattle.otio_model.specs.declared.edit_types.Edit.{Edit}
use Rattle.otio_model.specs.declared.edit_types.EditFault.{EditFault}
use Rattle.otio_model.specs.declared.edit_types.EditFault.TheVariants as F
use Rattle.otio_model.specs.Trees.{listed, items_of, below, item_at}
use Rattle.otio_model.specs.Edits.{deeper, changed, with_at}
use Rattle.otio_model.specs.Lengths.{sum_of, lengths, both}
use Rattle.coord.specs.Looks.{FrameRate, Show, Blank, total, list_shows}
use Rattle.otio_model.specs.Overlaps.{within}
use Rattle.coord.specs.Sights.{View, Sight, seen, sight, looks, lengths_seen, viewer}
use Rattle.otio_model.specs.Lengths.{or_zero}
use Rattle.coord.specs.Programs.{kind_of, child_shows, shown_by, at_by}
use Rattle.coord.proofs.SightLemmas.{sights-listed, seen_lengths}
use Rattle.tick_time.specs.declared.spans.Span.{Span}
use Rattle.edits.specs.Nears.{near, span_of}
use Rattle.edits.specs.Children.{Child, Old, Ranged, ticks, child_looks, made, all_made, with_first, with_range, start_rate, length_rate}
use Rattle.edits.specs.After.{rate_of, frame_of, place_of, list_of, with_items}
use Rattle.edits.specs.Edits.{edited}
use Rattle.edits.specs.Laws.{law}
use Rattle.edits.specs.Good.{AreFair, Suits}
use Rattle.edits.specs.Steady.{AreRangedBefore, Sees}
use Rattle.edits.specs.Refusals.{early_fault, first_fault, place_fault, is_track, long}
use Rattle.edits_law.proofs.EditShown.{edit_shows}
use Rattle.edits_law.proofs.Made.{made_looks}
use Rattle.edits_law.proofs.Splice.{cases}
use Rattle.edits_law.specs.Through.{lawful, sight_through, child_through, root_shows, edited_ticks, edited_sight, shows_through, through_by}
use Rattle.edits_law.specs.Known.{HasLength, HaveLengths, IsKnown, AreKnown}
use Rattle.edits_law.proofs.Nesting.{IsLawOf, nested}
use Rattle.edits_law.proofs.Unreached.{got_changed, got_other, kind_deeper, items_with, looks_map}

-- what a child that is made of a law shows
child_lawful : (rate_kept : FrameRate → FrameRate) (place : List ℕ) (m : Listed) (n : ℕ) (rule : View → ℤ → Show) (x : ItemOf Listed) (t : TrackOf Listed) (u : ℤ)
    → below place x ≡ Some (Track t) → sum_of (lengths m) ≡ Some n → IsLawOf (viewer rate_kept (kind_of x)) m n rule
    → child_shows rate_kept (deeper (with_at place m) x) u ≡ root_shows (viewer rate_kept (kind_of x)) (sight_through place (lawful n rule) x) u
child_lawful rate_kept place m n rule x t u b e h =
    let a = nested (viewer rate_kept (kind_of x)) place x t m n rule b e h in
    ap (λ k. cond (within (pos 0) (pos (or_zero (sight (deeper (with_at place m) x)).length)) u) ((sight (deeper (with_at place m) x)).shows (viewer rate_kept k) u) Blank) (kind_deeper (with_at place m) x)
    ∙ ap (λ k. cond (within (pos 0) (pos (or_zero k)) u) ((sight (deeper (with_at place m) x)).shows (viewer rate_kept (kind_of x)) u) Blank) a.length
    ∙ ap (λ s. cond (within (pos 0) (pos (or_zero (sight_through place (lawful n rule) x).length)) u) (s u) Blank) a.shows

-- what a root child shows through the law, where the place is known
abbrev shows_through_at : (FrameRate → FrameRate) → ℕ → List ℕ → Sight → ℕ → Option (ItemOf Listed) → ℤ → Show
shows_through_at rate_kept i place rule k None u = Blank
shows_through_at rate_kept i place rule k (Some x) u = root_shows (viewer rate_kept (kind_of x)) (cond (i == k) (sight_through place rule x) (sight x)) u

through_is : (rate_kept : FrameRate → FrameRate) (t : Timeline) (e : Edit) (i : ℕ) (place : List ℕ) (k : ℕ) (o : Option (ItemOf Listed)) (u : ℤ) → place_of e ≡ i ∷ place
    → shows_through rate_kept t e k o u ≡ shows_through_at rate_kept i place (edited_sight t e) k o u
through_is rate_kept t e i place k None u p = refl
through_is rate_kept t e i place k (Some x) u p = ap (λ q. root_shows (viewer rate_kept (kind_of x)) (child_through q (edited_sight t e) k x) u) p

self : (i : ℕ) → (i == i) ≡ true
self i = grind arith

-- an index is the same or another
data Same (i k : ℕ) : Type 0 where
  same : i ≡ k → (i == k) ≡ true → Same i k
  other : i ≢ k → (i == k) ≡ false → Same i k

compare : (i k : ℕ) → Same i k
compare i k = cases (i == k)
    (λ e. let d : i ≡ k = grind arith in same d e)
    (λ e. let d : i ≢ k = λ h. grind arith in other d e)

-- ---- lengths

some_known : (o : Option ℕ) → is_some o ≡ true → o ≡ Some (or_zero o)
some_known None h = absurd (cc h)
some_known (Some n) h = refl

-- lengths that are or_zero add up to the length of the looks
record Adds (v : View) (m : List (ItemOf Listed)) : Type 0 where
  sum : ℕ
  is : sum_of (lengths_seen (map sight m)) ≡ Some sum
  total : total (looks v m) ≡ pos sum

adds : (v : View) (m : List (ItemOf Listed)) → HaveLengths m → Adds v m
adds v [] h = record { sum = 0; is = refl; total = refl }
adds v (x ∷ m) h =
    let a = adds v m h.1 in
    let total = a.total in
    record {
      sum = or_zero (sight x).length + a.sum;
      is = ap₂ (λ o p. both (λ a b. a + b) o p) (some_known (sight x).length h.0) a.is;
      total = omega (arith, ints, total);
    }

sum_listed : (m : List (ItemOf Listed)) → lengths (listed m) ≡ lengths_seen (map sight m)
sum_listed m = sym (seen_lengths (listed m)) ∙ ap lengths_seen (sights-listed m)

long_total : (v : View) (l : List Child) → total (child_looks v l) ≡ long l
long_total v [] = refl
long_total v ((Old x) ∷ l) = ap (λ n. ticks x +ℤ n) (long_total v l)
long_total v ((Ranged x s n) ∷ l) = ap (λ z. n +ℤ z) (long_total v l)

-- items that are made of children that have lengths have them
made_known : (r : Rate) (l : List Child) (m : List (ItemOf Listed)) → all_made r l ≡ Some m → AreKnown l → HaveLengths m
made_known r [] m e k = subst HaveLengths (none m e) tt
  where
    none : (n : List (ItemOf Listed)) → Some [] ≡ Some n → [] ≡ n
    none n f = cc f
made_known r (c ∷ l) m e k = of (made r c) (all_made r l) refl refl e (λ n g. made_known r l n g k.1)
  where
    one : (d : Child) (y : ItemOf Listed) → made r d ≡ Some y → IsKnown d → HasLength y
    one (Old x) y f h = subst HasLength (let z : x ≡ y = cc f in z) h
    one (Ranged x s n) y f h = ranged (span_of (near s (start_rate r x)) (near n (length_rate r x))) x y f
      where
        ranged : (o : Option Span) (x y : ItemOf Listed) → option_map (λ w. with_range w x) o ≡ Some y → HasLength y
        ranged None x y f = absurd (cc f)
        ranged (Some w) (Clip c) y f = subst HasLength (let z : with_range w (Clip c) ≡ y = cc f in z) refl
        ranged (Some w) (Gap c) y f = subst HasLength (let z : with_range w (Gap c) ≡ y = cc f in z) refl
        ranged (Some w) (Transition c) y f = subst HasLength (let z : with_range w (Transition c) ≡ y = cc f in z) refl
        ranged (Some w) (Stack c) y f = subst HasLength (let z : with_range w (Stack c) ≡ y = cc f in z) refl
        ranged (Some w) (Track c) y f = subst HasLength (let z : with_range w (Track c) ≡ y = cc f in z) refl

    of : (o : Option (ItemOf Listed)) (p : Option (List (ItemOf Listed))) → made r c ≡ o → all_made r l ≡ p → with_first o p ≡ Some m → ((n : List (ItemOf Listed)) → all_made r l ≡ Some n → HaveLengths n) → HaveLengths m
    of None p f g h z = absurd (cc h)
    of (Some x) None f g h z = absurd (cc h)
    of (Some x) (Some n) f g h z = subst HaveLengths (let z : Path (List (ItemOf Listed)) (x ∷ n) m = cc h in z) (one c x f k.0, z n g)

-- ---- the place of an accepted edit

pub record Leads (t : Timeline) (e : Edit) : Type 0 where
  pub first : ℕ
  pub rest : List ℕ
  pub place : place_of e ≡ first ∷ rest
  pub track : TrackOf Listed
  pub there : item_at (first ∷ rest) t.tracks.children ≡ Some (Track track)

none_first : (o p : Option EditFault) → first_fault o p ≡ None → o ≡ None
none_first None p f = refl
none_first (Some g) p f = absurd (cc f)

abbrev track_fault : Option (ItemOf Listed) → Option EditFault
track_fault o = elim o [ None ↦ Some F.Place | Some x ↦ cond (is_track x) None (Some F.NotTrack) ]

pub leads : (t : Timeline) (e : Edit) → early_fault t e ≡ None → Leads t e
leads t e f = of (place_of e) refl (none_first (place_fault (place_of e) t) _ f)
  where
    of : (p : List ℕ) → place_of e ≡ p → place_fault p t ≡ None → Leads t e
    of [] g h = absurd (cc h)
    of (i ∷ p) g h = by (item_at (i ∷ p) t.tracks.children) refl h
      where
        by : (o : Option (ItemOf Listed)) → item_at (i ∷ p) t.tracks.children ≡ o → track_fault o ≡ None → Leads t e
        by None k z = absurd (cc z)
        by (Some (Clip c)) k z = absurd (cc z)
        by (Some (Gap c)) k z = absurd (cc z)
        by (Some (Transition c)) k z = absurd (cc z)
        by (Some (Stack c)) k z = absurd (cc z)
        by (Some (Track c)) k z = record { first = i; rest = p; place = g; track = c; there = k }

-- ---- the timeline

-- what the law says is what the new list shows, and how long it is
pub record Lawful (rate_kept : FrameRate → FrameRate) (t : Timeline) (e : Edit) (m : List (ItemOf Listed)) : Type 0 where
  length : sum_of (lengths (listed m)) ≡ Some (edited_ticks t e)
  shows : (kind : List ℕ) → IsLawOf (viewer rate_kept kind) (listed m) (edited_ticks t e) (λ v w. law v (frame_of t) e (list_of t e) w)

abs_pos : (n : ℕ) → unsigned_abs (pos n) ≡ n
abs_pos n = omega arith

pub new_lawful : (rate_kept : FrameRate → FrameRate) (t : Timeline) (e : Edit) (m : List (ItemOf Listed)) → early_fault t e ≡ None → AreFair (list_of t e) → Suits e
    → all_made (rate_of t) (edited (frame_of t) e (list_of t e)) ≡ Some m → AreRangedBefore (edited (frame_of t) e (list_of t e)) → AreKnown (edited (frame_of t) e (list_of t e))
    → ((kind : List ℕ) → Sees (viewer rate_kept kind) (edited (frame_of t) e (list_of t e))) → Lawful rate_kept t e m
new_lawful rate_kept t e m f a s d b k i =
    let v : View = viewer rate_kept [] in
    let ad = adds (viewer rate_kept []) m (made_known (rate_of t) (edited (frame_of t) e (list_of t e)) m d k) in
    let long_is : pos ad.sum ≡ long (edited (frame_of t) e (list_of t e)) =
    sym ad.total ∙ ap total (made_looks (viewer rate_kept []) (rate_of t) (edited (frame_of t) e (list_of t e)) m d b (i [])) ∙ long_total (viewer rate_kept []) (edited (frame_of t) e (list_of t e)) in
    let ticks_is : ad.sum ≡ edited_ticks t e = sym (abs_pos ad.sum) ∙ ap unsigned_abs long_is in
    record {
      length = ap sum_of (sum_listed m) ∙ ad.is ∙ ap Some ticks_is;
      shows = λ kind w h.
          ap (λ l. list_shows l w) (ap (map (seen (viewer rate_kept kind))) (sights-listed m) ∙ sym (looks_map (viewer rate_kept kind) m))
          ∙ edit_shows (viewer rate_kept kind) t e m w f a s d b (i kind);
    }

child_of : (rate_kept : FrameRate → FrameRate) (t : Timeline) (e : Edit) (m : List (ItemOf Listed)) (k : ℕ) (u : ℤ) (p : Leads t e) → Lawful rate_kept t e m
    → Same p.first k → shown_by rate_kept (slice_get (changed (deeper (with_at p.rest (listed m))) p.first (items_of t.tracks.children)) k) u ≡ shows_through_at rate_kept p.first p.rest (edited_sight t e) k (slice_get (items_of t.tracks.children) k) u
child_of rate_kept t e m k u p l (same q g) = subst (λ j. Path Show (shown_by rate_kept (slice_get (changed (deeper (with_at p.rest (listed m))) p.first (items_of t.tracks.children)) j) u) (shows_through_at rate_kept p.first p.rest (edited_sight t e) j (slice_get (items_of t.tracks.children) j) u)) q
    (ap (λ o. shown_by rate_kept o u) (got_changed (deeper (with_at p.rest (listed m))) p.first (items_of t.tracks.children))
    ∙ of (slice_get (items_of t.tracks.children) p.first) p.there)
  where
    of : (o : Option (ItemOf Listed)) → option_and_then (below p.rest) o ≡ Some (Track p.track) → shown_by rate_kept (option_map (deeper (with_at p.rest (listed m))) o) u ≡ shows_through_at rate_kept p.first p.rest (edited_sight t e) p.first o u
    of None h = absurd (cc h)
    of (Some x) h = rw (self p.first) (child_lawful rate_kept p.rest (listed m) (edited_ticks t e) (λ v w. law v (frame_of t) e (list_of t e) w) x p.track u h l.length (l.shows (kind_of x)))
child_of rate_kept t e m k u p l (other n g) =
    ap (λ o. shown_by rate_kept o u) (got_other (deeper (with_at p.rest (listed m))) p.first k (items_of t.tracks.children) n)
    ∙ of (slice_get (items_of t.tracks.children) k)
  where
    of : (o : Option (ItemOf Listed)) → shown_by rate_kept o u ≡ shows_through_at rate_kept p.first p.rest (edited_sight t e) k o u
    of None = refl
    of (Some x) = rw g refl

pub edits_through : (rate_kept : FrameRate → FrameRate) (t : Timeline) (e : Edit) (m : List (ItemOf Listed)) (k : ℕ) (u : ℤ) → early_fault t e ≡ None → Lawful rate_kept t e m
    → at_by rate_kept (with_items t e m) k u ≡ through_by rate_kept t e k u
edits_through rate_kept t e m k u f l =
    let p = leads t e f in
    ap (λ q. shown_by rate_kept (slice_get (items_of (with_at q (listed m) t.tracks.children)) k) u) p.place
    ∙ ap (λ xs. shown_by rate_kept (slice_get xs k) u) (items_with p.first p.rest (listed m) t.tracks.children)
    ∙ child_of rate_kept t e m k u p l (compare p.first k)
    ∙ sym (through_is rate_kept t e p.first p.rest k (slice_get (items_of t.tracks.children) k) u p.place)
