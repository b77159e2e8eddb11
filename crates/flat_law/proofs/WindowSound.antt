-- A window of a sound timeline is there, and is sound.
use Rattle.std.proofs.Common.{◌≡◌, refl, sym, subst, ap, ap₂, ◌∙◌, ℕ, zero, suc, ◌*◌, ◌%◌, ◌≤◌, ℤ, pos, ◌+ℤ◌, ◌-ℤ◌, ◌*ℤ◌, ◌≤ℤ◌, ◌<ℤ◌, ◌&&◌, Bool, true, false, Option, Some, None, List, [], ◌∷◌, map, arith}
use Rattle.std.specs.Prelude.{int_lt, int_le, nat_lt, slice_get, option_map, option_and_then, unsigned_abs}
use Rattle.std.proofs.lemmas.Int.{ints, by_lt_z, unsigned_abs-mul}
use Rattle.std.proofs.Math.Nat.{mul-mod_left}
use Rattle.tick_time.specs.declared.rates.Rate.{Rate}
use Rattle.tick_time.specs.declared.times.Time.{Time}
use Rattle.limits.specs.Limits.{most_ticks}
use Rattle.tick_time.specs.Times.{IsWhole}
use Rattle.tick_time.specs.Rates.{frame, unit}
use Rattle.otio_model.specs.declared.compositions.ItemOf.{ItemOf}
use Rattle.otio_model.specs.declared.compositions.ItemOf.TheVariants.{Clip, Gap, Transition, Stack, Track}
use Rattle.otio_model.specs.declared.compositions.TrackOf.{TrackOf}
use Rattle.otio_model.specs.declared.compositions.Listed.{Listed}
use Rattle.otio_model.specs.declared.timelines.Timeline.{Timeline}
use Rattle.otio_model.specs.Trees.{listed, items_of, below}
use Rattle.otio_model.specs.Lengths.{Range, from_zero, sum_of, lengths, added as added_lengths}
use Rattle.coord.specs.Looks.{total}
use Rattle.coord.specs.Sights.{View, sight, looks, lengths_seen}
use Rattle.otio_model.specs.Lengths.{or_zero}
use Rattle.coord.specs.Soundness.{IsFaultless, AreFaultless, fault_of}
use Rattle.coord.specs.Soundness.{IsFaultlessItem}
use Rattle.coord.specs.Programs.{start_frame}
use Rattle.coord.proofs.SightLemmas.{seen_lengths, sights-listed}
use Rattle.coord.proofs.SpareLemmas.{faultless_bare}
use Rattle.edits.specs.Finest.{in_range}
use Rattle.edits.specs.Nears.{is_whole}
use Rattle.edits.specs.Children.{ticks, with_first}
use Rattle.edits.specs.Cuts.{strip}
use Rattle.edits.specs.After.{rate_of, frame_of}
use Rattle.edits_law.proofs.Clamps.{times_whole}
use Rattle.limits.proofs.IntegerSums.{multiple-from_zero}
use Rattle.flat.specs.Roots.{items_in, roots, with_roots}
use Rattle.flat.specs.Blocked.{IsFree}
use Rattle.flat.specs.Windowed.{stripped, with_items, window_track, window_tracks, from_start, is_window, IsWindowed, WindowBlocks}
use Rattle.flat_law.proofs.Fair.{HasFair}
use Rattle.flat_law.proofs.Givers.{IsBare, bare_of, sum_parts, sum_total, map_looks}
use Rattle.std.proofs.lemmas.Bool.{and_parts}
use Rattle.coord.proofs.Members.{same_some}
use Rattle.flat_law.proofs.Flat.{items-listed}
use Rattle.flat_law.proofs.CutOut.{AreKnown, known_sum, known_strip, plain_known, Windowing, early, cut, windowing}
use Rattle.flat_law.proofs.Windowed.{IsPlainTrack, ArePlainTracks, plain_tracks, whole_strip, looks_clear, windowing_known, total_stripped}
use Rattle.flat_law.proofs.Exists.{sound_one, fault_none}
use Rattle.flat_law.proofs.WindowKept.{AllFaultless, own_sound, ticks_is, stripped_made, blind}

-- ---- items by places

pub sound_by : (l : List (ItemOf Listed)) → ((i : ℕ) (x : ItemOf Listed) → slice_get l i ≡ Some x → IsFaultlessItem x) → AllFaultless l
sound_by [] f = tt
sound_by (x ∷ l) f = (f 0 x refl, sound_by l (λ i y e. f (suc i) y e))

pub sound_at : (l : List (ItemOf Listed)) (i : ℕ) (x : ItemOf Listed) → AllFaultless l → slice_get l i ≡ Some x → IsFaultlessItem x
sound_at [] i x s e = absurd (cc e)
sound_at (y ∷ l) zero x s e = subst IsFaultlessItem (same_some y x e) s.0
sound_at (y ∷ l) (suc i) x s e = sound_at l i x s.1 e

pub inside_sound : (x : ItemOf Listed) → IsFaultlessItem x → AllFaultless (items_in x)
inside_sound (Clip c) s = tt
inside_sound (Gap c) s = tt
inside_sound (Transition c) s = tt
inside_sound (Stack c) s = tt
inside_sound (Track t) s = sound_by (items_of t.children) (λ i x e p y f. s (i ∷ p) y (ap (option_and_then (below p)) e ∙ f))

pub root_sound : (t : Timeline) → IsFaultless t → AllFaultless (roots t)
root_sound t s = sound_by (roots t) (λ i x e p y f. s.items (i ∷ p) y (ap (option_and_then (below p)) e ∙ f))

-- an item that a place leads to below one of a list
under : (l : List (ItemOf Listed)) (i : ℕ) (p : List ℕ) (y : ItemOf Listed) → AllFaultless l → option_and_then (below p) (slice_get (items_of (listed l)) i) ≡ Some y → fault_of y ≡ None
under l i p y s e = of (slice_get l i) refl (sym (ap (λ m. option_and_then (below p) (slice_get m i)) (items-listed l)) ∙ e)
  where
    of : (o : Option (ItemOf Listed)) → slice_get l i ≡ o → option_and_then (below p) o ≡ Some y → fault_of y ≡ None
    of None f g = absurd (cc g)
    of (Some x) f g = sound_at l i x s f p y g

pub listed_sound : (l : List (ItemOf Listed)) → AllFaultless l → AreFaultless (listed l)
listed_sound l s [] y e = absurd (cc e)
listed_sound l s (i ∷ p) y e = under l i p y s e

-- ---- a plain track with other children

added_sum : (l : List (Option ℕ)) (n : ℕ) → sum_of l ≡ Some n → added_lengths l ≡ n
added_sum [] n e = cc e
added_sum (None ∷ l) n e = absurd (cc e)
added_sum ((Some a) ∷ l) n e = let p = sum_parts (Some a) (sum_of l) n e in let f = added_sum l p.1 p.3 in let g : a ≡ p.0 = same_some a p.0 p.2 in omega (arith, f, g, p.4)

pub track_sound : (t : TrackOf Listed) (m : List (ItemOf Listed)) (n : ℕ) → IsBare t → AllFaultless m → sum_of (lengths_seen (map sight m)) ≡ Some n → n ≤ most_ticks → IsFaultlessItem (with_items (Track t) m)
track_sound t m n b s sum short [] y e = subst (λ z. fault_of z ≡ None) (same_some (with_items (Track t) m) y e) (fault_none (with_items (Track t) m) (record {
  ticks = n;
  length = rw b.range (ap (λ o. option_map (λ (r : Range). r.len) (option_map from_zero o)) lens);
  speed = rw b.effects refl;
  short = short;
  room = nat_least most_ticks _ (let f = added_sum (lengths (listed m)) n lens in omega (arith, f, short));
  low = rw (b.range, b.effects) (omega (arith, ints, short));
  high = rw (b.range, b.effects) (omega (arith, ints, short));
}))
  where
    nat_least : (m n : ℕ) → n ≤ m → nat_lt m n ≡ false
    nat_least m n e = grind arith

    lens : sum_of (lengths (listed m)) ≡ Some n
    lens = ap sum_of (sym (seen_lengths (listed m)) ∙ ap lengths_seen (sights-listed m)) ∙ sum
track_sound t m n b s sum short (i ∷ p) y e = under m i p y s e

-- ---- one track's window

pub record TrackMade (r : Rate) (a b : ℤ) (x : ItemOf Listed) : Type 0 where
  pub item : ItemOf Listed
  pub made : window_track r a b x ≡ Some item
  pub sound : IsFaultlessItem item

window_long : (v : View) (s : List (ItemOf Listed)) (a b : ℤ) (m : List (ItemOf Listed)) → Windowing v s a b m → pos 0 ≤ℤ a → pos 0 ≤ℤ total (looks v s) → total (looks v m) ≤ℤ total (looks v s)
window_long v s a b m (early h e) n k = rw e k
window_long v s a b m (cut h c known) n k = by_lt_z (total (looks v s)) b
    (λ g. let t = c.long (omega (arith, ints)) in omega (arith, ints))
    (λ g. let t = c.short g in omega (arith, ints))

pub track_made : (r : Rate) (a b : ℤ) (x : ItemOf Listed) → IsFaultlessItem x → IsPlainTrack x a b → pos 0 ≤ℤ a → a ≤ℤ b → TrackMade r a b x
track_made r a b (Clip c) s p n h = absurd (cc p.plain)
track_made r a b (Gap c) s p n h = absurd (cc p.plain)
track_made r a b (Transition c) s p n h = absurd (cc p.plain)
track_made r a b (Stack c) s p n h = absurd (cc p.plain)
track_made r a b (Track t) s p n h =
    let l = items_of t.children in
    let q = stripped l a b in
    let c = whole_strip (strip l a a) b b a (whole_strip l a a a p.whole) in
    let k = known_strip (strip l a a) b b (known_strip l a a p.known) in
    let m = stripped_made r a b l (inside_sound (Track t) s) c in
    let win = windowing blind r q a b m.items (λ x y. refl) (looks_clear blind l a b p.fair) n h c k m.made in
    let sum = known_sum m.items (windowing_known blind q a b m.items win) in
    let bare_track = bare_of t p.plain in
    let one = sound_one (Track t) refl (own_sound (Track t) s) in
    let own = known_sum l p.known in
    let full : ticks (Track t) ≡ total (looks blind l) = plain_known blind t own.0 bare_track own.1 in
    let same : total (looks blind q) ≡ total (looks blind l) = total_stripped blind l a b ∙ sym (Rattle.flat_law.proofs.CutOut.added_total blind l) in
    let len = ticks_is (Track t) one.ticks one.length in
    let short = one.short in
    let made_total : total (looks blind m.items) ≡ pos sum.0 = ap total (sym (map_looks blind m.items)) ∙ sum_total blind (map sight m.items) sum.0 sum.1 in
    let bound = window_long blind q a b m.items win n (omega (arith, ints, full, same, len)) in
    record {
      item = with_items (Track t) m.items;
      made = ap (option_map (with_items (Track t))) m.made;
      sound = track_sound t m.items sum.0 bare_track m.sound sum.1 (omega (arith, ints, full, same, len, short, made_total, bound));
    }

pub record TracksMade (r : Rate) (a b : ℤ) (l : List (ItemOf Listed)) : Type 0 where
  pub items : List (ItemOf Listed)
  pub made : window_tracks r a b l ≡ Some items
  pub sound : AllFaultless items

tracks_made : (r : Rate) (a b : ℤ) (l : List (ItemOf Listed)) → AllFaultless l → ArePlainTracks l a b → pos 0 ≤ℤ a → a ≤ℤ b → TracksMade r a b l
tracks_made r a b [] s p n h = record { items = []; made = refl; sound = tt }
tracks_made r a b (x ∷ l) s p n h =
    let one = track_made r a b x s.0 p.0 n h in
    let more = tracks_made r a b l s.1 p.1 n h in
    record { items = one.item ∷ more.items; made = ap₂ with_first one.made more.made; sound = (one.sound, more.sound) }

-- ---- the timeline

near_frame : (z : ℤ) (r : Rate) (b : Bool) (e : in_range z ≡ b) (c : Bool) (f : is_whole z r ≡ c) → b ≡ true → c ≡ true → (t : Time) × (t.ticks ≡ z) × (t.rate ≡ r)
near_frame z r false e c f h k = absurd (cc h)
near_frame z r true e false f h k = absurd (cc k)
near_frame z r true e true f h k = (record { ticks = z; rate = r; low = Rattle.edits.specs.Finest.low_of z e; high = Rattle.edits.specs.Finest.high_of z e; whole = Rattle.edits.specs.Finest.zero_of _ f }, refl, refl)

whole_frame : (k : ℤ) (r : Rate) → is_whole (k *ℤ pos (frame r.num r.den)) r ≡ true
whole_frame k r =
    let u = unit r.num r.den in
    let e : unsigned_abs (k *ℤ pos (frame r.num r.den)) ≡ unsigned_abs k * (1000000 * u) = unsigned_abs-mul k (pos (frame r.num r.den)) in
    let f : unsigned_abs k * (1000000 * u) ≡ (unsigned_abs k * 1000000) * u = search (arith) in
    let g : unsigned_abs (k *ℤ pos (frame r.num r.den)) % u ≡ 0 = ap (λ z. z % u) (e ∙ f) ∙ mul-mod_left (unsigned_abs k * 1000000) u in
    rw g refl

zone : (t : Timeline) (a b : ℤ) → a ≤ℤ b → from_start t a ≤ℤ from_start t b
zone t a b h =
    let f = frame (rate_of t).num (rate_of t).den in
    let low = multiple-from_zero (b -ℤ a) f (omega (arith, ints)) in
    let e : (b -ℤ start_frame t) *ℤ pos f ≡ ((b -ℤ a) *ℤ pos f) +ℤ ((a -ℤ start_frame t) *ℤ pos f) =
    (let g : b -ℤ start_frame t ≡ (b -ℤ a) +ℤ (a -ℤ start_frame t) = omega (arith, ints) in ap (λ z. z *ℤ pos f) g) ∙ Rattle.edits_law.proofs.Pieces.sum-times (b -ℤ a) (a -ℤ start_frame t) (pos f) in
    omega (arith, ints, low, e)

all_made : (t : Timeline) (a b : ℤ) → IsFaultless t → HasFair t → a <ℤ b → start_frame t ≤ℤ a → IsFree (WindowBlocks (roots t) (from_start t a) (from_start t b)) → TracksMade (rate_of t) (from_start t a) (from_start t b) (roots t)
all_made t a b s fair h g f =
    tracks_made (rate_of t) (from_start t a) (from_start t b) (roots t) (root_sound t s) (plain_tracks t (from_start t a) (from_start t b) s fair f)
    (multiple-from_zero (a -ℤ start_frame t) (frame (rate_of t).num (rate_of t).den) (omega (arith, ints))) (zone t a b (omega (arith, ints)))

pub window_sound : (t r : Timeline) (a b : ℤ) → IsFaultless t → HasFair t → a <ℤ b → start_frame t ≤ℤ a → IsFree (WindowBlocks (roots t) (from_start t a) (from_start t b)) → IsWindowed t a b r → IsFaultless r
window_sound t r a b s fair h g f w =
    let m = all_made t a b s fair h g f in
    let same : m.items ≡ w.tracks = same_some m.items w.tracks (sym m.made ∙ w.are) in
    let new : Timeline = record (with_roots w.tracks t) { global_start_time = Some w.start } in
    faultless_bare new r (sym w.is) (record {
      start = begins w.start w.ticks w.rate;
      items = listed_sound w.tracks (subst AllFaultless same m.sound);
    })
  where
    begins : (z : Time) → z.ticks ≡ a *ℤ frame_of t → z.rate ≡ rate_of t → IsWhole z.ticks (frame z.rate.num z.rate.den)
    begins z e k = ap (λ u. unsigned_abs u % frame z.rate.num z.rate.den) e ∙ ap (λ (q : Rate). unsigned_abs (a *ℤ frame_of t) % frame q.num q.den) k ∙ times_whole (frame (rate_of t).num (rate_of t).den) a

pub window_there : (t : Timeline) (a b : ℤ) → IsFaultless t → HasFair t → is_window t a b ≡ true → IsFree (WindowBlocks (roots t) (from_start t a) (from_start t b)) → (r : Timeline) × IsWindowed t a b r
window_there t a b s fair e f =
    let p = and_parts (int_lt a b && int_le (start_frame t) a) (in_range (a *ℤ frame_of t) && in_range (b *ℤ frame_of t)) e in
    let q = and_parts (int_lt a b) (int_le (start_frame t) a) p.0 in
    let k = and_parts (in_range (a *ℤ frame_of t)) (in_range (b *ℤ frame_of t)) p.1 in
    let m = all_made t a b s fair (lt_is a b q.0) (le_is (start_frame t) a q.1) f in
    let z = near_frame (a *ℤ frame_of t) (rate_of t) (in_range (a *ℤ frame_of t)) refl (is_whole (a *ℤ frame_of t) (rate_of t)) refl k.0 (whole_frame a (rate_of t)) in
    (record (with_roots m.items t) { global_start_time = Some z.0 }, record { tracks = m.items; are = m.made; start = z.0; ticks = z.1; rate = z.2; is = refl })
  where
    lt_is : (x y : ℤ) → int_lt x y ≡ true → x <ℤ y
    lt_is x y g = grind (arith, ints)

    le_is : (x y : ℤ) → int_le x y ≡ true → x ≤ℤ y
    le_is x y g = grind (arith, ints)
