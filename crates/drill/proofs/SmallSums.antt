-- The numbers that a conformed timeline shows, and their sums, have at most 128 bits.
use Rattle.std.proofs.Common.{◌≡◌, refl, sym, ap, ap₂, subst, inl, inr, ℕ, zero, suc, ◌+◌, ◌*◌, ◌/◌, ◌^◌, ◌%◌, ◌≤◌, ℤ, pos, negsuc, ◌+ℤ◌, ◌-ℤ◌, ◌*ℤ◌, ◌≤ℤ◌, ◌<ℤ◌, ◌&&◌, Bool, true, false, cond, List, [], ◌∷◌, Option, Some, None, min, arith}
use Rattle.std.specs.Prelude.{◌⊎◌, int_lt, int_le, unsigned_abs, option_and_then, slice_get, FitsSigned}
use Rattle.std.specs.Int.{int_div_euclid, div_ceil, w128}
use Rattle.std.proofs.lemmas.Int.{ints, fits_signed_from_abs}
use Rattle.std.proofs.lemmas.Nat.{mul-le}
use Rattle.std.proofs.Math.Nat.{div-le_self, div-le_of_le-mul}
use Rattle.limits.specs.Limits.{most_ticks}
use Rattle.tick_time.specs.declared.rates.Rate.{Rate}
use Rattle.tick_time.specs.declared.times.Time.{Time}
use Rattle.tick_time.proofs.BoolLemmas.{both}
use Rattle.otio_model.specs.declared.compositions.ItemOf.{ItemOf}
use Rattle.otio_model.specs.declared.compositions.Listed.{Listed as Children}
use Rattle.otio_model.specs.declared.timelines.Timeline.{Timeline}
use Rattle.otio_model.specs.Overlaps.{within}
use Rattle.otio_model.specs.Trees.{below, items_of}
use Rattle.coord.specs.Images.{Image, Empty, Mixture, Kind, Dissolve as IsDissolve, Wipe as IsWipe, is_empty}
use Rattle.coord.specs.Keys.{frame_rate}
use Rattle.coord.specs.Looks.{weight}
use Rattle.coord.specs.Programs.{frame_ticks, record_rate, start_frame}
use Rattle.coord.specs.Soundness.{IsFaultless, IsSound}
use Rattle.coord.proofs.ShortItems.{is_short}
use Rattle.edl_list.specs.declared.list.Channel.TheVariants.{V}
use Rattle.edl_list.specs.declared.list.Cross.{Cross}
use Rattle.edl_list.specs.declared.list.Cross.TheVariants.{Cut, Dissolve, Wipe}
use Rattle.edl_list.specs.declared.list.Event.{Event}
use Rattle.edl_list.specs.declared.list.EventList.{EventList}
use Rattle.edl_list.specs.declared.list.Reel.{Reel}
use Rattle.edl_list.specs.declared.list.Reel.TheVariants.{Black, Named}
use Rattle.edl_list.specs.declared.list.Side.{Side}
use Rattle.edl_list.specs.Formed.{IsWellFormed}
use Rattle.edl_list.specs.Speeds.{side_speed}
use Rattle.media_rows.specs.Rows.{MediaRows}
use Rattle.edl_frames.specs.Channels.{on}
use Rattle.edl_frames.specs.Conformed.{first_record}
use Rattle.edl_frames.specs.Shown.{mix_of, reel_shows, side_shows, crossing_shows, cross_shows, event_shows, events_show, on_channel, shown}
use Rattle.edl_law.specs.Fits.{FitsSide, FitsCross, FitsEvent, AreAhead}
use Rattle.edl_law.proofs.EventRanges.{all_ahead}
use Rattle.edl_law.proofs.TimelineShows.{timeline_shows_list}
use Rattle.drill.specs.Frames.{ticks_of, track_ticks}
use Rattle.drill.specs.Lists.{IsListed}
use Rattle.drill.specs.declared.list_outcome.Listed.TheVariants as L
use Rattle.drill.specs.Media.{rows}
use Rattle.drill.specs.Sums.{numbers_of, sum_shown, frames_of, LeavesRange}
use Rattle.drill.proofs.KeptLists.{listed_fine}
use Rattle.drill.proofs.ListLemmas.{is_list}

-- ---- what a list shows

-- the numbers that are seen add up to a small one
record IsSmall (most : ℕ) (i : Image) : Type 0 where
  pub number : ℕ
  pub is : numbers_of i ≡ pos number
  pub small : number ≤ most

-- a source frame in the first day of a record
frame_by : (from k : ℤ) (speed : ℕ) → pos 0 ≤ℤ from → from ≤ℤ pos 5184000 → pos 0 ≤ℤ k
    → k ≤ℤ pos 5184000 → speed ≤ 1000000000
    → (m : ℕ) × (from +ℤ int_div_euclid (k *ℤ pos speed) (pos 1000000) ≡ pos m) × (m ≤ 6000000000)
frame_by (pos a) (pos b) speed l h p q s =
    let product = mul-le b speed 5184000 1000000000 (omega (arith, ints, q)) s in
    let part : (b * speed) / 1000000 ≤ 5184000000 =
    div-le_of_le-mul 1000000 (omega (arith, product)) in
    (a + (b * speed) / 1000000, refl, omega (arith, ints, h, part))
frame_by (pos a) (negsuc b) speed l h p q s = absurd (omega (arith, ints, p))
frame_by (negsuc a) k speed l h p q s = absurd (omega (arith, ints, l))

side_small : (rate : Rate) (media : MediaRows) (side : Side) (k : ℤ) → FitsSide rate side
    → pos 0 ≤ℤ k → k ≤ℤ pos 5184000 → IsSmall 6000000000 (side_shows rate media side k)
side_small rate media side k f low high = by side.reel
  where
    by : (reel : Reel) → IsSmall 6000000000 (reel_shows rate media side reel k)
    by Black = record { number = 0; is = refl; small = omega arith }
    by (Named reel) =
        let m = frame_by side.src_in k (side_speed rate side) f.starts.low f.starts.high low high
        f.slow in
        record { number = m.0; is = m.1; small = m.2 }

mix_small : (kind : Kind) (a b : Image) (part whole : ℤ) → IsSmall 6000000000 a
    → IsSmall 6000000000 b → IsSmall 12000000000 (mix_of kind a b part whole)
mix_small kind a b part whole p q = by (is_empty a && is_empty b)
  where
    by : (t : Bool) → IsSmall 12000000000 (cond t Empty
        (Mixture kind a b (weight (unsigned_abs part) (unsigned_abs whole))))
    by true = record { number = 0; is = refl; small = omega arith }
    by false =
        let x = p.small in
        let y = q.small in
        record {
          number = p.number + q.number;
          is = ap₂ (λ (m n : ℤ). m +ℤ n) p.is q.is;
          small = omega (arith, x, y);
        }

wider : (i : Image) → IsSmall 6000000000 i → IsSmall 12000000000 i
wider i s =
    let x = s.small in
    record { number = s.number; is = s.is; small = omega (arith, x) }

crossing_small : (rate : Rate) (media : MediaRows) (kind : Kind) (frames : ℕ) (from to : Side)
    (k : ℤ) → FitsSide rate from → FitsSide rate to → pos 0 ≤ℤ k → k ≤ℤ pos 5184000
    → IsSmall 12000000000 (crossing_shows rate media kind frames from to k)
crossing_small rate media kind frames from to k f g low high = by (int_lt k (pos frames))
  where
    by : (t : Bool) → IsSmall 12000000000 (cond t
        (mix_of kind (side_shows rate media from k) (side_shows rate media to k) k (pos frames))
        (side_shows rate media to k))
    by true = mix_small kind (side_shows rate media from k) (side_shows rate media to k) k
        (pos frames) (side_small rate media from k f low high) (side_small rate media to k g low high)
    by false = wider (side_shows rate media to k) (side_small rate media to k g low high)

event_small : (rate : Rate) (media : MediaRows) (e : Event) (k : ℤ) → FitsEvent rate e
    → pos 0 ≤ℤ k → k ≤ℤ pos 5184000 → IsSmall 12000000000 (event_shows rate media e k)
event_small rate media e k f low high = by e.cross f.cross
  where
    by : (c : Cross) → FitsCross rate c → IsSmall 12000000000 (cross_shows rate media c e.to k)
    by Cut h = wider (side_shows rate media e.to k) (side_small rate media e.to k f.to low high)
    by (Dissolve frames from) h =
        crossing_small rate media IsDissolve frames from e.to k h.2 f.to low high
    by (Wipe code frames from) h =
        crossing_small rate media (IsWipe code) frames from e.to k h.3 f.to low high

events_small : (rate : Rate) (media : MediaRows) (before : Option Event) (at n : ℤ)
    (es : List Event) → AreAhead rate before at es
    → IsSmall 12000000000 (events_show rate media es n)
events_small rate media before at n [] a = record { number = 0; is = refl; small = omega arith }
events_small rate media before at n (e ∷ es) a =
    by (within e.rec_in e.rec_out n) refl (events_small rate media (Some e) e.rec_out n es a.1)
  where
    by : (t : Bool) → within e.rec_in e.rec_out n ≡ t
        → IsSmall 12000000000 (events_show rate media es n)
        → IsSmall 12000000000 (cond t (event_shows rate media e (n -ℤ e.rec_in))
        (events_show rate media es n))
    by false f more = more
    by true f more =
        let b = both (int_le e.rec_in n) (int_lt n e.rec_out) f in
        let from : e.rec_in ≤ℤ n = grind (arith, ints, b.0) in
        let to : n <ℤ e.rec_out = grind (arith, ints, b.1) in
        let long = a.0.event.long.high in
        event_small rate media e (n -ℤ e.rec_in) a.0.event (omega (arith, ints, from))
        (omega (arith, ints, to, long))

shown_small : (list : EventList) (media : MediaRows) (n : ℤ) → IsWellFormed list
    → IsSmall 12000000000 (shown list media V n)
shown_small list media n w =
    events_small list.rate media None (first_record list.events) n (on_channel V list.events)
    ((all_ahead list w).each V)

-- ---- sums

sum_small : (shows : ℤ → Image) (first : ℤ) → ((n : ℤ) → IsSmall 12000000000 (shows n)) → (i : ℕ)
    → (m : ℕ) × (sum_shown shows first i ≡ pos m) × (m ≤ i * 12000000000)
sum_small shows first all zero = (0, refl, omega arith)
sum_small shows first all (suc i) =
    let before = sum_small shows first all i in
    let here = all (first +ℤ pos i) in
    let x = before.2 in
    let y = here.small in (
      before.0 + here.number,
      ap₂ (λ (a b : ℤ). a +ℤ b) before.1 here.is,
      omega (arith, x, y),
    )

-- a number that is less than a sum of a hundred bits has at most 128
fits_near : (z : ℤ) → (pos 0 -ℤ pos (2 ^ 120)) ≤ℤ z → z ≤ℤ pos (2 ^ 120) → FitsSigned w128 z
fits_near (pos a) low high = fits_signed_from_abs w128 (pos a) (omega (arith, ints, high))
fits_near (negsuc a) low high = fits_signed_from_abs w128 (negsuc a) (omega (arith, ints, low))

none_leaves : (shows : ℤ → Image) (first : ℤ) (n : ℕ)
    → ((frame : ℤ) → IsSmall 12000000000 (shows frame)) → (pos 0 -ℤ pos (2 ^ 80)) ≤ℤ first
    → first ≤ℤ pos (2 ^ 80) → n ≤ 2 ^ 81 → LeavesRange shows first n → ⊥
none_leaves shows first n all low high few h = by h.wide
  where
    by : (FitsSigned w128 (first +ℤ pos h.after) → ⊥)
        ⊎ (FitsSigned w128 (sum_shown shows first (h.after + 1)) → ⊥) → ⊥
    by (inl wide) =
        let less = h.within in
        wide (fits_near (first +ℤ pos h.after) (omega (arith, ints, low))
        (omega (arith, ints, high, less, few)))
    by (inr wide) =
        let less = h.within in
        let sum = sum_small shows first all (h.after + 1) in
        let most = sum.2 in
        wide (subst (FitsSigned w128) (sym sum.1)
        (fits_near (pos sum.0) (omega (arith, ints)) (omega (arith, ints, most, less, few))))

-- ---- a timeline's own record frames

abbrev IsNear : ℤ → Type 0
IsNear z = ((pos 0 -ℤ pos (2 ^ 80)) ≤ℤ z) × (z ≤ℤ pos (2 ^ 80))

-- a quotient is no farther from 0
near_frame : (z : ℤ) (d : ℕ) → (pos 0 -ℤ pos most_ticks) ≤ℤ z → z ≤ℤ pos most_ticks
    → IsNear (int_div_euclid z (pos d))
near_frame (pos a) d low high =
    let part = div-le_self a d in
    (omega (arith, ints), omega (arith, ints, high, part))
near_frame (negsuc a) d low high =
    let part = div-le_self a d in
    (omega (arith, ints, low, part), omega (arith, ints))

near_start : (t : Timeline) → IsNear (start_frame t)
near_start t = by t.global_start_time
  where
    by : (o : Option Time) → IsNear (elim o [
      | None ↦ pos 0
      | Some start ↦ int_div_euclid start.ticks (pos (frame_ticks (frame_rate start.rate)))
    ])
    by None = (omega (arith, ints), omega (arith, ints))
    by (Some start) =
        near_frame start.ticks (frame_ticks (frame_rate start.rate)) start.low start.high

short_track : (t : Timeline) → IsFaultless t → track_ticks t ≤ most_ticks
short_track t faultless = by (slice_get (items_of t.tracks.children) 0) refl
  where
    by : (o : Option (ItemOf Children)) → slice_get (items_of t.tracks.children) 0 ≡ o
        → ticks_of o ≤ most_ticks
    by None e = omega arith
    by (Some x) e = (is_short x (faultless.items (0 ∷ []) x (ap (option_and_then (below [])) e))).ticks

few_ceil : (a b : ℕ) → a ≤ most_ticks → div_ceil a b ≤ 2 ^ 81
few_ceil a b h =
    let part = div-le_self a b in
    let rest : min 1 (a % b) ≤ 1 = omega arith in
    omega (arith, h, part, rest)

pub shown_fit : (t again : Timeline) (events : ℕ) → IsSound t
    → IsListed t rows (L.List events again)
    → LeavesRange (on again V) (start_frame t) (frames_of t) → ⊥
shown_fit t again events sound h =
    let fine = listed_fine t h.list rows sound is_list.apart h.carried h.is in
    let near = near_start t in
    none_leaves (on again V) (start_frame t) (frames_of t)
    (λ n. subst (IsSmall 12000000000)
    (sym (timeline_shows_list h.list (Some rows) again V n fine.formed fine.carried h.timeline))
    (shown_small h.list (Some rows) n fine.formed))
    near.0 near.1
    (few_ceil (track_ticks t) (frame_ticks (record_rate t)) (short_track t sound.faultless))
