-- The tracks of a conformed timeline have no fault.
use Rattle.std.proofs.Common.{◌≡◌, refl, sym, ap, ap₂, subst, ◌∙◌, ℕ, zero, suc, ◌+◌, ◌*◌, ◌≤◌, ℤ, pos, negsuc, ◌+ℤ◌, ◌-ℤ◌, ◌*ℤ◌, ◌≤ℤ◌, List, [], ◌∷◌, map, Option, Some, None, length, slice_get, arith}
use Rattle.std.specs.Prelude.{All, codes, option_map}
use Rattle.std.specs.Option.{option_or}
use Rattle.std.proofs.lemmas.Int.{ints}
use Rattle.std.proofs.lemmas.List.Elements.{All-head, All-tail}
use Rattle.limits.specs.Limits.{most_ticks}
use Rattle.tick_time.specs.declared.rates.Rate.{Rate}
use Rattle.otio_model.specs.declared.compositions.TrackOf.{TrackOf}
use Rattle.otio_model.specs.declared.compositions.ItemOf.{ItemOf}
use Rattle.otio_model.specs.declared.compositions.ItemOf.TheVariants.{Track}
use Rattle.otio_model.specs.declared.compositions.Listed.{Listed}
use Rattle.otio_model.specs.Trees.{items_of, children_of}
use Rattle.otio_model.specs.Lengths.{Range, range_of, range_start, from_zero, added, both, sum_of, length_of, trimmed_start}
use Rattle.otio_model.specs.Speeds.{combined, keeps_speed}
use Rattle.coord.specs.Speeds.{speed_of}
use Rattle.coord.specs.Soundness.{AreFaultless, fault_of, IsFaultlessItem}
use Rattle.coord.proofs.JudgingLemmas.{sound_all, sound_alone, sound_with}
use Rattle.coord.proofs.SightLemmas.{lengths-items}
use Rattle.edl_list.specs.declared.list.Side.{Side}
use Rattle.edl_list.specs.declared.list.Cross.{Cross}
use Rattle.edl_list.specs.declared.list.Cross.TheVariants.{Cut, Dissolve, Wipe}
use Rattle.edl_list.specs.declared.list.Event.{Event}
use Rattle.edl_list.specs.Formed.{IsCross, IsEvent, IsSide}
use Rattle.edl_list.specs.Speeds.{count_of, day_of, side_speed}
use Rattle.edl_list.proofs.DayLemmas.{IsPacedDay, timed}
use Rattle.edl_list.proofs.SpeedLemmas.{speed_small}
use Rattle.media_rows.specs.Rows.{MediaRows}
use Rattle.edl_frames.specs.Conformed.{Pair, pair_of, pair_as, wipe_type, IsItemOf, AreItems, end, gap, cut, pair, pair_with_side}
use Rattle.edl_law.proofs.FrameQuotients.{floor, sum-times}
use Rattle.edl_law.proofs.ItemLooks.{ticks}
use Rattle.drill.proofs.SourceOuts.{EndsInSource, ShowsOut}
use Rattle.drill.proofs.FaultlessItems.{Ends, IsPart, gap_part, item_part, no_fault, plain_end, transition_part}

-- ---- the sides of events

-- a day lasts a million seconds at most
pub day_short : (rate : Rate) → IsPacedDay rate → day_of rate * ticks rate ≤ most_ticks
day_short rate p =
    let t = (timed rate (pos (day_of rate)) p (omega (arith, ints)) (omega (arith, ints))).range in
    let high = t.high in
    omega (arith, ints, high)

-- the side that is shown ends within the day
ends_shown : (rate : Rate) (side : Side) (n : ℤ) → IsSide (day_of rate) side → pos 0 ≤ℤ n
    → EndsInSource rate side n → Ends (day_of rate) side.src_in n (side_speed rate side)
ends_shown rate side n i some out =
    let f = floor (n *ℤ pos (side_speed rate side)) 1000000 (omega arith) in
    let whole = f.whole in
    let rest = f.low in
    let high = i.src_out.high in
    record {
      starts_low = i.src_in.low;
      some = some;
      high = omega (arith, ints, whole, rest, high, out);
    }

-- the side that goes out begins within the day
ends_out : (rate : Rate) (side : Side) → IsSide (day_of rate) side
    → Ends (day_of rate) side.src_in (pos 0) (side_speed rate side)
ends_out rate side i =
    let high = i.src_in.high in
    record {
      starts_low = i.src_in.low;
      some = omega (arith, ints);
      high = omega (arith, ints, high);
    }

-- the side of a pair is one of the event's
from_side : (day : ℕ) (e : Event) (p : Pair) → IsEvent day e → pair_of e.cross ≡ Some p
    → IsSide day p.from
from_side day e p i f = by e.cross i.cross f
  where
    same : (q : Pair) → Some q ≡ Some p → IsSide day q.from → IsSide day p.from
    same q g h = let k : q ≡ p = cc g in subst (λ (z : Pair). IsSide day z.from) k h

    by : (c : Cross) → IsCross day e.rec_in e.rec_out c → pair_of c ≡ Some p → IsSide day p.from
    by Cut h g = absurd (cc g)
    by (Dissolve n from) h g = same (pair_as (codes "SMPTE_Dissolve") n from) g h.1
    by (Wipe code n from) h g = same (pair_as (wipe_type code) n from) g h.2

-- ---- the items of a track

-- each item has no fault, no children and a known length
abbrev pub AreParts : List (ItemOf Listed) → Type 0
AreParts [] = Unit {0}
AreParts (x ∷ l) = (fault_of x ≡ None) × (children_of x ≡ None)
    × ((n : ℕ) × (length_of x ≡ Some n)) × AreParts l

-- they end so many frames of the record behind a frame at most
pub record ArePlaced (rate : Rate) (day : ℕ) (at : ℤ) (l : List (ItemOf Listed)) : Type 0 where
  pub parts : AreParts l
  pub fits : pos (added (map length_of l)) ≤ℤ ((pos day -ℤ at) *ℤ pos (ticks rate))

added_is : (x : ItemOf Listed) (n : ℕ) (l : List (ItemOf Listed)) → length_of x ≡ Some n
    → added (map length_of (x ∷ l)) ≡ n + added (map length_of l)
added_is x n l e = ap (λ o. added (o ∷ map length_of l)) e

-- one more item in front
more : (rate : Rate) (day : ℕ) (at next n : ℤ) (x : ItemOf Listed) (l : List (ItemOf Listed))
    → IsPart rate n x → next ≡ at +ℤ n → ArePlaced rate day next l
    → ArePlaced rate day at (x ∷ l)
more rate day at next n x l i e r =
    let a = added_is x i.ticks_are l i.long in
    let s = sum-times n (pos day -ℤ next) (ticks rate) in
    let d : n +ℤ (pos day -ℤ next) ≡ pos day -ℤ at = omega (arith, ints, e) in
    let t = ap (λ z. z *ℤ pos (ticks rate)) d in
    let is = i.is in
    let fits = r.fits in
    record {
      parts = (i.fault, i.leaf, (i.ticks_are, i.long), r.parts);
      fits = omega (arith, ints, a, s, t, is, fits);
    }

times_low : (n : ℤ) (t : ℕ) → pos 0 ≤ℤ n → pos 0 ≤ℤ (n *ℤ pos t)
times_low (pos n) t h = omega (arith, ints)
times_low (negsuc n) t h = absurd (omega (arith, ints, h))

-- what is known of an event
pub record IsKnown (rate : Rate) (e : Event) : Type 0 where
  pub event : IsEvent (day_of rate) e
  pub out : ShowsOut rate e

slow : (rate : Rate) (side : Side) → IsPacedDay rate → IsSide (day_of rate) side
    → side_speed rate side ≤ 1000 * 1000000
slow rate side p i = speed_small (count_of rate) side.speed p.some i.speed

late : (rate : Rate) (e : Event) → IsKnown rate e → e.rec_out ≤ℤ pos (day_of rate)
late rate e k = let high = k.event.rec_out.high in omega (arith, ints, high)

-- the item of an event that begins at once
event_placed : (rate : Rate) (media : MediaRows) (at : ℤ) (e : Event) (x : ItemOf Listed)
    (l : List (ItemOf Listed)) → IsPacedDay rate → IsKnown rate e → at ≡ e.rec_in
    → IsItemOf rate media e x → ArePlaced rate (day_of rate) e.rec_out l
    → ArePlaced rate (day_of rate) at (x ∷ l)
event_placed rate media at e x l p k begins item rest =
    let some = k.event.some in
    more rate (day_of rate) at e.rec_out (e.rec_out -ℤ e.rec_in) x l
    (item_part rate media e.to (day_of rate) (e.rec_out -ℤ e.rec_in) x item
    (slow rate e.to p k.event.to) (day_short rate p)
    (ends_shown rate e.to (e.rec_out -ℤ e.rec_in) k.event.to (omega (arith, ints, some)) k.out))
    (omega (arith, ints, begins)) rest

pub items_placed : (rate : Rate) (media : MediaRows) (before : Option Event) (at : ℤ)
    (es : List Event) (items : List (ItemOf Listed)) → IsPacedDay rate → at ≤ℤ pos (day_of rate)
    → All (IsKnown rate) es → AreItems rate media before at es items
    → ArePlaced rate (day_of rate) at items
items_placed rate media before at es items p here known (end _ _) = record {
  parts = tt;
  fits = times_low (pos (day_of rate) -ℤ at) (ticks rate) (omega (arith, ints, here));
}
items_placed rate media before at es items p here known
    (gap _ _ e rest x others later is_gap others_are) =
    let high = (All-head (IsKnown rate) e rest known).event.rec_in.high in
    more rate (day_of rate) at e.rec_in (e.rec_in -ℤ at) x others
    (gap_part rate (e.rec_in -ℤ at) x is_gap) (omega (arith, ints))
    (items_placed rate media before e.rec_in (e ∷ rest) others p (omega (arith, ints, high)) known
    others_are)
items_placed rate media before at es items p here known
    (cut _ _ e rest x others begins is_cut item others_are) =
    let k = All-head (IsKnown rate) e rest known in
    event_placed rate media at e x others p k begins item
    (items_placed rate media (Some e) e.rec_out rest others p (late rate e k)
    (All-tail (IsKnown rate) e rest known) others_are)
items_placed rate media before at es items p here known
    (pair _ _ e rest q t x others begins is_pair served transition item others_are) =
    let k = All-head (IsKnown rate) e rest known in
    more rate (day_of rate) at at (pos 0) t (x ∷ others)
    (transition_part rate q.type q.frames t transition) (omega (arith, ints))
    (event_placed rate media at e x others p k begins item
    (items_placed rate media (Some e) e.rec_out rest others p (late rate e k)
    (All-tail (IsKnown rate) e rest known) others_are))
items_placed rate media before at es items p here known
    (pair_with_side _ _ e rest q s t x others begins is_pair served side transition item
    others_are) =
    let k = All-head (IsKnown rate) e rest known in
    let from = from_side (day_of rate) e q k.event is_pair in
    more rate (day_of rate) at at (pos 0) s (t ∷ x ∷ others)
    (item_part rate media q.from (day_of rate) (pos 0) s side (slow rate q.from p from)
    (day_short rate p) (ends_out rate q.from from)) (omega (arith, ints))
    (more rate (day_of rate) at at (pos 0) t (x ∷ others)
    (transition_part rate q.type q.frames t transition) (omega (arith, ints))
    (event_placed rate media at e x others p k begins item
    (items_placed rate media (Some e) e.rec_out rest others p (late rate e k)
    (All-tail (IsKnown rate) e rest known) others_are)))

-- ---- a track

-- what a track without a source range and effects is asked for
known_sum : (l : List (ItemOf Listed)) → AreParts l
    → sum_of (map length_of l) ≡ Some (added (map length_of l))
known_sum [] k = refl
known_sum (x ∷ l) k =
    ap₂ (λ a b. both (λ m n. m + n) a b) k.2.1 (known_sum l k.3)
    ∙ ap (λ n. Some n) (sym (added_is x k.2.0 l k.2.1))

track_long : (t : TrackOf Listed) (n : ℕ) → t.source_range ≡ None
    → sum_of (map length_of (items_of t.children)) ≡ Some n → length_of (Track t) ≡ Some n
track_long t n e s =
    ap₂ (λ o ns. option_map (λ (r : Range). r.len)
    (option_or (option_map range_of o) (option_map from_zero (sum_of ns)))) e
    (sym (lengths-items t.children))
    ∙ ap (λ o. option_map (λ (r : Range). r.len) (option_map from_zero o)) s

day_left : (rate : Rate) (first : ℤ) → IsPacedDay rate → pos 0 ≤ℤ first
    → ((pos (day_of rate) -ℤ first) *ℤ pos (ticks rate)) ≤ℤ pos most_ticks
day_left rate first p low =
    let d = day_short rate p in
    let s = sum-times (pos (day_of rate) -ℤ first) first (ticks rate) in
    let e : (pos (day_of rate) -ℤ first) +ℤ first ≡ pos (day_of rate) = omega (arith, ints) in
    let t = ap (λ z. z *ℤ pos (ticks rate)) e in
    let f = times_low first (ticks rate) low in
    omega (arith, ints, d, s, t, f)

pub track_fault : (rate : Rate) (first : ℤ) (t : TrackOf Listed) → IsPacedDay rate
    → pos 0 ≤ℤ first → t.source_range ≡ None → t.effects ≡ []
    → ArePlaced rate (day_of rate) first (items_of t.children) → fault_of (Track t) ≡ None
track_fault rate first t p low source effects placed =
    let all = added (map length_of (items_of t.children)) in
    let fits = placed.fits in
    let day = day_left rate first p low in
    let few : all ≤ most_ticks = omega (arith, ints, fits, day) in
    let w = plain_end (trimmed_start {C = Listed} (Track t)) (speed_of {C = Listed} (Track t)) all
    most_ticks
    (ap (λ o. range_start (option_or (option_map range_of o) (Some (from_zero 0)))) source)
    (ap (combined (pos 1000000)) effects) few in
    no_fault (Track t) all refl (record {
      long = track_long t all source (known_sum (items_of t.children) placed.parts);
      speed = ap (keeps_speed (pos 1000000)) effects;
      few = few;
      available = subst (λ ns. added ns ≤ most_ticks) (lengths-items t.children) few;
      low = w.low;
      high = w.high;
    })

part_at : (l : List (ItemOf Listed)) (i : ℕ) (x : ItemOf Listed) → AreParts l
    → slice_get l i ≡ Some x → IsFaultlessItem x
part_at [] zero x k e = absurd (cc e)
part_at [] (suc i) x k e = absurd (cc e)
part_at (y ∷ l) zero x k e =
    let same : y ≡ x = cc e in
    subst IsFaultlessItem same (sound_alone y k.1 k.0)
part_at (y ∷ l) (suc i) x k e = part_at l i x k.3 e

-- the children of a track have no fault
children_faultless : (l : Listed) → AreParts (items_of l) → AreFaultless l
children_faultless l k =
    sound_all l (length (items_of l)) (omega arith) (λ i x lt e. part_at (items_of l) i x k e)

pub track_faultless : (rate : Rate) (first : ℤ) (t : TrackOf Listed) → IsPacedDay rate
    → pos 0 ≤ℤ first → t.source_range ≡ None → t.effects ≡ []
    → ArePlaced rate (day_of rate) first (items_of t.children) → IsFaultlessItem (Track t)
track_faultless rate first t p low source effects placed =
    sound_with (Track t) t.children refl (track_fault rate first t p low source effects placed)
    (children_faultless t.children placed.parts)
