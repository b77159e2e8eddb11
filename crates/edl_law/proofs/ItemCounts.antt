-- A timeline of a list has as many items as its events say.
use Rattle.std.proofs.Common.{◌≡◌, refl, sym, ap, ◌∙◌, ℕ, ◌+◌, ℤ, pos, ◌<ℤ◌, ◌-ℤ◌, Bool, true, false, cond, List, [], ◌∷◌, Option, Some, None, arith}
use Rattle.std.specs.Prelude.{int_lt}
use Rattle.std.proofs.lemmas.Int.{ints}
use Rattle.tick_time.specs.declared.rates.Rate.{Rate}
use Rattle.otio_model.specs.declared.compositions.ItemOf.{ItemOf}
use Rattle.otio_model.specs.declared.compositions.Listed.{Listed}
use Rattle.otio_model.specs.declared.compositions.Listed.TheViews.{roll-out-Listed}
use Rattle.otio_model.specs.declared.timelines.Timeline.{Timeline}
use Rattle.otio_model.specs.Trees.{items_of}
use Rattle.otio_model.specs.Counts.{count, count_of, counts_by}
use Rattle.otio_model.specs.Falls.{count-listed}
use Rattle.edl_list.specs.declared.list.Channel.{Channel}
use Rattle.edl_list.specs.declared.list.Reel.{Reel}
use Rattle.edl_list.specs.declared.list.Reel.TheVariants.{Black, Named}
use Rattle.edl_list.specs.declared.list.Side.{Side}
use Rattle.edl_list.specs.declared.list.Event.{Event}
use Rattle.edl_list.specs.declared.list.EventList.{EventList}
use Rattle.edl_frames.specs.Shown.{on_channel}
use Rattle.media_rows.specs.Rows.{MediaRows}
use Rattle.edl_frames.specs.Conformed.{IsItem, IsReelItem, IsTimelineOf, AreItems, end, gap, cut, pair, pair_with_side, AreTracks, none, used, unused, serves, first_record, pair_of}
use Rattle.edl_frames.specs.Counted.{gap_count, lead_count, channel_count, track_count, item_count}

gap_some : (at : ℤ) (e : Event) → at <ℤ e.rec_in → gap_count at e ≡ 1
gap_some at e h = by (int_lt at e.rec_in) refl
  where
    by : (b : Bool) → int_lt at e.rec_in ≡ b → ◌≡◌ {A = ℕ} (cond b 1 0) 1
    by true k = refl
    by false k = absurd (omega (arith, ints, k, h))

gap_none : (at : ℤ) (e : Event) → at ≡ e.rec_in → gap_count at e ≡ 0
gap_none at e h = by (int_lt at e.rec_in) refl
  where
    by : (b : Bool) → int_lt at e.rec_in ≡ b → ◌≡◌ {A = ℕ} (cond b 1 0) 0
    by true k = absurd (omega (arith, ints, k, h))
    by false k = refl

one_item : (rate : Rate) (media : MediaRows) (side : Side) (n : ℤ) (x : ItemOf Listed)
    → IsItem rate media side n x → count_of x ≡ 1
one_item rate media side n x i = by side.reel i
  where
    by : (r : Reel) → IsReelItem rate media side r n x → count_of x ≡ 1
    by Black j = ap count_of j.is
    by (Named reel) j = ap count_of j.is

items_are : (rate : Rate) (media : MediaRows) (before : Option Event) (at : ℤ) (es : List Event)
    (items : List (ItemOf Listed)) → AreItems rate media before at es items
    → counts_by count items ≡ channel_count rate before at es
items_are rate media before at es items (end _ _) = refl
items_are rate media before at es items (gap _ _ e rest x others later is_gap more) =
    let a : count_of x ≡ 1 = ap count_of is_gap.is in
    let b = items_are rate media before e.rec_in (e ∷ rest) others more in
    let g = gap_some at e later in let h = gap_none e.rec_in e refl in
    omega (arith, a, b, g, h)
items_are rate media before at es items (cut _ _ e rest x others here is_cut item more) =
    let a = one_item rate media e.to (e.rec_out -ℤ e.rec_in) x item in
    let b = items_are rate media (Some e) e.rec_out rest others more in
    let g = gap_none at e here in
    let l : lead_count rate before e.rec_in (pair_of e.cross) ≡ 0 =
    ap (lead_count rate before e.rec_in) is_cut in
    omega (arith, a, b, g, l)
items_are rate media before at es items
    (pair _ _ e rest p t x others here is_pair served transition item more) =
    let a = one_item rate media e.to (e.rec_out -ℤ e.rec_in) x item in
    let b = items_are rate media (Some e) e.rec_out rest others more in
    let s : count_of t ≡ 1 = ap count_of transition.is in
    let g = gap_none at e here in
    let l : lead_count rate before e.rec_in (pair_of e.cross) ≡ 1 =
    ap (lead_count rate before e.rec_in) is_pair
    ∙ ap (λ d. cond d 1 2) (ap (λ z. serves rate before z p.from) (sym here) ∙ served) in
    omega (arith, a, b, s, g, l)
items_are rate media before at es items
    (pair_with_side _ _ e rest p y t x others here is_pair served side transition item more) =
    let a = one_item rate media e.to (e.rec_out -ℤ e.rec_in) x item in
    let b = items_are rate media (Some e) e.rec_out rest others more in
    let c = one_item rate media p.from (pos 0) y side in
    let s : count_of t ≡ 1 = ap count_of transition.is in
    let g = gap_none at e here in
    let l : lead_count rate before e.rec_in (pair_of e.cross) ≡ 2 =
    ap (lead_count rate before e.rec_in) is_pair
    ∙ ap (λ d. cond d 1 2) (ap (λ z. serves rate before z p.from) (sym here) ∙ served) in
    omega (arith, a, b, c, s, g, l)

count_is : (l : Listed) → count l ≡ counts_by count (items_of l)
count_is l = ap count (sym (roll-out-Listed l)) ∙ count-listed (items_of l)

abbrev total : EventList → List Channel → ℕ
total list [] = 0
total list (c ∷ cs) = track_count list c + total list cs

tracks_are : (list : EventList) (media : MediaRows) (cs : List Channel) (xs : List (ItemOf Listed))
    → AreTracks list media cs xs → counts_by count xs ≡ total list cs
tracks_are list media cs xs none = refl
tracks_are list media cs xs (used c others x rest h i more) =
    let b = tracks_are list media others rest more in
    let a : count_of x ≡ count i.track.children + 1 = ap count_of i.is in
    let n = count_is i.track.children ∙ items_are list.rate media None (first_record list.events)
    (on_channel c list.events) (items_of i.track.children) i.children in
    let t : track_count list c ≡ 1 + channel_count list.rate None (first_record list.events)
    (on_channel c list.events) =
    ap (λ d. cond d (1 + channel_count list.rate None (first_record list.events)
    (on_channel c list.events)) 0) h in
    omega (arith, a, b, n, t)
tracks_are list media cs xs (unused c others rest h more) =
    let b = tracks_are list media others rest more in
    let t : track_count list c ≡ 0 =
    ap (λ d. cond d (1 + channel_count list.rate None (first_record list.events)
    (on_channel c list.events)) 0) h in
    omega (arith, b, t)

pub timeline_count : (list : EventList) (media : MediaRows) (t : Timeline)
    → IsTimelineOf list media t → count t.tracks.children ≡ item_count list
timeline_count list media t i =
    let a = count_is t.tracks.children in let b = tracks_are list media _
    (items_of t.tracks.children) i.tracks in
    omega (arith, a, b)
