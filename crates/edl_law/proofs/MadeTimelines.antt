-- Each well formed list has a timeline.
use Rattle.std.proofs.Common.{◌≡◌, refl, sym, ap, subst, cond, ℕ, ℤ, pos, ◌*ℤ◌, ◌-ℤ◌, ◌≤ℤ◌, ◌<ℤ◌, Bool, true, false, List, [], ◌∷◌, Option, Some, None, arith}
use Rattle.std.specs.Prelude.{codes, unwrap_or, int_lt, All, IfSome}
use Rattle.std.specs.Str.{bytes_eq}
use Rattle.std.proofs.lemmas.Int.{ints}
use Rattle.std.proofs.lemmas.List.Elements.{All-head, All-tail}
use Rattle.limits.proofs.IntegerSums.{multiple-from_zero}
use Rattle.limits.proofs.IntegerTests.{int_lt-true, int_lt-false}
use Rattle.tick_time.specs.declared.rates.Rate.{Rate}
use Rattle.tick_time.specs.declared.spans.Span.{Span}
use Rattle.tick_time.specs.declared.times.Time.{Time}
use Rattle.tick_time.specs.Rates.{frame}
use Rattle.tick_time.specs.Times.{IsInRange}
use Rattle.tick_time.specs.Frames.{IsFrames}
use Rattle.tick_time.proofs.SameValues.{TimeFacts, built_time}
use Rattle.tick_time.proofs.Wholes.{whole-frames}
use Rattle.json_value.specs.declared.Json.{Json, roll-Json, out-roll-Json}
use Rattle.json_value.specs.declared.Json.TheOpen.{Json-F}
use Rattle.otio_model.specs.declared.media.Media.{Media}
use Rattle.otio_model.specs.declared.compositions.ItemOf.{ItemOf}
use Rattle.otio_model.specs.declared.compositions.Listed.{Listed}
use Rattle.otio_model.specs.declared.timelines.Timeline.{Timeline}
use Rattle.otio_model.specs.Trees.{listed}
use Rattle.otio_model.proofs.Views.{items-listed}
use Rattle.edl_list.specs.declared.list.Channel.{Channel}
use Rattle.edl_list.specs.declared.list.Channel.TheVariants.{V, A, A2}
use Rattle.edl_list.specs.declared.list.EventList.{EventList}
use Rattle.edl_list.specs.declared.list.Reel.{Reel}
use Rattle.edl_list.specs.declared.list.Reel.TheVariants.{Black, Named}
use Rattle.edl_list.specs.declared.list.Side.{Side}
use Rattle.edl_list.specs.declared.list.Cross.{Cross}
use Rattle.edl_list.specs.declared.list.Cross.TheVariants.{Cut, Dissolve, Wipe}
use Rattle.edl_list.specs.declared.list.Event.{Event}
use Rattle.edl_list.specs.Formed.{IsWellFormed}
use Rattle.edl_list.specs.Laws.{IsTimed}
use Rattle.edl_list.specs.Speeds.{side_speed}
use Rattle.media_rows.specs.declared.row.MediaRow.{MediaRow}
use Rattle.media_rows.specs.Rows.{MediaRows, IsRowInRange, by_reel, row_of}
use Rattle.edl_frames.specs.Shown.{on_channel}
use Rattle.edl_frames.specs.Conformed.{IsSpanOf, effects_at, first_record, TellsReel, missing, external, IsReference, IsClip, IsGap, IsReelItem, IsItem, IsTransition, Pair, pair_as, pair_of, wipe_type, serves, AreItems, end, gap, cut, pair, pair_with_side, AreChildren, IsTrackOf, has_track, AreTracks, none, used, unused, IsTimelineOf}
use Rattle.edl_law.specs.PlainItems.{clip_with, gap_with, transition_with, track_with}
use Rattle.edl_law.specs.Premises.{AreInRange}
use Rattle.edl_law.specs.Fits.{FitsSide, FitsCross, FitsEvent, AreAhead}
use Rattle.edl_law.proofs.EventRanges.{first_timed, all_ahead, zero_timed}
use Rattle.edl_law.proofs.OneTimeline.{bare_with}

-- ---- times and spans

pub frames-are_there : (rate : Rate) (n : ℤ) → IsInRange (n *ℤ pos (frame rate.num rate.den))
    → (t : Time) × IsFrames rate n t
frames-are_there rate n h =
    let facts : TimeFacts (n *ℤ pos (frame rate.num rate.den)) rate =
    (h.low, h.high, whole-frames n rate.num rate.den) in (
      built_time (n *ℤ pos (frame rate.num rate.den)) rate facts,
      record { ticks = refl; kept = refl },
    )

pub span-is_there : (rate : Rate) (start count : ℤ) → pos 0 ≤ℤ count
    → IsInRange (start *ℤ pos (frame rate.num rate.den))
    → IsInRange (count *ℤ pos (frame rate.num rate.den)) → (s : Span) × IsSpanOf rate start count s
span-is_there rate start count low h k =
    let from = frames-are_there rate start h in
    let long = frames-are_there rate count k in
    let forward : pos 0 ≤ℤ long.0.ticks =
    subst (λ z. pos 0 ≤ℤ z) (sym long.1.ticks) (multiple-from_zero count (frame rate.num rate.den) low) in (
      record { start = from.0; len = long.0; forward = forward },
      record { from = from.1; long = long.1 },
    )

zero_in : (rate : Rate) → IsInRange (pos 0 *ℤ pos (frame rate.num rate.den))
zero_in rate = (zero_timed rate).range

-- ---- items

gap-is_there : (rate : Rate) (count : ℤ) → IsTimed rate count
    → (x : ItemOf Listed) × IsGap rate count x
gap-is_there rate count t =
    let s = span-is_there rate (pos 0) count t.low (zero_in rate) t.range in (
      gap_with (Some s.0),
      record {
        gap = _;
        is = refl;
        metadata = refl;
        name = refl;
        source = (s.0, refl, s.1);
        effects = refl;
        markers = refl;
        enabled = refl;
        rest = refl;
      },
    )

members-are_there : (reel : List ℕ) → (m : List (List ℕ × Json)) × TellsReel reel m
members-are_there reel =
    let text = roll-Json (Json-F.Str reel) in
    let told = roll-Json (Json-F.Map ((codes "reel", text) ∷ [])) in (
      (codes "cmx_3600", told) ∷ [],
      record {
        told = told;
        text = text;
        outer = refl;
        inner = out-roll-Json (Json-F.Map ((codes "reel", text) ∷ []));
        is = out-roll-Json (Json-F.Str reel);
      },
    )

reference-is_there : (o : Option MediaRow) → IfSome o IsRowInRange → (m : Media) × IsReference o m
reference-is_there None h = (missing, refl)
reference-is_there (Some row) h =
    let s = span-is_there row.rate row.start row.count h.some h.starts h.lasts in
    (external row.url s.0, (s.0, s.1, refl))

clip-is_there : (rate : Rate) (row : Option MediaRow) (side : Side) (reel : List ℕ) (count : ℤ)
    → IfSome row IsRowInRange → FitsSide rate side → IsTimed rate count
    → (x : ItemOf Listed) × IsClip rate row side reel count x
clip-is_there rate row side reel count h f t =
    let m = members-are_there reel in
    let r = reference-is_there row h in
    let s = span-is_there rate side.src_in count t.low f.starts.range t.range in (
      clip_with m.0 (unwrap_or side.name reel) (Some s.0) (effects_at (side_speed rate side)) r.0,
      record {
        clip = _;
        is = refl;
        metadata = m.1;
        name = refl;
        source = (s.0, refl, s.1);
        effects = refl;
        markers = refl;
        enabled = refl;
        reference = r.0;
        references = refl;
        listed = r.1;
        key = refl;
        rest = refl;
      },
    )

listed_row : (reel : List ℕ) (rows : List MediaRow) → All IsRowInRange rows
    → IfSome (by_reel reel rows) IsRowInRange
listed_row reel [] h = tt
listed_row reel (row ∷ rows) h =
    by (bytes_eq reel row.reel) (listed_row reel rows (All-tail IsRowInRange row rows h))
  where
    by : (t : Bool) → IfSome (by_reel reel rows) IsRowInRange
        → IfSome (cond t (Some row) (by_reel reel rows)) IsRowInRange
    by true more = All-head IsRowInRange row rows h
    by false more = more

row_there : (media : MediaRows) (reel : List ℕ) → AreInRange media
    → IfSome (row_of media reel) IsRowInRange
row_there None reel h = tt
row_there (Some rows) reel h = listed_row reel rows h

item-is_there : (rate : Rate) (media : MediaRows) (side : Side) (count : ℤ) → AreInRange media
    → FitsSide rate side → IsTimed rate count → (x : ItemOf Listed) × IsItem rate media side count x
item-is_there rate media side count h f t = by side.reel
  where
    by : (reel : Reel) → (x : ItemOf Listed) × IsReelItem rate media side reel count x
    by Black = gap-is_there rate count t
    by (Named reel) =
        clip-is_there rate (row_of media reel) side reel count (row_there media reel h) f t

transition-is_there : (rate : Rate) (type : List ℕ) (frames : ℕ) → IsTimed rate (pos frames)
    → (x : ItemOf Listed) × IsTransition rate type frames x
transition-is_there rate type frames t =
    let before = frames-are_there rate (pos 0) (zero_in rate) in
    let after = frames-are_there rate (pos frames) t.range in (
      transition_with type (Some before.0) (Some after.0),
      record {
        transition = _;
        is = refl;
        metadata = refl;
        name = refl;
        kind = refl;
        before = (before.0, refl, before.1);
        after = (after.0, refl, after.1);
        rest = refl;
      },
    )

-- ---- the items of a channel

-- the items of events from a record frame on
abbrev Items : Rate → MediaRows → Option Event → ℤ → List Event → Type 0
Items rate media before at es =
    (items : List (ItemOf Listed)) × AreItems rate media before at es items

-- those of a pair that begins here
pair_there : (rate : Rate) (media : MediaRows) (before : Option Event) (e : Event)
    (es : List Event) (p : Pair) → AreInRange media → pair_of e.cross ≡ Some p
    → FitsSide rate p.from → IsTimed rate (pos p.frames) → FitsEvent rate e
    → Items rate media (Some e) e.rec_out es → Items rate media before e.rec_in (e ∷ es)
pair_there rate media before e es p h f side few fits more =
    by (serves rate before e.rec_in p.from) refl
  where
    by : (t : Bool) → serves rate before e.rec_in p.from ≡ t
        → Items rate media before e.rec_in (e ∷ es)
    by true s =
        let t = transition-is_there rate p.type p.frames few in
        let x = item-is_there rate media e.to (e.rec_out -ℤ e.rec_in) h fits.to fits.long in (
          t.0 ∷ x.0 ∷ more.0,
          pair before e.rec_in e es p t.0 x.0 more.0 refl f s t.1 x.1 more.1,
        )
    by false s =
        let y = item-is_there rate media p.from (pos 0) h side (zero_timed rate) in
        let t = transition-is_there rate p.type p.frames few in
        let x = item-is_there rate media e.to (e.rec_out -ℤ e.rec_in) h fits.to fits.long in (
          y.0 ∷ t.0 ∷ x.0 ∷ more.0,
          pair_with_side before e.rec_in e es p y.0 t.0 x.0 more.0 refl f s y.1 t.1 x.1 more.1,
        )

-- those of an event that begins here
event_there : (rate : Rate) (media : MediaRows) (before : Option Event) (e : Event)
    (es : List Event) → AreInRange media → FitsEvent rate e
    → Items rate media (Some e) e.rec_out es → Items rate media before e.rec_in (e ∷ es)
event_there rate media before e es h fits more = by e.cross refl fits.cross
  where
    by : (cross : Cross) → e.cross ≡ cross → FitsCross rate cross
        → Items rate media before e.rec_in (e ∷ es)
    by Cut f k =
        let x = item-is_there rate media e.to (e.rec_out -ℤ e.rec_in) h fits.to fits.long in
        (x.0 ∷ more.0, cut before e.rec_in e es x.0 more.0 refl (ap pair_of f) x.1 more.1)
    by (Dissolve frames from) f k =
        pair_there rate media before e es (pair_as (codes "SMPTE_Dissolve") frames from) h
        (ap pair_of f) k.2 k.1 fits more
    by (Wipe code frames from) f k =
        pair_there rate media before e es (pair_as (wipe_type code) frames from) h
        (ap pair_of f) k.3 k.2 fits more

items-are_there : (rate : Rate) (media : MediaRows) (before : Option Event) (at : ℤ)
    (es : List Event) → AreInRange media → AreAhead rate before at es
    → Items rate media before at es
items-are_there rate media before at [] h a = ([], end before at)
items-are_there rate media before at (e ∷ es) h a =
    let more = items-are_there rate media (Some e) e.rec_out es h a.1 in
    let here = event_there rate media before e es h a.0.event more in
    by here (int_lt at e.rec_in) refl
  where
    by : Items rate media before e.rec_in (e ∷ es) → (t : Bool) → int_lt at e.rec_in ≡ t
        → Items rate media before at (e ∷ es)
    by here true f =
        let later : at <ℤ e.rec_in = int_lt-true at e.rec_in f in
        let g = gap-is_there rate (e.rec_in -ℤ at) a.0.gap in
        (g.0 ∷ here.0, gap before at e es g.0 here.0 later g.1 here.1)
    by here false f =
        let later = a.0.later in
        let not_later = int_lt-false at e.rec_in f in
        let same : e.rec_in ≡ at = omega (arith, ints, later, not_later) in
        subst (λ z. Items rate media before z (e ∷ es)) same here

-- ---- tracks, and the timeline

track-is_there : (list : EventList) (media : MediaRows) (c : Channel) → AreInRange media
    → IsWellFormed list → (x : ItemOf Listed) × IsTrackOf list media c x
track-is_there list media c h w =
    let items = items-are_there list.rate media None (first_record list.events)
    (on_channel c list.events) h ((all_ahead list w).each c) in (
      track_with c (listed items.0),
      record {
        track = _;
        is = refl;
        metadata = refl;
        name = refl;
        source = refl;
        effects = refl;
        markers = refl;
        enabled = refl;
        kind = refl;
        children = subst (AreChildren list media c) (sym (items-listed items.0)) items.1;
        rest = refl;
      },
    )

tracks-are_there : (list : EventList) (media : MediaRows) (cs : List Channel) → AreInRange media
    → IsWellFormed list → (xs : List (ItemOf Listed)) × AreTracks list media cs xs
tracks-are_there list media [] h w = ([], none)
tracks-are_there list media (c ∷ cs) h w =
    by (tracks-are_there list media cs h w) (has_track list.events c) refl
  where
    by : ((xs : List (ItemOf Listed)) × AreTracks list media cs xs) → (t : Bool)
        → has_track list.events c ≡ t
        → (xs : List (ItemOf Listed)) × AreTracks list media (c ∷ cs) xs
    by more true f =
        let x = track-is_there list media c h w in
        (x.0 ∷ more.0, used c cs x.0 more.0 f x.1 more.1)
    by more false f = (more.0, unused c cs more.0 f more.1)

pub timeline-is_there : (list : EventList) (media : MediaRows) → AreInRange media
    → IsWellFormed list → (t : Timeline) × IsTimelineOf list media t
timeline-is_there list media h w =
    let tracks = tracks-are_there list media (V ∷ A ∷ A2 ∷ []) h w in
    let start = frames-are_there list.rate (first_record list.events) (first_timed list w).range in (
      bare_with list.title (Some start.0) (listed tracks.0),
      record {
        metadata = refl;
        name = refl;
        start = (start.0, refl, start.1);
        tracks = subst (AreTracks list media (V ∷ A ∷ A2 ∷ [])) (sym (items-listed tracks.0)) tracks.1;
        root_metadata = refl;
        root_name = refl;
        root_source = refl;
        root_effects = refl;
        root_markers = refl;
        root_enabled = refl;
        root_rest = refl;
        rest = refl;
      },
    )
