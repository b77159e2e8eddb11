-- A list has one timeline at most.
use Rattle.std.proofs.Common.{◌≡◌, refl, sym, ap, ap₂, subst, ◌∙◌, ℕ, ℤ, pos, true, false, List, [], ◌∷◌, Option, Some, None, arith}
use Rattle.std.specs.Prelude.{codes, unwrap_or}
use Rattle.std.proofs.lemmas.Int.{ints}
use Rattle.tick_time.specs.declared.rates.Rate.{Rate}
use Rattle.tick_time.specs.declared.spans.Span.{Span}
use Rattle.tick_time.specs.declared.times.Time.{Time}
use Rattle.tick_time.proofs.SameValues.{same_frames, same_span}
use Rattle.json_value.specs.declared.Json.{Json, out-Json, roll-Json, roll-out-Json}
use Rattle.json_value.specs.declared.Json.TheOpen.{Json-F}
use Rattle.otio_model.specs.declared.media.Media.{Media}
use Rattle.otio_model.specs.declared.compositions.ItemOf.{ItemOf}
use Rattle.otio_model.specs.declared.compositions.ItemOf.TheVariants.{Clip, Gap, Transition, Track}
use Rattle.otio_model.specs.declared.compositions.Listed.{Listed}
use Rattle.otio_model.specs.declared.compositions.Listed.TheViews.{roll-out-Listed}
use Rattle.otio_model.specs.declared.timelines.Timeline.{Timeline}
use Rattle.otio_model.specs.Trees.{items_of, listed}
use Rattle.otio_model.specs.Timelines.{bare}
use Rattle.edl_list.specs.declared.list.Channel.{Channel}
use Rattle.edl_list.specs.declared.list.Channel.TheVariants.{V, A, A2}
use Rattle.edl_list.specs.declared.list.EventList.{EventList}
use Rattle.edl_list.specs.declared.list.Reel.{Reel}
use Rattle.edl_list.specs.declared.list.Reel.TheVariants.{Black, Named}
use Rattle.edl_list.specs.declared.list.Side.{Side}
use Rattle.edl_list.specs.declared.list.Event.{Event}
use Rattle.edl_list.specs.Speeds.{side_speed}
use Rattle.media_rows.specs.declared.row.MediaRow.{MediaRow}
use Rattle.edl_frames.specs.Shown.{on_channel}
use Rattle.media_rows.specs.Rows.{MediaRows, row_of}
use Rattle.edl_law.specs.PlainItems.{clip_with, gap_with, transition_with, track_with}
use Rattle.edl_frames.specs.Conformed.{IsSpanOf, HasSpan, HasFrames, effects_at, first_record, TellsReel, external, IsReference, IsClip, IsGap, IsReelItem, IsItem, IsTransition, Pair, serves, AreItems, end, gap, cut, pair, pair_with_side, IsTrackOf, AreTracks, none, used, unused, IsTimelineOf}

-- ---- times and spans

same_offset : (rate : Rate) (n : ℤ) (a b : Option Time) → HasFrames rate n a → HasFrames rate n b
    → a ≡ b
same_offset rate n a b i j =
    i.1 ∙ ap (λ t. Some t) (same_frames rate n i.0 j.0 i.2 j.2) ∙ sym j.1

frames_span : (rate : Rate) (start count : ℤ) (x y : Span) → IsSpanOf rate start count x
    → IsSpanOf rate start count y → x ≡ y
frames_span rate start count x y i j =
    same_span x y (same_frames rate start x.start y.start i.from j.from)
    (same_frames rate count x.len y.len i.long j.long)

same_source : (rate : Rate) (start count : ℤ) (a b : Option Span) → HasSpan rate start count a
    → HasSpan rate start count b → a ≡ b
same_source rate start count a b i j =
    i.1 ∙ ap (λ s. Some s) (frames_span rate start count i.0 j.0 i.2 j.2) ∙ sym j.1

-- ---- what a clip has

same_json : (a b : Json) → out-Json a ≡ out-Json b → a ≡ b
same_json a b e = sym (roll-out-Json a) ∙ ap roll-Json e ∙ roll-out-Json b

same_members : (reel : List ℕ) (a b : List (List ℕ × Json)) → TellsReel reel a
    → TellsReel reel b → a ≡ b
same_members reel a b i j =
    let text = same_json i.text j.text (i.is ∙ sym j.is) in
    let told = same_json i.told j.told
    (i.inner ∙ ap (λ v. Json-F.Map ((codes "reel", v) ∷ [])) text ∙ sym j.inner) in
    i.outer ∙ ap (λ v. (codes "cmx_3600", v) ∷ []) told ∙ sym j.outer

same_reference : (row : Option MediaRow) (a b : Media) → IsReference row a → IsReference row b
    → a ≡ b
same_reference None a b i j = i ∙ sym j
same_reference (Some row) a b i j =
    i.2 ∙ ap (external row.url) (frames_span row.rate row.start row.count i.0 j.0 i.1 j.1) ∙ sym j.2

-- ---- items

clip_is : (rate : Rate) (row : Option MediaRow) (side : Side) (reel : List ℕ) (count : ℤ)
    (x : ItemOf Listed) (i : IsClip rate row side reel count x)
    → x ≡ clip_with i.clip.metadata (unwrap_or side.name reel) i.clip.source_range
    (effects_at (side_speed rate side)) i.reference
clip_is rate row side reel count x i = i.is ∙ (λ k. Clip (record {
  metadata = i.clip.metadata;
  name = i.name k;
  source_range = i.clip.source_range;
  effects = i.effects k;
  markers = i.markers k;
  enabled = i.enabled k;
  media_references = i.references k;
  active_media_reference_key = i.key k;
  rest = i.rest k;
}))

same_clip : (rate : Rate) (row : Option MediaRow) (side : Side) (reel : List ℕ) (count : ℤ)
    (x y : ItemOf Listed) → IsClip rate row side reel count x
    → IsClip rate row side reel count y → x ≡ y
same_clip rate row side reel count x y i j =
    let metadata = same_members reel i.clip.metadata j.clip.metadata i.metadata j.metadata in
    let source = same_source rate side.src_in count i.clip.source_range j.clip.source_range
    i.source j.source in
    let reference = same_reference row i.reference j.reference i.listed j.listed in
    clip_is rate row side reel count x i
    ∙ (λ k. clip_with (metadata k) (unwrap_or side.name reel) (source k)
    (effects_at (side_speed rate side)) (reference k))
    ∙ sym (clip_is rate row side reel count y j)

gap_is : (rate : Rate) (count : ℤ) (x : ItemOf Listed) (i : IsGap rate count x)
    → x ≡ gap_with i.gap.source_range
gap_is rate count x i = i.is ∙ (λ k. Gap (record {
  source_range = i.gap.source_range;
  metadata = i.metadata k;
  name = i.name k;
  effects = i.effects k;
  markers = i.markers k;
  enabled = i.enabled k;
  rest = i.rest k;
}))

same_gap : (rate : Rate) (count : ℤ) (x y : ItemOf Listed) → IsGap rate count x
    → IsGap rate count y → x ≡ y
same_gap rate count x y i j =
    gap_is rate count x i
    ∙ ap gap_with (same_source rate (pos 0) count i.gap.source_range j.gap.source_range
    i.source j.source)
    ∙ sym (gap_is rate count y j)

same_item : (rate : Rate) (media : MediaRows) (side : Side) (count : ℤ) (x y : ItemOf Listed)
    → IsItem rate media side count x → IsItem rate media side count y → x ≡ y
same_item rate media side count x y i j = by side.reel i j
  where
    by : (r : Reel) → IsReelItem rate media side r count x → IsReelItem rate media side r count y
        → x ≡ y
    by Black f g = same_gap rate count x y f g
    by (Named reel) f g = same_clip rate (row_of media reel) side reel count x y f g

transition_is : (rate : Rate) (type : List ℕ) (frames : ℕ) (x : ItemOf Listed)
    (i : IsTransition rate type frames x)
    → x ≡ transition_with type i.transition.in_offset i.transition.out_offset
transition_is rate type frames x i = i.is ∙ (λ k. Transition (record {
  metadata = i.metadata k;
  name = i.name k;
  transition_type = i.kind k;
  in_offset = i.transition.in_offset;
  out_offset = i.transition.out_offset;
  rest = i.rest k;
}))

same_transition : (rate : Rate) (type : List ℕ) (frames : ℕ) (x y : ItemOf Listed)
    → IsTransition rate type frames x → IsTransition rate type frames y → x ≡ y
same_transition rate type frames x y i j =
    transition_is rate type frames x i
    ∙ ap₂ (transition_with type)
    (same_offset rate (pos 0) i.transition.in_offset j.transition.in_offset i.before j.before)
    (same_offset rate (pos frames) i.transition.out_offset j.transition.out_offset
    i.after j.after)
    ∙ sym (transition_is rate type frames y j)

-- ---- the items of a channel

-- the transitions of one pair
same_cross : (rate : Rate) (p q : Pair) (t u : ItemOf Listed) → p ≡ q
    → IsTransition rate p.type p.frames t → IsTransition rate q.type q.frames u → t ≡ u
same_cross rate p q t u same i j =
    same_transition rate p.type p.frames t u i
    (subst (λ (z : Pair). IsTransition rate z.type z.frames u) (sym same) j)

-- one side doesn't both serve and not
served_once : (rate : Rate) (before : Option Event) (at : ℤ) (p q : Pair) → p ≡ q
    → serves rate before at p.from ≡ true → serves rate before at q.from ≡ false → ⊥
served_once rate before at p q same i j =
    cc (sym i ∙ ap (λ (z : Pair). serves rate before at z.from) same ∙ j)

same_items : (rate : Rate) (media : MediaRows) (before : Option Event) (at : ℤ) (es : List Event)
    (xs ys : List (ItemOf Listed)) → AreItems rate media before at es xs
    → AreItems rate media before at es ys → xs ≡ ys
same_items rate media before at es xs ys (end _ _) (end _ _) = refl
same_items rate media before at es xs ys (gap _ _ e rest x l later i more)
    (gap _ _ _ _ y m _ j again) =
    ap₂ (λ z n. z ∷ n) (same_gap rate _ x y i j)
    (same_items rate media before e.rec_in (e ∷ rest) l m more again)
same_items rate media before at es xs ys (gap _ _ e rest x l later i more)
    (cut _ _ _ _ y m here _ _ _) = absurd (omega (arith, ints, later, here))
same_items rate media before at es xs ys (gap _ _ e rest x l later i more)
    (pair _ _ _ _ _ _ _ _ here _ _ _ _ _) = absurd (omega (arith, ints, later, here))
same_items rate media before at es xs ys (gap _ _ e rest x l later i more)
    (pair_with_side _ _ _ _ _ _ _ _ _ here _ _ _ _ _ _) =
    absurd (omega (arith, ints, later, here))
same_items rate media before at es xs ys (cut _ _ e rest x l here _ _ _)
    (gap _ _ _ _ _ _ later _ _) = absurd (omega (arith, ints, later, here))
same_items rate media before at es xs ys (cut _ _ e rest x l here is_cut i more)
    (cut _ _ _ _ y m _ _ j again) =
    ap₂ (λ z n. z ∷ n) (same_item rate media e.to _ x y i j)
    (same_items rate media (Some e) e.rec_out rest l m more again)
same_items rate media before at es xs ys (cut _ _ e rest x l here is_cut i more)
    (pair _ _ _ _ _ _ _ _ _ is_pair _ _ _ _) = absurd (cc (sym is_cut ∙ is_pair))
same_items rate media before at es xs ys (cut _ _ e rest x l here is_cut i more)
    (pair_with_side _ _ _ _ _ _ _ _ _ _ is_pair _ _ _ _ _) =
    absurd (cc (sym is_cut ∙ is_pair))
same_items rate media before at es xs ys (pair _ _ e rest p t x l here _ _ _ _ _)
    (gap _ _ _ _ _ _ later _ _) = absurd (omega (arith, ints, later, here))
same_items rate media before at es xs ys (pair _ _ e rest p t x l here is_pair _ _ _ _)
    (cut _ _ _ _ _ _ _ is_cut _ _) = absurd (cc (sym is_cut ∙ is_pair))
same_items rate media before at es xs ys (pair _ _ e rest p t x l here is_pair served i j more)
    (pair _ _ _ _ q u y m _ one _ f g again) =
    let same : p ≡ q = cc (sym is_pair ∙ one) in
    ap₂ (λ z n. z ∷ n) (same_cross rate p q t u same i f)
    (ap₂ (λ z n. z ∷ n) (same_item rate media e.to _ x y j g)
    (same_items rate media (Some e) e.rec_out rest l m more again))
same_items rate media before at es xs ys (pair _ _ e rest p t x l here is_pair served i j more)
    (pair_with_side _ _ _ _ q _ _ _ _ _ one other _ _ _ _) =
    let same : p ≡ q = cc (sym is_pair ∙ one) in
    absurd (served_once rate before at p q same served other)
same_items rate media before at es xs ys
    (pair_with_side _ _ e rest p s t x l here _ _ _ _ _ _)
    (gap _ _ _ _ _ _ later _ _) = absurd (omega (arith, ints, later, here))
same_items rate media before at es xs ys
    (pair_with_side _ _ e rest p s t x l here is_pair _ _ _ _ _)
    (cut _ _ _ _ _ _ _ is_cut _ _) = absurd (cc (sym is_cut ∙ is_pair))
same_items rate media before at es xs ys
    (pair_with_side _ _ e rest p s t x l here is_pair other i j k more)
    (pair _ _ _ _ q _ _ _ _ one served _ _ _) =
    let same : q ≡ p = cc (sym one ∙ is_pair) in
    absurd (served_once rate before at q p same served other)
same_items rate media before at es xs ys
    (pair_with_side _ _ e rest p s t x l here is_pair served i j k more)
    (pair_with_side _ _ _ _ q r u y m _ one _ f g h again) =
    let same : p ≡ q = cc (sym is_pair ∙ one) in
    let side = subst (λ (z : Pair). IsItem rate media z.from (pos 0) r) (sym same) f in
    ap₂ (λ z n. z ∷ n) (same_item rate media p.from (pos 0) s r i side)
    (ap₂ (λ z n. z ∷ n) (same_cross rate p q t u same j g)
    (ap₂ (λ z n. z ∷ n) (same_item rate media e.to _ x y k h)
    (same_items rate media (Some e) e.rec_out rest l m more again)))

-- ---- tracks

same_children : (a b : Listed) → items_of a ≡ items_of b → a ≡ b
same_children a b e = sym (roll-out-Listed a) ∙ ap listed e ∙ roll-out-Listed b

track_is : (list : EventList) (media : MediaRows) (c : Channel) (x : ItemOf Listed)
    (i : IsTrackOf list media c x) → x ≡ track_with c i.track.children
track_is list media c x i = i.is ∙ (λ k. Track (record {
  children = i.track.children;
  kind = i.kind k;
  name = i.name k;
  metadata = i.metadata k;
  source_range = i.source k;
  effects = i.effects k;
  markers = i.markers k;
  enabled = i.enabled k;
  rest = i.rest k;
}))

same_track : (list : EventList) (media : MediaRows) (c : Channel) (x y : ItemOf Listed)
    → IsTrackOf list media c x → IsTrackOf list media c y → x ≡ y
same_track list media c x y i j =
    track_is list media c x i
    ∙ ap (track_with c) (same_children i.track.children j.track.children
    (same_items list.rate media None (first_record list.events) (on_channel c list.events)
    (items_of i.track.children) (items_of j.track.children) i.children j.children))
    ∙ sym (track_is list media c y j)

same_tracks : (list : EventList) (media : MediaRows) (cs : List Channel)
    (xs ys : List (ItemOf Listed)) → AreTracks list media cs xs → AreTracks list media cs ys
    → xs ≡ ys
same_tracks list media cs xs ys none none = refl
same_tracks list media cs xs ys (used c others x l h i more) (used _ _ y m _ j again) =
    ap₂ (λ z n. z ∷ n) (same_track list media c x y i j)
    (same_tracks list media others l m more again)
same_tracks list media cs xs ys (used c others x l h i more) (unused _ _ _ g again) =
    absurd (cc (sym h ∙ g))
same_tracks list media cs xs ys (unused c others l h more) (used _ _ _ _ g _ again) =
    absurd (cc (sym g ∙ h))
same_tracks list media cs xs ys (unused c others l h more) (unused _ _ m _ again) =
    same_tracks list media others l m more again

-- ---- the timeline

-- a timeline by what isn't the same in all conformed ones
abbrev pub bare_with : List ℕ → Option Time → Listed → Timeline
bare_with name start children = record {
  metadata = [];
  name = name;
  global_start_time = start;
  tracks = record {
    metadata = [];
    source_range = None;
    effects = [];
    name = codes "tracks";
    markers = [];
    enabled = true;
    children = children;
    rest = [];
  };
  rest = [];
  spare = record { room = 0; taken = 0; loose = 0 };
}

bare_is : (list : EventList) (media : MediaRows) (t : Timeline) (i : IsTimelineOf list media t)
    → bare t ≡ bare_with list.title t.global_start_time t.tracks.children
bare_is list media t i = λ k. record {
  metadata = i.metadata k;
  name = i.name k;
  global_start_time = t.global_start_time;
  tracks = record {
    children = t.tracks.children;
    name = i.root_name k;
    metadata = i.root_metadata k;
    source_range = i.root_source k;
    effects = i.root_effects k;
    markers = i.root_markers k;
    enabled = i.root_enabled k;
    rest = i.root_rest k;
  };
  rest = i.rest k;
  spare = record { room = 0; taken = 0; loose = 0 };
}

pub one_timeline : (list : EventList) (media : MediaRows) (a b : Timeline)
    → IsTimelineOf list media a → IsTimelineOf list media b → bare a ≡ bare b
one_timeline list media a b i j =
    bare_is list media a i
    ∙ ap₂ (bare_with list.title)
    (same_offset list.rate (first_record list.events) a.global_start_time b.global_start_time
    i.start j.start)
    (same_children a.tracks.children b.tracks.children
    (same_tracks list media (V ∷ A ∷ A2 ∷ []) (items_of a.tracks.children)
    (items_of b.tracks.children) i.tracks j.tracks))
    ∙ sym (bare_is list media b j)
