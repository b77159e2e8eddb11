-- Each timeline that a list carries has a list.
use Rattle.std.proofs.Common.{◌≡◌, refl, sym, ap, ap₂, subst, ◌∙◌, ℕ, ◌==◌, ℤ, pos, ◌-ℤ◌, ◌<ℤ◌, Bool, true, false, cond, List, [], ◌∷◌, ◌++◌, map, Option, Some, None, append-nil, arith}
use Rattle.std.specs.Prelude.{int_lt, All, IfSome, filter_map, option_map, unwrap_or}
use Rattle.std.specs.List.{cons_option}
use Rattle.std.specs.Option.{option_or}
use Rattle.std.proofs.lemmas.Int.{ints}
use Rattle.std.proofs.lemmas.List.Elements.{All-cons, All-head, All-tail, All-nil, filter-append}
use Rattle.tick_time.specs.declared.rates.Rate.{Rate}
use Rattle.tick_time.specs.declared.spans.Span.{Span}
use Rattle.tick_time.specs.declared.times.Time.{Time}
use Rattle.otio_model.specs.declared.compositions.Clip.{Clip as ClipRow}
use Rattle.otio_model.specs.declared.compositions.ItemOf.{ItemOf}
use Rattle.otio_model.specs.declared.compositions.ItemOf.TheVariants.{Clip, Gap, Transition, Stack, Track}
use Rattle.otio_model.specs.declared.compositions.Listed.{Listed}
use Rattle.otio_model.specs.declared.timelines.Timeline.{Timeline}
use Rattle.otio_model.specs.Lengths.{clip_range}
use Rattle.otio_model.specs.Trees.{items_of}
use Rattle.coord.specs.Keys.{frame_rate}
use Rattle.coord.specs.Looks.{FrameRate, Overlap}
use Rattle.coord.specs.Programs.{record_rate, clip_rate, first_clip, rate_24, start_frame}
use Rattle.coord.specs.Sights.{overlap_of}
use Rattle.coord.specs.Soundness.{IsCalm}
use Rattle.edl_list.specs.declared.list.Channel.{Channel}
use Rattle.edl_list.specs.declared.list.Channel.TheVariants.{V, A, A2}
use Rattle.edl_list.specs.declared.list.Side.{Side}
use Rattle.edl_list.specs.declared.list.Event.{Event}
use Rattle.edl_list.specs.declared.list.EventList.{EventList}
use Rattle.edl_list.specs.Formed.{rank}
use Rattle.media_rows.specs.Rows.{MediaRows}
use Rattle.edl_frames.specs.Shown.{is_on, on_channel}
use Rattle.edl_frames.specs.Channels.{channel_track}
use Rattle.edl_frames.specs.Jobs.{Job, frames_in, job_of}
use Rattle.edl_frames.specs.Sides.{black_side, side_of}
use Rattle.edl_frames.specs.Seats.{Lap, Past, Seat, lap_at, seats, head, begin_of, end_of, clip_in, clip_before, is_there}
use Rattle.edl_frames.specs.ChildEvents.{event_by, black_event, item_event, tail_event, event_of, track_events, events_on, unnumbered}
use Rattle.edl_frames.specs.Carried.{not_carried, IsListOf}
use Rattle.edl_law.proofs.SideLooks.{job}
use Rattle.edl_law.proofs.EventsFormed.{EventsHold, SidesHold}
use Rattle.edl_law.proofs.ChannelEvents.{per_channel, track_holds}
use Rattle.edl_law.proofs.WorkedLists.{exact_24}
use Rattle.edl_law.proofs.MergedEvents.{stands_first, starts_first, AreInTurn, merged, merged_ordered, merged_channel, all_in_order, counted, counted_lines, counted_ordered, counted_channel}

-- ---- the record rate

-- it is the rate of times
abbrev HasRate : FrameRate → Type 0
HasRate r = (rate : Rate) × (frame_rate rate ≡ r)

no_media : HasRate rate_24
no_media = (exact_24, refl)

range_rate : (o : Option Span)
    → HasRate (unwrap_or (option_map (λ (s : Span). frame_rate s.start.rate) o) rate_24)
range_rate None = no_media
range_rate (Some s) = (s.start.rate, refl)

first_rate : (o : Option ClipRow) → HasRate (clip_rate o)
first_rate None = no_media
first_rate (Some c) = range_rate (option_or (clip_range c) c.source_range)

rate-is_there : (t : Timeline) → HasRate (record_rate t)
rate-is_there t = by t.global_start_time
  where
    by : (o : Option Time) → HasRate (elim o [
      | None ↦ clip_rate (first_clip t.tracks.children)
      | Some start ↦ frame_rate start.rate
    ])
    by None = first_rate (first_clip t.tracks.children)
    by (Some start) = (start.rate, refl)

-- ---- the events of a track

-- an event of a channel that has no number yet
record IsLoose (c : Channel) (e : Event) : Type 0 where
  on : e.channel ≡ c
  line : e.line ≡ 0

loose_black : (j : Job) (c : Channel) (past : Past) (o : Option Lap)
    → IfSome (black_event j c past o) (IsLoose c)
loose_black j c past None = tt
loose_black j c past (Some lap) = by (is_there (clip_before past.item))
  where
    by : (b : Bool)
        → IfSome (cond b (Some (event_by j c past (Some lap)
        (black_side (frames_in j (lap.end -ℤ lap.begin))) lap.begin lap.end)) None) (IsLoose c)
    by true = record { on = refl; line = refl }
    by false = tt

loose_item : (j : Job) (c : Channel) (s : Seat) (o : Option ClipRow)
    → IfSome (item_event j c s o) (IsLoose c)
loose_item j c s None = loose_black j c s.past s.past.lap
loose_item j c s (Some clip) = by (int_lt (begin_of s) (end_of s))
  where
    by : (b : Bool)
        → IfSome (cond b (Some (event_by j c s.past s.past.lap
        (side_of j clip s.start (begin_of s) (frames_in j (end_of s -ℤ begin_of s))) (begin_of s)
        (end_of s))) None) (IsLoose c)
    by true = record { on = refl; line = refl }
    by false = tt

loose_tail : (j : Job) (c : Channel) (s : Seat) (o : Overlap) (l : List (ItemOf Listed))
    → IfSome (tail_event j c s o l) (IsLoose c)
loose_tail j c s o [] =
    loose_black j c (record s.past { lap = lap_at s.start o }) (lap_at s.start o)
loose_tail j c s o (x ∷ l) = tt

loose_event : (j : Job) (c : Channel) (s : Seat) → IfSome (event_of j c s) (IsLoose c)
loose_event j c s = by (overlap_of s.item)
  where
    by : (o : Option Overlap) → IfSome (elim o [
      | None ↦ item_event j c s (clip_in s.item)
      | Some o ↦ tail_event j c s o s.next
    ]) (IsLoose c)
    by None = loose_item j c s (clip_in s.item)
    by (Some o) = loose_tail j c s o s.next

loose_seats : (j : Job) (c : Channel) (ss : List Seat)
    → All (IsLoose c) (filter_map (event_of j c) ss)
loose_seats j c [] = All-nil (IsLoose c)
loose_seats j c (s ∷ ss) = by (event_of j c s) (loose_event j c s) (loose_seats j c ss)
  where
    by : (o : Option Event) → IfSome o (IsLoose c)
        → All (IsLoose c) (filter_map (event_of j c) ss)
        → All (IsLoose c) (cons_option o (filter_map (event_of j c) ss))
    by None h more = more
    by (Some e) h more = All-cons (IsLoose c) e (filter_map (event_of j c) ss) h more

loose_on : (j : Job) (c : Channel) (o : Option (ItemOf Listed))
    → All (IsLoose c) (events_on j c o)
loose_on j c None = All-nil (IsLoose c)
loose_on j c (Some (Clip r)) = All-nil (IsLoose c)
loose_on j c (Some (Gap r)) = All-nil (IsLoose c)
loose_on j c (Some (Transition r)) = All-nil (IsLoose c)
loose_on j c (Some (Stack r)) = All-nil (IsLoose c)
loose_on j c (Some (Track t)) = by t.enabled
  where
    by : (b : Bool) → All (IsLoose c) (cond b (track_events j c (items_of t.children)) [])
    by true = loose_seats j c (seats (pos 0) head (items_of t.children))
    by false = All-nil (IsLoose c)

-- ---- the events of a channel rise

abbrev Any : Bool → Side → ℤ → Type 0
Any shown side n = Unit {0}

any_sides : (j : Job) → SidesHold Any j
any_sides j = record {
  black = λ n low few. tt;
  black_out = λ n. tt;
  clip = λ s r p free part low same. tt;
  clip_out = λ s r p free part low. tt;
}

later_first : (e : Event) (z : ℤ) (es : List Event) → e.rec_in <ℤ z → EventsHold Any z es
    → All (λ x. stands_first e x ≡ true) es
later_first e z [] less h = All-nil (λ x. stands_first e x ≡ true)
later_first e z (x ∷ xs) less h =
    let begins = h.0.begins in
    let some = h.0.some in
    All-cons (λ y. stands_first e y ≡ true) x xs
    (starts_first e x (omega (arith, ints, less, begins)))
    (later_first e x.rec_out xs (omega (arith, ints, less, begins, some)) h.1)

rising : (z : ℤ) (es : List Event) → EventsHold Any z es → AreInTurn es
rising z [] h = tt
rising z (e ∷ es) h = (later_first e e.rec_out es h.0.some h.1, rising e.rec_out es h.1)

-- ---- the events of all channels

loose_plain : (c : Channel) (es : List Event) → All (IsLoose c) es → map unnumbered es ≡ es
loose_plain c [] a = refl
loose_plain c (e ∷ es) a =
    let line = (All-head (IsLoose c) e es a).line in
    let same : unnumbered e ≡ e = ap (λ (n : ℕ). record e { line = n }) (sym line) in
    ap₂ (λ (x : Event) (xs : List Event). x ∷ xs) same
    (loose_plain c es (All-tail (IsLoose c) e es a))

-- on another channel none of these events stands
on_other : (c d : Channel) (es : List Event) → (rank d == rank c) ≡ false → All (IsLoose c) es
    → on_channel d es ≡ []
on_other c d [] differ a = refl
on_other c d (e ∷ es) differ a =
    let on = (All-head (IsLoose c) e es a).on in
    let here : is_on d e ≡ false = ap (λ (x : Channel). rank d == rank x) on ∙ differ in
    ap (λ b. cond b (e ∷ on_channel d es) (on_channel d es)) here
    ∙ on_other c d es differ (All-tail (IsLoose c) e es a)

on_own : (c : Channel) (es : List Event) → (rank c == rank c) ≡ true → All (IsLoose c) es
    → on_channel c es ≡ es
on_own c [] same a = refl
on_own c (e ∷ es) same a =
    let on = (All-head (IsLoose c) e es a).on in
    let here : is_on c e ≡ true = ap (λ (x : Channel). rank c == rank x) on ∙ same in
    ap (λ b. cond b (e ∷ on_channel c es) (on_channel c es)) here
    ∙ ap (λ l. e ∷ l) (on_own c es same (All-tail (IsLoose c) e es a))

-- the events of three channels, one channel after another
abbrev three : (Channel → List Event) → List Event
three on = on V ++ (on A ++ on A2)

on_three : (c : Channel) (on : Channel → List Event) → ((d : Channel) → All (IsLoose d) (on d))
    → on_channel c (three on) ≡ on c
on_three c on loose =
    filter-append (is_on c) (on V) (on A ++ on A2)
    ∙ ap (λ l. on_channel c (on V) ++ l) (filter-append (is_on c) (on A) (on A2))
    ∙ by c
  where
    by : (c : Channel)
        → on_channel c (on V) ++ (on_channel c (on A) ++ on_channel c (on A2)) ≡ on c
    by V = ap₂ (λ (x y : List Event). x ++ y) (on_own V (on V) refl (loose V))
        (ap₂ (λ (x y : List Event). x ++ y) (on_other A V (on A) refl (loose A))
        (on_other A2 V (on A2) refl (loose A2)))
        ∙ append-nil (on V)
    by A = ap₂ (λ (x y : List Event). x ++ y) (on_other V A (on V) refl (loose V))
        (ap₂ (λ (x y : List Event). x ++ y) (on_own A (on A) refl (loose A))
        (on_other A2 A (on A2) refl (loose A2)))
        ∙ append-nil (on A)
    by A2 = ap₂ (λ (x y : List Event). x ++ y) (on_other V A2 (on V) refl (loose V))
        (ap₂ (λ (x y : List Event). x ++ y) (on_other A A2 (on A) refl (loose A))
        (on_own A2 (on A2) refl (loose A2)))

-- ---- the list

pub list-is_there : (t : Timeline) (media : MediaRows) (drop wide : Bool) → IsCalm t
    → not_carried t media drop wide ≡ None → (list : EventList) × IsListOf t media drop wide list
list-is_there t media drop wide calm carried = (
  record {
    title = t.name;
    rate = rate.0;
    drop = drop;
    events = events;
  },
  record {
    title = refl;
    rate = rate.1;
    mode = refl;
    events = channel;
    order = all_in_order events (counted_ordered 1 (merged (three on)) (merged_ordered (three on)));
    numbered = counted_lines 1 (merged (three on));
  },
)
  where
    rate : HasRate (record_rate t)
    rate = rate-is_there t

    on : Channel → List Event
    on c = events_on (job_of t media drop wide) c (channel_track c (items_of t.tracks.children))

    events : List Event
    events = counted 1 (merged (three on))

    loose : (c : Channel) → All (IsLoose c) (on c)
    loose c = loose_on (job_of t media drop wide) c (channel_track c (items_of t.tracks.children))

    rises : (c : Channel) → AreInTurn (on c)
    rises c = rising (start_frame t) (on c)
        (per_channel t rate.0 media drop wide calm carried rate.1
        (λ es. EventsHold Any (start_frame t) es) c tt
        (λ l a f. track_holds Any rate.0 (start_frame t) media drop wide
        (any_sides (job rate.0 (start_frame t) media drop wide)) c l a f))

    channel : (c : Channel) → map unnumbered (on_channel c events) ≡ on c
    channel c =
        counted_channel c 1 (merged (three on))
        ∙ ap (λ l. map unnumbered l)
        (merged_channel c (three on)
        (subst AreInTurn (sym (on_three c on loose)) (rises c)) ∙ on_three c on loose)
        ∙ loose_plain c (on c) (loose c)
