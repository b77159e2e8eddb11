-- What is said of a timeline, and its list.
use Rattle.std.proofs.Common.{◌≡◌, sym, ap, ap₂, subst, ◌∙◌, ℕ, ◌+◌, ◌<◌, ◌≤◌, ◌^◌, Bool, true, false, cond, List, [], ◌∷◌, ◌++◌, AllPairs, map, length, get_or, Some, None, arith}
use Rattle.std.specs.Prelude.{nat_lt, slice_get}
use Rattle.std.proofs.lemmas.List.{length-map}
use Rattle.std.proofs.Math.ListN.{get_or-map}
use Rattle.otio_model.specs.declared.compositions.ItemOf.{ItemOf}
use Rattle.otio_model.specs.declared.compositions.Listed.{Listed}
use Rattle.otio_model.specs.declared.timelines.Timeline.{Timeline}
use Rattle.otio_model.specs.Trees.{items_of}
use Rattle.edl_list.specs.declared.list.Channel.{Channel}
use Rattle.edl_list.specs.declared.list.Channel.TheVariants.{V, A, A2}
use Rattle.edl_list.specs.declared.list.Event.{Event}
use Rattle.edl_list.specs.declared.list.EventList.{EventList}
use Rattle.edl_list.specs.Formed.{AreInOrder}
use Rattle.edl_list.specs.Layouts.{layout_of, most_events}
use Rattle.coord.specs.Keys.{frame_rate}
use Rattle.coord.specs.Programs.{record_rate}
use Rattle.edl_frames.specs.declared.reasons.Why.TheVariants as W
use Rattle.edl_frames.specs.declared.reasons.NotCarried.{NotCarried}
use Rattle.edl_frames.specs.declared.reasons.NotCarried.TheVariants.{At, Memory}
use Rattle.edl_frames.specs.Shown.{on_channel}
use Rattle.media_rows.specs.Rows.{MediaRows}
use Rattle.edl_frames.specs.Channels.{channel_track}
use Rattle.edl_frames.specs.Jobs.{Job, job_of, mode_in}
use Rattle.edl_frames.specs.Seats.{is_there}
use Rattle.edl_frames.specs.ChildEvents.{events_on, events_count, unnumbered}
use Rattle.edl_frames.specs.Carried.{Examined, examine_all, first_said, too_many, not_carried, IsListOf, IsNotCarried}
use Rattle.edl_conform.specs.Walk.{AreRising, AreGathered, AreListed, IsSaid}
use Rattle.edl_conform.proofs.FirstSaid.{skipped, said_here, said_behind, said_before}
use Rattle.edl_conform.proofs.ChannelEvents.{track_is_unlined, without_lines, all_channels, on-unnumbered}

-- ---- what is said

-- what is said of the timeline itself, before all children
abbrev timed : Timeline → Bool → Examined
timed t drop = ([], cond (is_there (mode_in (record_rate t) drop)) None (Some W.NoTimecode))

-- of its children, and behind them of their number
abbrev rest_said : Job → List (ItemOf Listed) → List Examined
rest_said j items = examine_all j 0 [] items ++ ([], too_many j items) ∷ []

no_mode : (t : Timeline) (drop : Bool) → mode_in (record_rate t) drop ≡ None
    → (timed t drop).1 ≡ Some W.NoTimecode
no_mode t drop e = ap (λ o. cond (is_there o) None (Some W.NoTimecode)) e

pub no_timecode : (t : Timeline) (media : MediaRows) (drop wide : Bool) (fault : NotCarried)
    → mode_in (record_rate t) drop ≡ None → IsSaid (Some ([], W.NoTimecode)) fault
    → IsNotCarried t media drop wide fault
no_timecode t media drop wide (At place why) e said =
    said_here (timed t drop) (rest_said (job_of t media drop wide) (items_of t.tracks.children))
    W.NoTimecode (no_mode t drop e) ∙ said
no_timecode t media drop wide Memory e said = tt

-- the job of a timeline whose record rate has timecode in the mode
pub record IsJob (t : Timeline) (media : MediaRows) (drop wide : Bool) (j : Job) : Type 0 where
  pub mode : is_there (mode_in (record_rate t) drop) ≡ true
  pub is : j ≡ job_of t media drop wide

behind_timed : (t : Timeline) (media : MediaRows) (drop wide : Bool) (j : Job)
    → IsJob t media drop wide j
    → not_carried t media drop wide ≡ first_said (rest_said j (items_of t.tracks.children))
behind_timed t media drop wide j is =
    skipped (timed t drop) (rest_said (job_of t media drop wide) (items_of t.tracks.children))
    (ap (λ b. cond b None (Some W.NoTimecode)) is.mode)
    ∙ ap (λ j. first_said (rest_said j (items_of t.tracks.children))) (sym is.is)

pub children_said : (t : Timeline) (media : MediaRows) (drop wide : Bool) (j : Job)
    (fault : NotCarried) → IsJob t media drop wide j
    → IsSaid (first_said (examine_all j 0 [] (items_of t.tracks.children))) fault
    → IsNotCarried t media drop wide fault
children_said t media drop wide j (At place why) is said =
    behind_timed t media drop wide j is
    ∙ said_before (examine_all j 0 [] (items_of t.tracks.children))
    (([], too_many j (items_of t.tracks.children)) ∷ []) (place, why) said
children_said t media drop wide j Memory is said = tt

-- so many events are counted
counted : (j : Job) (items : List (ItemOf Listed)) (events : List Event)
    → AreGathered j items events → events_count j items ≡ length events
counted j items events g =
    let v = ap length (g.on V) in let a = ap length (g.on A) in let b = ap length (g.on A2) in
    let all = all_channels events in omega (arith, v, a, b, all)

layout_is : (t : Timeline) (media : MediaRows) (drop wide : Bool) (j : Job)
    → IsJob t media drop wide j → most_events j.layout ≡ most_events (layout_of wide)
layout_is t media drop wide j is = ap (λ (j : Job). most_events j.layout) is.is

above : (m n : ℕ) → m < n → nat_lt m n ≡ true
above m n h = grind (arith, h)

within : (m n : ℕ) → n ≤ m → nat_lt m n ≡ false
within m n h = grind (arith, h)

number_said : (t : Timeline) (media : MediaRows) (drop wide : Bool) (j : Job)
    → IsJob t media drop wide j
    → first_said (examine_all j 0 [] (items_of t.tracks.children)) ≡ None
    → not_carried t media drop wide
    ≡ first_said (([], too_many j (items_of t.tracks.children)) ∷ [])
number_said t media drop wide j is none =
    behind_timed t media drop wide j is
    ∙ said_behind (examine_all j 0 [] (items_of t.tracks.children))
    (([], too_many j (items_of t.tracks.children)) ∷ []) none

test_is : (t : Timeline) (media : MediaRows) (drop wide : Bool) (j : Job) (events : List Event)
    (b : Bool) → IsJob t media drop wide j
    → AreGathered j (items_of t.tracks.children) events
    → nat_lt (most_events (layout_of wide)) (length events) ≡ b
    → too_many j (items_of t.tracks.children) ≡ cond b (Some W.Events) None
test_is t media drop wide j events b is g e =
    ap₂ (λ m n. cond (nat_lt m n) (Some W.Events) None) (layout_is t media drop wide j is)
    (counted j (items_of t.tracks.children) events g)
    ∙ ap (λ b. cond b (Some W.Events) None) e

pub many_said : (t : Timeline) (media : MediaRows) (drop wide : Bool) (j : Job)
    (events : List Event) (fault : NotCarried) → IsJob t media drop wide j
    → first_said (examine_all j 0 [] (items_of t.tracks.children)) ≡ None
    → AreGathered j (items_of t.tracks.children) events
    → most_events (layout_of wide) < length events → IsSaid (Some ([], W.Events)) fault
    → IsNotCarried t media drop wide fault
many_said t media drop wide j events (At place why) is none g many said =
    number_said t media drop wide j is none
    ∙ said_here ([], too_many j (items_of t.tracks.children)) [] W.Events
    (test_is t media drop wide j events true is g
    (above (most_events (layout_of wide)) (length events) many)) ∙ said
many_said t media drop wide j events Memory is none g many said = tt

pub none_is_said : (t : Timeline) (media : MediaRows) (drop wide : Bool) (j : Job)
    (events : List Event) → IsJob t media drop wide j
    → first_said (examine_all j 0 [] (items_of t.tracks.children)) ≡ None
    → AreGathered j (items_of t.tracks.children) events
    → length events ≤ most_events (layout_of wide) → not_carried t media drop wide ≡ None
none_is_said t media drop wide j events is none g few =
    number_said t media drop wide j is none
    ∙ skipped ([], too_many j (items_of t.tracks.children)) []
    (test_is t media drop wide j events false is g
    (within (most_events (layout_of wide)) (length events) few))

-- ---- the list

order_kept : (xs ys : List Event) → map unnumbered xs ≡ map unnumbered ys
    → AllPairs AreInOrder ys → AllPairs AreInOrder xs
order_kept xs ys same order i k d less there =
    subst (λ z. AreInOrder (get_or xs i d) z) (at k)
    (subst (λ z. AreInOrder z (unnumbered (get_or ys k d))) (at i)
    (order i k d less (omega (arith, there, long))))
  where
    long : length xs ≡ length ys
    long =
        sym (length-map xs unnumbered) ∙ ap length same ∙ length-map ys unnumbered

    at : (n : ℕ) → unnumbered (get_or ys n d) ≡ unnumbered (get_or xs n d)
    at n =
        sym (get_or-map unnumbered ys n d)
        ∙ ap (λ l. get_or l n (unnumbered d)) (sym same) ∙ get_or-map unnumbered xs n d

-- events that were put in order and then numbered
pub are_listed : (gathered sorted numbered : List Event) → AllPairs AreInOrder sorted
    → ((c : Channel) → AreRising (on_channel c gathered)
    → on_channel c sorted ≡ on_channel c gathered)
    → map unnumbered numbered ≡ map unnumbered sorted
    → ((i : ℕ) (e : Event) → slice_get numbered i ≡ Some e → e.line ≡ i + 1)
    → AreListed gathered numbered
are_listed gathered sorted numbered order channels same lines = record {
  order = order_kept numbered sorted same order;
  channels = λ c rising.
      on-unnumbered c numbered ∙ ap (on_channel c) same ∙ sym (on-unnumbered c sorted)
      ∙ ap (map unnumbered) (channels c rising);
  lines = lines;
}

channel_is : (j : Job) (items : List (ItemOf Listed)) (gathered events : List Event) (c : Channel)
    → AreGathered j items gathered → AreListed gathered events
    → map unnumbered (on_channel c events) ≡ events_on j c (channel_track c items)
channel_is j items gathered events c g l =
    l.channels c (subst AreRising (sym (g.on c)) (g.rising c)) ∙ ap (map unnumbered) (g.on c)
    ∙ without_lines c (events_on j c (channel_track c items))
    (track_is_unlined j c (channel_track c items))

pub is_list : (t : Timeline) (media : MediaRows) (drop wide : Bool) (j : Job) (list : EventList)
    (gathered : List Event) → IsJob t media drop wide j
    → AreGathered j (items_of t.tracks.children) gathered → AreListed gathered list.events
    → list.title ≡ t.name → frame_rate list.rate ≡ j.rate → list.drop ≡ drop
    → IsListOf t media drop wide list
is_list t media drop wide j list gathered is g l title rate mode = record {
  title = title;
  rate = rate ∙ ap (λ (j : Job). j.rate) is.is;
  mode = mode;
  events = λ c.
      channel_is j (items_of t.tracks.children) gathered list.events c g l
      ∙ ap (λ j. events_on j c (channel_track c (items_of t.tracks.children))) is.is;
  order = l.order;
  numbered = l.lines;
}

-- a list has a line for each of its events
pub few_lines : (wide : Bool) (n : ℕ) → n ≤ most_events (layout_of wide) → n < 2 ^ 32
few_lines true n h = omega (arith, h)
few_lines false n h = omega (arith, h)
