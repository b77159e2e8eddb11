-- Markers and color corrections change nothing that is shown.
use Rattle.std.proofs.Common.{◌≡◌, ℕ, zero, suc, ℤ, pos, Bool, true, false, cond, List, [], ◌∷◌, ◌++◌, Option, Some, None, codes, map, slice_get, refl, sym, ap, ap₂, ◌∙◌}
use Rattle.std.specs.Prelude.{option_and_then}
use Rattle.sequences.specs.Pairs.{value_of}
use Rattle.json_value.specs.declared.Json.{Json, Map, out-Json}
use Rattle.tick_time.specs.declared.times.Time.{Time}
use Rattle.otio_model.specs.declared.compositions.Clip.{Clip as ClipRow}
use Rattle.otio_model.specs.declared.compositions.ItemOf.{ItemOf}
use Rattle.otio_model.specs.declared.compositions.ItemOf.TheVariants.{Clip, Gap, Transition, Stack, Track}
use Rattle.otio_model.specs.declared.compositions.Listed.{Listed}
use Rattle.otio_model.specs.declared.compositions.Listed.TheViews.{out-roll-Listed}
use Rattle.otio_model.specs.declared.compositions.TrackOf.{TrackOf}
use Rattle.otio_model.specs.declared.timelines.Timeline.{Timeline}
use Rattle.otio_model.specs.Trees.{items_of, listed}
use Rattle.otio_model.specs.Lengths.{active_media, length_by, trimmed_start}
use Rattle.otio_model.specs.Lengths.{or_zero}
use Rattle.otio_model.specs.Overlaps.{within}
use Rattle.coord.specs.Looks.{Blank, FrameRate}
use Rattle.coord.specs.Images.{image}
use Rattle.coord.specs.Keys.{text_in, member_in, reel_or_name, media_key, media_rate}
use Rattle.coord.specs.Speeds.{speed_of, media_at}
use Rattle.coord.specs.Sights.{Sight, viewer, framed, sight, sights, sight_by, lengths_seen}
use Rattle.coord.specs.Programs.{program, instant, kind_of, child_shows, shown_by}
use Rattle.coord.proofs.SightLemmas.{sights-listed, sights-items}
use Rattle.edl_list.specs.declared.list.Channel.{Channel}
use Rattle.edl_list.specs.declared.list.Channel.TheVariants.{V, A, A2}
use Rattle.edl_list.specs.declared.list.Event.{Event}
use Rattle.edl_list.specs.declared.list.EventList.{EventList}
use Rattle.edl_frames.specs.Carried.{channel_of}
use Rattle.edl_frames.specs.Channels.{KeySeen, keyed_child_shows, keyed_shown, is_track_of, nth_track, channel_track, on_by}
use Rattle.tick_time.specs.declared.rates.Rate.{Rate}
use Rattle.sequences.proofs.LatestLemmas.{value_of-put}
use Rattle.note_text.specs.Noted.{IsNotedItem, AreNotedChildren, AreNotedBelow, IsNotedRoot, AreNotedRoots, IsNoted, said_of, with_colors, colors_of, end, noted, other}
use Rattle.note_text.specs.declared.notes.Said.{Said}
use Rattle.note_text.specs.declared.notes.Note.{Note}

-- the member `cdl` isn't the one that tells of the reel
reel_member : (colors metadata : List (List ℕ × Json)) → value_of (codes "cmx_3600") (with_colors colors metadata) ≡ value_of (codes "cmx_3600") metadata
reel_member [] metadata = refl
reel_member (color ∷ colors) metadata = value_of-put (codes "cmx_3600") (codes "cdl") (Map (color ∷ colors)) metadata

-- the reel that a member tells of
abbrev reel_by : Option Json → Option (List ℕ)
reel_by told = option_and_then (λ j. text_in (out-Json j)) (option_and_then (λ j. member_in (codes "reel") (out-Json j)) told)

-- how a clip looks that has this member
abbrev clip_sight : ClipRow → Option Json → Sight
clip_sight c told = record {
  length = length_by (λ l. lengths_seen (sights l)) (Clip c);
  shows = λ v u. cond c.enabled
      (framed v (v.key (reel_by told) (media_key (active_media c) (reel_or_name (reel_by told) c.name)))
      (media_at (trimmed_start {C = Listed} (Clip c)) (speed_of {C = Listed} (Clip c)) u) (media_rate c)) Blank;
  overlap = None;
}

-- an item with notes looks as it did
noted_looks : (rate : Rate) (e : Event) (said : List Said) (x y : ItemOf Listed) → IsNotedItem rate e said x y → sight y ≡ sight x
noted_looks rate e said (Clip c) y h = ap sight h.2 ∙ ap (clip_sight c) (reel_member (colors_of said) c.metadata)
noted_looks rate e said (Gap g) y h = ap sight h.2
noted_looks rate e said (Transition t) y h = ap sight h
noted_looks rate e said (Stack s) y h = ap sight h
noted_looks rate e said (Track t) y h = ap sight h

children_look : (list : EventList) (notes : List Note) (c : Channel) (xs ys : List (ItemOf Listed)) (start : ℤ) → AreNotedChildren list notes c start xs ys → map sight ys ≡ map sight xs
children_look list notes c [] [] start (end s) = refl
children_look list notes c [] (y ∷ ys) start h = elim h [ ]
children_look list notes c (x ∷ xs) [] start h = elim h [ ]
children_look list notes c (x ∷ xs) (y ∷ ys) start (noted s a b us vs index e at is more) =
    ap (λ l. sight y ∷ l) (children_look list notes c xs ys _ more) ∙ ap (λ z. z ∷ map sight xs) (noted_looks list.rate e (said_of index notes) x y is)
children_look list notes c (x ∷ xs) (y ∷ ys) start (other s a us vs none more) =
    ap (λ l. sight x ∷ l) (children_look list notes c xs ys _ more)

below_look : (list : EventList) (notes : List Note) (o : Option Channel) (xs ys : List (ItemOf Listed)) → AreNotedBelow list notes o xs ys → map sight ys ≡ map sight xs
below_look list notes None xs ys h = ap (map sight) h
below_look list notes (Some c) xs ys h = children_look list notes c xs ys (pos 0) h

-- how a track looks whose children look so
abbrev track_sight : TrackOf Listed → List Sight → Sight
track_sight t seen = sight_by (λ l. seen) (Track t)

track_looks : (t : TrackOf Listed) (ys : List (ItemOf Listed)) → map sight ys ≡ map sight (items_of t.children) → sight (Track (record t { children = listed ys })) ≡ sight (Track t)
track_looks t ys e = ap (track_sight t) (sights-listed ys ∙ e ∙ sym (sights-items t.children))

-- a root child looks as it did, and is of the same kind
record LooksSame (x y : ItemOf Listed) : Type 0 where
  pub looks : sight y ≡ sight x
  pub kind : kind_of y ≡ kind_of x
  pub track : (k : List ℕ) → is_track_of k y ≡ is_track_of k x

same : (x y : ItemOf Listed) → y ≡ x → LooksSame x y
same x y e = record { looks = ap sight e; kind = ap kind_of e; track = λ k. ap (is_track_of k) e }

root_looks : (list : EventList) (notes : List Note) (past : List (ItemOf Listed)) (x y : ItemOf Listed) → IsNotedRoot list notes past x y → LooksSame x y
root_looks list notes past (Clip c) y h = same (Clip c) y h
root_looks list notes past (Gap g) y h = same (Gap g) y h
root_looks list notes past (Transition t) y h = same (Transition t) y h
root_looks list notes past (Stack s) y h = same (Stack s) y h
root_looks list notes past (Track t) y h = record {
  looks = ap sight h.2 ∙ track_looks t h.0 (below_look list notes (channel_of past t) (items_of t.children) h.0 h.1);
  kind = ap kind_of h.2;
  track = λ k. ap (is_track_of k) h.2;
}

-- what a root child shows, by how it looks and its kind
child_same : (rate_kept : FrameRate → FrameRate) (x y : ItemOf Listed) (u : ℤ) → LooksSame x y → child_shows rate_kept y u ≡ child_shows rate_kept x u
child_same rate_kept x y u s = ap₂ (λ z k. cond (within (pos 0) (pos (or_zero z.length)) u) (z.shows (viewer rate_kept k) u) Blank) s.looks s.kind

keyed_same : (key : KeySeen) (x y : ItemOf Listed) (u : ℤ) → LooksSame x y → keyed_child_shows key y u ≡ keyed_child_shows key x u
keyed_same key x y u s = ap₂ (λ z k. cond (within (pos 0) (pos (or_zero z.length)) u) (z.shows (record { kind = k; rate_kept = λ rate. rate; key = key }) u) Blank) s.looks s.kind

roots_show : (rate_kept : FrameRate → FrameRate) (list : EventList) (notes : List Note) (past xs ys : List (ItemOf Listed)) → AreNotedRoots list notes past xs ys → (k : ℕ) (u : ℤ)
    → shown_by rate_kept (slice_get ys k) u ≡ shown_by rate_kept (slice_get xs k) u
roots_show rate_kept list notes past [] ys h k u = ap (λ l. shown_by rate_kept (slice_get l k) u) h
roots_show rate_kept list notes past (x ∷ xs) ys h zero u =
    ap (λ l. shown_by rate_kept (slice_get l 0) u) h.2 ∙ child_same rate_kept x h.0 u (root_looks list notes past x h.0 h.3)
roots_show rate_kept list notes past (x ∷ xs) ys h (suc k) u =
    ap (λ l. shown_by rate_kept (slice_get l (suc k)) u) h.2 ∙ roots_show rate_kept list notes (past ++ x ∷ []) xs h.1 h.4 k u

first_by : (key : KeySeen) (kind : List ℕ) (x y : ItemOf Listed) (xs ys : List (ItemOf Listed)) (u : ℤ) (t : Bool) → is_track_of kind x ≡ t → LooksSame x y
    → keyed_shown key (nth_track kind 0 ys) u ≡ keyed_shown key (nth_track kind 0 xs) u
    → keyed_shown key (nth_track kind 0 (y ∷ ys)) u ≡ keyed_shown key (nth_track kind 0 (x ∷ xs)) u
first_by key kind x y xs ys u true e s more = rw (s.track kind, e) (ap image (keyed_same key x y u s))
first_by key kind x y xs ys u false e s more = rw (s.track kind, e) more

later_by : (key : KeySeen) (kind : List ℕ) (i : ℕ) (x y : ItemOf Listed) (xs ys : List (ItemOf Listed)) (u : ℤ) (t : Bool) → is_track_of kind x ≡ t → LooksSame x y
    → keyed_shown key (nth_track kind i ys) u ≡ keyed_shown key (nth_track kind i xs) u
    → keyed_shown key (nth_track kind (suc i) ys) u ≡ keyed_shown key (nth_track kind (suc i) xs) u
    → keyed_shown key (nth_track kind (suc i) (y ∷ ys)) u ≡ keyed_shown key (nth_track kind (suc i) (x ∷ xs)) u
later_by key kind i x y xs ys u true e s fewer more = rw (s.track kind, e) fewer
later_by key kind i x y xs ys u false e s fewer more = rw (s.track kind, e) more

tracks_show : (key : KeySeen) (list : EventList) (notes : List Note) (kind : List ℕ) (i : ℕ) (past xs ys : List (ItemOf Listed)) → AreNotedRoots list notes past xs ys → (u : ℤ)
    → keyed_shown key (nth_track kind i ys) u ≡ keyed_shown key (nth_track kind i xs) u
tracks_show key list notes kind i past [] ys h u = ap (λ l. keyed_shown key (nth_track kind i l) u) h
tracks_show key list notes kind zero past (x ∷ xs) ys h u =
    ap (λ l. keyed_shown key (nth_track kind 0 l) u) h.2
    ∙ first_by key kind x h.0 xs h.1 u (is_track_of kind x) refl (root_looks list notes past x h.0 h.3) (tracks_show key list notes kind 0 (past ++ x ∷ []) xs h.1 h.4 u)
tracks_show key list notes kind (suc i) past (x ∷ xs) ys h u =
    ap (λ l. keyed_shown key (nth_track kind (suc i) l) u) h.2
    ∙ later_by key kind i x h.0 xs h.1 u (is_track_of kind x) refl (root_looks list notes past x h.0 h.3)
    (tracks_show key list notes kind i (past ++ x ∷ []) xs h.1 h.4 u) (tracks_show key list notes kind (suc i) (past ++ x ∷ []) xs h.1 h.4 u)

channel_shows : (key : KeySeen) (list : EventList) (notes : List Note) (c : Channel) (xs ys : List (ItemOf Listed)) → AreNotedRoots list notes [] xs ys → (u : ℤ)
    → keyed_shown key (channel_track c ys) u ≡ keyed_shown key (channel_track c xs) u
channel_shows key list notes V xs ys h u = tracks_show key list notes (codes "Video") 0 [] xs ys h u
channel_shows key list notes A xs ys h u = tracks_show key list notes (codes "Audio") 0 [] xs ys h u
channel_shows key list notes A2 xs ys h u = tracks_show key list notes (codes "Audio") 1 [] xs ys h u

-- the start is kept, and with it the instant of each record frame
start_same : (t r : Timeline) (list : EventList) (notes : List Note) → IsNoted t list notes r → r.global_start_time ≡ t.global_start_time
start_same t r list notes h = ap (λ z. z.global_start_time) h.is

instant_same : (t r : Timeline) (start : Time) (n : ℤ) → t.global_start_time ≡ Some start → r.global_start_time ≡ Some start → instant r n ≡ instant t n
instant_same t r start n e f = rw (e, f) refl

items_same : (t r : Timeline) (list : EventList) (notes : List Note) → (h : IsNoted t list notes r) → items_of r.tracks.children ≡ h.roots
items_same t r list notes h = ap (λ z. items_of z.tracks.children) h.is ∙ ap (λ l. l.list) (out-roll-Listed (record { list = h.roots }))

pub keeps_program : (t r : Timeline) (list : EventList) (notes : List Note) (start : Time) → t.global_start_time ≡ Some start → IsNoted t list notes r → (k : ℕ) (n : ℤ)
    → program r k n ≡ program t k n
keeps_program t r list notes start e h k n =
    let f = start_same t r list notes h ∙ e in
    ap (λ l. shown_by (λ rate. rate) (slice_get l k) (instant r n)) (items_same t r list notes h)
    ∙ roots_show (λ rate. rate) list notes [] (items_of t.tracks.children) h.roots h.are k (instant r n)
    ∙ ap (shown_by (λ rate. rate) (slice_get (items_of t.tracks.children) k)) (instant_same t r start n e f)

pub keeps_on : (key : KeySeen) (t r : Timeline) (list : EventList) (notes : List Note) (start : Time) → t.global_start_time ≡ Some start → IsNoted t list notes r → (c : Channel) (n : ℤ)
    → on_by key r c n ≡ on_by key t c n
keeps_on key t r list notes start e h c n =
    let f = start_same t r list notes h ∙ e in
    ap (λ l. keyed_shown key (channel_track c l) (instant r n)) (items_same t r list notes h)
    ∙ channel_shows key list notes c (items_of t.tracks.children) h.roots h.are (instant r n)
    ∙ ap (keyed_shown key (channel_track c (items_of t.tracks.children))) (instant_same t r start n e f)
