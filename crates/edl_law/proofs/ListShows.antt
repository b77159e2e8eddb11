-- The list of a timeline shows what the timeline shows.
use Rattle.std.proofs.Common.{◌≡◌, refl, sym, ap, ap₂, subst, ◌∙◌, ℕ, suc, zero, ◌+◌, ◌==◌, ◌≤◌, ℤ, pos, ◌+ℤ◌, ◌-ℤ◌, ◌*ℤ◌, ◌&&◌, Bool, true, false, not, cond, List, [], ◌∷◌, ◌++◌, map, Option, Some, None, slice_get, arith}
use Rattle.std.specs.Prelude.{codes, nat_le, length, option_and_then}
use Rattle.std.specs.Str.{bytes_eq}
use Rattle.std.proofs.lemmas.Slice.Eq.{bytes_eq-Decides}
use Rattle.tick_time.specs.declared.rates.Rate.{Rate}
use Rattle.tick_time.specs.declared.spans.Span.{Span}
use Rattle.otio_model.specs.declared.effect_types.Effect.{Effect}
use Rattle.otio_model.specs.declared.compositions.TrackOf.{TrackOf}
use Rattle.otio_model.specs.declared.compositions.ItemOf.{ItemOf}
use Rattle.otio_model.specs.declared.compositions.ItemOf.TheVariants.{Clip, Gap, Transition, Stack, Track}
use Rattle.otio_model.specs.declared.compositions.Listed.{Listed}
use Rattle.otio_model.specs.declared.timelines.Timeline.{Timeline}
use Rattle.otio_model.specs.Trees.{items_of}
use Rattle.otio_model.specs.Lengths.{length_of, or_zero, trimmed_start}
use Rattle.edl_list.specs.declared.list.Channel.{Channel}
use Rattle.edl_list.specs.declared.list.Channel.TheVariants.{V, A, A2}
use Rattle.edl_list.specs.declared.list.Event.{Event}
use Rattle.edl_list.specs.declared.list.EventList.{EventList}
use Rattle.coord.specs.Looks.{Blank, track_shows}
use Rattle.coord.specs.Sights.{sight, sights, seen}
use Rattle.coord.specs.Speeds.{media_at, speed_of}
use Rattle.coord.specs.Programs.{instant, start_frame, record_rate, frame_ticks}
use Rattle.coord.specs.Soundness.{IsSound, fault_of, ranged_fault}
use Rattle.coord.specs.declared.faults.ItemFault.{ItemFault}
use Rattle.coord.specs.declared.faults.ItemFault.TheVariants.{NoLength}
use Rattle.coord.specs.Images.{Empty, image}
use Rattle.edl_frames.specs.Shown.{events_show, event_shows, on_channel, shown}
use Rattle.media_rows.specs.Rows.{MediaRows}
use Rattle.edl_frames.specs.Channels.{KeySeen, keyed_child_shows, is_track_of, nth_track, channel_track, keyed_shown, on_by}
use Rattle.edl_frames.specs.declared.reasons.Why.{Why}
use Rattle.edl_frames.specs.Jobs.{Job, job_of, mode_in}
use Rattle.edl_frames.specs.Seats.{Past, head, seats, past_by, length_in, is_there}
use Rattle.edl_frames.specs.ChildReasons.{reason_of}
use Rattle.edl_frames.specs.Carried.{too_many, Examined, examine_seats, examine_track, examine, examine_all, first_said, count_of_kind, channel_of, is_plain, not_carried, IsListOf}
use Rattle.edl_frames.specs.ChildEvents.{track_events, events_on, unnumbered}
use Rattle.edl_frames.specs.declared.reasons.Why.TheVariants as W
use Rattle.coord.specs.Sights.{overlap_of}
use Rattle.edl_law.proofs.CalmItems.{calm_tracks}
use Rattle.coord.specs.Soundness.{IsCalm}
use Rattle.edl_law.specs.Premises.{KnowsKeys}
use Rattle.edl_law.proofs.ItemLooks.{ticks}
use Rattle.edl_law.proofs.SideLooks.{job, same_job}
use Rattle.edl_law.proofs.ReasonFacts.{AreFree}
use Rattle.edl_law.proofs.TrackEvents.{track_is_written}
use Rattle.otio_model.specs.Overlaps.{within}
use Rattle.tick_time.proofs.BoolLemmas.{both}

-- ---- nothing is said

pub nothing_first : (p : Examined) (ps : List Examined) → first_said (p ∷ ps) ≡ None
    → (p.1 ≡ None) × (first_said ps ≡ None)
nothing_first p ps e = by p.1 refl e
  where
    by : (o : Option Why) → p.1 ≡ o → ◌≡◌ {A = Option (List ℕ × Why)}
        (elim o [ None ↦ first_said ps | Some why ↦ Some (p.0, why) ]) None
        → (p.1 ≡ None) × (first_said ps ≡ None)
    by None f g = (f, g)
    by (Some why) f g = absurd (cc g)

pub nothing_both : (ps qs : List Examined) → first_said (ps ++ qs) ≡ None
    → (first_said ps ≡ None) × (first_said qs ≡ None)
nothing_both [] qs e = (refl, e)
nothing_both (p ∷ ps) qs e =
    let n = nothing_first p (ps ++ qs) e in let m = nothing_both ps qs n.1 in
    (ap (λ o. elim o [ None ↦ first_said ps | Some why ↦ Some (p.0, why) ]) n.0 ∙ m.0, m.1)

seats_free : (j : Job) (c : Channel) (k i : ℕ) (u : ℤ) (past : Past) (l : List (ItemOf Listed))
    → first_said (examine_seats j c k i (seats u past l)) ≡ None → AreFree j c u past l
seats_free j c k i u past [] e = tt
seats_free j c k i u past (x ∷ l) e =
    let n =
    nothing_first
    (k ∷ i ∷ [], reason_of j c (record { item = x; start = u; past = past; next = l }))
    (examine_seats j c k (suc i) (seats (u +ℤ length_in x) (past_by (overlap_of x) x u past) l))
    e in
    (n.0, seats_free j c k (suc i) (u +ℤ length_in x) (past_by (overlap_of x) x u past) l n.1)

-- what is known of a track of which nothing is said
pub record Said (j : Job) (c : Channel) (x : ItemOf Listed) : Type 0 where
  pub track : TrackOf Listed
  pub is : x ≡ Track track
  pub plain : track.enabled ≡ true → is_plain track ≡ true
  pub free : track.enabled ≡ true → AreFree j c (pos 0) head (items_of track.children)

plain_by : (b : Bool) → ◌≡◌ {A = Option Why} (cond b None (Some W.Nested)) None → b ≡ true
plain_by true e = refl
plain_by false e = absurd (cc e)

said_of : (j : Job) (k : ℕ) (t : TrackOf Listed) (c : Channel)
    → first_said (examine_track j k t (Some c)) ≡ None → Said j c (Track t)
said_of j k t c e = record {
  track = t;
  is = refl;
  plain = λ on. plain_by (is_plain t)
      (nothing_first (k ∷ [], cond (is_plain t) None (Some W.Nested))
      (examine_seats j c k 0 (seats (pos 0) head (items_of t.children))) (shut on)).0;
  free = λ on. seats_free j c k 0 (pos 0) head (items_of t.children)
      (nothing_first (k ∷ [], cond (is_plain t) None (Some W.Nested))
      (examine_seats j c k 0 (seats (pos 0) head (items_of t.children))) (shut on)).1;
}
  where
    shut : t.enabled ≡ true → first_said
        ((k ∷ [], cond (is_plain t) None (Some W.Nested)) ∷ examine_seats j c k 0
        (seats (pos 0) head (items_of t.children))) ≡ None
    shut on =
        sym
        (ap
        (λ b.
        first_said
        (cond b ((k ∷ [], cond (is_plain t) None (Some W.Nested)) ∷ examine_seats j c k 0
        (seats (pos 0) head (items_of t.children))) [])) on) ∙ e

count_more : (kind : List ℕ) (past : List (ItemOf Listed)) (t : TrackOf Listed)
    → count_of_kind kind (past ++ (Track t ∷ [])) ≡ count_of_kind kind past + cond
    (bytes_eq t.kind kind) 1 0
count_more kind [] t = omega arith
count_more kind ((Clip c) ∷ l) t = count_more kind l t
count_more kind ((Gap c) ∷ l) t = count_more kind l t
count_more kind ((Transition c) ∷ l) t = count_more kind l t
count_more kind ((Stack c) ∷ l) t = count_more kind l t
count_more kind ((Track c) ∷ l) t = let m = count_more kind l t in omega (arith, m)

-- the track with so many others of its kind before it is that of a channel
Assigns : List ℕ → ℕ → Channel → Type 0
Assigns kind r c = (past : List (ItemOf Listed)) (t : TrackOf Listed) → bytes_eq t.kind kind ≡ true
    → count_of_kind kind past ≡ r → channel_of past t ≡ Some c

chosen : (j : Job) (kind : List ℕ) (r : ℕ) (c : Channel) (k i : ℕ) (past l : List (ItemOf Listed))
    (x : ItemOf Listed) → Assigns kind r c → count_of_kind kind past + i ≡ r
    → first_said (examine_all j k past l) ≡ None → nth_track kind i l ≡ Some x → Said j c x
unfolding Assigns
chosen j kind r c k i past [] x assigns count e is = absurd (cc is)
chosen j kind r c k i past ((Clip p) ∷ l) x assigns count e is =
    absurd
    (cc (nothing_both (examine j k past (Clip p)) (examine_all j (suc k) (past ++ (Clip p ∷ [])) l)
    e).0)
chosen j kind r c k i past ((Gap p) ∷ l) x assigns count e is =
    absurd
    (cc (nothing_both (examine j k past (Gap p)) (examine_all j (suc k) (past ++ (Gap p ∷ [])) l)
    e).0)
chosen j kind r c k i past ((Transition p) ∷ l) x assigns count e is =
    absurd
    (cc (nothing_both (examine j k past (Transition p))
    (examine_all j (suc k) (past ++ (Transition p ∷ [])) l) e).0)
chosen j kind r c k i past ((Stack p) ∷ l) x assigns count e is =
    absurd
    (cc (nothing_both (examine j k past (Stack p))
    (examine_all j (suc k) (past ++ (Stack p ∷ [])) l) e).0)
chosen j kind r c k zero past ((Track t) ∷ l) x assigns count e is =
    here (bytes_eq t.kind kind) refl
    (nothing_both (examine j k past (Track t))
    (examine_all j (suc k) (past ++ (Track t ∷ [])) l) e) is
    (λ h n q. chosen j kind r c (suc k) zero (past ++ (Track t ∷ [])) l x assigns
    (let m = count_more kind past t in let g = ap {B = ℕ} (λ t. cond t 1 0) h in
    omega (arith, m, g, count)) n q)
  where
    here : (b : Bool) → bytes_eq t.kind kind ≡ b → (first_said (examine j k past (Track t)) ≡ None)
        × (first_said (examine_all j (suc k) (past ++ (Track t ∷ [])) l) ≡ None)
        → cond b (Some (Track t)) (nth_track kind zero l) ≡ Some x
        → (bytes_eq t.kind kind ≡ false
        → first_said (examine_all j (suc k) (past ++ (Track t ∷ [])) l) ≡ None
        → nth_track kind zero l ≡ Some x → Said j c x) → Said j c x
    here true h n q more =
        let channel = assigns past t h (omega (arith, count)) in
        let same : Track t ≡ x = cc q in
        subst (Said j c) same
        (said_of j k t c (sym (ap (λ o. first_said (examine_track j k t o)) channel) ∙ n.0))
    here false h n q more = more h n.1 q
chosen j kind r c k (suc i) past ((Track t) ∷ l) x assigns count e is =
    here (bytes_eq t.kind kind) refl
    (nothing_both (examine j k past (Track t))
    (examine_all j (suc k) (past ++ (Track t ∷ [])) l) e).1 is
    (λ h n q. chosen j kind r c (suc k) i (past ++ (Track t ∷ [])) l x assigns
    (let m = count_more kind past t in let g = ap {B = ℕ} (λ t. cond t 1 0) h in
    omega (arith, m, g, count)) n q)
    (λ h n q. chosen j kind r c (suc k) (suc i) (past ++ (Track t ∷ [])) l x assigns
    (let m = count_more kind past t in let g = ap {B = ℕ} (λ t. cond t 1 0) h in
    omega (arith, m, g, count)) n q)
  where
    here : (b : Bool) → bytes_eq t.kind kind ≡ b
        → first_said (examine_all j (suc k) (past ++ (Track t ∷ [])) l) ≡ None
        → cond b (nth_track kind i l) (nth_track kind (suc i) l) ≡ Some x
        → (bytes_eq t.kind kind ≡ true
        → first_said (examine_all j (suc k) (past ++ (Track t ∷ [])) l) ≡ None
        → nth_track kind i l ≡ Some x → Said j c x)
        → (bytes_eq t.kind kind ≡ false
        → first_said (examine_all j (suc k) (past ++ (Track t ∷ [])) l) ≡ None
        → nth_track kind (suc i) l ≡ Some x → Said j c x) → Said j c x
    here true h n q one other = one h n q
    here false h n q one other = other h n q

video_is : Assigns (codes "Video") 0 V
unfolding Assigns
video_is past t h n = ap₂ (λ b k. cond b (cond (k == 0) (Some V) None)
    (cond (bytes_eq t.kind (codes "Audio"))
    (cond (count_of_kind (codes "Audio") past == 0) (Some A)
    (cond (count_of_kind (codes "Audio") past == 1) (Some A2) None)) None)) h n

audio_kind : (t : TrackOf Listed) → bytes_eq t.kind (codes "Audio") ≡ true
    → bytes_eq t.kind (codes "Video") ≡ false
audio_kind t h = ap (λ z. bytes_eq z (codes "Video"))
    ((bytes_eq-Decides t.kind (codes "Audio")).0 h)

audio_is : (r : ℕ) (c : Channel) → cond (r == 0) (Some A) (cond (r == 1) (Some A2) None) ≡ Some c
    → Assigns (codes "Audio") r c
unfolding Assigns
audio_is r c e = λ past t h n.
    ap₂ (λ b d. cond b (cond (count_of_kind (codes "Video") past == 0) (Some V) None)
    (cond d (cond (count_of_kind (codes "Audio") past == 0) (Some A)
    (cond (count_of_kind (codes "Audio") past == 1) (Some A2) None)) None)) (audio_kind t h) h
    ∙ ap (λ k. cond (k == 0) (Some A) (cond (k == 1) (Some A2) None)) n ∙ e

pub said_on : (j : Job) (c : Channel) (items : List (ItemOf Listed)) (x : ItemOf Listed)
    → first_said (examine_all j 0 [] items) ≡ None → channel_track c items ≡ Some x → Said j c x
said_on j V items x e is = chosen j (codes "Video") 0 V 0 0 [] items x video_is (omega arith) e is
said_on j A items x e is = chosen j (codes "Audio") 0 A 0 0 [] items x (audio_is 0 A refl)
    (omega arith) e is
said_on j A2 items x e is = chosen j (codes "Audio") 1 A2 0 1 [] items x (audio_is 1 A2 refl)
    (omega arith) e is

-- ---- the tracks of a sound timeline

place_of : (kind : List ℕ) (i : ℕ) (l : List (ItemOf Listed)) (x : ItemOf Listed)
    → nth_track kind i l ≡ Some x → (k : ℕ) × (slice_get l k ≡ Some x)
place_of kind i [] x e = absurd (cc e)
place_of kind zero (y ∷ l) x e = by (is_track_of kind y) e (place_of kind zero l x)
  where
    by : (b : Bool) → cond b (Some y) (nth_track kind zero l) ≡ Some x
        → (nth_track kind zero l ≡ Some x → (k : ℕ) × (slice_get l k ≡ Some x))
        → (k : ℕ) × (slice_get (y ∷ l) k ≡ Some x)
    by true f g = (0, f)
    by false f g = let r = g f in (suc r.0, r.1)
place_of kind (suc i) (y ∷ l) x e = by (is_track_of kind y) e (place_of kind i l x)
    (place_of kind (suc i) l x)
  where
    by : (b : Bool) → cond b (nth_track kind i l) (nth_track kind (suc i) l) ≡ Some x
        → (nth_track kind i l ≡ Some x → (k : ℕ) × (slice_get l k ≡ Some x))
        → (nth_track kind (suc i) l ≡ Some x → (k : ℕ) × (slice_get l k ≡ Some x))
        → (k : ℕ) × (slice_get (y ∷ l) k ≡ Some x)
    by true f g h = let r = g f in (suc r.0, r.1)
    by false f g h = let r = h f in (suc r.0, r.1)

pub placed : (c : Channel) (l : List (ItemOf Listed)) (x : ItemOf Listed)
    → channel_track c l ≡ Some x → (k : ℕ) × (slice_get l k ≡ Some x)
placed V l x e = place_of (codes "Video") 0 l x e
placed A l x e = place_of (codes "Audio") 0 l x e
placed A2 l x e = place_of (codes "Audio") 1 l x e

-- a sound track has a length
long_of : (t : TrackOf Listed) → fault_of (Track t) ≡ None
    → (n : ℕ) × (length_of (Track t) ≡ Some n)
long_of t e = by (length_of (Track t)) refl e
  where
    by : (o : Option ℕ) → length_of (Track t) ≡ o → ◌≡◌ {A = Option ItemFault}
        (elim o [ None ↦ Some NoLength | Some n ↦ ranged_fault (Track t) n ]) None
        → (n : ℕ) × (length_of (Track t) ≡ Some n)
    by None f g = absurd (cc g)
    by (Some n) f g = (n, f)

no_source : (o : Option Span) → not (is_there o) ≡ true → o ≡ None
no_source None e = refl
no_source (Some s) e = absurd (cc e)

no_effects : (l : List Effect) → nat_le (length l) 0 ≡ true → l ≡ []
no_effects [] e = refl
no_effects (x ∷ l) e = absurd (some e)
  where
    some : nat_le (suc (length l)) 0 ≡ true → ⊥
    some f = let h : suc (length l) ≤ 0 = grind (arith, f) in omega (arith, h)

unnumbered_show : (rate : Rate) (media : MediaRows) (es : List Event) (n : ℤ)
    → events_show rate media (map unnumbered es) n ≡ events_show rate media es n
unnumbered_show rate media [] n = refl
unnumbered_show rate media (e ∷ es) n =
    ap (λ i. cond (within e.rec_in e.rec_out n) (event_shows rate media e (n -ℤ e.rec_in)) i)
    (unnumbered_show rate media es n)

disabled : (key : KeySeen) (t : TrackOf Listed) (u : ℤ) → t.enabled ≡ false
    → image (keyed_child_shows key (Track t) u) ≡ Empty
disabled key t u e =
    ap
    (λ b. image (cond (within (pos 0) (pos (or_zero (sight (Track t)).length)) u)
    (cond (b && bytes_eq t.kind t.kind)
    (track_shows (map (seen (record { kind = t.kind; rate_kept = λ rate. rate; key = key }))
    (sights t.children))
    (media_at (trimmed_start {C = Listed} (Track t)) (speed_of {C = Listed} (Track t)) u)) Blank)
    Blank)) e
    ∙ always (within (pos 0) (pos (or_zero (sight (Track t)).length)) u)
  where
    always : (b : Bool) → image (cond b Blank Blank) ≡ Empty
    always true = refl
    always false = refl

-- what is said of a timeline that is carried: nothing, of its rate, its children and its events
pub record IsCarriedAll (t : Timeline) (media : MediaRows) (drop wide : Bool) : Type 0 where
  pub timed : cond (is_there (mode_in (record_rate t) drop)) None (Some W.NoTimecode) ≡ None
  pub said : first_said (examine_all (job_of t media drop wide) 0 [] (items_of t.tracks.children))
      ≡ None
  pub few : too_many (job_of t media drop wide) (items_of t.tracks.children) ≡ None

pub carried_all : (t : Timeline) (media : MediaRows) (drop wide : Bool)
    → not_carried t media drop wide ≡ None → IsCarriedAll t media drop wide
carried_all t media drop wide e =
    let items = items_of t.tracks.children in
    let timed : Examined = (
      [],
      cond (is_there (mode_in (record_rate t) drop)) None
          (Some W.NoTimecode),
    ) in
    let children = examine_all (job_of t media drop wide) 0 [] items in
    let many : Examined = ([], too_many (job_of t media drop wide) items) in
    let first = nothing_first timed (children ++ (many ∷ [])) e in
    let both_none = nothing_both children (many ∷ []) first.1 in
    record {
      timed = first.0;
      said = both_none.0;
      few = (nothing_first many [] both_none.1).0;
    }

-- the list of a timeline that is carried shows what the timeline shows
pub list_shows_timeline : (key : KeySeen) (t : Timeline) (list : EventList) (media : MediaRows)
    (drop wide : Bool) (c : Channel) (n : ℤ) → IsSound t → IsCalm t → KnowsKeys key media
    → not_carried t media drop wide ≡ None → IsListOf t media drop wide list
    → shown list media c n ≡ on_by key t c n
list_shows_timeline key t list media drop wide c n sound calm keys carried i =
    let items = items_of t.tracks.children in
    sym (unnumbered_show list.rate media (on_channel c list.events) n)
    ∙ ap (λ es. events_show list.rate media es n) (i.events c)
    ∙ by (channel_track c items) refl (carried_all t media drop wide carried).said
  where
    rate_is : job_of t media drop wide ≡ job list.rate (start_frame t) media drop wide
    rate_is = same_job t list.rate media drop wide i.rate

    at : instant t n ≡ (n -ℤ start_frame t) *ℤ pos (ticks list.rate)
    at = ap (λ r. (n -ℤ start_frame t) *ℤ pos (frame_ticks r)) (sym i.rate)

    shut : (x : ItemOf Listed) → channel_track c (items_of t.tracks.children) ≡ Some x
        → (s : Said (job_of t media drop wide) c x) → (b : Bool) → s.track.enabled ≡ b
        → events_show list.rate media
        (cond b (track_events (job_of t media drop wide) c (items_of s.track.children)) []) n
        ≡ image
        (keyed_child_shows key (Track s.track) (instant t n))
    shut x e s true on =
        let p = placed c (items_of t.tracks.children) x e in
        let q = both (not (is_there s.track.source_range)) (nat_le (length s.track.effects) 0)
        (s.plain on) in
        let here : slice_get (items_of t.tracks.children) p.0 ≡ Some (Track s.track) = p.1
        ∙ ap (λ z. Some z) s.is in
        let long = long_of s.track (sound.faultless.items (p.0 ∷ []) (Track s.track)
        (ap (λ o. option_and_then (λ y. Some y) o) here)) in
        ap (λ j. events_show list.rate media (track_events j c (items_of s.track.children)) n)
        rate_is
        ∙ sym (track_is_written list.rate (start_frame t) media drop wide c key s.track long.0 n
        keys
        (no_source s.track.source_range q.0) (no_effects s.track.effects q.1) on long.1
        (subst (λ j. AreFree j c (pos 0) head (items_of s.track.children)) rate_is (s.free on))
        (calm_tracks t calm p.0 s.track here))
        ∙ sym (ap (λ u. image (keyed_child_shows key (Track s.track) u)) at)
    shut x e s false on = sym (disabled key s.track (instant t n) on)

    by : (o : Option (ItemOf Listed)) → channel_track c (items_of t.tracks.children) ≡ o
        → first_said (examine_all (job_of t media drop wide) 0 [] (items_of t.tracks.children))
        ≡ None
        → events_show list.rate media (events_on (job_of t media drop wide) c
        (channel_track c (items_of t.tracks.children))) n ≡ keyed_shown key
        (channel_track c (items_of t.tracks.children)) (instant t n)
    by None e free = ap (λ o. events_show list.rate media (events_on (job_of t media drop wide) c o)
        n) e
        ∙ sym (ap (λ o. keyed_shown key o (instant t n)) e)
    by (Some x) e free =
        let s = said_on (job_of t media drop wide) c (items_of t.tracks.children) x free e in
        ap (λ o. events_show list.rate media (events_on (job_of t media drop wide) c o) n)
        (e ∙ ap (λ z. Some z) s.is)
        ∙ shut x e s s.track.enabled refl
        ∙ sym (ap (λ o. keyed_shown key o (instant t n)) (e ∙ ap (λ z. Some z) s.is))
