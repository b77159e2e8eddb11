-- The children of a track that give events, one after another.
use Rattle.std.proofs.Common.{◌≡◌, refl, sym, ap, ◌∙◌, ℕ, suc, ◌+◌, ◌==◌, ◌≤◌, ℤ, pos, ◌+ℤ◌, Bool, true, false, cond, List, [], ◌∷◌, ◌++◌, All, map, filter_map, length, drop, to_z, of_z, Option, Some, None, append_assoc, add-one}
use Rattle.std.specs.Int.{w128}
use Rattle.otio_model.specs.Lengths.{start_of}
use Rattle.std.specs.List.{cons_option}
use Rattle.std.proofs.lemmas.List.{append-nil, map-append}
use Rattle.std.proofs.lemmas.List.Elements.{All-head, All-tail}
use Rattle.otio_model.specs.declared.compositions.TrackOf.{TrackOf}
use Rattle.otio_model.specs.declared.compositions.ItemOf.{ItemOf}
use Rattle.otio_model.specs.declared.compositions.ItemOf.TheVariants.{Track}
use Rattle.otio_model.specs.declared.compositions.Listed.{Listed}
use Rattle.otio_model.specs.Trees.{items_of}
use Rattle.edl_list.specs.declared.list.Channel.{Channel}
use Rattle.edl_list.specs.declared.list.Channel.TheVariants.{V, A, A2}
use Rattle.edl_list.specs.declared.list.Event.{Event}
use Rattle.edl_list.specs.Formed.{rank}
use Rattle.coord.specs.Sights.{overlap_of}
use Rattle.coord.proofs.Members.{none_left}
use Rattle.edl_frames.specs.Shown.{is_on}
use Rattle.edl_frames.specs.Jobs.{Job}
use Rattle.edl_frames.specs.Seats.{Past, Seat, length_in, past_by, seats, head}
use Rattle.edl_frames.specs.ChildEvents.{event_of, track_events, events_on}
use Rattle.edl_frames.specs.Homes.{Homed, homed_seats, homed_track, homed_on}
use Rattle.edl_conform.specs.declared.event_homes.Spot.{Spot}
use Rattle.edl_conform.specs.declared.event_homes.Givers.{Givers}
use Rattle.edl_conform.specs.Givers.{homes_in, one_home, places, spots_on}
use Rattle.edl_conform.specs.declared.child_context.Past.{Past as PastRow}
use Rattle.edl_conform.specs.declared.child_context.ChildContext.{ChildContext}
use Rattle.edl_conform.specs.Seated.{IsSeatAt, IsSeated}
use Rattle.edl_conform.specs.Stated.{stated_past, stated_seat}
use Rattle.edl_conform.proofs.SeatSteps.{here, kept}
use Rattle.edl_conform.proofs.ChildSteps.{IsHere, whole_event, seats_from}
use Rattle.edl_conform.proofs.ChannelEvents.{track_is_unlined}
use Rattle.edl_conform.proofs.EventTimes.{IsUnlined}
use Rattle.edl_conform.proofs.RootSteps.{one_channel}

abbrev homed_by : Option Event → ℕ → ℕ → List Homed → List Homed
homed_by o k i l =
    elim o [ None ↦ l | Some e ↦ record { event = e; home = k ∷ i ∷ [] } ∷ l ]

home_here : (o : Option Event) (k i : ℕ) (l : List Homed)
    → homes_in (homed_by o k i l) ≡ one_home o k i ++ homes_in l
home_here None k i l = refl
home_here (Some e) k i l = refl

-- the children before i have come
abbrev pub ArePut : ℕ → List (ItemOf Listed) → ℕ → ℤ → Past → (old now : List Spot) → Type 0
ArePut k items i at past old now = (j : Job) (c : Channel)
    → places now ++ homes_in (homed_seats j c k i (seats at past (drop i items)))
    ≡ places old ++ homes_in (homed_seats j c k 0 (seats (pos 0) head items))

pub puts_none : (k : ℕ) (items : List (ItemOf Listed)) (past : Past) (old : List Spot)
    → past ≡ head → ArePut k items 0 (pos 0) past old old
puts_none k items past old e = λ j c.
    ap (λ p. places old ++ homes_in (homed_seats j c k 0 (seats (pos 0) p items))) e

-- one more child
pub puts_on : (k : ℕ) (items : List (ItemOf Listed)) (i : ℕ) (at v : ℤ) (past after : Past)
    (s : Seat) (old now new : List Spot) → IsHere items i at past s
    → ((j : Job) (c : Channel) → places new ≡ places now ++ one_home (event_of j c s) k i)
    → v ≡ at +ℤ length_in s.item → after ≡ past_by (overlap_of s.item) s.item s.start s.past
    → ArePut k items i at past old now → ArePut k items (i + 1) v after old new
puts_on k items i at v past after s old now new h put ends passed way = λ j c.
    ap (λ l. l ++ homes_in (homed_seats j c k (i + 1) (seats v after (drop (i + 1) items))))
    (put j c)
    ∙ append_assoc (places now) (one_home (event_of j c s) k i)
    (homes_in (homed_seats j c k (i + 1) (seats v after (drop (i + 1) items))))
    ∙ ap (λ l. places now ++ l)
    (ap (λ l. one_home (event_of j c s) k i ++ homes_in (homed_seats j c k (i + 1) l)) (sym behind)
    ∙ ap (λ n. one_home (event_of j c s) k i ++ homes_in (homed_seats j c k n rest)) (add-one i)
    ∙ sym (home_here (event_of j c s) k i (homed_seats j c k (suc i) rest))
    ∙ ap (λ o. homes_in (homed_by o k i (homed_seats j c k (suc i) rest)))
    (whole_event j c items i at past s h)
    ∙ ap (λ l. homes_in (homed_seats j c k i l)) (sym (seats_from items i at past s h)))
    ∙ way j c
  where
    rest : List Seat
    rest = seats (at +ℤ length_in s.item) (past_by (overlap_of s.item) s.item at past)
        (drop (i + 1) items)

    behind : rest ≡ seats v after (drop (i + 1) items)
    behind =
        ap (λ z. seats z (past_by (overlap_of s.item) s.item at past) (drop (i + 1) items))
        (sym ends)
        ∙ ap (λ p. seats v p (drop (i + 1) items))
        (sym (passed ∙ ap (λ z. past_by (overlap_of s.item) s.item z s.past) h.start
        ∙ ap (λ p. past_by (overlap_of s.item) s.item at p) h.past_is))

-- the same of the code's seat
pub goes_on : (k : ℕ) (l : Listed) (i : ℕ) (at : ℤ) (past after : PastRow) (seat : ChildContext)
    (old now new : List Spot) → IsSeatAt l i past seat → IsSeated seat → at ≡ pos (start_of l i)
    → ((j : Job) (c : Channel)
    → places new ≡ places now ++ one_home (event_of j c (stated_seat seat)) k i)
    → stated_past after
    ≡ past_by (overlap_of seat.item.now) seat.item.now seat.start (stated_past seat.past)
    → ArePut k (items_of l) i at (stated_past past) old now
    → ArePut k (items_of l) (i + 1) (to_z w128 (of_z w128 seat.end)) (stated_past after) old new
goes_on k l i at past after seat old now new s seated e put passed way =
    puts_on k (items_of l) i at (to_z w128 (of_z w128 seat.end)) (stated_past past)
    (stated_past after) (stated_seat seat) old now new (here l i past seat at s e) put
    (kept seat seated ∙ seated.end ∙ ap (λ z. z +ℤ length_in seat.item.now) (s.start ∙ sym e))
    passed way

-- after the last child
pub puts_all : (k : ℕ) (items : List (ItemOf Listed)) (i : ℕ) (at : ℤ) (past : Past)
    (old now : List Spot) → length items ≤ i → ArePut k items i at past old now
    → (j : Job) (c : Channel) → places now
    ≡ places old ++ homes_in (homed_seats j c k 0 (seats (pos 0) head items))
puts_all k items i at past old now all way j c =
    sym (append-nil (places now))
    ∙ ap (λ l. places now ++ homes_in (homed_seats j c k i (seats at past l)))
    (sym (none_left items i all)) ∙ way j c

-- a child that gives an event, and one that gives none
pub puts_some : (now new : List Spot) (spot : Spot) (k i : ℕ) (o : Option Event) (e : Event)
    → new ≡ now ++ spot ∷ [] → spot.track ≡ k → spot.child ≡ i → Some e ≡ o
    → places new ≡ places now ++ one_home o k i
puts_some now new spot k i o e put track child is =
    ap places put
    ∙ map-append (λ (s : Spot). s.track ∷ s.child ∷ []) now (spot ∷ [])
    ∙ ap (λ n. places now ++ (n ∷ spot.child ∷ []) ∷ []) track
    ∙ ap (λ n. places now ++ (k ∷ n ∷ []) ∷ []) child
    ∙ ap (λ o. places now ++ one_home o k i) is

pub puts_nothing : (now : List Spot) (k i : ℕ) (o : Option Event) → None ≡ o
    → places now ≡ places now ++ one_home o k i
puts_nothing now k i o is =
    sym (append-nil (places now)) ∙ ap (λ o. places now ++ one_home o k i) is

-- ---- a track

pub disabled_puts : (j : Job) (c : Channel) (k : ℕ) (t : TrackOf Listed) (old : List Spot)
    → t.enabled ≡ false
    → places old ≡ places old ++ homes_in (homed_track j k t (Some c))
disabled_puts j c k t old off =
    sym (ap (λ b. places old ++ homes_in
    (cond b (homed_seats j c k 0 (seats (pos 0) head (items_of t.children))) [])) off
    ∙ append-nil (places old))

pub enabled_puts : (j : Job) (c : Channel) (k : ℕ) (t : TrackOf Listed) (old new : List Spot)
    → t.enabled ≡ true
    → places new ≡ places old
    ++ homes_in (homed_seats j c k 0 (seats (pos 0) head (items_of t.children)))
    → places new ≡ places old ++ homes_in (homed_track j k t (Some c))
enabled_puts j c k t old new on put =
    put ∙ ap (λ b. places old ++ homes_in
    (cond b (homed_seats j c k 0 (seats (pos 0) head (items_of t.children))) [])) (sym on)

-- ---- their events

abbrev pub events_in : List Homed → List Event
events_in l = map (λ h. h.event) l

events_of_seats : (j : Job) (c : Channel) (k i : ℕ) (ss : List Seat)
    → events_in (homed_seats j c k i ss) ≡ filter_map (event_of j c) ss
events_of_seats j c k i [] = refl
events_of_seats j c k i (s ∷ ss) = by (event_of j c s) (events_of_seats j c k (suc i) ss)
  where
    by : (o : Option Event)
        → events_in (homed_seats j c k (suc i) ss) ≡ filter_map (event_of j c) ss
        → events_in (homed_by o k i (homed_seats j c k (suc i) ss))
        ≡ cons_option o (filter_map (event_of j c) ss)
    by None more = more
    by (Some e) more = ap (λ l. e ∷ l) more

pub events_of_track : (j : Job) (c : Channel) (k : ℕ) (t : TrackOf Listed)
    → events_in (homed_track j k t (Some c)) ≡ events_on j c (Some (Track t))
events_of_track j c k t = by t.enabled
  where
    by : (b : Bool) → events_in
        (cond b (homed_seats j c k 0 (seats (pos 0) head (items_of t.children))) [])
        ≡ cond b (track_events j c (items_of t.children)) []
    by true = events_of_seats j c k 0 (seats (pos 0) head (items_of t.children))
    by false = refl

-- ---- on a channel

homed_by_channel : (d c : Channel) (b : Bool) (l : List Homed) → (rank d == rank c) ≡ b
    → All (IsUnlined c) (events_in l) → homed_on d l ≡ cond b l []
homed_by_channel d c true [] e all = refl
homed_by_channel d c false [] e all = refl
homed_by_channel d c b (x ∷ l) e all =
    let here : is_on d x.event ≡ b =
    ap (λ z. rank d == rank z) (All-head (IsUnlined c) x.event (events_in l) all).channel ∙ e in
    by b here (homed_by_channel d c b l e (All-tail (IsUnlined c) x.event (events_in l) all))
  where
    by : (b : Bool) → is_on d x.event ≡ b → homed_on d l ≡ cond b l []
        → cond (is_on d x.event) (x ∷ homed_on d l) (homed_on d l) ≡ cond b (x ∷ l) []
    by true h more = rw h (ap (λ l. x ∷ l) more)
    by false h more = rw h more

-- the children of a track of a channel stand on it alone
pub track_on : (j : Job) (d c : Channel) (k : ℕ) (t : TrackOf Listed) (b : Bool)
    → (rank d == rank c) ≡ b
    → homed_on d (homed_track j k t (Some c)) ≡ cond b (homed_track j k t (Some c)) []
track_on j d c k t b e =
    homed_by_channel d c b (homed_track j k t (Some c)) e
    (subst_all (events_of_track j c k t))
  where
    subst_all : events_in (homed_track j k t (Some c)) ≡ events_on j c (Some (Track t))
        → All (IsUnlined c) (events_in (homed_track j k t (Some c)))
    subst_all e = rw e (track_is_unlined j c (Some (Track t)))

-- where a track's children have come after those of its channel
pub puts_channel : (k : ℕ) (t : TrackOf Listed) (c : Channel) (old new : Givers)
    → ((j : Job) (d : Channel) → places (spots_on c new)
    ≡ places (spots_on c old) ++ homes_in (homed_track j k t (Some d)))
    → ((d : Channel) → (rank d == rank c) ≡ false → spots_on d new ≡ spots_on d old)
    → (j : Job) (d : Channel) → places (spots_on d new)
    ≡ places (spots_on d old) ++ homes_in (homed_on d (homed_track j k t (Some c)))
puts_channel k t c old new put others j d = by (rank d == rank c) refl
  where
    by : (b : Bool) → (rank d == rank c) ≡ b → places (spots_on d new)
        ≡ places (spots_on d old) ++ homes_in (homed_on d (homed_track j k t (Some c)))
    by true e =
        let same : d ≡ c = one_channel d c e in
        ap (λ x. places (spots_on x new)) same ∙ put j c
        ∙ ap (λ x. places (spots_on x old) ++ homes_in (homed_track j k t (Some c))) (sym same)
        ∙ ap (λ l. places (spots_on d old) ++ homes_in l) (sym (track_on j d c k t true e))
    by false e =
        ap places (others d e) ∙ sym (append-nil (places (spots_on d old)))
        ∙ ap (λ l. places (spots_on d old) ++ homes_in l) (sym (track_on j d c k t false e))

pub puts_picture : (k : ℕ) (t : TrackOf Listed) (old new : Givers)
    → new.first_sound ≡ old.first_sound → new.second_sound ≡ old.second_sound
    → ((j : Job) (d : Channel) → places (spots_on V new)
    ≡ places (spots_on V old) ++ homes_in (homed_track j k t (Some d)))
    → (j : Job) (d : Channel) → places (spots_on d new)
    ≡ places (spots_on d old) ++ homes_in (homed_on d (homed_track j k t (Some V)))
puts_picture k t old new first second put = puts_channel k t V old new put others
  where
    others : (d : Channel) → (rank d == rank V) ≡ false → spots_on d new ≡ spots_on d old
    others V e = absurd (cc e)
    others A e = ap (λ v. v.items) first
    others A2 e = ap (λ v. v.items) second

pub puts_first : (k : ℕ) (t : TrackOf Listed) (old new : Givers)
    → new.picture ≡ old.picture → new.second_sound ≡ old.second_sound
    → ((j : Job) (d : Channel) → places (spots_on A new)
    ≡ places (spots_on A old) ++ homes_in (homed_track j k t (Some d)))
    → (j : Job) (d : Channel) → places (spots_on d new)
    ≡ places (spots_on d old) ++ homes_in (homed_on d (homed_track j k t (Some A)))
puts_first k t old new picture second put = puts_channel k t A old new put others
  where
    others : (d : Channel) → (rank d == rank A) ≡ false → spots_on d new ≡ spots_on d old
    others V e = ap (λ v. v.items) picture
    others A e = absurd (cc e)
    others A2 e = ap (λ v. v.items) second

pub puts_second : (k : ℕ) (t : TrackOf Listed) (old new : Givers)
    → new.picture ≡ old.picture → new.first_sound ≡ old.first_sound
    → ((j : Job) (d : Channel) → places (spots_on A2 new)
    ≡ places (spots_on A2 old) ++ homes_in (homed_track j k t (Some d)))
    → (j : Job) (d : Channel) → places (spots_on d new)
    ≡ places (spots_on d old) ++ homes_in (homed_on d (homed_track j k t (Some A2)))
puts_second k t old new picture first put = puts_channel k t A2 old new put others
  where
    others : (d : Channel) → (rank d == rank A2) ≡ false → spots_on d new ≡ spots_on d old
    others V e = ap (λ v. v.items) picture
    others A e = ap (λ v. v.items) first
    others A2 e = absurd (cc e)
