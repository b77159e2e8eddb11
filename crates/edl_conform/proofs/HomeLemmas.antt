-- Each event of a list has the place of the item whose event it is.
use Rattle.std.proofs.Common.{◌≡◌, refl, sym, ap, ap₂, subst, ◌∙◌, ℕ, zero, suc, ◌+◌, ◌==◌, ◌<◌, ◌≤◌, Bool, true, false, cond, List, [], ◌∷◌, ◌++◌, map, length, take, drop, get_or, Option, Some, None, arith}
use Rattle.std.specs.Prelude.{codes}
use Rattle.std.specs.Str.{bytes_eq}
use Rattle.std.proofs.lemmas.List.{append-nil, map-append, length-map, length-append, take_all, take_more, take-append-drop, length-drop}
use Rattle.std.proofs.lemmas.List.Elements.{filter-append}
use Rattle.otio_model.specs.declared.compositions.TrackOf.{TrackOf}
use Rattle.otio_model.specs.declared.compositions.ItemOf.{ItemOf}
use Rattle.otio_model.specs.declared.compositions.ItemOf.TheVariants.{Clip, Gap, Transition, Stack, Track}
use Rattle.otio_model.specs.declared.compositions.Listed.{Listed}
use Rattle.otio_model.specs.declared.timelines.Timeline.{Timeline}
use Rattle.otio_model.specs.Trees.{items_of}
use Rattle.edl_list.specs.declared.list.Channel.{Channel}
use Rattle.edl_list.specs.declared.list.Channel.TheVariants.{V, A, A2}
use Rattle.edl_list.specs.declared.list.Event.{Event}
use Rattle.edl_list.specs.declared.list.EventList.{EventList}
use Rattle.edl_list.specs.Formed.{rank}
use Rattle.edl_frames.specs.Shown.{is_on, on_channel}
use Rattle.edl_frames.specs.Channels.{is_track_of, nth_track, channel_track}
use Rattle.edl_frames.specs.Jobs.{Job, job_of}
use Rattle.edl_frames.specs.ChildEvents.{events_on, unnumbered}
use Rattle.edl_frames.specs.Carried.{count_of_kind, channel_of}
use Rattle.edl_frames.specs.Homes.{Homed, HasList, AreHomes, paired, homed_track, homed_root, homed_all, homed_on}
use Rattle.edl_conform.specs.declared.event_homes.Spot.{Spot}
use Rattle.edl_conform.specs.declared.event_homes.Givers.{Givers}
use Rattle.edl_conform.specs.declared.event_homes.Given.{Given}
use Rattle.edl_conform.specs.Givers.{homes_in, home_at, places, spots_on, given_on, given_behind}
use Rattle.edl_conform.proofs.ChannelEvents.{all_channels, on-unnumbered, count_behind, track_is_unlined, on_by}
use Rattle.edl_conform.proofs.GiverSteps.{events_in, events_of_track}
use Rattle.edl_conform.proofs.RootSteps.{one_kind, one_channel}

-- ---- the events of all root children

-- the track of a channel among these, after so many Video and Audio tracks
abbrev later : Channel → ℕ → ℕ → List (ItemOf Listed) → Option (ItemOf Listed)
later V zero a l = nth_track (codes "Video") 0 l
later V (suc v) a l = None
later A v zero l = nth_track (codes "Audio") 0 l
later A v (suc a) l = None
later A2 v zero l = nth_track (codes "Audio") 1 l
later A2 v (suc zero) l = nth_track (codes "Audio") 0 l
later A2 v (suc (suc a)) l = None

-- one more where the test holds
abbrev more : Bool → ℕ → ℕ
more true n = suc n
more false n = n

counts_more : (kind : List ℕ) (past : List (ItemOf Listed)) (x : ItemOf Listed) (b : Bool)
    → is_track_of kind x ≡ b
    → count_of_kind kind (past ++ x ∷ []) ≡ more b (count_of_kind kind past)
counts_more kind past x true e =
    let n = count_behind kind past x true e in omega (arith, n)
counts_more kind past x false e =
    let n = count_behind kind past x false e in omega (arith, n)

none_later : (j : Job) (c : Channel) (v a : ℕ)
    → ◌≡◌ {A = List Event} [] (events_on j c (later c v a []))
none_later j V zero a = refl
none_later j V (suc v) a = refl
none_later j A v zero = refl
none_later j A v (suc a) = refl
none_later j A2 v zero = refl
none_later j A2 v (suc zero) = refl
none_later j A2 v (suc (suc a)) = refl

-- what a track of a channel or none gives on a channel
abbrev given_by : Job → Channel → TrackOf Listed → Option Channel → List Event
given_by j c t None = []
given_by j c t (Some d) = cond (rank c == rank d) (events_on j d (Some (Track t))) []

-- the channel by tests
abbrev tested : Bool → Bool → ℕ → ℕ → Option Channel
tested video audio v a = cond video (cond (v == 0) (Some V) None)
    (cond audio (cond (a == 0) (Some A) (cond (a == 1) (Some A2) None)) None)

-- the track of a channel, where the first of them is one of these kinds
abbrev first_or : Bool → Bool → TrackOf Listed → Channel → ℕ → ℕ → List (ItemOf Listed)
    → Option (ItemOf Listed)
first_or video audio t V zero a l =
    cond video (Some (Track t)) (nth_track (codes "Video") 0 l)
first_or video audio t V (suc v) a l = None
first_or video audio t A v zero l =
    cond audio (Some (Track t)) (nth_track (codes "Audio") 0 l)
first_or video audio t A v (suc a) l = None
first_or video audio t A2 v zero l =
    cond audio (nth_track (codes "Audio") 0 l) (nth_track (codes "Audio") 1 l)
first_or video audio t A2 v (suc zero) l =
    cond audio (Some (Track t)) (nth_track (codes "Audio") 0 l)
first_or video audio t A2 v (suc (suc a)) l = None

first_is : (t : TrackOf Listed) (c : Channel) (v a : ℕ) (l : List (ItemOf Listed))
    → first_or (bytes_eq t.kind (codes "Video")) (bytes_eq t.kind (codes "Audio")) t c v a l
    ≡ later c v a (Track t ∷ l)
first_is t V zero a l = refl
first_is t V (suc v) a l = refl
first_is t A v zero l = refl
first_is t A v (suc a) l = refl
first_is t A2 v zero l = refl
first_is t A2 v (suc zero) l = refl
first_is t A2 v (suc (suc a)) l = refl

not_zero : (a : ℕ) → (suc a == 0) ≡ false
not_zero a = grind arith

not_one : (a : ℕ) → (suc (suc a) == 1) ≡ false
not_one a = grind arith

third : (j : Job) (c : Channel) (t : TrackOf Listed) (v a : ℕ) (xs : List Event)
    → given_by j c t (tested false true v (suc (suc a))) ++ xs ≡ xs
third j c t v a xs =
    ap₂ (λ b d. given_by j c t (cond b (Some A) (cond d (Some A2) None)) ++ xs)
    (not_zero (suc a)) (not_one a)

second : (j : Job) (c : Channel) (t : TrackOf Listed) (v a : ℕ) (xs : List Event)
    → given_by j c t (tested true false (suc v) a) ++ xs ≡ xs
second j c t v a xs = ap (λ b. given_by j c t (cond b (Some V) None) ++ xs) (not_zero v)

one_track : (j : Job) (c : Channel) (t : TrackOf Listed) (l : List (ItemOf Listed))
    (video audio : Bool) (v a : ℕ) → (video ≡ true → audio ≡ false)
    → given_by j c t (tested video audio v a)
    ++ events_on j c (later c (more video v) (more audio a) l)
    ≡ events_on j c (first_or video audio t c v a l)
one_track j c t l true true v a h = absurd (cc (h refl))
one_track j V t l true false zero a h = append-nil (events_on j V (Some (Track t)))
one_track j V t l true false (suc v) a h = second j V t v a _
one_track j A t l true false zero zero h = refl
one_track j A t l true false zero (suc a) h = refl
one_track j A t l true false (suc v) zero h = second j A t v zero _
one_track j A t l true false (suc v) (suc a) h = second j A t v (suc a) _
one_track j A2 t l true false zero zero h = refl
one_track j A2 t l true false zero (suc zero) h = refl
one_track j A2 t l true false zero (suc (suc a)) h = refl
one_track j A2 t l true false (suc v) zero h = second j A2 t v zero _
one_track j A2 t l true false (suc v) (suc zero) h = second j A2 t v (suc zero) _
one_track j A2 t l true false (suc v) (suc (suc a)) h = second j A2 t v (suc (suc a)) _
one_track j V t l false true zero zero h = refl
one_track j V t l false true zero (suc zero) h = refl
one_track j V t l false true zero (suc (suc a)) h = third j V t zero a _
one_track j V t l false true (suc v) zero h = refl
one_track j V t l false true (suc v) (suc zero) h = refl
one_track j V t l false true (suc v) (suc (suc a)) h = third j V t (suc v) a _
one_track j A t l false true v zero h = append-nil (events_on j A (Some (Track t)))
one_track j A t l false true v (suc zero) h = refl
one_track j A t l false true v (suc (suc a)) h = third j A t v a _
one_track j A2 t l false true v zero h = refl
one_track j A2 t l false true v (suc zero) h = append-nil (events_on j A2 (Some (Track t)))
one_track j A2 t l false true v (suc (suc a)) h = third j A2 t v a _
one_track j V t l false false zero a h = refl
one_track j V t l false false (suc v) a h = refl
one_track j A t l false false v zero h = refl
one_track j A t l false false v (suc a) h = refl
one_track j A2 t l false false v zero h = refl
one_track j A2 t l false false v (suc zero) h = refl
one_track j A2 t l false false v (suc (suc a)) h = refl

-- places and events stand on the same channels
events_there : (c : Channel) (l : List Homed)
    → events_in (homed_on c l) ≡ on_channel c (events_in l)
events_there c [] = refl
events_there c (x ∷ l) = by (is_on c x.event) (events_there c l)
  where
    by : (b : Bool) → events_in (homed_on c l) ≡ on_channel c (events_in l)
        → events_in (cond b (x ∷ homed_on c l) (homed_on c l))
        ≡ cond b (x.event ∷ on_channel c (events_in l)) (on_channel c (events_in l))
    by true more = ap (λ l. x.event ∷ l) more
    by false more = more

track_gives : (j : Job) (c : Channel) (k : ℕ) (t : TrackOf Listed) (o : Option Channel)
    → events_in (homed_on c (homed_track j k t o)) ≡ given_by j c t o
track_gives j c k t None = refl
track_gives j c k t (Some d) =
    events_there c (homed_track j k t (Some d))
    ∙ ap (on_channel c) (events_of_track j d k t)
    ∙ on_by c d (rank c == rank d) (events_on j d (Some (Track t))) refl
    (track_is_unlined j d (Some (Track t)))

in_two : (c : Channel) (xs ys : List Homed)
    → events_in (homed_on c (xs ++ ys)) ≡ events_in (homed_on c xs) ++ events_in (homed_on c ys)
in_two c xs ys =
    ap events_in (filter-append (λ (h : Homed). is_on c h.event) xs ys)
    ∙ map-append (λ (h : Homed). h.event) (homed_on c xs) (homed_on c ys)

not_later : (c : Channel) (v a : ℕ) (x : ItemOf Listed) (l : List (ItemOf Listed))
    → is_track_of (codes "Video") x ≡ false → is_track_of (codes "Audio") x ≡ false
    → later c v a l ≡ later c v a (x ∷ l)
not_later V zero a x l video audio =
    ap (λ b. cond b (Some x) (nth_track (codes "Video") 0 l)) (sym video)
not_later V (suc v) a x l video audio = refl
not_later A v zero x l video audio =
    ap (λ b. cond b (Some x) (nth_track (codes "Audio") 0 l)) (sym audio)
not_later A v (suc a) x l video audio = refl
not_later A2 v zero x l video audio =
    ap (λ b. cond b (nth_track (codes "Audio") 0 l) (nth_track (codes "Audio") 1 l)) (sym audio)
not_later A2 v (suc zero) x l video audio =
    ap (λ b. cond b (Some x) (nth_track (codes "Audio") 0 l)) (sym audio)
not_later A2 v (suc (suc a)) x l video audio = refl

abbrev Gives : Job → Channel → ℕ → (past l : List (ItemOf Listed)) → Type 0
Gives j c k past l = events_in (homed_on c (homed_all j k past l))
    ≡ events_on j c (later c (count_of_kind (codes "Video") past)
    (count_of_kind (codes "Audio") past) l)

other_gives : (j : Job) (c : Channel) (k : ℕ) (past : List (ItemOf Listed)) (x : ItemOf Listed)
    (l : List (ItemOf Listed)) → homed_root j k past x ≡ []
    → is_track_of (codes "Video") x ≡ false → is_track_of (codes "Audio") x ≡ false
    → Gives j c (suc k) (past ++ x ∷ []) l → Gives j c k past (x ∷ l)
other_gives j c k past x l none video audio g =
    ap (λ h. events_in (homed_on c (h ++ homed_all j (suc k) (past ++ x ∷ []) l))) none
    ∙ g
    ∙ ap₂ (λ v a. events_on j c (later c v a l))
    (counts_more (codes "Video") past x false video)
    (counts_more (codes "Audio") past x false audio)
    ∙ ap (events_on j c) (not_later c (count_of_kind (codes "Video") past)
    (count_of_kind (codes "Audio") past) x l video audio)

pub all_give : (j : Job) (c : Channel) (k : ℕ) (past l : List (ItemOf Listed))
    → Gives j c k past l
all_give j c k past [] =
    none_later j c (count_of_kind (codes "Video") past) (count_of_kind (codes "Audio") past)
all_give j c k past ((Clip x) ∷ l) =
    other_gives j c k past (Clip x) l refl refl refl
    (all_give j c (suc k) (past ++ Clip x ∷ []) l)
all_give j c k past ((Gap x) ∷ l) =
    other_gives j c k past (Gap x) l refl refl refl
    (all_give j c (suc k) (past ++ Gap x ∷ []) l)
all_give j c k past ((Transition x) ∷ l) =
    other_gives j c k past (Transition x) l refl refl refl
    (all_give j c (suc k) (past ++ Transition x ∷ []) l)
all_give j c k past ((Stack x) ∷ l) =
    other_gives j c k past (Stack x) l refl refl refl
    (all_give j c (suc k) (past ++ Stack x ∷ []) l)
all_give j c k past ((Track t) ∷ l) =
    let video = bytes_eq t.kind (codes "Video") in
    let audio = bytes_eq t.kind (codes "Audio") in
    let v = count_of_kind (codes "Video") past in
    let a = count_of_kind (codes "Audio") past in
    in_two c (homed_track j k t (channel_of past t))
    (homed_all j (suc k) (past ++ Track t ∷ []) l)
    ∙ ap₂ (λ xs ys. xs ++ ys) (track_gives j c k t (channel_of past t))
    (all_give j c (suc k) (past ++ Track t ∷ []) l
    ∙ ap₂ (λ v a. events_on j c (later c v a l))
    (counts_more (codes "Video") past (Track t) video refl)
    (counts_more (codes "Audio") past (Track t) audio refl))
    ∙ one_track j c t l video audio v a (λ e. one_kind t (codes "Video") false e refl)
    ∙ ap (events_on j c) (first_is t c v a l)

pub channel_gives : (j : Job) (c : Channel) (l : List (ItemOf Listed))
    → events_in (homed_on c (homed_all j 0 [] l)) ≡ events_on j c (channel_track c l)
channel_gives j V l = all_give j V 0 [] l
channel_gives j A l = all_give j A 0 [] l
channel_gives j A2 l = all_give j A2 0 [] l

-- ---- events with their places

-- events and places determine both
pub same_homed : (xs ys : List Homed) → events_in xs ≡ events_in ys → homes_in xs ≡ homes_in ys
    → xs ≡ ys
same_homed [] [] e h = refl
same_homed [] (y ∷ ys) e h = absurd (cc e)
same_homed (x ∷ xs) [] e h = absurd (cc e)
same_homed (x ∷ xs) (y ∷ ys) e h =
    let event : x.event ≡ y.event = cc e in let home : x.home ≡ y.home = cc h in
    let events : events_in xs ≡ events_in ys = cc e in
    let homes : homes_in xs ≡ homes_in ys = cc h in
    ap₂ (λ z l. z ∷ l) (λ k. record { event = event k; home = home k })
    (same_homed xs ys events homes)

paired_more : (es : List Event) (hs : List (List ℕ)) (e : Event) (h : List ℕ)
    → length hs ≡ length es → paired (es ++ e ∷ []) (hs ++ h ∷ [])
    ≡ paired es hs ++ record { event = unnumbered e; home = h } ∷ []
paired_more [] [] e h n = refl
paired_more [] (x ∷ hs) e h n = absurd (omega (arith, n))
paired_more (x ∷ es) [] e h n = absurd (omega (arith, n))
paired_more (x ∷ es) (y ∷ hs) e h n =
    ap (λ l. record { event = unnumbered x; home = y } ∷ l)
    (paired_more es hs e h (omega (arith, n)))

paired_events : (es : List Event) (hs : List (List ℕ)) → length hs ≡ length es
    → events_in (paired es hs) ≡ map unnumbered es
paired_events [] [] n = refl
paired_events [] (h ∷ hs) n = refl
paired_events (e ∷ es) [] n = absurd (omega (arith, n))
paired_events (e ∷ es) (h ∷ hs) n =
    ap (λ l. unnumbered e ∷ l) (paired_events es hs (omega (arith, n)))

-- ---- one event after another

-- the events before i have their places
pub record AreGiven (events : List Event) (givers : Givers) (i : ℕ) (given : Given)
    (homes : List (List ℕ)) : Type 0 where
  pub long : length homes ≡ i
  pub within : i ≤ length events
  pub count : (c : Channel) → given_on c given ≡ length (on_channel c (take i events))
  pub home : (c : Channel) → homes_in (homed_on c (paired (take i events) homes))
      ≡ take (given_on c given) (places (spots_on c givers))

-- on each channel there are as many events as children that give one
abbrev pub AreEnough : List Event → Givers → Type 0
AreEnough events givers =
    (c : Channel) → length (on_channel c events) ≡ length (spots_on c givers)

pub none_given : (events : List Event) (givers : Givers) (given : Given) (homes : List (List ℕ))
    → given.picture ≡ 0 → given.first_sound ≡ 0 → given.second_sound ≡ 0 → homes ≡ []
    → AreGiven events givers 0 given homes
none_given events givers given homes p f s none = record {
  long = ap length none;
  within = omega arith;
  count = λ c. nothing c;
  home = λ c. sym (ap (λ n. take n (places (spots_on c givers))) (nothing c));
}
  where
    nothing : (c : Channel) → given_on c given ≡ 0
    nothing V = p
    nothing A = f
    nothing A2 = s

pub are_enough : (t : Timeline) (list : EventList) (givers : Givers) → HasList t list
    → ((j : Job) (c : Channel) → places (spots_on c givers)
    ≡ homes_in (homed_on c (homed_all j 0 [] (items_of t.tracks.children))))
    → AreEnough list.events givers
are_enough t list givers h each c =
    let j = job_of t h.media h.drop h.wide in
    let there = homed_on c (homed_all j 0 [] (items_of t.tracks.children)) in
    sym (length-map (on_channel c list.events) unnumbered)
    ∙ ap length (h.is.events c)
    ∙ ap length (sym (channel_gives j c (items_of t.tracks.children)))
    ∙ length-map there (λ (h : Homed). h.event)
    ∙ sym (length-map there (λ (h : Homed). h.home))
    ∙ ap length (sym (each j c))
    ∙ length-map (spots_on c givers) (λ (s : Spot). s.track ∷ s.child ∷ [])

same_rank : (c : Channel) → (rank c == rank c) ≡ true
same_rank V = refl
same_rank A = refl
same_rank A2 = refl

taken_next : (es : List Event) (i : ℕ) (e : Event) → i < length es → e ≡ get_or es i e
    → take (i + 1) es ≡ take i es ++ e ∷ []
taken_next es i e lt is = take_more es i e lt ∙ ap (λ z. take i es ++ z ∷ []) (sym is)

on_more : (c : Channel) (es : List Event) (e : Event)
    → length (on_channel c (es ++ e ∷ [])) ≡ length (on_channel c es) + cond (is_on c e) 1 0
on_more c es e =
    ap length (filter-append (is_on c) es (e ∷ []))
    ∙ length-append (on_channel c es) (on_channel c (e ∷ []))
    ∙ ap (λ n. length (on_channel c es) + n) (one (is_on c e))
  where
    one : (b : Bool) → length (cond b (e ∷ []) []) ≡ cond b 1 0
    one true = refl
    one false = refl

on_front : (c : Channel) (es : List Event) (i : ℕ)
    → length (on_channel c (take i es)) ≤ length (on_channel c es)
on_front c es i =
    let n = ap (λ l. length (on_channel c l)) (take-append-drop i es) in
    let m = ap length (filter-append (is_on c) (take i es) (drop i es)) in
    let k = length-append (on_channel c (take i es)) (on_channel c (drop i es)) in
    omega (arith, n, m, k)

abbrev step : Bool → ℕ
step b = cond b 1 0

-- a place is left for the next event
pub has_next : (es : List Event) (givers : Givers) (i : ℕ) (given : Given)
    (homes : List (List ℕ)) (e : Event) → i < length es → e ≡ get_or es i e
    → AreEnough es givers → AreGiven es givers i given homes
    → given_on e.channel given < length (spots_on e.channel givers)
has_next es givers i given homes e lt is enough are =
    let c = e.channel in
    let count = are.count c in
    let all = enough c in
    let front = on_front c es (i + 1) in
    let next = ap (λ l. length (on_channel c l)) (taken_next es i e lt is) in
    let one = on_more c (take i es) e in
    let here : step (is_on c e) ≡ 1 = ap step (same_rank c) in
    omega (arith, count, all, front, next, one, here)

-- and there are no more than the list has
pub few_given : (es : List Event) (givers : Givers) (i : ℕ) (given : Given)
    (homes : List (List ℕ)) (c : Channel) → AreGiven es givers i given homes
    → given_on c given ≤ length es
few_given es givers i given homes c are =
    let count = are.count c in let front = on_front c es i in let all = on_few c in
    omega (arith, count, front, all)
  where
    on_few : (c : Channel) → length (on_channel c es) ≤ length es
    on_few V = let a = all_channels es in omega (arith, a)
    on_few A = let a = all_channels es in omega (arith, a)
    on_few A2 = let a = all_channels es in omega (arith, a)

given_more : (c d : Channel) (given : Given)
    → given_on c (given_behind d given) ≡ given_on c given + cond (rank c == rank d) 1 0
given_more V V given = refl
given_more V A given = omega arith
given_more V A2 given = omega arith
given_more A V given = omega arith
given_more A A given = refl
given_more A A2 given = omega arith
given_more A2 V given = omega arith
given_more A2 A given = omega arith
given_more A2 A2 given = refl

home_more : (c : Channel) (l : List Homed) (x : Homed)
    → homes_in (homed_on c (l ++ x ∷ []))
    ≡ homes_in (homed_on c l) ++ cond (is_on c x.event) (x.home ∷ []) []
home_more c l x =
    ap homes_in (filter-append (λ (h : Homed). is_on c h.event) l (x ∷ []))
    ∙ map-append (λ (h : Homed). h.home) (homed_on c l) (homed_on c (x ∷ []))
    ∙ ap (λ z. homes_in (homed_on c l) ++ z) (one (is_on c x.event))
  where
    one : (b : Bool) → homes_in (cond b (x ∷ []) []) ≡ cond b (x.home ∷ []) []
    one true = refl
    one false = refl

place_more : (l : List (List ℕ)) (n : ℕ) (h : List ℕ) (b : Bool)
    → (b ≡ true → n < length l) → (b ≡ true → h ≡ get_or l n [])
    → take (n + cond b 1 0) l ≡ take n l ++ cond b (h ∷ []) []
place_more l n h true lt is =
    take_more l n [] (lt refl) ∙ ap (λ z. take n l ++ z ∷ []) (sym (is refl))
place_more l n h false lt is =
    let zero_more : n + 0 ≡ n = omega arith in
    ap (λ k. take k l) zero_more ∙ sym (append-nil (take n l))

-- one more event and its place
pub gives_more : (es : List Event) (givers : Givers) (i : ℕ) (given : Given)
    (homes : List (List ℕ)) (e : Event) (h : List ℕ) → i < length es → e ≡ get_or es i e
    → AreEnough es givers → h ≡ home_at (spots_on e.channel givers) (given_on e.channel given)
    → AreGiven es givers i given homes
    → AreGiven es givers (i + 1) (given_behind e.channel given) (homes ++ h ∷ [])
gives_more es givers i given homes e h lt is enough put are = record {
  long = let n = length-append homes (h ∷ []) in let m = are.long in omega (arith, n, m);
  within = omega (arith, lt);
  count = λ c. given_more c e.channel given
      ∙ ap (λ n. n + cond (rank c == rank e.channel) 1 0) (are.count c)
      ∙ sym (ap (λ l. length (on_channel c l)) (taken_next es i e lt is)
      ∙ on_more c (take i es) e);
  home = λ c.
      ap (λ l. homes_in (homed_on c (paired l (homes ++ h ∷ [])))) (taken_next es i e lt is)
      ∙ ap (λ l. homes_in (homed_on c l)) (paired_more (take i es) homes e h long)
      ∙ home_more c (paired (take i es) homes) (record { event = unnumbered e; home = h })
      ∙ ap (λ l. l ++ cond (is_on c e) (h ∷ []) []) (are.home c)
      ∙ sym (place_more (places (spots_on c givers)) (given_on c given) h (is_on c e)
      (below c) (there c))
      ∙ ap (λ n. take n (places (spots_on c givers))) (sym (given_more c e.channel given));
}
  where
    long : length homes ≡ length (take i es)
    long = are.long ∙ short
      where
        short : i ≡ length (take i es)
        short =
            let n = ap length (take-append-drop i es) in
            let m = length-append (take i es) (drop i es) in
            let k = length-drop i es in
            omega (arith, n, m, k, lt)

    below : (c : Channel) → is_on c e ≡ true
        → given_on c given < length (places (spots_on c givers))
    below c b =
        let same : c ≡ e.channel = one_channel c e.channel b in
        let n = has_next es givers i given homes e lt is enough are in
        let m = length-map (spots_on e.channel givers) (λ (s : Spot). s.track ∷ s.child ∷ []) in
        subst (λ c. given_on c given < length (places (spots_on c givers))) (sym same)
        (omega (arith, n, m))

    there : (c : Channel) → is_on c e ≡ true
        → h ≡ get_or (places (spots_on c givers)) (given_on c given) []
    there c b =
        let same : c ≡ e.channel = one_channel c e.channel b in
        put ∙ ap (λ c. home_at (spots_on c givers) (given_on c given)) (sym same)

-- after the last event
pub are_homes : (t : Timeline) (list : EventList) (givers : Givers) (i : ℕ) (given : Given)
    (homes : List (List ℕ)) → length list.events ≤ i
    → ((j : Job) (c : Channel) → places (spots_on c givers)
    ≡ homes_in (homed_on c (homed_all j 0 [] (items_of t.tracks.children))))
    → AreEnough list.events givers → AreGiven list.events givers i given homes
    → AreHomes t list homes
are_homes t list givers i given homes all each enough are media drop wide carried is = record {
  each = long;
  on = λ c. same_homed (homed_on c (paired es homes))
      (homed_on c (homed_all j 0 [] (items_of t.tracks.children)))
      (events_there c (paired es homes)
      ∙ ap (on_channel c) (paired_events es homes long)
      ∙ sym (on-unnumbered c es)
      ∙ is.events c ∙ sym (channel_gives j c (items_of t.tracks.children)))
      (ap (λ l. homes_in (homed_on c (paired l homes))) (sym whole)
      ∙ are.home c ∙ take_all (given_on c given) (places (spots_on c givers)) (full c)
      ∙ each j c);
}
  where
    es : List Event
    es = list.events

    j : Job
    j = job_of t media drop wide

    whole : take i es ≡ es
    whole = take_all i es all

    long : length homes ≡ length es
    long = let n = are.long in let m = are.within in omega (arith, n, m, all)

    full : (c : Channel) → length (places (spots_on c givers)) ≤ given_on c given
    full c =
        let m = length-map (spots_on c givers) (λ (s : Spot). s.track ∷ s.child ∷ []) in
        let n = enough c in let k = are.count c in
        let w = ap (λ l. length (on_channel c l)) whole in
        omega (arith, m, n, k, w)
