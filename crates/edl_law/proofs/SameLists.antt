-- Lists that are the same show the same, and are carried alike.
use Rattle.std.proofs.Common.{◌≡◌, refl, sym, ap, ap₂, subst, ◌∙◌, ℕ, ◌==◌, ℤ, pos, ◌+ℤ◌, ◌-ℤ◌, ◌*ℤ◌, ◌&&◌, ◌||◌, Bool, true, false, not, cond, List, [], ◌∷◌, ◌++◌, Option, Some, None}
use Rattle.std.specs.Prelude.{int_lt, int_le}
use Rattle.std.specs.Int.{int_div_euclid}
use Rattle.std.specs.List.{list_any}
use Rattle.tick_time.specs.declared.rates.Rate.{Rate}
use Rattle.otio_model.specs.declared.timelines.Timeline.{Timeline}
use Rattle.edl_list.specs.declared.list.Channel.{Channel}
use Rattle.edl_list.specs.declared.list.Reel.{Reel}
use Rattle.edl_list.specs.declared.list.Reel.TheVariants.{Black, Named}
use Rattle.edl_list.specs.declared.list.Side.{Side}
use Rattle.edl_list.specs.declared.list.Cross.{Cross}
use Rattle.edl_list.specs.declared.list.Cross.TheVariants.{Cut, Dissolve, Wipe}
use Rattle.edl_list.specs.declared.list.Event.{Event}
use Rattle.edl_list.specs.declared.list.EventList.{EventList}
use Rattle.edl_list.specs.Alike.{IsSameSide, IsSameCross, IsSameEvent, AreSame, IsSame}
use Rattle.edl_list.specs.Formed.{IsWellFormed, rank}
use Rattle.coord.specs.Soundness.{IsSound}
use Rattle.coord.specs.Images.{Image, Single, Kind, Dissolve as IsDissolve, Wipe as IsWipe}
use Rattle.edl_frames.specs.Shown.{reel_key, source_frame, reel_shows, side_shows, mix_of, crossing_shows, cross_shows, event_shows, events_show, is_on, on_channel, shown}
use Rattle.media_rows.specs.Rows.{MediaRows}
use Rattle.edl_frames.specs.Refused.{Use, outgoing_use, uses_of, is_unlisted, has_other_rate, is_outside, if_listed, reel_row, event_fault, first_fault, IsAccepted}
use Rattle.edl_frames.specs.declared.faults.ConformFault.{ConformFault}
use Rattle.edl_frames.specs.declared.faults.ConformFault.TheVariants as F
use Rattle.edl_law.proofs.ListedRates.{tests_fail}
use Rattle.edl_frames.specs.Channels.{KeySeen, on, on_by}
use Rattle.edl_frames.specs.Conformed.{IsTimelineOf}
use Rattle.edl_frames.specs.Carried.{not_carried, IsListOf}
use Rattle.coord.specs.Soundness.{IsCalm}
use Rattle.edl_law.specs.Premises.{KnowsKeys}
use Rattle.edl_law.proofs.TimelineShows.{timeline_shows_list}
use Rattle.edl_law.proofs.ListShows.{list_shows_timeline}
use Rattle.otio_model.specs.Overlaps.{within}
use Rattle.std.specs.Ordering.{int_eq}

frame_same : (rate : Rate) (a b : Side) (k : ℤ) → IsSameSide rate a b
    → source_frame rate a k ≡ source_frame rate b k
frame_same rate a b k s = λ i. s.src_in i +ℤ int_div_euclid (k *ℤ pos (s.speed i)) (pos 1000000)

side_same : (rate : Rate) (media : MediaRows) (a b : Side) (k : ℤ) → IsSameSide rate a b
    → side_shows rate media a k ≡ side_shows rate media b k
side_same rate media a b k s = by a.reel ∙ ap (λ r. reel_shows rate media b r k) s.reel
  where
    by : (r : Reel) → reel_shows rate media a r k ≡ reel_shows rate media b r k
    by Black = refl
    by (Named reel) = ap (Single (reel_key media reel)) (frame_same rate a b k s)

crossing_same : (rate : Rate) (media : MediaRows) (kind : Kind) (m n : ℕ) (a b x y : Side) (k : ℤ)
    → m ≡ n → IsSameSide rate a b → IsSameSide rate x y → crossing_shows rate media kind m a x k ≡
    crossing_shows rate media kind n b y k
crossing_same rate media kind m n a b x y k e s t =
    let f = side_same rate media a b k s in let g = side_same rate media x y k t in
    λ i. cond (int_lt k (pos (e i))) (mix_of kind (f i) (g i) k (pos (e i))) (g i)

cross_same : (rate : Rate) (media : MediaRows) (c d : Cross) (x y : Side) (k : ℤ)
    → IsSameCross rate c d → IsSameSide rate x y → cross_shows rate media c x k ≡ cross_shows rate
    media d y k
cross_same rate media Cut Cut x y k s t = side_same rate media x y k t
cross_same rate media (Dissolve m a) (Dissolve n b) x y k s t = crossing_same rate media IsDissolve
    m n a b x y k s.0 s.1 t
cross_same rate media (Wipe i m a) (Wipe j n b) x y k s t =
    ap (λ q. crossing_shows rate media (IsWipe q) m a x k) s.0
    ∙ crossing_same rate media (IsWipe j) m n a b x y k s.1 s.2 t
cross_same rate media Cut (Dissolve n b) x y k s t = absurd s
cross_same rate media Cut (Wipe j n b) x y k s t = absurd s
cross_same rate media (Dissolve m a) Cut x y k s t = absurd s
cross_same rate media (Dissolve m a) (Wipe j n b) x y k s t = absurd s
cross_same rate media (Wipe i m a) Cut x y k s t = absurd s
cross_same rate media (Wipe i m a) (Dissolve n b) x y k s t = absurd s

event_same : (rate : Rate) (media : MediaRows) (a b : Event) (n : ℤ) (x y : Image)
    → IsSameEvent rate a b → x ≡ y
    → cond (within a.rec_in a.rec_out n) (event_shows rate media a (n -ℤ a.rec_in)) x ≡ cond
    (within b.rec_in b.rec_out n) (event_shows rate media b (n -ℤ b.rec_in)) y
event_same rate media a b n x y s e =
    ap (λ i. cond (within a.rec_in a.rec_out n) i x)
    (cross_same rate media a.cross b.cross a.to b.to (n -ℤ a.rec_in) s.cross s.to)
    ∙ (λ i. cond (within (s.rec_in i) (s.rec_out i) n)
    (cross_shows rate media b.cross b.to (n -ℤ s.rec_in i)) (e i))

events_same : (rate : Rate) (media : MediaRows) (c : Channel) (xs ys : List Event) (n : ℤ)
    → AreSame rate xs ys → events_show rate media (on_channel c xs) n ≡ events_show rate media
    (on_channel c ys) n
events_same rate media c [] [] n s = refl
events_same rate media c [] (y ∷ ys) n s = absurd s
events_same rate media c (x ∷ xs) [] n s = absurd s
events_same rate media c (x ∷ xs) (y ∷ ys) n s =
    both (is_on c x) (events_same rate media c xs ys n s.1)
    ∙ ap (λ t. events_show rate media
    (cond (rank c == rank t) (y ∷ on_channel c ys) (on_channel c ys)) n) s.0.channel
  where
    both : (b : Bool) → events_show rate media (on_channel c xs) n ≡ events_show rate media
        (on_channel c ys) n → events_show rate media
        (cond b (x ∷ on_channel c xs) (on_channel c xs)) n ≡ events_show rate media
        (cond b (y ∷ on_channel c ys) (on_channel c ys)) n
    both true rest = event_same rate media x y n (events_show rate media (on_channel c xs) n)
        (events_show rate media (on_channel c ys) n) s.0 rest
    both false rest = rest

-- two lists that are the same show the same
pub shown_same : (a b : EventList) (media : MediaRows) (c : Channel) (n : ℤ) → IsSame a b
    → shown a media c n ≡ shown b media c n
shown_same a b media c n s = events_same a.rate media c a.events b.events n s.events
    ∙ ap (λ r. events_show r media (on_channel c b.events) n) s.rate

-- ---- refusals

record IsSameUse (rate : Rate) (u v : Use) : Type 0 where
  side : IsSameSide rate u.side v.side
  frames : u.frames ≡ v.frames

abbrev AreSameUses : Rate → List Use → List Use → Type 0
AreSameUses rate [] [] = Unit {0}
AreSameUses rate [] (v ∷ vs) = ⊥
AreSameUses rate (u ∷ us) [] = ⊥
AreSameUses rate (u ∷ us) (v ∷ vs) = IsSameUse rate u v × AreSameUses rate us vs

any_same : (rate : Rate) (p : Use → Bool) (us vs : List Use)
    → ((u v : Use) → IsSameUse rate u v → p u ≡ p v) → AreSameUses rate us vs
    → list_any p us ≡ list_any p vs
any_same rate p [] [] h s = refl
any_same rate p [] (v ∷ vs) h s = absurd s
any_same rate p (u ∷ us) [] h s = absurd s
any_same rate p (u ∷ us) (v ∷ vs) h s = ap₂ (λ a b. a || b) (h u v s.0)
    (any_same rate p us vs h s.1)

uses_same : (rate : Rate) (a b : Event) → IsSameEvent rate a b → AreSameUses rate (uses_of a)
    (uses_of b)
uses_same rate a b s = by a.cross b.cross s.cross
  where
    to : AreSameUses rate (record { side = a.to; frames = a.rec_out -ℤ a.rec_in } ∷ [])
        (record { side = b.to; frames = b.rec_out -ℤ b.rec_in } ∷ [])
    to = (record { side = s.to; frames = ap₂ (λ x y. x -ℤ y) s.rec_out s.rec_in }, tt)

    by : (c d : Cross) → IsSameCross rate c d
        → AreSameUses rate
        (outgoing_use c ++ (record { side = a.to; frames = a.rec_out -ℤ a.rec_in } ∷ []))
        (outgoing_use d ++ (record { side = b.to; frames = b.rec_out -ℤ b.rec_in } ∷ []))
    by Cut Cut t = to
    by (Dissolve m x) (Dissolve n y) t = (record { side = t.1; frames = ap (λ k. pos k) t.0 }, to)
    by (Wipe i m x) (Wipe j n y) t = (record { side = t.2; frames = ap (λ k. pos k) t.1 }, to)
    by Cut (Dissolve n y) t = absurd t
    by Cut (Wipe j n y) t = absurd t
    by (Dissolve m x) Cut t = absurd t
    by (Dissolve m x) (Wipe j n y) t = absurd t
    by (Wipe i m x) Cut t = absurd t
    by (Wipe i m x) (Dissolve n y) t = absurd t

unlisted_same : (rate : Rate) (media : MediaRows) (u v : Use) → IsSameUse rate u v
    → is_unlisted media u ≡ is_unlisted media v
unlisted_same rate None u v s = refl
unlisted_same rate (Some rows) u v s =
    ap (λ r. is_unlisted (Some rows)
    (record { side = record (u.side) { reel = r }; frames = u.frames })) s.side.reel

outside_same : (rate : Rate) (media : MediaRows) (u v : Use) → IsSameUse rate u v
    → is_outside rate media u ≡ is_outside rate media v
outside_same rate media u v s =
    let a = frame_same rate u.side v.side (pos 0) s.side in
    let b = frame_same rate u.side v.side (u.frames -ℤ pos 1) s.side
    ∙ ap (λ n. source_frame rate v.side (n -ℤ pos 1)) s.frames in
    λ i. if_listed (λ row. int_lt (a i) row.start || int_le (row.start +ℤ row.count) (b i))
    (reel_row media (s.side.reel i))

fault_same : (rate : Rate) (media : MediaRows) (a b : Event) → IsSameEvent rate a b
    → event_fault rate media a ≡ None → event_fault rate media b ≡ None
fault_same rate media a b s e =
    let u = uses_same rate a b s in
    let x = any_same rate (is_unlisted media) (uses_of a) (uses_of b) (unlisted_same rate media) u
    in
    let y = any_same rate (has_other_rate rate media) (uses_of a) (uses_of b)
    (λ p q t.
    ap
    (λ r. if_listed (λ row. not (int_eq row.rate.num rate.num && int_eq row.rate.den rate.den))
    (reel_row media r)) t.side.reel) u in
    let z = any_same rate (is_outside rate media) (uses_of a) (uses_of b) (outside_same rate media)
    u in
    let t = tests_fail (list_any (is_unlisted media) (uses_of a))
    (list_any (has_other_rate rate media) (uses_of a))
    (list_any (is_outside rate media) (uses_of a)) _ _ _ e in
    let p = sym x ∙ t.0 in
    let q = sym y ∙ t.1 in
    let r = sym z ∙ t.2 in
    λ i. cond (p i) (Some (F.NoReel b.line)) (cond (q i) (Some (F.Rate b.line))
    (cond (r i) (Some (F.Outside b.line)) None))

refused_same : (rate : Rate) (media : MediaRows) (xs ys : List Event) → AreSame rate xs ys
    → first_fault rate media xs ≡ None → first_fault rate media ys ≡ None
refused_same rate media [] [] s e = refl
refused_same rate media [] (y ∷ ys) s e = absurd s
refused_same rate media (x ∷ xs) [] s e = absurd s
refused_same rate media (x ∷ xs) (y ∷ ys) s e =
    by (event_fault rate media x) refl e (refused_same rate media xs ys s.1)
  where
    by : (o : Option ConformFault) → event_fault rate media x ≡ o
        → ◌≡◌ {A = Option ConformFault}
        (elim o [ None ↦ first_fault rate media xs | Some fault ↦ Some fault ]) None
        → (first_fault rate media xs ≡ None → first_fault rate media ys ≡ None)
        → first_fault rate media (y ∷ ys) ≡ None
    by None f g h =
        ap (λ o. elim o [ None ↦ first_fault rate media ys | Some fault ↦ Some fault ])
        (fault_same rate media x y s.0 f) ∙ h g
    by (Some fault) f g h = absurd (cc g)

-- a list that is the same as one that is carried is carried
pub carried_same : (a b : EventList) (media : MediaRows) → IsSame a b → IsAccepted a media
    → IsAccepted b media
carried_same a b media s e = subst (λ r. first_fault r media b.events ≡ None) s.rate
    (refused_same a.rate media a.events b.events s.events e)

-- ---- there and back

-- what was written and read again, conformed against its media list, shows what the timeline showed
pub round_trip : (key : KeySeen) (t again : Timeline) (list read : EventList) (media : MediaRows)
    (drop wide : Bool) (c : Channel) (n : ℤ) → IsSound t → IsCalm t → KnowsKeys key media
    → not_carried t media drop wide ≡ None → IsListOf t media drop wide list
    → IsSame list read → IsWellFormed read → IsAccepted read media → IsTimelineOf read media again
    → on again c n ≡ on_by key t c n
round_trip key t again list read media drop wide c n sound calm keys carried i same formed accepted
    conformed =
    timeline_shows_list read media again c n formed accepted conformed
    ∙ sym (shown_same list read media c n same)
    ∙ list_shows_timeline key t list media drop wide c n sound calm keys carried i
