-- Joined timelines are writable where they are and nothing refuses them.
use Rattle.std.proofs.Common.{◌≡◌, refl, sym, subst, ap, ◌∙◌, ℕ, suc, ℤ, pos, ◌-ℤ◌}
use Rattle.std.proofs.Common.{◌&&◌, ◌||◌, Bool, true, false, Option, Some, None, cond}
use Rattle.std.proofs.Common.{List, [], ◌∷◌, ◌++◌, map, drop}
use Rattle.std.specs.Prelude.{filter, int_lt, not, option_map, slice_get}
use Rattle.tick_time.specs.declared.rates.Rate.{Rate}
use Rattle.tick_time.specs.Rates.{frame}
use Rattle.otio_model.specs.declared.compositions.ItemOf.{ItemOf}
use Rattle.otio_model.specs.declared.compositions.ItemOf.TheVariants.{Clip, Gap, Transition, Stack}
use Rattle.otio_model.specs.declared.compositions.ItemOf.TheVariants.{Track}
use Rattle.otio_model.specs.declared.compositions.Listed.{Listed}
use Rattle.otio_model.specs.declared.timelines.Timeline.{Timeline}
use Rattle.otio_model.specs.Trees.{is_transition, listed}
use Rattle.coord.specs.Looks.{Overlap}
use Rattle.coord.specs.Sights.{overlap_of}
use Rattle.edits.specs.Children.{Child, all_made}
use Rattle.edits.specs.Cuts.{olds}
use Rattle.edits_law.proofs.Sorts.{point, sort, thing}
use Rattle.edits_law.proofs.Splice.{cases}
use Rattle.edits.specs.After.{rate_of}
use Rattle.edits.specs.Edges.{added}
use Rattle.edits_law.proofs.Apart.{AreThings as NoTransitions, Apart, Shut, join_shut}
use Rattle.edits_law.proofs.Apart.{things_first}
use Rattle.std.proofs.lemmas.Bool.{or_parts}
use Rattle.flat.specs.declared.faults.Cause.TheVariants as C
use Rattle.flat.specs.Answers.{AreFree, Joins, joins}
use Rattle.flat.specs.Blocked.{IsFree}
use Rattle.flat.specs.Joined.{IsJoined, JoinBlocks, Slot, begins_early, crossing, ends_late}
use Rattle.flat.specs.Joined.{is_new, joined_children, joined_slots, joined_track, joined_tracks}
use Rattle.flat.specs.Joined.{joined_with, own_items, pad, slots, slots_in, stretch, track_of}
use Rattle.flat.specs.Roots.{is_empty, is_enabled, items_in, roots, with_roots}
use Rattle.flat_law.proofs.Fit.{kth_at}
use Rattle.coord.proofs.Members.{same_some}
use Rattle.edits_law.proofs.Made.{first_of_two}
use Rattle.object_law.specs.Writable as W
use Rattle.object_law.specs.Writable.{IsItem, IsTimeline}
use Rattle.flat_law.specs.Inputs.{AreTimelines}
use Rattle.writable_law.proofs.WritableChildren.{AreWritableChildren, gap_writable}
use Rattle.writable_law.proofs.MadeChildren.{all_olds, join}
use Rattle.flat_law.proofs.Things.{AreThings, IsThing, roots_are, same_bare}
use Rattle.flat_law.proofs.Things.{thing_at, with_roots_is}
use Rattle.flat_law.proofs.WindowedTimelines.{AreCalmItems, inside_calm, made_calm}
use Rattle.flat_law.proofs.WindowedTimelines.{track_with}

-- ---- how a list ends

-- no transition is the last of a list
abbrev EndsOpen : List (ItemOf Listed) → Type 0
EndsOpen l = (i : ℕ) (y : ItemOf Listed) (o : Overlap) → slice_get l i ≡ Some y
    → overlap_of y ≡ Some o → is_empty (drop (suc i) l) ≡ false

shut_by : (p : Bool) (l : List (ItemOf Listed)) → Apart p (olds l)
    → (p ≡ true → is_empty l ≡ false) → EndsOpen l → Shut p (olds l)
shut_by true [] k n f = absurd (cc (n refl))
shut_by false [] k n f = refl
shut_by p (x ∷ l) k n f =
    (k.0, shut_by (is_transition x) l k.1 behind (λ i y o e h. f (suc i) y o e h))
  where
    behind : is_transition x ≡ true → is_empty l ≡ false
    behind t = elim (sort x) [
      | point o s e z ↦ f 0 x o refl e
      | thing s e ↦ absurd (let g : true ≡ false = sym t ∙ s in cc g)
    ]

-- every enabled track of an input ends open
abbrev AreOpenTracks : List (ItemOf Listed) → Type 0
AreOpenTracks l = (k : ℕ) (x : ItemOf Listed) → slice_get l k ≡ Some x → is_enabled x ≡ true
    → EndsOpen (items_in x)

open_tracks : (is_first : Bool) (l : List (ItemOf Listed))
    → IsFree (JoinBlocks is_first false l) → AreOpenTracks l
open_tracks is_first l f k x e on i y o s h =
    let begins = not is_first && begins_early (items_in x) i o in
    let ends = ends_late (items_in x) i o in
    let free : (begins || ends) ≡ false = cases (begins || ends)
    (λ z. absurd (f (k ∷ i ∷ []) C.Crossing (crossing (k ∷ i ∷ []) k i x y o refl e on s h z)))
    (λ z. z) in
    (or_parts (is_empty (drop (suc i) (items_in x))) _ (or_parts begins ends free).1).0

-- ---- what a track of an input has

own_calm : (kind : List ℕ) (k : ℕ) (l : List (ItemOf Listed)) → AreThings l
    → AreCalmItems (own_items (track_of kind k l))
own_calm kind k l h = of (track_of kind k l) refl
  where
    none : AreCalmItems []
    none = record { writable = tt; apart = tt }

    own : (x : ItemOf Listed) (c : Bool) → IsThing x → AreCalmItems (cond c (items_in x) [])
    own x true t = inside_calm x t.writable
    own x false t = none

    of : (o : Option (ItemOf Listed)) → track_of kind k l ≡ o → AreCalmItems (own_items o)
    of None e = none
    of (Some x) e = let a = kth_at kind l k x e in own x (is_enabled x) (thing_at l a.0 x h a.1)

own_shut : (kind : List ℕ) (k : ℕ) (l : List (ItemOf Listed)) → AreThings l → AreOpenTracks l
    → Shut false (olds (own_items (track_of kind k l)))
own_shut kind k l h f = of (track_of kind k l) refl
  where
    own : (x : ItemOf Listed) (c : Bool) → is_enabled x ≡ c → IsThing x
        → (is_enabled x ≡ true → EndsOpen (items_in x))
        → Shut false (olds (cond c (items_in x) []))
    own x true e t g = let calm = inside_calm x t.writable in
        shut_by false (items_in x) calm.apart (λ z. absurd (cc z)) (g e)
    own x false e t g = refl

    of : (o : Option (ItemOf Listed)) → track_of kind k l ≡ o → Shut false (olds (own_items o))
    of None e = refl
    of (Some x) e = let a = kth_at kind l k x e in
        own x (is_enabled x) refl (thing_at l a.0 x h a.1) (f a.0 x a.1)

-- ---- a joined track

-- writable inputs, of which all but the last have tracks that end open
abbrev AreInputs : List (ItemOf Listed) → List (List (ItemOf Listed)) → Type 0
AreInputs l [] = AreThings l
AreInputs l (m ∷ more) = (AreThings l × AreOpenTracks l) × AreInputs m more

pad_are : (n : ℤ) → AreWritableChildren (pad n)
pad_are n = cases (int_lt (pos 0) n) (λ e. rw e (gap_writable n, tt)) (λ e. rw e tt)

pad_things : (n : ℤ) → NoTransitions (pad n)
pad_things n = cases (int_lt (pos 0) n) (λ e. rw e (refl, tt)) (λ e. rw e tt)

children_are : (f : ℕ) (kind : List ℕ) (k : ℕ) (l : List (ItemOf Listed))
    (more : List (List (ItemOf Listed))) → AreInputs l more
    → AreWritableChildren (joined_children f kind k l more)
children_are f kind k l [] h =
    let own = own_calm kind k l h in all_olds (own_items (track_of kind k l)) own.writable
children_are f kind k l (m ∷ more) h =
    let own = own_calm kind k l h.0.0 in
    let n = stretch f l -ℤ added (own_items (track_of kind k l)) in
    join (olds (own_items (track_of kind k l))) (pad n ++ joined_children f kind k m more)
    (all_olds (own_items (track_of kind k l)) own.writable)
    (join (pad n) (joined_children f kind k m more) (pad_are n)
    (children_are f kind k m more h.1))

children_apart : (f : ℕ) (kind : List ℕ) (k : ℕ) (l : List (ItemOf Listed))
    (more : List (List (ItemOf Listed))) → AreInputs l more
    → Apart false (joined_children f kind k l more)
children_apart f kind k l [] h = let own = own_calm kind k l h in own.apart
children_apart f kind k l (m ∷ more) h =
    let n = stretch f l -ℤ added (own_items (track_of kind k l)) in
    join_shut false (olds (own_items (track_of kind k l)))
    (pad n ++ joined_children f kind k m more) (own_shut kind k l h.0.0 h.0.1)
    (things_first (pad n) (joined_children f kind k m more) (pad_things n)
    (children_apart f kind k m more h.1))

item_joined : (x : ItemOf Listed) (m : List (ItemOf Listed)) → IsItem x → AreCalmItems m
    → IsItem (joined_with x m)
item_joined x m (W.clip _ c e h) k =
    W.clip (joined_with x m) c (ap (λ y. joined_with y m) e) h
item_joined x m (W.gap _ g e h) k = W.gap (joined_with x m) g (ap (λ y. joined_with y m) e) h
item_joined x m (W.transition _ t e h) k =
    W.transition (joined_with x m) t (ap (λ y. joined_with y m) e) h
item_joined x m (W.stack _ s e h) k = W.stack (joined_with x m) s (ap (λ y. joined_with y m) e) h
item_joined x m (W.track _ t e h) k =
    W.track (joined_with x m) (record t { enabled = true; children = listed m })
    (ap (λ y. joined_with y m) e) (track_with t true m h k)

joined_with-keeps_sort : (x : ItemOf Listed) (m : List (ItemOf Listed))
    → is_transition (joined_with x m) ≡ is_transition x
joined_with-keeps_sort (Clip c) m = refl
joined_with-keeps_sort (Gap c) m = refl
joined_with-keeps_sort (Transition c) m = refl
joined_with-keeps_sort (Stack c) m = refl
joined_with-keeps_sort (Track c) m = refl

track_thing : (r : Rate) (l : List (ItemOf Listed)) (more : List (List (ItemOf Listed)))
    (s : Slot) (y : ItemOf Listed) → AreInputs l more → IsThing s.first
    → joined_track r l more s ≡ Some y → IsThing y
track_thing r l more s y h t e = by (all_made r children) refl e
  where
    children : List Child
    children = joined_children (frame r.num r.den) s.kind s.index l more

    by : (o : Option (List (ItemOf Listed))) → all_made r children ≡ o
        → option_map (joined_with s.first) o ≡ Some y → IsThing y
    by None f g = absurd (cc g)
    by (Some m) f g =
        let k = made_calm r children m
        (children_are (frame r.num r.den) s.kind s.index l more h)
        (children_apart (frame r.num r.den) s.kind s.index l more h) f in
        subst IsThing (same_some (joined_with s.first m) y g) (record {
          writable = item_joined s.first m t.writable k;
          thing = joined_with-keeps_sort s.first m ∙ t.thing;
        })

-- ---- all tracks

abbrev AreSlots : List Slot → Type 0
AreSlots [] = Unit {0}
AreSlots (s ∷ l) = IsThing s.first × AreSlots l

slots_inside : (before l : List (ItemOf Listed)) → AreThings l → AreSlots (slots_in before l)
slots_inside before [] h = tt
slots_inside before (x ∷ l) h = (h.0, slots_inside (before ++ x ∷ []) l h.1)

slots_filter : (keeps : Slot → Bool) (l : List Slot) → AreSlots l → AreSlots (filter keeps l)
slots_filter keeps [] h = tt
slots_filter keeps (s ∷ l) h = cases (keeps s) (λ e. rw e (h.0, slots_filter keeps l h.1))
    (λ e. rw e (slots_filter keeps l h.1))

slots_join : (l m : List Slot) → AreSlots l → AreSlots m → AreSlots (l ++ m)
slots_join [] m h k = k
slots_join (s ∷ l) m h k = (h.0, slots_join l m h.1 k)

abbrev AreRoots : List (List (ItemOf Listed)) → Type 0
AreRoots [] = Unit {0}
AreRoots (l ∷ more) = AreThings l × AreRoots more

slots_are : (earlier inputs : List (List (ItemOf Listed))) → AreRoots inputs
    → AreSlots (slots earlier inputs)
slots_are earlier [] h = tt
slots_are earlier (l ∷ more) h =
    slots_join (filter (is_new earlier) (slots_in [] l)) (slots (earlier ++ l ∷ []) more)
    (slots_filter (is_new earlier) (slots_in [] l) (slots_inside [] l h.0))
    (slots_are (earlier ++ l ∷ []) more h.1)

tracks_things : (r : Rate) (l : List (ItemOf Listed)) (more : List (List (ItemOf Listed)))
    (ss : List Slot) (m : List (ItemOf Listed)) → AreInputs l more → AreSlots ss
    → joined_tracks r l more ss ≡ Some m → AreThings m
tracks_things r l more [] m h k e = subst AreThings (same_some [] m e) tt
tracks_things r l more (s ∷ ss) m h k e =
    let d = first_of_two (joined_track r l more s) (joined_tracks r l more ss) m e in
    subst AreThings (sym d.4) (
      track_thing r l more s d.0 h k.0 d.2,
      tracks_things r l more ss d.1 h k.1 d.3,
    )

-- ---- the timeline

roots_of : (l : List Timeline) → AreTimelines l → AreRoots (map roots l)
roots_of [] h = tt
roots_of (t ∷ l) h = (roots_are t h.0, roots_of l h.1)

inputs_of : (is_first : Bool) (t : Timeline) (more : List Timeline) → AreTimelines (t ∷ more)
    → AreFree is_first (t ∷ more) → AreInputs (roots t) (map roots more)
inputs_of is_first t [] h f = roots_are t h.0
inputs_of is_first t (m ∷ more) h f =
    ((roots_are t h.0, open_tracks is_first (roots t) f.0), inputs_of false m more h.1 f.1)

joined_of : (t r : Timeline) (more : List Timeline) → AreTimelines (t ∷ more)
    → AreFree true (t ∷ more) → IsJoined t more r → IsTimeline r
joined_of t r more h f j =
    same_bare (with_roots j.tracks t) r j.is (with_roots_is j.tracks t h.0
    (tracks_things (rate_of t) (roots t) (map roots more) (joined_slots t more) j.tracks
    (inputs_of true t more h f) (slots_are [] (roots t ∷ map roots more)
    (roots_are t h.0, roots_of more h.1)) j.are))

pub joined_is : (inputs : List Timeline) (r : Timeline) → AreTimelines inputs → Joins inputs r
    → IsTimeline r
joined_is _ r h (joins t more l _ e f j) =
    joined_of t r more (subst AreTimelines e h) (subst (AreFree true) e f) j
