-- A flattened timeline is writable.
use Rattle.std.proofs.Common.{◌≡◌, refl, sym, subst, ap, ◌∙◌, ℕ, suc, ℤ, pos, ◌+ℤ◌, ◌-ℤ◌, ◌≤ℤ◌}
use Rattle.std.proofs.Common.{Bool, true, false, Option, Some, None, cond, List, [], ◌∷◌, arith}
use Rattle.std.specs.Prelude.{int_lt, option_and_then, not}
use Rattle.std.specs.Option.{option_or}
use Rattle.std.proofs.lemmas.Int.{ints}
use Rattle.tick_time.specs.declared.rates.Rate.{Rate}
use Rattle.otio_model.specs.declared.compositions.ItemOf.{ItemOf}
use Rattle.otio_model.specs.declared.compositions.Listed.{Listed}
use Rattle.otio_model.specs.declared.timelines.Timeline.{Timeline}
use Rattle.otio_model.specs.Lengths.{trimmed_start}
use Rattle.otio_model.specs.Misplaced.{side_by_side}
use Rattle.otio_model.specs.Overlaps.{within}
use Rattle.otio_model.proofs.Views.{items-listed}
use Rattle.coord.specs.Soundness.{IsSound}
use Rattle.coord.specs.Speeds.{media_at, speed_of}
use Rattle.edits.specs.Children.{made, ticks}
use Rattle.edits.specs.Cuts.{left_piece, right_piece}
use Rattle.edits_law.proofs.Splice.{cases}
use Rattle.edits.specs.After.{rate_of}
use Rattle.flat.specs.Blocked.{Blocks, IsFree}
use Rattle.flat.specs.Flattened.{AreFlat, IsFlattened, changed, flat_track, in_place, put_flat}
use Rattle.flat.specs.Flattened.{unchanged}
use Rattle.flat.specs.Pieces.{AreLongest, Giver, Piece, from_on, giver, gives, holder, longest}
use Rattle.flat.specs.Pieces.{no_more, one_more, piece_item, piece_items, up_to}
use Rattle.flat.specs.Roots.{is_layer, is_of, items_in, roots, with_roots}
use Rattle.flat_law.proofs.FlatSound.{flat_sound}
use Rattle.coord.proofs.Members.{same_some}
use Rattle.edits_law.proofs.Made.{first_of_two}
use Rattle.flat_law.proofs.Stretches.{simple_clip}
use Rattle.object_law.specs.Writable as W
use Rattle.object_law.specs.Writable.{AreItems, IsItem, IsTimeline}
use Rattle.writable_law.proofs.WritableChildren.{AreWritable, each_item}
use Rattle.flat_law.proofs.Things.{AreThings, IsThing, gap_thing, inside_items}
use Rattle.flat_law.proofs.Things.{ranged_thing, roots_are, same_bare}
use Rattle.flat_law.proofs.Things.{sound_with, things_apart, things_filter}
use Rattle.flat_law.proofs.Things.{things_items, things_join, with_roots_is}

-- ---- what gives an instant

holder_thing : (k i : ℕ) (s : ℤ) (l : List (ItemOf Listed)) (w : ℤ) (g : Giver) → AreWritable l
    → holder k i s l w ≡ Some g → IsThing g.item
holder_thing k i s [] w g h e = absurd (cc e)
holder_thing k i s (x ∷ l) w g h e =
    by (λ f. holder_thing k (suc i) (s +ℤ ticks x) l (w -ℤ ticks x) g h.1 f)
    (within (pos 0) (ticks x) w) e
  where
    here : (c : Bool) → gives x ≡ c
        → cond c (Some (record { track = k; child = i; start = s; item = x })) None ≡ Some g
        → IsThing g.item
    here false f m = absurd (cc m)
    here true f m =
        let is : Path Giver (record { track = k; child = i; start = s; item = x }) g = cc m in
        subst (λ (q : Giver). IsThing q.item) is
        (let one = simple_clip x f in record { writable = h.0; thing = one.thing })

    by : (holder k (suc i) (s +ℤ ticks x) l (w -ℤ ticks x) ≡ Some g → IsThing g.item) → (c : Bool)
        → cond c
        (cond (gives x) (Some (record { track = k; child = i; start = s; item = x })) None)
        (holder k (suc i) (s +ℤ ticks x) l (w -ℤ ticks x)) ≡ Some g → IsThing g.item
    by rest true m = here (gives x) refl m
    by rest false m = rest m

giver_thing : (k : ℕ) (kind : List ℕ) (l : List (ItemOf Listed)) (w : ℤ) (g : Giver)
    → AreThings l → giver k kind l w ≡ Some g → IsThing g.item
giver_thing k kind [] w g h e = absurd (cc e)
giver_thing k kind (x ∷ l) w g h e =
    by (λ f. giver_thing (suc k) kind l w g h.1 f) (giver (suc k) kind l w) refl e
  where
    here : (c : Bool) → cond c (holder k 0 (pos 0) (items_in x) w) None ≡ Some g → IsThing g.item
    here true m = let one = h.0 in holder_thing k 0 (pos 0) (items_in x) w g
        (each_item (items_in x) (inside_items x one.writable)) m
    here false m = absurd (cc m)

    by : (giver (suc k) kind l w ≡ Some g → IsThing g.item) → (o : Option Giver)
        → giver (suc k) kind l w ≡ o
        → option_or o (cond (is_layer kind x) (holder k 0 (pos 0) (items_in x) w) None) ≡ Some g
        → IsThing g.item
    by rest None f m = here (is_layer kind x) m
    by rest (Some q) f m = rest (f ∙ m)

-- ---- a piece

up_thing : (r : Rate) (t : ℤ) (x y : ItemOf Listed) → IsThing x → up_to r t x ≡ Some y → IsThing y
up_thing r t x y h e = by (int_lt t (ticks x)) e
  where
    by : (c : Bool) → cond c (made r (left_piece x t)) (Some x) ≡ Some y → IsThing y
    by true m = ranged_thing r x (trimmed_start x) t y h m
    by false m = subst IsThing (same_some x y m) h

from_thing : (r : Rate) (t : ℤ) (x y : ItemOf Listed) → IsThing x → from_on r t x ≡ Some y
    → IsThing y
from_thing r t x y h e = by (int_lt (pos 0) t) e
  where
    by : (c : Bool) → cond c (made r (right_piece x t)) (Some x) ≡ Some y → IsThing y
    by true m =
        ranged_thing r x (media_at (trimmed_start x) (speed_of x) t) (ticks x -ℤ t) y h m
    by false m = subst IsThing (same_some x y m) h

piece_thing : (r : Rate) (from to : ℤ) (o : Option Giver) (y : ItemOf Listed)
    → ((g : Giver) → o ≡ Some g → IsThing g.item)
    → piece_item r (record { from = from; to = to; of = o }) ≡ Some y → IsThing y
piece_thing r from to None y f e = gap_thing r (to -ℤ from) y e
piece_thing r from to (Some g) y f e = by (up_to r (to -ℤ g.start) g.item) refl e
  where
    by : (o : Option (ItemOf Listed)) → up_to r (to -ℤ g.start) g.item ≡ o
        → option_and_then (from_on r (from -ℤ g.start)) o ≡ Some y → IsThing y
    by None u m = absurd (cc m)
    by (Some x) u m = from_thing r (from -ℤ g.start) x y
        (up_thing r (to -ℤ g.start) g.item x (f g refl) u) m

pieces_things : (r : Rate) (g : ℤ → Option Giver) (end at : ℤ) (l : List Piece)
    (items : List (ItemOf Listed)) → ((w : ℤ) (q : Giver) → g w ≡ Some q → IsThing q.item)
    → AreLongest g end at l → piece_items r l ≡ Some items → AreThings items
pieces_things r g end _ _ items f (no_more at l e k) m =
    subst AreThings (same_some [] items (subst (λ q. piece_items r q ≡ Some items) k m)) tt
pieces_things r g end _ _ items f (one_more at to p rest l h k same other more e) m =
    let one : Piece = record { from = at; to = to; of = p } in
    let d = first_of_two (piece_item r one) (piece_items r rest) items
    (subst (λ q. piece_items r q ≡ Some items) e m) in
    let low : at ≤ℤ at = omega (arith, ints) in
    subst AreThings (sym d.4) (
      piece_thing r at to p d.0 (λ q c. f at q (same at low h ∙ c)) d.2,
      pieces_things r g end to rest d.1 f more d.3,
    )

-- ---- the timeline

flat_thing : (t : Timeline) (kind : List ℕ) (items : List (ItemOf Listed)) → IsTimeline t
    → AreFlat t kind items → IsThing (flat_track kind items)
flat_thing t kind items h a =
    let things = pieces_things (rate_of t) (giver 0 kind (roots t)) (longest kind (roots t))
    (pos 0) a.pieces items (λ w q e. giver_thing 0 kind (roots t) w q (roots_are t h) e) a.are
    a.made in
    record {
      writable = W.track (flat_track kind items) _ refl (W.track_of _ refl tt tt
          (ap side_by_side (items-listed items) ∙ things_apart items things)
          (subst AreItems (sym (items-listed items)) (things_items items things)));
      thing = refl;
    }

place_things : (kind : List ℕ) (x : ItemOf Listed) (l : List (ItemOf Listed)) → IsThing x
    → AreThings l → AreThings (in_place kind x l)
place_things kind x [] h k = tt
place_things kind x (y ∷ l) h k = cases (is_of kind y)
    (λ e. rw e (h, things_filter (λ z. not (is_of kind z)) l k.1))
    (λ e. rw e (k.0, place_things kind x l h k.1))

put_things : (keep : Bool) (kind : List ℕ) (x : ItemOf Listed) (l : List (ItemOf Listed))
    → IsThing x → AreThings l → AreThings (put_flat keep kind x l)
put_things true kind x l h k = things_join l (x ∷ []) k (h, tt)
put_things false kind x l h k = place_things kind x l h k

pub flattened_is : (t r : Timeline) (kind : List ℕ) (keep : Bool) → IsTimeline t
    → IsFlattened t kind keep r → IsTimeline r
flattened_is t r kind keep h (unchanged e g) = same_bare t r g h
flattened_is t r kind keep h (changed items e a g) =
    let flat = flat_track kind items in
    same_bare (with_roots (put_flat keep kind flat (roots t)) t) r g
    (with_roots_is (put_flat keep kind flat (roots t)) t h
    (put_things keep kind flat (roots t) (flat_thing t kind items h a) (roots_are t h)))

pub flattened_sound : (t r : Timeline) (kind : List ℕ) (keep : Bool) → IsSound t → IsTimeline t
    → IsFree (Blocks kind (roots t)) → IsFlattened t kind keep r → IsSound r
flattened_sound t r kind keep s h f is =
    sound_with r (flat_sound t r kind keep s.faultless f is) (flattened_is t r kind keep h is)
