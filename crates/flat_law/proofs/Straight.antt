-- A timeline without transitions shows what the items that hold each instant show.
use mathlib.Core.Path.{fun_ext}
use Rattle.std.proofs.Common.{◌≡◌, refl, sym, subst, ap, ap₂, ◌∙◌, ℕ, zero, suc, ◌+◌, ℤ, pos, ◌+ℤ◌, ◌-ℤ◌, ◌&&◌, true, false, Option, Some, None, cond, List, [], ◌∷◌, map, arith}
use Rattle.std.specs.Prelude.{slice_get, option_map}
use Rattle.std.specs.Option.{option_or}
use Rattle.std.specs.Str.{bytes_eq}
use Rattle.std.proofs.lemmas.Int.{ints}
use Rattle.otio_model.specs.declared.compositions.ItemOf.{ItemOf}
use Rattle.otio_model.specs.declared.compositions.ItemOf.TheVariants.{Clip, Gap, Transition, Stack, Track}
use Rattle.otio_model.specs.declared.compositions.TrackOf.{TrackOf}
use Rattle.otio_model.specs.declared.compositions.Listed.{Listed}
use Rattle.otio_model.specs.declared.compositions.Listed.TheViews.{roll-out-Listed}
use Rattle.otio_model.specs.declared.compositions.Listed.TheFolds.{fold-roll-Listed, map-Listed, ind-Listed}
use Rattle.otio_model.specs.declared.timelines.Timeline.{Timeline}
use Rattle.otio_model.specs.Trees.{listed, items_of}
use Rattle.otio_model.specs.Lengths.{Range, range_of, from_zero, both, sum_of}
use Rattle.coord.specs.Looks.{Show, Blank, Look, Overlap, FrameRate, item_shows, list_shows, track_shows, mix_shows, blank, total}
use Rattle.otio_model.specs.Overlaps.{within}
use Rattle.coord.specs.Speeds.{speed_of, media_at}
use Rattle.coord.specs.Sights.{viewer, View, Sight, sight, sights, sight_by, seen, lengths_seen}
use Rattle.otio_model.specs.Lengths.{or_zero, trimmed_start}
use Rattle.otio_model.specs.Trees.{is_transition}
use Rattle.coord.specs.Programs.{shown_by, at_by, kind_of}
use Rattle.coord.proofs.SightLemmas.{sights-listed, sights-items}
use Rattle.edits.specs.Children.{ticks}
use Rattle.coord.proofs.LookSteps.{mix_item, no_hold}
use Rattle.edits_law.proofs.Splice.{cases}
use Rattle.edits_law.proofs.Sorts.{sort, point, thing}
use Rattle.flat.specs.Roots.{roots}
use Rattle.flat.specs.Straight.{without, straight_item, straight_step, straight, IsStraight, still_by, still_step, still_sights, still, still_shows}
use Rattle.flat_law.proofs.Flat.{items-listed}

-- ---- one level of each fold

-- an item whose children are without transitions at all levels
abbrev pub whole_item : ItemOf Listed → ItemOf Listed
whole_item (Clip c) = Clip c
whole_item (Gap g) = Gap g
whole_item (Transition t) = Transition t
whole_item (Stack s) = Stack (record s { children = straight s.children })
whole_item (Track t) = Track (record t { children = listed (without (items_of (straight t.children))) })

straight_items : (xs : List (ItemOf Listed)) → map straight_item (map-Listed Listed Listed straight (record { list = xs })).list ≡ map whole_item xs
straight_items [] = refl
straight_items ((Clip c) ∷ xs) = ap (λ l. Clip c ∷ l) (straight_items xs)
straight_items ((Gap g) ∷ xs) = ap (λ l. Gap g ∷ l) (straight_items xs)
straight_items ((Transition t) ∷ xs) = ap (λ l. Transition t ∷ l) (straight_items xs)
straight_items ((Stack s) ∷ xs) = ap (λ l. whole_item (Stack s) ∷ l) (straight_items xs)
straight_items ((Track t) ∷ xs) = ap (λ l. whole_item (Track t) ∷ l) (straight_items xs)

pub straight-listed : (xs : List (ItemOf Listed)) → straight (listed xs) ≡ listed (map whole_item xs)
straight-listed xs = fold-roll-Listed Listed straight_step (record { list = xs }) ∙ ap listed (straight_items xs)

pub straight-items : (l : Listed) → straight l ≡ listed (map whole_item (items_of l))
straight-items l = ap straight (sym (roll-out-Listed l)) ∙ straight-listed (items_of l)

still_items : (xs : List (ItemOf Listed)) → map (still_by (λ x. x)) (map-Listed Listed (List Sight) still_sights (record { list = xs })).list ≡ map still xs
still_items [] = refl
still_items ((Clip c) ∷ xs) = ap (λ l. still (Clip c) ∷ l) (still_items xs)
still_items ((Gap g) ∷ xs) = ap (λ l. still (Gap g) ∷ l) (still_items xs)
still_items ((Transition t) ∷ xs) = ap (λ l. still (Transition t) ∷ l) (still_items xs)
still_items ((Stack s) ∷ xs) = ap (λ l. still (Stack s) ∷ l) (still_items xs)
still_items ((Track t) ∷ xs) = ap (λ l. still (Track t) ∷ l) (still_items xs)

still-listed : (xs : List (ItemOf Listed)) → still_sights (listed xs) ≡ map still xs
still-listed xs = fold-roll-Listed (List Sight) still_step (record { list = xs }) ∙ still_items xs

-- ---- a list without its transitions

pub step_out : (x : ItemOf Listed) (l : List (ItemOf Listed)) → is_transition x ≡ true → without (x ∷ l) ≡ without l
step_out x l e = rw e refl

pub step_in : (x : ItemOf Listed) (l : List (ItemOf Listed)) → is_transition x ≡ false → without (x ∷ l) ≡ x ∷ without l
step_in x l e = rw e refl

-- a transition has the length 0
no_length : (x : ItemOf Listed) → is_transition x ≡ true → (sight x).length ≡ Some 0
no_length (Clip c) e = absurd (cc e)
no_length (Gap c) e = absurd (cc e)
no_length (Transition c) e = refl
no_length (Stack c) e = absurd (cc e)
no_length (Track c) e = absurd (cc e)

pub add_none : (o : Option ℕ) → both (λ a b. a + b) (Some 0) o ≡ o
add_none None = refl
add_none (Some n) = let e : 0 + n ≡ n = omega arith in ap Some e

same_sum : (l : List (ItemOf Listed)) → sum_of (lengths_seen (map sight (without l))) ≡ sum_of (lengths_seen (map sight l))
same_sum [] = refl
same_sum (x ∷ l) = cases (is_transition x)
    (λ t. ap (λ m. sum_of (lengths_seen (map sight m))) (step_out x l t) ∙ same_sum l
    ∙ sym (ap (λ o. both (λ a b. a + b) o (sum_of (lengths_seen (map sight l)))) (no_length x t) ∙ add_none (sum_of (lengths_seen (map sight l)))))
    (λ t. ap (λ m. sum_of (lengths_seen (map sight m))) (step_in x l t) ∙ ap (both (λ a b. a + b) (sight x).length) (same_sum l))

abbrev all_seen : View → List (ItemOf Listed) → List Look
all_seen v l = map (seen v) (map sight l)

same_total : (v : View) (l : List (ItemOf Listed)) → total (all_seen v (without l)) ≡ total (all_seen v l)
same_total v [] = refl
same_total v (x ∷ l) = cases (is_transition x)
    (λ t. let z : ticks x ≡ pos 0 = ap (λ o. pos (or_zero o)) (no_length x t) in let f = same_total v l in
    ap (λ m. total (all_seen v m)) (step_out x l t) ∙ (let e : total (all_seen v (without l)) ≡ ticks x +ℤ total (all_seen v l) = omega (arith, ints) in e))
    (λ t. ap (λ m. total (all_seen v m)) (step_in x l t) ∙ ap (λ n. ticks x +ℤ n) (same_total v l))

same_held : (v : View) (l : List (ItemOf Listed)) (w : ℤ) → item_shows (all_seen v (without l)) w ≡ item_shows (all_seen v l) w
same_held v [] w = refl
same_held v (x ∷ l) w = cases (is_transition x)
    (λ t. ap (λ m. item_shows (all_seen v m) w) (step_out x l t) ∙ same_held v l w ∙ sym (no_hold (seen v (sight x)) (all_seen v l) w (ap (λ o. pos (or_zero o)) (no_length x t))))
    (λ t. ap (λ m. item_shows (all_seen v m) w) (step_in x l t) ∙ ap (cond (within (pos 0) (ticks x) w) ((sight x).shows v w)) (same_held v l (w -ℤ ticks x)))

no_mix : (v : View) (p : ℤ → Show) (l : List (ItemOf Listed)) (w : ℤ) → mix_shows p (all_seen v (without l)) w ≡ None
no_mix v p [] w = refl
no_mix v p (x ∷ l) w = elim (sort x) [
  | point o t e z ↦ ap (λ m. mix_shows p (all_seen v m) w) (step_out x l t) ∙ no_mix v p l w
  | thing t e ↦ ap (λ m. mix_shows p (all_seen v m) w) (step_in x l t) ∙ mix_item p (seen v (sight x)) (all_seen v (without l)) w e ∙ no_mix v (Rattle.coord.specs.Looks.from_end (seen v (sight x))) l (w -ℤ ticks x)
]

without_shows : (v : View) (l : List (ItemOf Listed)) (w : ℤ) → track_shows (all_seen v (without l)) w ≡ cond (within (pos 0) (total (all_seen v l)) w) (item_shows (all_seen v l) w) Blank
without_shows v l w =
    ap (λ n. cond (within (pos 0) n w) (list_shows (all_seen v (without l)) w) Blank) (same_total v l)
    ∙ ap (λ z. cond (within (pos 0) (total (all_seen v l)) w) z Blank) (rw (no_mix v blank l w) (same_held v l w))

-- ---- one track

track_still : (t : TrackOf Listed) (l : List (ItemOf Listed))
    → sight_by {C = List Sight} (λ x. x) (Track (record { metadata = t.metadata; name = t.name; source_range = t.source_range; effects = t.effects; markers = t.markers; enabled = t.enabled; children = map sight (without l); kind = t.kind; rest = t.rest }))
    ≡ still_by {C = List Sight} (λ x. x) (Track (record { metadata = t.metadata; name = t.name; source_range = t.source_range; effects = t.effects; markers = t.markers; enabled = t.enabled; children = map sight l; kind = t.kind; rest = t.rest }))
track_still t l = λ i. record {
  length = option_map (λ (r : Range). r.len) (option_or (option_map range_of t.source_range) (option_map from_zero (same_sum l i)));
  shows = fun_ext {f = λ v u. cond (t.enabled && bytes_eq t.kind v.kind) (track_shows (all_seen v (without l)) (media_at (trimmed_start (Track t)) (speed_of (Track t)) u)) Blank}
      {g = λ v u. cond (t.enabled && bytes_eq t.kind v.kind) (cond (within (pos 0) (total (all_seen v l)) (media_at (trimmed_start (Track t)) (speed_of (Track t)) u)) (item_shows (all_seen v l) (media_at (trimmed_start (Track t)) (speed_of (Track t)) u)) Blank) Blank}
      (λ v. fun_ext {f = λ u. cond (t.enabled && bytes_eq t.kind v.kind) (track_shows (all_seen v (without l)) (media_at (trimmed_start (Track t)) (speed_of (Track t)) u)) Blank}
      {g = λ u. cond (t.enabled && bytes_eq t.kind v.kind) (cond (within (pos 0) (total (all_seen v l)) (media_at (trimmed_start (Track t)) (speed_of (Track t)) u)) (item_shows (all_seen v l) (media_at (trimmed_start (Track t)) (speed_of (Track t)) u)) Blank) Blank}
      (λ u. ap (λ z. cond (t.enabled && bytes_eq t.kind v.kind) z Blank) (without_shows v l (media_at (trimmed_start (Track t)) (speed_of (Track t)) u)))) i;
  overlap = None;
}

abbrev with_sights : TrackOf Listed → List Sight → ItemOf (List Sight)
with_sights t c = Track (record { metadata = t.metadata; name = t.name; source_range = t.source_range; effects = t.effects; markers = t.markers; enabled = t.enabled; children = c; kind = t.kind; rest = t.rest })

-- ---- all levels

abbrev IsStill : Listed → Type 0
IsStill l = sights (straight l) ≡ still_sights l

abbrev Known : Type 0
Known = (l : Listed) × IsStill l

abbrev forgotten : List (ItemOf Known) → List (ItemOf Listed)
forgotten ys = (map-Listed Known Listed (λ e. e.0) (record { list = ys })).list

item_still : (t : TrackOf Listed) → IsStill t.children → sight (whole_item (Track t)) ≡ still (Track t)
item_still t h =
    let zs = items_of (straight t.children) in
    ap (λ c. sight_by {C = List Sight} (λ x. x) (with_sights t c)) (sights-listed (without zs))
    ∙ track_still t zs
    ∙ ap (λ c. still_by {C = List Sight} (λ x. x) (with_sights t c)) (sym (sights-items (straight t.children)) ∙ h)

all_still : (ys : List (ItemOf Known)) → map sight (map whole_item (forgotten ys)) ≡ map still (forgotten ys)
all_still [] = refl
all_still ((Clip c) ∷ ys) = ap (λ l. sight (Clip c) ∷ l) (all_still ys)
all_still ((Gap g) ∷ ys) = ap (λ l. sight (Gap g) ∷ l) (all_still ys)
all_still ((Transition t) ∷ ys) = ap (λ l. sight (Transition t) ∷ l) (all_still ys)
all_still ((Stack s) ∷ ys) =
    ap (λ c. sight_by {C = List Sight} (λ x. x) (Stack (record { metadata = s.metadata; name = s.name; source_range = s.source_range; effects = s.effects; markers = s.markers; enabled = s.enabled; children = c; rest = s.rest })) ∷ map sight (map whole_item (forgotten ys))) s.children.1
    ∙ ap (λ l. still (Stack (record { metadata = s.metadata; name = s.name; source_range = s.source_range; effects = s.effects; markers = s.markers; enabled = s.enabled; children = s.children.0; rest = s.rest })) ∷ l) (all_still ys)
all_still ((Track t) ∷ ys) =
    let q : TrackOf Listed = record { metadata = t.metadata; name = t.name; source_range = t.source_range; effects = t.effects; markers = t.markers; enabled = t.enabled; children = t.children.0; kind = t.kind; rest = t.rest } in
    ap₂ (λ x l. x ∷ l) (item_still q t.children.1) (all_still ys)

pub straight_sights : (l : Listed) → sights (straight l) ≡ still_sights l
straight_sights = ind-Listed IsStill (λ x y is.
    let list : map sight (map whole_item x.list) ≡ map still x.list = subst (λ z. map sight (map whole_item z.list) ≡ map still z.list) is (all_still y.list) in
    ap sights (straight-listed x.list) ∙ sights-listed (map whole_item x.list) ∙ list ∙ sym (still-listed x.list))

item_sight : (x : ItemOf Listed) → sight (whole_item x) ≡ still x
item_sight (Clip c) = refl
item_sight (Gap c) = refl
item_sight (Transition c) = refl
item_sight (Stack s) = ap (λ c. sight_by {C = List Sight} (λ x. x) (Stack (record { metadata = s.metadata; name = s.name; source_range = s.source_range; effects = s.effects; markers = s.markers; enabled = s.enabled; children = c; rest = s.rest }))) (straight_sights s.children)
item_sight (Track t) = item_still t (straight_sights t.children)

-- ---- the law

same_kind : (x : ItemOf Listed) → kind_of (whole_item x) ≡ kind_of x
same_kind (Clip c) = refl
same_kind (Gap c) = refl
same_kind (Transition c) = refl
same_kind (Stack c) = refl
same_kind (Track c) = refl

child_still : (rate_kept : FrameRate → FrameRate) (x : ItemOf Listed) (u : ℤ) → shown_by rate_kept (Some (whole_item x)) u ≡ still_shows rate_kept (Some x) u
child_still rate_kept x u =
    ap (λ (s : Sight). cond (within (pos 0) (pos (or_zero s.length)) u) (s.shows (viewer rate_kept (kind_of (whole_item x))) u) Blank) (item_sight x)
    ∙ ap (λ k. cond (within (pos 0) (pos (or_zero (still x).length)) u) ((still x).shows (viewer rate_kept (k)) u) Blank) (same_kind x)

each_still : (rate_kept : FrameRate → FrameRate) (l : List (ItemOf Listed)) (k : ℕ) (u : ℤ) → shown_by rate_kept (slice_get (map whole_item l) k) u ≡ still_shows rate_kept (slice_get l k) u
each_still rate_kept [] k u = refl
each_still rate_kept (x ∷ l) zero u = child_still rate_kept x u
each_still rate_kept (x ∷ l) (suc k) u = each_still rate_kept l k u

pub straight_shows : (t r : Timeline) (rate_kept : FrameRate → FrameRate) (k : ℕ) (u : ℤ) → IsStraight t r → at_by rate_kept r k u ≡ still_shows rate_kept (slice_get (roots t) k) u
straight_shows t r rate_kept k u e =
    ap (λ (z : Timeline). at_by rate_kept z k u) e
    ∙ ap (λ l. shown_by rate_kept (slice_get (items_of l) k) u) (straight-items t.tracks.children)
    ∙ ap (λ l. shown_by rate_kept (slice_get l k) u) (items-listed (map whole_item (roots t)))
    ∙ each_still rate_kept (roots t) k u
