-- A flattened timeline shows what the topmost enabled track of the kind that isn't Blank shows.
use Rattle.std.proofs.Common.{◌≡◌, refl, sym, subst, ap, ◌∙◌, ℕ, suc, ℤ, pos, ◌-ℤ◌, ◌≤ℤ◌, ◌&&◌, ◌||◌, Bool, true, false, Option, Some, None, cond, List, [], ◌∷◌, ◌++◌, map, length, arith}
use Rattle.std.specs.Prelude.{int_lt, int_le, slice_get, Contains, slice_index_or, option_map, option_and_then, not, filter}
use Rattle.std.specs.Str.{bytes_eq}
use Rattle.std.proofs.lemmas.Int.{ints, by_lt_z}
use Rattle.otio_model.specs.declared.compositions.ItemOf.{ItemOf}
use Rattle.otio_model.specs.declared.compositions.ItemOf.TheVariants.{Clip, Gap, Transition, Stack, Track}
use Rattle.otio_model.specs.declared.compositions.TrackOf.{TrackOf}
use Rattle.otio_model.specs.declared.compositions.Listed.{Listed}
use Rattle.otio_model.specs.declared.compositions.Listed.TheViews.{out-roll-Listed}
use Rattle.otio_model.specs.declared.timelines.Timeline.{Timeline}
use Rattle.otio_model.specs.Timelines.{bare}
use Rattle.otio_model.specs.Trees.{listed, items_of, below}
use Rattle.otio_model.specs.Lengths.{Range, from_zero, sum_of, length_of, lengths}
use Rattle.coord.specs.Looks.{Blank, FrameRate, item_shows}
use Rattle.otio_model.specs.Overlaps.{within}
use Rattle.coord.specs.Sights.{viewer, View, sight, looks, lengths_seen}
use Rattle.coord.specs.Soundness.{IsFaultless, fault_of}
use Rattle.otio_model.specs.Trees.{is_transition}
use Rattle.coord.specs.Programs.{child_shows, shown_by, at_by}
use Rattle.coord.proofs.SightLemmas.{seen_lengths, sights-listed}
use Rattle.edits.specs.Children.{ticks}
use Rattle.edits.specs.After.{rate_of}
use Rattle.edits_law.proofs.Splice.{cases, not_held}
use Rattle.coord.proofs.LookSteps.{missed_before, missed_behind}
use Rattle.edits_law.proofs.Seams.{items_good}
use Rattle.flat.specs.declared.faults.Cause.TheVariants as C
use Rattle.flat.specs.Roots.{is_plain, is_nested, is_of, is_layer, items_in, roots, with_roots}
use Rattle.flat.specs.Pieces.{Giver, giver, longest, Piece, AreLongest, is_cut}
use Rattle.flat.specs.Blocked.{Blocks, not_plain, nested, transition, phase, IsFree}
use Rattle.flat.specs.Flattened.{flat_track, has_kind, in_place, first_of_kind, flat_index, put_flat, AreFlat, IsFlattened, unchanged, changed, top_shows}
use Rattle.flat_law.proofs.Givers.{IsSimple, AreSimple, giver_given, IsLayer, AreLayers, plain_shows, top_given, item_out}
use Rattle.flat_law.proofs.Stretches.{AreCut, stretches}
use Rattle.coord.proofs.ShortItems.{judged}

-- ---- nothing is refused

simple_by : (l : List (ItemOf Listed)) → ((i : ℕ) (y : ItemOf Listed) → slice_get l i ≡ Some y → IsSimple y) → AreSimple l
simple_by [] f = tt
simple_by (x ∷ l) f = (f 0 x refl, simple_by l (λ i y e. f (suc i) y e))

layers_by : (kind : List ℕ) (l : List (ItemOf Listed)) → ((i : ℕ) (x : ItemOf Listed) → slice_get l i ≡ Some x → is_layer kind x ≡ true → IsLayer x) → AreLayers kind l
layers_by kind [] f = tt
layers_by kind (x ∷ l) f = (f 0 x refl, layers_by kind l (λ i y e. f (suc i) y e))

cuts_by : (l : List Piece) → ((p : Piece) → Contains l p → (g : Giver) → p.of ≡ Some g → is_cut p g ≡ true) → AreCut l
cuts_by [] f = tt
cuts_by (p ∷ l) f = (f p (0, omega arith, refl), cuts_by l (λ q c. let h = c.1 in f q (suc c.0, omega arith, c.2)))

-- an item without a fault that is no transition has a length
pub length_known : (x : ItemOf Listed) → is_transition x ≡ false → fault_of x ≡ None → (n : ℕ) × (length_of x ≡ Some n)
length_known x t e = of (length_of x) refl (rw t at e)
  where
    of : (o : Option ℕ) → length_of x ≡ o → judged x o ≡ None → (n : ℕ) × (length_of x ≡ Some n)
    of None f m = absurd (cc m)
    of (Some n) f m = (n, f)

pub fault_free : (t : Timeline) (i : ℕ) (x : ItemOf Listed) → IsFaultless t → slice_get (roots t) i ≡ Some x → fault_of x ≡ None
fault_free t i x s e = s.items (i ∷ []) x (ap (option_and_then (below [])) e)

layer_no_transition : (kind : List ℕ) (x : ItemOf Listed) → is_layer kind x ≡ true → is_transition x ≡ false
layer_no_transition kind (Clip c) e = refl
layer_no_transition kind (Gap c) e = refl
layer_no_transition kind (Transition c) e = absurd (cc e)
layer_no_transition kind (Stack c) e = refl
layer_no_transition kind (Track c) e = refl

pub layers : (t : Timeline) (kind : List ℕ) → IsFaultless t → IsFree (Blocks kind (roots t)) → AreLayers kind (roots t)
layers t kind s f = layers_by kind (roots t) (λ k x e y.
    let n = length_known x (layer_no_transition kind x y) (fault_free t k x s e) in
    record {
      plain = cases (is_plain x) (λ p. p) (λ p. absurd (f (k ∷ []) C.Nested (not_plain (k ∷ []) k x refl e y p)));
      simple = simple_by (items_in x) (λ i z g. record {
        alone = cases (is_nested z) (λ p. absurd (f (k ∷ i ∷ []) C.Nested (nested (k ∷ i ∷ []) k i x z refl e y g p))) (λ p. p);
        thing = cases (is_transition z) (λ p. absurd (f (k ∷ i ∷ []) C.Crossing (transition (k ∷ i ∷ []) k i x z refl e y g p))) (λ p. p);
      });
      ticks = n.0;
      length = n.1;
    })

pub all_cut : (kind : List ℕ) (l : List (ItemOf Listed)) (pieces : List Piece) → AreLongest (giver 0 kind l) (longest kind l) (pos 0) pieces → IsFree (Blocks kind l) → AreCut pieces
all_cut kind l pieces are f = cuts_by pieces (λ p c g e. cases (is_cut p g) (λ h. h)
    (λ h. absurd (f (g.track ∷ g.child ∷ []) C.Phase (phase (g.track ∷ g.child ∷ []) g.track g.child refl
    (record { pieces = pieces; are = are; piece = p; among = c; of = g; gives = e; track = refl; child = refl; refused = h })))))

-- ---- outside the longest track

pub longest_low : (kind : List ℕ) (l : List (ItemOf Listed)) → pos 0 ≤ℤ longest kind l
longest_low kind [] = omega (arith, ints)
longest_low kind (x ∷ l) = of (is_layer kind x && int_lt (longest kind l) (ticks x)) (longest_low kind l)
  where
    of : (b : Bool) → pos 0 ≤ℤ longest kind l → pos 0 ≤ℤ cond b (ticks x) (longest kind l)
    of true h = omega (arith, ints)
    of false h = h

longest_both : (kind : List ℕ) (x : ItemOf Listed) (l : List (ItemOf Listed)) → (longest kind l ≤ℤ longest kind (x ∷ l)) × (is_layer kind x ≡ true → ticks x ≤ℤ longest kind (x ∷ l))
longest_both kind x l = of (is_layer kind x) refl
  where
    of : (b : Bool) → is_layer kind x ≡ b → (longest kind l ≤ℤ longest kind (x ∷ l)) × (is_layer kind x ≡ true → ticks x ≤ℤ longest kind (x ∷ l))
    of false e = (rw e (omega (arith, ints)), λ f. absurd (cc (sym e ∙ f)))
    of true e = rw e (by_lt_z (longest kind l) (ticks x)
        (λ h. let f : int_lt (longest kind l) (ticks x) ≡ true = grind (arith, ints) in rw f (omega (arith, ints), λ g. omega (arith, ints)))
        (λ h. let f : int_lt (longest kind l) (ticks x) ≡ false = grind (arith, ints) in rw f (omega (arith, ints), λ g. h)))

out_child : (rate_kept : FrameRate → FrameRate) (x : ItemOf Listed) (u : ℤ) → within (pos 0) (ticks x) u ≡ false → child_shows rate_kept x u ≡ Blank
out_child rate_kept x u e = rw e

out_top : (rate_kept : FrameRate → FrameRate) (kind : List ℕ) (l : List (ItemOf Listed)) (u : ℤ) → ((n : ℤ) → n ≤ℤ longest kind l → within (pos 0) n u ≡ false) → top_shows rate_kept kind l u ≡ Blank
out_top rate_kept kind [] u f = refl
out_top rate_kept kind (x ∷ l) u f =
    let b = longest_both kind x l in
    let rest : top_shows rate_kept kind l u ≡ Blank = out_top rate_kept kind l u (λ n h. f n (let k = b.0 in omega (arith, ints))) in
    rw rest (of (is_layer kind x) refl (λ e. out_child rate_kept x u (f (ticks x) (b.1 e))))
  where
    of : (b : Bool) → is_layer kind x ≡ b → (is_layer kind x ≡ true → child_shows rate_kept x u ≡ Blank) → cond b (child_shows rate_kept x u) Blank ≡ Blank
    of true e g = g e
    of false e g = refl

-- ---- the flat track

flat_length : (items : List (ItemOf Listed)) (kind : List ℕ) (n : ℕ) → sum_of (lengths_seen (map sight items)) ≡ Some n → length_of (flat_track kind items) ≡ Some n
flat_length items kind n e =
    let f : sum_of (lengths (listed items)) ≡ Some n = ap sum_of (sym (seen_lengths (listed items)) ∙ ap lengths_seen (sights-listed items)) ∙ e in
    ap (λ o. option_map (λ (r : Range). r.len) (option_map from_zero o)) f

pub items-listed : (l : List (ItemOf Listed)) → items_of (listed l) ≡ l
items-listed l = ap (λ z. z.list) (out-roll-Listed (record { list = l }))

flat_shows : (t : Timeline) (kind : List ℕ) (items : List (ItemOf Listed)) (rate_kept : FrameRate → FrameRate) (u : ℤ) → ((a b : FrameRate) → rate_kept a ≡ rate_kept b) → IsFaultless t → IsFree (Blocks kind (roots t))
    → AreFlat t kind items → child_shows rate_kept (flat_track kind items) u ≡ top_shows rate_kept kind (roots t) u
flat_shows t kind items rate_kept u blind s f a =
    let v : View = viewer rate_kept (kind) in
    let g : ℤ → Option Giver = giver 0 kind (roots t) in
    let end = longest kind (roots t) in
    let sh = stretches v (rate_of t) g end (pos 0) a.pieces items blind (λ w q e. giver_given 0 kind (roots t) w q e) a.are (all_cut kind (roots t) a.pieces a.are f) a.made in
    let same = items-listed items in
    let flat : TrackOf Listed = record { metadata = []; name = Rattle.std.specs.Prelude.codes "Flattened"; source_range = None; effects = []; markers = []; enabled = true; children = listed items; kind = kind; rest = [] } in
    let n = sh.sum in
    let own : child_shows rate_kept (flat_track kind items) u ≡ item_shows (looks v items) u =
    plain_shows rate_kept flat n.0 u (record { range = refl; effects = refl }) refl (flat_length items kind n.0 n.1) (subst AreSimple (sym same) sh.simple)
    ∙ ap (λ l. item_shows (looks v l) u) same in
    let long = sh.long in
    own ∙ by_lt_z u (pos 0)
    (λ h. not_held (looks v items) u (items_good (looks v items) sh.items) h ∙ sym (out_top rate_kept kind (roots t) u (λ n k. missed_before (pos 0) n u h)))
    (λ h. by_lt_z u end
    (λ k. ap (item_shows (looks v items)) (let e : u ≡ u -ℤ pos 0 = omega (arith, ints) in e) ∙ sh.shows u h k ∙ top_given rate_kept kind 0 (roots t) u (layers t kind s f))
    (λ k. item_out (looks v items) u (items_good (looks v items) sh.items) (omega (arith, ints)) ∙ sym (out_top rate_kept kind (roots t) u (λ n m. missed_behind (pos 0) n u (omega (arith, ints))))))

-- ---- where it stands

at_end : (l : List (ItemOf Listed)) (x : ItemOf Listed) → slice_get (l ++ x ∷ []) (length l) ≡ Some x
at_end [] x = refl
at_end (y ∷ l) x = at_end l x

at_first : (kind : List ℕ) (x : ItemOf Listed) (l : List (ItemOf Listed)) → has_kind kind l ≡ true → slice_get (in_place kind x l) (first_of_kind kind l) ≡ Some x
at_first kind x [] e = absurd (cc e)
at_first kind x (y ∷ l) e = of (is_of kind y) refl e (at_first kind x l)
  where
    of : (b : Bool) → is_of kind y ≡ b → (b || has_kind kind l) ≡ true → (has_kind kind l ≡ true → slice_get (in_place kind x l) (first_of_kind kind l) ≡ Some x)
        → slice_get (in_place kind x (y ∷ l)) (first_of_kind kind (y ∷ l)) ≡ Some x
    of true f g h = rw f refl
    of false f g h = rw f (h g)

at_flat : (keep : Bool) (kind : List ℕ) (x : ItemOf Listed) (l : List (ItemOf Listed)) → has_kind kind l ≡ true → slice_get (put_flat keep kind x l) (flat_index keep kind l) ≡ Some x
at_flat true kind x l e = at_end l x
at_flat false kind x l e = at_first kind x l e

pub at_root : (rate_kept : FrameRate → FrameRate) (t r : Timeline) (l : List (ItemOf Listed)) (k : ℕ) (u : ℤ) → bare r ≡ bare (with_roots l t) → at_by rate_kept r k u ≡ shown_by rate_kept (slice_get l k) u
at_root rate_kept t r l k u e =
    ap (λ (z : Timeline). at_by rate_kept z k u) e ∙ ap (λ m. shown_by rate_kept (slice_get m k) u) (items-listed l)

pub flattened : (t r : Timeline) (kind : List ℕ) (keep : Bool) (rate_kept : FrameRate → FrameRate) (u : ℤ) → ((a b : FrameRate) → rate_kept a ≡ rate_kept b)
    → IsFaultless t → IsFree (Blocks kind (roots t)) → has_kind kind (roots t) ≡ true → IsFlattened t kind keep r
    → at_by rate_kept r (flat_index keep kind (roots t)) u ≡ top_shows rate_kept kind (roots t) u
flattened t r kind keep rate_kept u b s f h (unchanged e g) = absurd (cc (sym h ∙ e))
flattened t r kind keep rate_kept u b s f h (changed items e a g) =
    at_root rate_kept t r (put_flat keep kind (flat_track kind items) (roots t)) (flat_index keep kind (roots t)) u g
    ∙ ap (λ o. shown_by rate_kept o u) (at_flat keep kind (flat_track kind items) (roots t) h)
    ∙ flat_shows t kind items rate_kept u b s f a
