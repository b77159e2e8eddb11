-- The items on the way to a list that was changed.
use Rattle.std.proofs.Common.{◌≡◌, refl, sym, ap, ap₂, subst, ◌∙◌, ◌&&◌, ◌||◌, true, false, ℕ, zero}
use Rattle.std.proofs.Common.{suc, List, [], ◌∷◌, ◌++◌, Option, Some, None, map, max, ◌+◌}
use Rattle.std.specs.Prelude.{is_some, option_map, option_and_then, slice_get}
use Rattle.std.specs.List.{list_any}
use Rattle.std.specs.Option.{option_or}
use Rattle.otio_model.specs.declared.compositions.ItemOf.{ItemOf}
use Rattle.otio_model.specs.declared.compositions.ItemOf.TheVariants.{Clip, Gap, Transition, Stack}
use Rattle.otio_model.specs.declared.compositions.ItemOf.TheVariants.{Track}
use Rattle.otio_model.specs.declared.compositions.Listed.{Listed}
use Rattle.otio_model.specs.Edits.{changed, deeper, with_at}
use Rattle.otio_model.specs.Lengths.{Range, both, from_zero, length_of, longest_of, range_of}
use Rattle.otio_model.specs.Lengths.{sum_of}
use Rattle.otio_model.specs.Misplaced.{has_misplaced, side_by_side}
use Rattle.otio_model.specs.Trees.{below, children_of, is_transition, item_at, items_of}
use Rattle.coord.specs.Speeds.{effects_of}
use Rattle.coord.proofs.SightLemmas.{lengths-items}
use Rattle.edits.specs.Everywhere.{Everywhere}
use Rattle.edits_law.proofs.Splice.{cases}
use Rattle.edits_law.proofs.Unreached.{got_changed, items_with}
use Rattle.edits_law.proofs.Clean.{IsClean, clean_speed, long_by}
use Rattle.edits_law.proofs.MadeParts.{same_item}

-- ---- what stood there before

-- an item at the beginning of a place is the old one with other children
pub record Was (front back : List ℕ) (m l : Listed) (x : ItemOf Listed) : Type 0 where
  pub old : ItemOf Listed
  pub there : item_at front l ≡ Some old
  pub now : deeper (with_at back m) old ≡ x

first_way : (i : ℕ) (back : List ℕ) (m l : Listed) (x : ItemOf Listed) (o : Option (ItemOf Listed))
    → slice_get (items_of l) i ≡ o
    → option_and_then (below []) (option_map (deeper (with_at back m)) o) ≡ Some x
    → Was (i ∷ []) back m l x
first_way i back m l x None s h = absurd (cc h)
first_way i back m l x (Some w) s h = record {
  old = w;
  there = ap (option_and_then (below [])) s;
  now = same_item (deeper (with_at back m) w) x h;
}

next_way : (i j : ℕ) (f back : List ℕ) (m l : Listed) (x : ItemOf Listed)
    → ((c : Listed) → item_at (j ∷ f) (with_at (j ∷ (f ++ back)) m c) ≡ Some x
    → Was (j ∷ f) back m c x)
    → (o : Option (ItemOf Listed)) → slice_get (items_of l) i ≡ o
    → option_and_then (below (j ∷ f)) (option_map (deeper (with_at (j ∷ (f ++ back)) m)) o) ≡ Some x
    → Was (i ∷ j ∷ f) back m l x
next_way i j f back m l x next None s h = absurd (cc h)
next_way i j f back m l x next (Some (Clip c)) s h = absurd (cc h)
next_way i j f back m l x next (Some (Gap c)) s h = absurd (cc h)
next_way i j f back m l x next (Some (Transition c)) s h = absurd (cc h)
next_way i j f back m l x next (Some (Stack c)) s h =
    let r = next c.children h in
    record { old = r.old; there = ap (option_and_then (below (j ∷ f))) s ∙ r.there; now = r.now }
next_way i j f back m l x next (Some (Track c)) s h =
    let r = next c.children h in
    record { old = r.old; there = ap (option_and_then (below (j ∷ f))) s ∙ r.there; now = r.now }

-- what a place leads to through the child that was changed
through : (i : ℕ) (f place : List ℕ) (m l : Listed) (x : ItemOf Listed)
    → item_at (i ∷ f) (with_at (i ∷ place) m l) ≡ Some x
    → option_and_then (below f) (option_map (deeper (with_at place m)) (slice_get (items_of l) i))
    ≡ Some x
through i f place m l x e =
    sym (ap (λ xs. option_and_then (below f) (slice_get xs i)) (items_with i place m l)
    ∙ ap (option_and_then (below f)) (got_changed (deeper (with_at place m)) i (items_of l))) ∙ e

pub on_way : (front back : List ℕ) (m l : Listed) (x : ItemOf Listed)
    → item_at front (with_at (front ++ back) m l) ≡ Some x → Was front back m l x
on_way [] back m l x e = absurd (cc e)
on_way (i ∷ []) back m l x e =
    first_way i back m l x (slice_get (items_of l) i) refl (through i [] back m l x e)
on_way (i ∷ j ∷ f) back m l x e =
    next_way i j f back m l x (λ c h. on_way (j ∷ f) back m c x h) (slice_get (items_of l) i) refl
    (through i (j ∷ f) (j ∷ (f ++ back)) m l x e)

-- ---- lengths

abbrev IsMeasured : ItemOf Listed → Type 0
IsMeasured x = is_some (length_of x) ≡ true

abbrev pub AreMeasured : List (ItemOf Listed) → Type 0
AreMeasured [] = Unit {0}
AreMeasured (x ∷ l) = IsMeasured x × AreMeasured l

both_some : (f : ℕ → ℕ → ℕ) (a b : Option ℕ) → is_some a ≡ true → is_some b ≡ true
    → is_some (both f a b) ≡ true
both_some f None b e g = absurd (cc e)
both_some f (Some m) None e g = absurd (cc g)
both_some f (Some m) (Some n) e g = refl

sum_known : (l : List (ItemOf Listed)) → AreMeasured l → is_some (sum_of (map length_of l)) ≡ true
sum_known [] k = refl
sum_known (x ∷ l) k = both_some (λ a b. a + b) (length_of x) _ k.0 (sum_known l k.1)

longest_known : (l : List (ItemOf Listed)) → AreMeasured l
    → is_some (longest_of (map length_of l)) ≡ true
longest_known [] k = refl
longest_known (x ∷ l) k = both_some max (length_of x) _ k.0 (longest_known l k.1)

range_known : (o : Option Range) (n : Option ℕ) → is_some n ≡ true
    → is_some (option_map (λ (r : Range). r.len) (option_or o (option_map from_zero n))) ≡ true
range_known None None e = absurd (cc e)
range_known None (Some n) e = refl
range_known (Some r) n e = refl

-- an item whose children have lengths has one
deeper_length : (g : Listed → Listed) (x : ItemOf Listed) → IsMeasured x
    → ((c : Listed) → children_of x ≡ Some c → AreMeasured (items_of (g c)))
    → IsMeasured (deeper g x)
deeper_length g (Clip c) k n = k
deeper_length g (Gap c) k n = k
deeper_length g (Transition c) k n = k
deeper_length g (Stack c) k n = range_known (option_map range_of c.source_range) _
    (subst (λ ns. is_some (longest_of ns) ≡ true) (lengths-items (g c.children))
    (longest_known (items_of (g c.children)) (n c.children refl)))
deeper_length g (Track c) k n = range_known (option_map range_of c.source_range) _
    (subst (λ ns. is_some (sum_of ns) ≡ true) (lengths-items (g c.children))
    (sum_known (items_of (g c.children)) (n c.children refl)))

all_changed : (f : ItemOf Listed → ItemOf Listed) (i : ℕ) (l : List (ItemOf Listed))
    → AreMeasured l → ((x : ItemOf Listed) → slice_get l i ≡ Some x → IsMeasured (f x))
    → AreMeasured (changed f i l)
all_changed f i [] k n = tt
all_changed f zero (x ∷ l) k n = (n x refl, k.1)
all_changed f (suc i) (x ∷ l) k n = (k.0, all_changed f i l k.1 n)

pub by_places : (l : List (ItemOf Listed))
    → ((i : ℕ) (x : ItemOf Listed) → slice_get l i ≡ Some x → IsMeasured x) → AreMeasured l
by_places [] k = tt
by_places (x ∷ l) k = (k zero x refl, by_places l (λ i y e. k (suc i) y e))

-- what holds of all items holds of each child, and of all below it
at_child : (P : ItemOf Listed → Type 0) (l : Listed) (i : ℕ) (x : ItemOf Listed) → Everywhere P l
    → slice_get (items_of l) i ≡ Some x → P x
at_child P l i x k e = k (i ∷ []) x (ap (option_and_then (below [])) e)

inside : (P : ItemOf Listed → Type 0) (l : Listed) (i : ℕ) (x : ItemOf Listed) (c : Listed)
    → Everywhere P l → slice_get (items_of l) i ≡ Some x → children_of x ≡ Some c → Everywhere P c
inside P l i x c k e f [] y h = absurd (cc h)
inside P l i x c k e f (j ∷ place) y h = k (i ∷ j ∷ place) y
    (ap (option_and_then (below (j ∷ place))) e ∙ ap (option_and_then (item_at (j ∷ place))) f ∙ h)

new_lengths : (place : List ℕ) (m l : Listed) → AreMeasured (items_of m) → Everywhere IsMeasured l
    → AreMeasured (items_of (with_at place m l))
new_lengths [] m l n k = n
new_lengths (i ∷ place) m l n k =
    subst AreMeasured (sym (items_with i place m l))
    (all_changed (deeper (with_at place m)) i (items_of l)
    (by_places (items_of l) (λ j x e. at_child IsMeasured l j x k e))
    (λ x e. deeper_length (with_at place m) x (at_child IsMeasured l i x k e)
    (λ c f. new_lengths place m c n (inside IsMeasured l i x c k e f))))

-- an item on the way has a length
pub way_length : (back : List ℕ) (m : Listed) (x : ItemOf Listed) → AreMeasured (items_of m)
    → IsMeasured x → ((c : Listed) → children_of x ≡ Some c → Everywhere IsMeasured c)
    → IsMeasured (deeper (with_at back m) x)
way_length back m x n k h =
    deeper_length (with_at back m) x k (λ c f. new_lengths back m c n (h c f))

-- ---- transitions

kind_deeper : (f : Listed → Listed) (x : ItemOf Listed)
    → is_transition (deeper f x) ≡ is_transition x
kind_deeper f (Clip c) = refl
kind_deeper f (Gap c) = refl
kind_deeper f (Transition c) = refl
kind_deeper f (Stack c) = refl
kind_deeper f (Track c) = refl

pub any_changed : (f : Listed → Listed) (i : ℕ) (l : List (ItemOf Listed))
    → list_any is_transition (changed (deeper f) i l) ≡ list_any is_transition l
any_changed f i [] = refl
any_changed f zero (x ∷ l) = ap (λ b. b || list_any is_transition l) (kind_deeper f x)
any_changed f (suc i) (x ∷ l) = ap (λ b. is_transition x || b) (any_changed f i l)

side_changed : (f : Listed → Listed) (i : ℕ) (l : List (ItemOf Listed))
    → side_by_side (changed (deeper f) i l) ≡ side_by_side l
side_changed f i [] = refl
side_changed f zero (x ∷ []) = refl
side_changed f (suc i) (x ∷ []) = refl
side_changed f zero (x ∷ y ∷ l) =
    ap (λ b. (b && is_transition y) || side_by_side (y ∷ l)) (kind_deeper f x)
side_changed f (suc zero) (x ∷ y ∷ l) =
    ap₂ (λ b c. (is_transition x && b) || c) (kind_deeper f y) (side_changed f zero (y ∷ l))
side_changed f (suc (suc i)) (x ∷ y ∷ l) =
    ap (λ c. (is_transition x && is_transition y) || c) (side_changed f (suc i) (y ∷ l))

-- no item on the way to a changed list has misplaced transitions
pub way_calm : (i : ℕ) (back : List ℕ) (m : Listed) (x : ItemOf Listed) → has_misplaced x ≡ false
    → has_misplaced (deeper (with_at (i ∷ back) m) x) ≡ false
way_calm i back m (Clip c) e = refl
way_calm i back m (Gap c) e = refl
way_calm i back m (Transition c) e = e
way_calm i back m (Stack c) e =
    ap (list_any is_transition) (items_with i back m c.children)
    ∙ any_changed (with_at back m) i (items_of c.children) ∙ e
way_calm i back m (Track c) e =
    ap side_by_side (items_with i back m c.children)
    ∙ side_changed (with_at back m) i (items_of c.children) ∙ e

-- ---- both

deeper_effects : (f : Listed → Listed) (x : ItemOf Listed) → effects_of (deeper f x) ≡ effects_of x
deeper_effects f (Clip c) = refl
deeper_effects f (Gap c) = refl
deeper_effects f (Transition c) = refl
deeper_effects f (Stack c) = refl
deeper_effects f (Track c) = refl

-- an item that gets other children stays clean where it has a length and no misplaced transitions
pub deeper_clean : (f : Listed → Listed) (x : ItemOf Listed) → IsClean x → IsMeasured (deeper f x)
    → has_misplaced (deeper f x) ≡ false → IsClean (deeper f x)
deeper_clean f x k n c = record {
  long = λ fault e. cases (is_transition x)
      (λ t. absurd (cc (rw (kind_deeper f x, t) at e)))
      (λ t. let s = clean_speed x k t in
      long_by (deeper f x) (rw (deeper_effects f x) s) n fault e);
  calm = c;
}
