-- What the lengths on the way to a changed track say of the items there.
use Rattle.std.proofs.Common.{◌≡◌, refl, sym, ap, subst, ◌∙◌, ℕ, zero, suc, ◌<◌}
use Rattle.std.proofs.Common.{◌≤◌, pos, ◌-ℤ◌, Bool, true, false, List, [], ◌∷◌, ◌++◌}
use Rattle.std.proofs.Common.{Option, Some, None, map, cond, slice_get, arith}
use Rattle.std.specs.Prelude.{option_and_then, option_map, is_none, nat_lt, int_le, not, ◌&&◌, ◌||◌}
use Rattle.std.specs.Prelude.{unsigned_abs}
use Rattle.std.specs.Option.{option_or}
use Rattle.std.proofs.lemmas.Option.{same_Some as same_item}
use Rattle.limits.specs.Limits.{most_ticks}
use Rattle.tick_time.specs.declared.spans.Span.{Span}
use Rattle.otio_model.specs.declared.compositions.ItemOf.{ItemOf}
use Rattle.otio_model.specs.declared.compositions.ItemOf.TheVariants.{Clip, Gap, Transition, Stack}
use Rattle.otio_model.specs.declared.compositions.ItemOf.TheVariants.{Track}
use Rattle.otio_model.specs.declared.compositions.StackOf.{StackOf}
use Rattle.otio_model.specs.declared.compositions.TrackOf.{TrackOf}
use Rattle.otio_model.specs.declared.compositions.Listed.{Listed}
use Rattle.otio_model.specs.declared.timelines.Timeline.{Timeline}
use Rattle.otio_model.specs.Edits.{changed, deeper, list_at, with_at}
use Rattle.otio_model.specs.Lengths.{Range, added, from_zero, length_of, lengths, longest_of}
use Rattle.otio_model.specs.Lengths.{range_of, sum_of}
use Rattle.otio_model.specs.Speeds.{keeps_speed}
use Rattle.otio_model.specs.Sums.{are_known, capped, greatest, where_known}
use Rattle.otio_model.specs.Trees.{below, children_of, item_at, items_of, listed}
use Rattle.otio_model.proofs.Adding.{longest_known, sum_known}
use Rattle.otio_model.proofs.Lenses.{got_changed, below_deeper}
use Rattle.otio_model.proofs.Views.{items-listed}
use Rattle.coord.specs.declared.faults.ItemFault.{ItemFault}
use Rattle.coord.specs.declared.faults.ItemFault.TheVariants.{NoLength, Speed, Long}
use Rattle.coord.specs.Soundness.{AreFaultless, IsFaultlessItem, fault_of, is_long}
use Rattle.coord.specs.Soundness.{media_end, most_end, ranged_fault}
use Rattle.coord.specs.Speeds.{effects_of}
use Rattle.edits.specs.Everywhere.{OnTheWay}
use Rattle.edits_law.proofs.Premises.{fine_length}
use Rattle.edit_plans.specs.Ways.{available_with, is_long_with, is_way_long, short_ticks}
use Rattle.edit_plans.specs.Ways.{ticks_with, way_ticks, with_ticks}
use Rattle.edit_plans.proofs.WayLemmas.{lengths_map}
use Rattle.edit_plans.proofs.WaySteps.{below_of, by_child, child_sound, item_from}

-- ---- one item whose children are others

same_list : (x y : Listed) → Some x ≡ Some y → x ≡ y
same_list x y e = cc e

-- an item without a fault plays at a speed within the range
kept : (b c : Bool) → cond b (cond c (Some Long) None) (Some Speed) ≡ None → b ≡ true
kept true c e = refl
kept false c e = absurd (cc e)

by_length : (x : ItemOf Listed) (o : Option ℕ) → ◌≡◌ {A = Option ItemFault}
    (elim o [ None ↦ Some NoLength | Some n ↦ ranged_fault x n ]) None
    → keeps_speed (pos 1000000) (effects_of x) ≡ true
by_length x None e = absurd (cc e)
by_length x (Some n) e = kept (keeps_speed (pos 1000000) (effects_of x)) (is_long x n) e

-- how long it is, and its fault
record Changed (f : Listed → Listed) (x : ItemOf Listed) (a : ℕ) : Type 0 where
  length : length_of (deeper f x) ≡ Some (ticks_with x a)
  fault : fault_of (deeper f x) ≡ cond (is_long_with x a (ticks_with x a)) (Some Long) None

by_source : (s : Option Span) (o : Option ℕ) (a : ℕ) → o ≡ Some a
    → option_map (λ (r : Range). r.len) (option_or (option_map range_of s) (option_map from_zero o))
    ≡ Some (elim s [ None ↦ a | Some w ↦ unsigned_abs w.len.ticks ])
by_source None o a e = ap (λ q. option_map (λ (r : Range). r.len) (option_map from_zero q)) e
by_source (Some w) o a e = refl

known_is : (b : Bool) (n : ℕ) → b ≡ true → where_known b n ≡ Some n
known_is true n e = refl
known_is false n e = absurd (cc e)

ranged : (y : ItemOf Listed) (n : ℕ) → keeps_speed (pos 1000000) (effects_of y) ≡ true
    → ranged_fault y n ≡ cond (is_long y n) (Some Long) None
ranged y n e = ap (λ b. cond b (cond (is_long y n) (Some Long) None) (Some Speed)) e

with_length : (y : ItemOf Listed) (o : Option ℕ) (n : ℕ) → o ≡ Some n
    → ◌≡◌ {A = Option ItemFault} (elim o [ None ↦ Some NoLength | Some k ↦ ranged_fault y k ])
    (ranged_fault y n)
with_length y o n e = ap (λ (q : Option ℕ). elim q
    [ None ↦ Some NoLength | Some k ↦ ranged_fault y k ]) e

then_stack : (f : Listed → Listed) (s : StackOf Listed) → fault_of (Stack s) ≡ None
    → are_known (lengths (f s.children)) ≡ true → Changed f (Stack s)
    (greatest (lengths (f s.children)))
then_stack f s e k =
    let y : ItemOf Listed = deeper f (Stack s) in
    let a = greatest (lengths (f s.children)) in
    let n : length_of y ≡ Some (ticks_with (Stack s) a) =
    by_source s.source_range (longest_of (lengths (f s.children))) a
    (longest_known (lengths (f s.children)) ∙ known_is _ a k) in
    record {
      length = n;
      fault = with_length y (length_of y) _ n
          ∙ ranged y (ticks_with (Stack s) a) (by_length (Stack s) (length_of (Stack s)) e);
    }

then_track : (f : Listed → Listed) (s : TrackOf Listed) → fault_of (Track s) ≡ None
    → are_known (lengths (f s.children)) ≡ true → Changed f (Track s)
    (added (lengths (f s.children)))
then_track f s e k =
    let y : ItemOf Listed = deeper f (Track s) in
    let a = added (lengths (f s.children)) in
    let n : length_of y ≡ Some (ticks_with (Track s) a) =
    by_source s.source_range (sum_of (lengths (f s.children))) a
    (sum_known (lengths (f s.children)) ∙ known_is _ a k) in
    record {
      length = n;
      fault = with_length y (length_of y) _ n
          ∙ ranged y (ticks_with (Track s) a) (by_length (Track s) (length_of (Track s)) e);
    }

-- ---- what the lengths say

-- an item on the way is too long
pub record LongOn (rest : List ℕ) (x : ItemOf Listed) : Type 0 where
  pub front : List ℕ
  pub back : List ℕ
  pub item : ItemOf Listed
  pub parts : rest ≡ front ++ back
  pub there : below front x ≡ Some item
  pub long : fault_of item ≡ Some Long

abbrev NoneOn : List ℕ → ItemOf Listed → Type 0
NoneOn rest x = (front back : List ℕ) (y : ItemOf Listed) → rest ≡ front ++ back
    → below front x ≡ Some y → fault_of y ≡ Some Long → ⊥

abbrev WayIs : List ℕ → ItemOf Listed → Option ℕ → Type 0
WayIs rest x None = LongOn rest x
WayIs rest x (Some n) = (length_of x ≡ Some n) × NoneOn rest x

no_long : (b : Bool) → b ≡ false → ◌≡◌ {A = Option ItemFault} (cond b (Some Long) None) (Some Long)
    → ⊥
no_long true e f = cc e
no_long false e f = cc f

-- of the item itself, where nothing below is too long
here : (rest : List ℕ) (f : Listed → Listed) (x : ItemOf Listed) (a : ℕ) → Changed f x a
    → ((front back : List ℕ) (j : ℕ) (y : ItemOf Listed) → rest ≡ (j ∷ front) ++ back
    → below (j ∷ front) (deeper f x) ≡ Some y → fault_of y ≡ Some Long → ⊥)
    → WayIs rest (deeper f x) (short_ticks x a)
here rest f x a c h = by (is_long_with x a (ticks_with x a)) refl
  where
    none : is_long_with x a (ticks_with x a) ≡ false → NoneOn rest (deeper f x)
    none g [] back y p b l = no_long (is_long_with x a (ticks_with x a)) g
        (sym c.fault ∙ ap fault_of (same_item (deeper f x) y b) ∙ l)
    none g (j ∷ front) back y p b l = h front back j y p b l

    by : (b : Bool) → is_long_with x a (ticks_with x a) ≡ b
        → WayIs rest (deeper f x) (cond b None (Some (ticks_with x a)))
    by true g = record {
      front = [];
      back = rest;
      item = deeper f x;
      parts = refl;
      there =
          refl;
      long = c.fault ∙ ap (λ (b : Bool). cond b (Some Long) None) g;
    }
    by false g = (c.length, none g)

-- ---- the track, whose sum may be known up to the greatest number

or_true : (b c : Bool) → (b || (true || c)) ≡ true
or_true true c = refl
or_true false c = refl

lt_true : (m n : ℕ) → m < n → nat_lt m n ≡ true
lt_true m n h = grind (arith)

lt_false : (m n : ℕ) → nat_lt m n ≡ false → n ≤ m
lt_false m n h = grind (arith)

lt_then : (m n : ℕ) → nat_lt m n ≡ true → m < n
lt_then m n h = grind (arith)

long_by : (x : ItemOf Listed) (a n : ℕ) → nat_lt most_ticks a ≡ true → is_long_with x a n ≡ true
long_by x a n e = rw e (or_true (nat_lt most_ticks n)
    (not (int_le (pos 0 -ℤ most_end) (media_end x n) && int_le (media_end x n) most_end)))

short_capped : (x : ItemOf Listed) (a : ℕ) → short_ticks x (capped a) ≡ short_ticks x a
short_capped x a = by (nat_lt most_ticks a) refl
  where
    is : (b : ℕ) → nat_lt most_ticks b ≡ true → short_ticks x b ≡ None
    is b e = ap (λ (c : Bool). cond c None (Some (ticks_with x b))) (long_by x b (ticks_with x b) e)

    by : (b : Bool) → nat_lt most_ticks a ≡ b → short_ticks x (capped a) ≡ short_ticks x a
    by true e =
        let h = lt_then most_ticks a e in
        is (capped a) (lt_true most_ticks (capped a) (omega (arith, h))) ∙ sym (is a e)
    by false e =
        let h = lt_false most_ticks a e in
        let same : capped a ≡ a = omega (arith, h) in ap (short_ticks x) same

-- ---- one level up

map_changed : {A B : Type 0} (f : A → B) (g : A → A) (i : ℕ) (xs : List A) (x : A)
    → slice_get xs i ≡ Some x → map f (changed g i xs) ≡ changed (λ o. f (g x)) i (map f xs)
map_changed f g zero [] x e = absurd (cc e)
map_changed f g (suc i) [] x e = absurd (cc e)
map_changed f g zero (y ∷ xs) x e = let same : y ≡ x = cc e in ap (λ z. f (g z) ∷ map f xs) same
map_changed f g (suc i) (y ∷ xs) x e = ap (λ l. f y ∷ l) (map_changed f g i xs x e)

-- the lengths of children of which one is another
lengths_with : (g : ItemOf Listed → ItemOf Listed) (i n : ℕ) (l : Listed) (x : ItemOf Listed)
    → slice_get (items_of l) i ≡ Some x → length_of (g x) ≡ Some n
    → lengths (listed (changed g i (items_of l))) ≡ with_ticks i n (lengths l)
lengths_with g i n l x e f =
    lengths_map (listed (changed g i (items_of l)))
    ∙ ap (map length_of) (items-listed (changed g i (items_of l)))
    ∙ map_changed length_of g i (items_of l) x e
    ∙ ap (λ (o : Option ℕ). changed (λ q. o) i (map length_of (items_of l))) f
    ∙ ap (λ ns. with_ticks i n ns) (sym (lengths_map l))

known_with : (i n : ℕ) (ns : List (Option ℕ)) → are_known ns ≡ true
    → are_known (with_ticks i n ns) ≡ true
known_with i n [] e = refl
known_with zero n (None ∷ ns) e = absurd (cc e)
known_with (suc i) n (None ∷ ns) e = absurd (cc e)
known_with zero n ((Some m) ∷ ns) e = e
known_with (suc i) n ((Some m) ∷ ns) e = known_with i n ns e

-- items of which none is without a length
pub all_known : (l : List (ItemOf Listed)) → ((i : ℕ) (x : ItemOf Listed) → slice_get l i ≡ Some x
    → length_of x ≡ None → ⊥) → are_known (map length_of l) ≡ true
all_known [] h = refl
all_known (x ∷ l) h = by (length_of x) refl (all_known l (λ i y f. h (suc i) y f))
  where
    by : (o : Option ℕ) → length_of x ≡ o → are_known (map length_of l) ≡ true
        → are_known (o ∷ map length_of l) ≡ true
    by None e k = absurd (h zero x refl e)
    by (Some n) e k = k

pub sound_known : (l : Listed) → AreFaultless l → are_known (lengths l) ≡ true
sound_known l h = ap are_known (lengths_map l) ∙ all_known (items_of l)
    (λ i x e. fine_length x (h (i ∷ []) x (ap (option_and_then (below [])) e)))

-- the item at the way, and what is below
record Down (i : ℕ) (rest : List ℕ) (x : ItemOf Listed) (c : Listed) : Type 0 where
  children : Listed
  child : ItemOf Listed
  are : children_of x ≡ Some children
  there : slice_get (items_of children) i ≡ Some child
  leads : option_and_then (list_at rest) (children_of child) ≡ Some c

down : (i : ℕ) (rest : List ℕ) (x : ItemOf Listed) (c : Listed)
    → option_and_then (list_at (i ∷ rest)) (children_of x) ≡ Some c → Down i rest x c
down i rest x c e = first (children_of x) refl e
  where
    second : (l : Listed) → children_of x ≡ Some l → (o : Option (ItemOf Listed))
        → slice_get (items_of l) i ≡ o → option_and_then
        (λ y. option_and_then (list_at rest) (children_of y)) o ≡ Some c → Down i rest x c
    second l f None g h = absurd (cc h)
    second l f (Some y) g h = record { children = l; child = y; are = f; there = g; leads = h }

    first : (o : Option Listed) → children_of x ≡ o
        → option_and_then (list_at (i ∷ rest)) o ≡ Some c → Down i rest x c
    first None f h = absurd (cc h)
    first (Some l) f h = second l f (slice_get (items_of l) i) refl h

-- the item is a track, which leads to its children, or the way goes on
abbrev EndsInTrack : List ℕ → ItemOf Listed → Type 0
EndsInTrack rest x = (k : TrackOf Listed) × (below rest x ≡ Some (Track k))

children_sound : (x : ItemOf Listed) (l : Listed) → children_of x ≡ Some l → IsFaultlessItem x
    → AreFaultless l
children_sound x l e s [] y b = absurd (cc b)
children_sound x l e s (i ∷ place) y b = s (i ∷ place) y
    (ap (option_and_then (λ m. option_and_then (below place) (slice_get (items_of m) i))) e ∙ b)

-- an item whose child at the index is another, so long
then_with : (f : Listed → Listed) (x : ItemOf Listed) (l : Listed) (i n : ℕ)
    → children_of x ≡ Some l → fault_of x ≡ None → are_known (lengths l) ≡ true
    → lengths (f l) ≡ with_ticks i n (lengths l) → Changed f x (available_with x i n)
then_with f (Clip c) l i n e s k h = absurd (cc e)
then_with f (Gap c) l i n e s k h = absurd (cc e)
then_with f (Transition c) l i n e s k h = absurd (cc e)
then_with f (Stack c) l i n e s k h =
    let same : l ≡ c.children = sym (same_list c.children l e) in
    let g : lengths (f c.children) ≡ with_ticks i n (lengths c.children) =
    subst (λ z. lengths (f z) ≡ with_ticks i n (lengths z)) same h in
    let w : are_known (lengths c.children) ≡ true =
    subst (λ z. are_known (lengths z) ≡ true) same k in
    subst (λ ns. Changed f (Stack c) (greatest ns)) g
    (then_stack f c s (ap are_known g ∙ known_with i n (lengths c.children) w))
then_with f (Track c) l i n e s k h =
    let same : l ≡ c.children = sym (same_list c.children l e) in
    let g : lengths (f c.children) ≡ with_ticks i n (lengths c.children) =
    subst (λ z. lengths (f z) ≡ with_ticks i n (lengths z)) same h in
    let w : are_known (lengths c.children) ≡ true =
    subst (λ z. are_known (lengths z) ≡ true) same k in
    subst (λ ns. Changed f (Track c) (added ns)) g
    (then_track f c s (ap are_known g ∙ known_with i n (lengths c.children) w))

-- ---- the whole way

-- the child that was changed stands at its index
changed_child : (i : ℕ) (rest : List ℕ) (m : Listed) (l : Listed) (y : ItemOf Listed)
    → slice_get (items_of l) i ≡ Some y → slice_get (items_of (with_at (i ∷ rest) m l)) i
    ≡ Some (deeper (with_at rest m) y)
changed_child i rest m l y e = ap (λ xs. slice_get xs i)
    (items-listed (changed (deeper (with_at rest m)) i (items_of l)))
    ∙ got_changed (deeper (with_at rest m)) i (items_of l) y e

head_is : (i j : ℕ) (a b : List ℕ) → (i ∷ a) ≡ (j ∷ b) → i ≡ j
head_is i j a b e = cc e

tail_is : (i j : ℕ) (a b : List ℕ) → (i ∷ a) ≡ (j ∷ b) → a ≡ b
tail_is i j a b e = cc e

no_join : (i : ℕ) (a b : List ℕ) → [] ≡ (i ∷ a) ++ b → ⊥
no_join i a b e = cc e

up : (i : ℕ) (rest : List ℕ) (m : Listed) (x : ItemOf Listed) (l : Listed) (y : ItemOf Listed)
    → children_of x ≡ Some l → slice_get (items_of l) i ≡ Some y → IsFaultlessItem x
    → (o : Option ℕ) → WayIs rest (deeper (with_at rest m) y) o
    → WayIs (i ∷ rest) (deeper (with_at (i ∷ rest) m) x)
    (option_and_then (λ n. short_ticks x (available_with x i n)) o)
up i rest m x l y e f s None w = record {
  front = i ∷ w.front;
  back = w.back;
  item = w.item;
  parts = ap (λ q. i ∷ q) w.parts;
  there = below_of i w.front (deeper (with_at (i ∷ rest) m) x) (with_at (i ∷ rest) m l)
      (deeper (with_at rest m) y) (below_deeper (with_at (i ∷ rest) m) x l e)
      (changed_child i rest m l y f) ∙ w.there;
  long = w.long;
}
up i rest m x l y e f s (Some n) w =
    here (i ∷ rest) (with_at (i ∷ rest) m) x (available_with x i n)
    (then_with (with_at (i ∷ rest) m) x l i n e (s [] x refl)
    (sound_known l (children_sound x l e s)) (lengths_with (deeper (with_at rest m)) i n l y f
    w.0))
    (λ front back j z p b g.
    w.1 front back z (tail_is i j rest (front ++ back) p)
    (sym (below_of i front (deeper (with_at (i ∷ rest) m) x) (with_at (i ∷ rest) m l)
    (deeper (with_at rest m) y) (below_deeper (with_at (i ∷ rest) m) x l e)
    (changed_child i rest m l y f))
    ∙ ap (λ k. below (k ∷ front) (deeper (with_at (i ∷ rest) m) x))
    (head_is i j rest (front ++ back) p) ∙ b) g)

pub way : (rest : List ℕ) (m : Listed) (sum : ℕ) (x : ItemOf Listed) (c : Listed)
    → IsFaultlessItem x → EndsInTrack rest x → option_and_then (list_at rest) (children_of x)
    ≡ Some c
    → are_known (lengths m) ≡ true → sum ≡ capped (added (lengths m))
    → WayIs rest (deeper (with_at rest m) x) (way_ticks rest sum x)
way [] m sum x c s t e k h =
    subst (λ z. WayIs [] (deeper (with_at [] m) z) (way_ticks [] sum z))
    (sym (same_item x (Track t.0) t.1))
    (subst (λ o. WayIs [] (deeper (with_at [] m) (Track t.0)) o)
    (sym (ap (short_ticks (Track t.0)) h ∙ short_capped (Track t.0) (added (lengths m))))
    (here [] (with_at [] m) (Track t.0) (added (lengths m))
    (then_track (with_at [] m) t.0 (subst (λ z. fault_of z ≡ None) (same_item x (Track t.0) t.1)
    (s [] x refl)) k)
    (λ front back j y p b g. no_join j front back p)))
way (i ∷ rest) m sum x c s t e k h =
    let d = down i rest x c e in
    subst (λ o. WayIs (i ∷ rest) (deeper (with_at (i ∷ rest) m) x) o)
    (sym (by_child (way_ticks rest sum) i x d.children (Some d.child) d.are d.there))
    (up i rest m x d.children d.child d.are d.there s (way_ticks rest sum d.child)
    (way rest m sum d.child c (child_sound i x d.children d.child d.are d.there s)
    (t.0, sym (below_of i rest x d.children d.child d.are d.there) ∙ t.1) d.leads k h))

-- ---- from the root's children on

-- an item is too long
pub record LongIn (l : Listed) : Type 0 where
  pub place : List ℕ
  pub item : ItemOf Listed
  pub there : item_at place l ≡ Some item
  pub long : fault_of item ≡ Some Long

abbrev pub NotLong : ItemOf Listed → Type 0
NotLong x = fault_of x ≡ Some Long → ⊥

-- what the test of the way says
pub record Tested (place : List ℕ) (m l : Listed) (b : Bool) : Type 0 where
  pub yes_long : b ≡ true → LongIn (with_at place m l)
  pub no_long : b ≡ false → OnTheWay NotLong place (with_at place m l)

tested_by : (i : ℕ) (rest : List ℕ) (m l : Listed) (x : ItemOf Listed) (o : Option ℕ)
    → slice_get (items_of l) i ≡ Some x → WayIs rest (deeper (with_at rest m) x) o
    → Tested (i ∷ rest) m l (is_none o)
tested_by i rest m l x None e w = record {
  yes_long = λ f. record {
    place = i ∷ w.front;
    item = w.item;
    there =
        item_from i w.front (with_at (i ∷ rest) m l) (deeper (with_at rest m) x)
        (changed_child i rest m l x e) ∙ w.there;
    long = w.long;
  };
  no_long = λ f. absurd (cc f);
}
tested_by i rest m l x (Some n) e w = record { yes_long = λ f. absurd (cc f); no_long = λ f. each }
  where
    each : OnTheWay NotLong (i ∷ rest) (with_at (i ∷ rest) m l)
    each [] back y p b g = cc b
    each (j ∷ front) back y p b g =
        w.1 front back y (tail_is i j rest (front ++ back) p)
        (sym (item_from i front (with_at (i ∷ rest) m l) (deeper (with_at rest m) x)
        (changed_child i rest m l x e))
        ∙ ap (λ k. item_at (k ∷ front) (with_at (i ∷ rest) m l))
        (head_is i j rest (front ++ back) p) ∙ b) g

record Root (i : ℕ) (rest : List ℕ) (l c : Listed) (k : TrackOf Listed) : Type 0 where
  item : ItemOf Listed
  there : slice_get (items_of l) i ≡ Some item
  ends : below rest item ≡ Some (Track k)
  leads : option_and_then (list_at rest) (children_of item) ≡ Some c

root : (i : ℕ) (rest : List ℕ) (l c : Listed) (k : TrackOf Listed)
    → item_at (i ∷ rest) l ≡ Some (Track k) → list_at (i ∷ rest) l ≡ Some c → Root i rest l c k
root i rest l c k e f = by (slice_get (items_of l) i) refl e f
  where
    by : (o : Option (ItemOf Listed)) → slice_get (items_of l) i ≡ o
        → option_and_then (below rest) o ≡ Some (Track k)
        → option_and_then (λ x. option_and_then (list_at rest) (children_of x)) o ≡ Some c
        → Root i rest l c k
    by None g a b = absurd (cc a)
    by (Some x) g a b = record { item = x; there = g; ends = a; leads = b }

pub tested : (place : List ℕ) (m c : Listed) (sum : ℕ) (t : Timeline) (k : TrackOf Listed)
    → AreFaultless t.tracks.children → item_at place t.tracks.children ≡ Some (Track k)
    → list_at place t.tracks.children ≡ Some c → are_known (lengths m) ≡ true
    → sum ≡ capped (added (lengths m)) → Tested place m t.tracks.children (is_way_long place sum t)
tested [] m c sum t k s e f g h = absurd (cc e)
tested (i ∷ rest) m c sum t k s e f g h =
    let r = root i rest t.tracks.children c k e f in
    let same : is_way_long (i ∷ rest) sum t ≡ is_none (way_ticks rest sum r.item) =
    ap (λ (o : Option (ItemOf Listed)). elim o
    [ None ↦ false | Some x ↦ is_none (way_ticks rest sum x) ]) r.there in
    let sound : IsFaultlessItem r.item = λ q y b. s (i ∷ q) y
    (item_from i q t.tracks.children r.item r.there ∙ b) in
    subst (λ b. Tested (i ∷ rest) m t.tracks.children b) (sym same)
    (tested_by i rest m t.tracks.children r.item (way_ticks rest sum r.item) r.there
    (way rest m sum r.item c sound (k, r.ends) r.leads g h))
