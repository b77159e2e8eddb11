-- How a plan ends: what its tests say of the edit.
use Rattle.std.proofs.Common.{◌≡◌, refl, sym, ap, subst, ◌∙◌, ◌⊎◌, inl, inr, ℕ, zero, suc, ◌+◌}
use Rattle.std.proofs.Common.{◌<◌, ◌≤◌, ◌^◌, Bool, true, false, List, [], ◌∷◌, ◌++◌, Option, Some}
use Rattle.std.proofs.Common.{None, length, take, drop, slice_get, arith}
use Rattle.std.specs.Prelude.{option_and_then, option_map, ◌||◌}
use Rattle.std.proofs.lemmas.Bool.{or_parts as or_none}
use Rattle.edits_law.proofs.Clean.{no_length}
use Rattle.limits.specs.Limits.{most_items}
use Rattle.tick_time.specs.declared.spans.Span.{Span}
use Rattle.otio_model.specs.declared.compositions.ItemOf.{ItemOf}
use Rattle.otio_model.specs.declared.compositions.ItemOf.TheVariants.{Clip, Gap, Transition, Stack}
use Rattle.otio_model.specs.declared.compositions.ItemOf.TheVariants.{Track}
use Rattle.otio_model.specs.declared.compositions.Listed.{Listed}
use Rattle.otio_model.specs.declared.effect_types.Effect.{Effect}
use Rattle.otio_model.specs.declared.timelines.Timeline.{Timeline}
use Rattle.otio_model.specs.declared.patches.Patch.{Patch}
use Rattle.otio_model.specs.declared.patches.Put.TheVariants.{Items}
use Rattle.otio_model.specs.declared.edit_types.Edit.{Edit}
use Rattle.otio_model.specs.declared.edit_types.Edit.TheVariants as A
use Rattle.otio_model.specs.declared.edit_types.EditFault.{EditFault}
use Rattle.otio_model.specs.Counts.{count, count_of}
use Rattle.otio_model.specs.Edits.{list_at, replaced, with_at}
use Rattle.otio_model.specs.Kept.{capped_count}
use Rattle.otio_model.specs.Lengths.{added, length_of, lengths}
use Rattle.otio_model.specs.Patches.{applied, target, with_list}
use Rattle.otio_model.specs.Sums.{are_known, capped}
use Rattle.otio_model.specs.Trees.{below, item_at, items_of, listed}
use Rattle.otio_model.proofs.Adding.{lengths-listed}
use Rattle.otio_model.proofs.Leads.{fit_track}
use Rattle.otio_model.proofs.Lenses.{get_put}
use Rattle.otio_model.proofs.Views.{items-listed}
use Rattle.coord.specs.declared.faults.ItemFault.{ItemFault}
use Rattle.coord.specs.declared.faults.ItemFault.TheVariants.{NoLength, Speed, Long}
use Rattle.coord.specs.Soundness.{IsSound, fault_of}
use Rattle.edits.specs.Children.{all_made, has_far, with_range}
use Rattle.edits_law.specs.Editable.{HasEditItem, IsEditItem}
use Rattle.edits.specs.After.{after, frame_of, list_of, place_of, rate_of, with_items}
use Rattle.edits.specs.Edits.{edited, with_effect}
use Rattle.edits.specs.Everywhere.{Everywhere}
use Rattle.edits.specs.Refusals.{HasMany, IsAfter, IsTooLong, early_fault}
use Rattle.edits.specs.Refusals.{first_fault, place_fault}
use Rattle.edits_law.proofs.Anywhere.{everywhere}
use Rattle.edits_law.proofs.SoundEdits.{stays_sound}
use Rattle.edit_plans.specs.Amounts.{AreFew, ticks_in}
use Rattle.edit_plans.specs.Planned.{IsMiddle, IsPlan}
use Rattle.edit_plans.specs.Ways.{has_long, is_long_fault, is_way_long}
use Rattle.edit_plans.proofs.EachMade.{All, Keeps, OfItem, each_made, list_near}
use Rattle.edit_plans.proofs.TrackLemmas.{OnTrack, child_at, list_is, list_sound, on_track}
use Rattle.edits_law.proofs.Premises.{fine_length}
use Rattle.edit_plans.proofs.WayMeaning.{LongIn, NotLong, Tested, all_known, tested}

-- ---- what each item of the edited list is

-- few items, with a length, and those below it have no fault
record Fit (x : ItemOf Listed) : Type 0 where
  few : count_of x < 2 ^ 32
  known : length_of x ≡ None → ⊥
  below : (i : ℕ) (q : List ℕ) (y : ItemOf Listed) → below (i ∷ q) x ≡ Some y → fault_of y ≡ None

ranged_fit : (s : Span) (x : ItemOf Listed) → Fit x → Fit (with_range s x)
ranged_fit s (Clip c) p = record { few = p.few; known = λ e. cc e; below = p.below }
ranged_fit s (Gap c) p = record { few = p.few; known = λ e. cc e; below = p.below }
ranged_fit s (Transition c) p = p
ranged_fit s (Stack c) p = record { few = p.few; known = λ e. cc e; below = p.below }
ranged_fit s (Track c) p = record { few = p.few; known = λ e. cc e; below = p.below }

effect_fit : (e : Effect) (x : ItemOf Listed) → Fit x → Fit (with_effect e x)
effect_fit e (Clip c) p = record { few = p.few; known = p.known; below = p.below }
effect_fit e (Gap c) p = record { few = p.few; known = p.known; below = p.below }
effect_fit e (Transition c) p = p
effect_fit e (Stack c) p = record { few = p.few; known = p.known; below = p.below }
effect_fit e (Track c) p = record { few = p.few; known = p.known; below = p.below }

keeps_fit : Keeps Fit
keeps_fit = record {
  ranged = ranged_fit;
  effect = effect_fit;
  gap = record { few = omega arith; known = λ e. cc e; below = λ i q y e. absurd (cc e) };
}

item_fit : (x : ItemOf Listed) → IsEditItem x → Fit x
item_fit (Clip c) h = record {
  few = omega arith;
  known =
      λ f. no_length (h.known NoLength (rw f refl));
  below = λ i q y e. absurd (cc e);
}
item_fit (Gap c) h = record {
  few = omega arith;
  known =
      λ f. no_length (h.known NoLength (rw f refl));
  below = λ i q y e. absurd (cc e);
}
item_fit (Transition c) h = absurd (cc h.kind)
item_fit (Stack c) h = absurd (cc h.kind)
item_fit (Track c) h = absurd (cc h.kind)

edit_fit : (e : Edit) → HasEditItem e → OfItem Fit e
edit_fit (A.Overwrite place at x) h = item_fit x h
edit_fit (A.Insert place at x) h = item_fit x h
edit_fit (A.Slice place at) h = tt
edit_fit (A.Fill place at mode x) h = item_fit x h
edit_fit (A.Remove place at mode) h = tt
edit_fit (A.Trim place at head tail) h = tt
edit_fit (A.Slip place at by) h = tt
edit_fit (A.Slide place at by) h = tt
edit_fit (A.Ripple place at head tail) h = tt
edit_fit (A.Roll place at head tail) h = tt

-- ---- lists

all_by : (P : ItemOf Listed → Type 0) (l : List (ItemOf Listed))
    → ((i : ℕ) (x : ItemOf Listed) → slice_get l i ≡ Some x → P x) → All P l
all_by P [] h = tt
all_by P (x ∷ l) h = (h zero x refl, all_by P l (λ i y e. h (suc i) y e))

all_get : (P : ItemOf Listed → Type 0) (l : List (ItemOf Listed)) (i : ℕ) (x : ItemOf Listed)
    → All P l → slice_get l i ≡ Some x → P x
all_get P [] zero x a e = absurd (cc e)
all_get P [] (suc i) x a e = absurd (cc e)
all_get P (y ∷ l) zero x a e = let same : y ≡ x = cc e in subst P same a.0
all_get P (y ∷ l) (suc i) x a e = all_get P l i x a.1 e

all_join : (P : ItemOf Listed → Type 0) (l m : List (ItemOf Listed)) → All P l → All P m
    → All P (l ++ m)
all_join P [] m a b = b
all_join P (x ∷ l) m a b = (a.0, all_join P l m a.1 b)

all_first : (P : ItemOf Listed → Type 0) (l m : List (ItemOf Listed)) → All P (l ++ m) → All P l
all_first P [] m a = tt
all_first P (x ∷ l) m a = (a.0, all_first P l m a.1)

all_second : (P : ItemOf Listed → Type 0) (l m : List (ItemOf Listed)) → All P (l ++ m) → All P m
all_second P [] m a = a
all_second P (x ∷ l) m a = all_second P l m a.1

all_take : (P : ItemOf Listed → Type 0) (n : ℕ) (l : List (ItemOf Listed)) → All P l
    → All P (take n l)
all_take P zero l a = tt
all_take P (suc n) [] a = tt
all_take P (suc n) (x ∷ l) a = (a.0, all_take P n l a.1)

all_drop : (P : ItemOf Listed → Type 0) (n : ℕ) (l : List (ItemOf Listed)) → All P l
    → All P (drop n l)
all_drop P zero l a = a
all_drop P (suc n) [] a = tt
all_drop P (suc n) (x ∷ l) a = all_drop P n l a.1

got_behind : (xs ys : List (ItemOf Listed)) (i : ℕ) (x : ItemOf Listed) → slice_get ys i ≡ Some x
    → (k : ℕ) × (slice_get (xs ++ ys) k ≡ Some x)
got_behind [] ys i x e = (i, e)
got_behind (y ∷ xs) ys i x e = let k = got_behind xs ys i x e in (suc k.0, k.1)

got_front : (xs ys : List (ItemOf Listed)) (i : ℕ) (x : ItemOf Listed) → slice_get xs i ≡ Some x
    → slice_get (xs ++ ys) i ≡ Some x
got_front [] ys zero x e = absurd (cc e)
got_front [] ys (suc i) x e = absurd (cc e)
got_front (y ∷ xs) ys zero x e = e
got_front (y ∷ xs) ys (suc i) x e = got_front xs ys i x e

-- an item that is put in stands in the new list
got_put : (at number : ℕ) (put l : List (ItemOf Listed)) (i : ℕ) (x : ItemOf Listed)
    → slice_get put i ≡ Some x → (k : ℕ) × (slice_get (replaced at number put l) k ≡ Some x)
got_put at number put l i x e = got_behind (take at l) (put ++ drop (at + number) l) i x
    (got_front put (drop (at + number) l) i x e)

-- ---- items that are too long

long_is : (o : Option ItemFault) → is_long_fault o ≡ true → o ≡ Some Long
long_is None e = absurd (cc e)
long_is (Some NoLength) e = absurd (cc e)
long_is (Some Speed) e = absurd (cc e)
long_is (Some Long) e = refl

not_long_is : (o : Option ItemFault) → is_long_fault o ≡ false → o ≡ Some Long → ⊥
not_long_is o e f = let k : is_long_fault o ≡ true = ap is_long_fault f in cc (e, k)

record Found (l : List (ItemOf Listed)) : Type 0 where
  index : ℕ
  item : ItemOf Listed
  there : slice_get l index ≡ Some item
  long : fault_of item ≡ Some Long

found : (l : List (ItemOf Listed)) → has_long l ≡ true → Found l
found [] e = absurd (cc e)
found (x ∷ l) e = by (is_long_fault (fault_of x)) refl e (λ g. found l g)
  where
    by : (b : Bool) → is_long_fault (fault_of x) ≡ b → (b || has_long l) ≡ true
        → (has_long l ≡ true → Found l) → Found (x ∷ l)
    by true f g h = record { index = zero; item = x; there = refl; long = long_is (fault_of x) f }
    by false f g h = let k = h g in record {
      index = suc k.index;
      item = k.item;
      there =
          k.there;
      long = k.long;
    }

none_found : (l : List (ItemOf Listed)) → has_long l ≡ false → All NotLong l
none_found [] e = tt
none_found (x ∷ l) e = by (is_long_fault (fault_of x)) refl e (λ g. none_found l g)
  where
    by : (b : Bool) → is_long_fault (fault_of x) ≡ b → (b || has_long l) ≡ false
        → (has_long l ≡ false → All NotLong l) → All NotLong (x ∷ l)
    by true f g h = absurd (cc g)
    by false f g h = (not_long_is (fault_of x) f, h g)

-- ---- the edit at its place

first_none : (o p : Option EditFault) → first_fault o p ≡ None → o ≡ None
first_none None p e = refl
first_none (Some f) p e = absurd (cc e)

place_none : (t : Timeline) (e : Edit) → early_fault t e ≡ None → place_fault (place_of e) t ≡ None
place_none t e h = first_none (place_fault (place_of e) t) _ h

-- all that is known of an edit and its middle
record Ready (t : Timeline) (e : Edit) (at number : ℕ) (put : List (ItemOf Listed)) : Type 0 where
  track : OnTrack (place_of e) t.tracks.children
  list : Listed
  leads : list_at (place_of e) t.tracks.children ≡ Some list
  old : list_of t e ≡ items_of list
  new : List (ItemOf Listed)
  is : new ≡ replaced at number put (items_of list)
  fit : All Fit new
  made : all_made (rate_of t) (edited (frame_of t) e (list_of t e)) ≡ Some new
  gives : after t e ≡ Some (with_items t e new)
  sound : IsSound t
  early : early_fault t e ≡ None

old_fit : (t : Timeline) (e : Edit) (c : Listed) → list_at (place_of e) t.tracks.children ≡ Some c
    → IsSound t → count t.tracks.children < 2 ^ 32 → All Fit (items_of c)
old_fit t e c f s h = all_by Fit (items_of c) (λ i x g.
    let k = list_sound (place_of e) t c f s h i x g in
    record {
      few = k.few;
      known = fine_length x k.sound;
      below = λ j q y b. s.faultless.items _ y (child_at (place_of e) t.tracks.children c i (j ∷ q)
          y f (ap (option_and_then (below (j ∷ q))) g ∙ b));
    })

ready : (t : Timeline) (e : Edit) (at number : ℕ) (put : List (ItemOf Listed)) → IsSound t
    → count t.tracks.children < 2 ^ 32 → IsMiddle t e (place_of e) at number put
    → Ready t e at number put
ready t e at number put s h m =
    let o = on_track (place_of e) t (place_none t e m.early) in
    let c = o.track.children in
    let same : list_of t e ≡ items_of c = sym (list_is t e (place_of e) c refl o.list) in
    let n = replaced at number put (items_of c) in
    let made : all_made (rate_of t) (edited (frame_of t) e (list_of t e)) ≡ Some n = m.made
    ∙ ap (λ l. Some (replaced at number put l)) same in
    record {
      track = o;
      list = c;
      leads = o.list;
      old = same;
      new = n;
      is = refl;
      fit = each_made Fit keeps_fit (rate_of t) (frame_of t) e (list_of t e) n
          (subst (All Fit) (sym same) (old_fit t e c o.list s h)) (edit_fit e m.item) made;
      made = made;
      gives = ap (option_map (with_items t e)) made;
      sound = s;
      early = m.early;
    }

-- ---- the new list

new_known : (t : Timeline) (e : Edit) (at number : ℕ) (put : List (ItemOf Listed))
    (r : Ready t e at number put) → are_known (lengths (listed r.new)) ≡ true
new_known t e at number put r = ap are_known (lengths-listed r.new)
    ∙ all_known r.new (λ i x f. (all_get Fit r.new i x r.fit f).known)

put_fit : (t : Timeline) (e : Edit) (at number : ℕ) (put : List (ItemOf Listed))
    (r : Ready t e at number put) → All Fit put
put_fit t e at number put r =
    all_first Fit put (drop (at + number) (items_of r.list))
    (all_second Fit (take at (items_of r.list)) (put ++ drop (at + number) (items_of r.list))
    (subst (All Fit) r.is r.fit))

no_fault : (x : ItemOf Listed) → fault_of x ≡ None → NotLong x
no_fault x e f = cc (e, f)

-- none is too long in the list where none that comes is
new_short : (t : Timeline) (e : Edit) (at number : ℕ) (put : List (ItemOf Listed))
    (r : Ready t e at number put) → count t.tracks.children < 2 ^ 32 → has_long put ≡ false
    → All NotLong r.new
new_short t e at number put r h g =
    let old : All NotLong (items_of r.list) = all_by NotLong (items_of r.list)
    (λ i x f. no_fault x (list_sound (place_of e) t r.list r.leads r.sound h i x f).sound) in
    subst (All NotLong) (sym r.is)
    (all_join NotLong (take at (items_of r.list)) (put ++ drop (at + number) (items_of r.list))
    (all_take NotLong at (items_of r.list) old)
    (all_join NotLong put (drop (at + number) (items_of r.list)) (none_found put g)
    (all_drop NotLong (at + number) (items_of r.list) old)))

then_some : {A B : Type 0} (f : A → Option B) (o : Option A) (y : B) → option_and_then f o ≡ Some y
    → (x : A) × (o ≡ Some x) × (f x ≡ Some y)
then_some f None y e = absurd (cc e)
then_some f (Some x) y e = (x, refl, e)

-- so none is there or below
everywhere_short : (l : List (ItemOf Listed)) → All NotLong l → All Fit l
    → Everywhere NotLong (listed l)
everywhere_short l a f [] x e = absurd (cc e)
everywhere_short l a f (i ∷ q) x e =
    let y = then_some (below q) (slice_get (items_of (listed l)) i) x e in
    let there : slice_get l i ≡ Some y.0 = sym (ap (λ xs. slice_get xs i) (items-listed l)) ∙ y.1 in
    by q y.0 (all_get NotLong l i y.0 a there) (all_get Fit l i y.0 f there) y.2
  where
    by : (r : List ℕ) (y : ItemOf Listed) → NotLong y → Fit y → below r y ≡ Some x → NotLong x
    by [] y n g b = let same : y ≡ x = cc b in subst NotLong same n
    by (j ∷ r) y n g b = no_fault x (g.below j r x b)

-- ---- too long

-- what the test of the way says of the edit
way_test : (t : Timeline) (e : Edit) (at number ticks : ℕ) (put : List (ItemOf Listed))
    (r : Ready t e at number put) → ticks ≡ capped
    (ticks_in (replaced at number put (items_of r.list)))
    → Tested (place_of e) (listed r.new) t.tracks.children (is_way_long (place_of e) ticks t)
way_test t e at number ticks put r h =
    tested (place_of e) (listed r.new) r.list ticks t r.track.track r.sound.faultless.items
    r.track.there r.leads (new_known t e at number put r)
    (h ∙ ap (λ l. capped (ticks_in l)) (sym r.is) ∙ sym
    (ap (λ ns. capped (added ns)) (lengths-listed r.new)))

long_edit : (t : Timeline) (e : Edit) (at number : ℕ) (put : List (ItemOf Listed))
    (r : Ready t e at number put) → LongIn (with_at (place_of e) (listed r.new) t.tracks.children)
    → IsTooLong t e
long_edit t e at number put r k = inr (
  with_items t e r.new,
  r.gives,
  (k.place, k.item, k.there, k.long),
)

put_long : (t : Timeline) (e : Edit) (at number : ℕ) (put : List (ItemOf Listed))
    (r : Ready t e at number put) → Found put → IsTooLong t e
put_long t e at number put r k =
    let g = got_put at number put (items_of r.list) k.index k.item k.there in
    let there : slice_get r.new g.0 ≡ Some k.item = ap (λ l. slice_get l g.0) r.is ∙ g.1 in
    let new = with_at (place_of e) (listed r.new) t.tracks.children in
    long_edit t e at number put r (record {
      place = place_of e ++ (g.0 ∷ []);
      item = k.item;
      there = child_at (place_of e) new (listed r.new) g.0 [] k.item
          (get_put (place_of e) (listed r.new) t.tracks.children r.list r.leads)
          (ap (option_and_then (below [])) (ap (λ xs. slice_get xs g.0) (items-listed r.new)
          ∙ there));
      long = k.long;
    })

or_cases : (a b : Bool) → (a || b) ≡ true → (a ≡ true) ⊎ (b ≡ true)
or_cases true b e = inl refl
or_cases false b e = inr e

same_timeline : (a b : Timeline) → Some a ≡ Some b → a ≡ b
same_timeline a b e = cc e

not_far : (b : Bool) → b ≡ false → b ≡ true → ⊥
not_far b e f = cc (e, f)

not_long_edit : (t : Timeline) (e : Edit) (at number : ℕ) (put : List (ItemOf Listed))
    (r : Ready t e at number put)
    → Everywhere NotLong (with_at (place_of e) (listed r.new) t.tracks.children) → IsTooLong t e → ⊥
not_long_edit t e at number put r h (inl far) = not_far
    (has_far (edited (frame_of t) e (list_of t e)))
    (list_near (rate_of t) (edited (frame_of t) e (list_of t e)) r.new r.made) far
not_long_edit t e at number put r h (inr (s, a, k)) =
    let same : s ≡ with_items t e r.new = same_timeline s (with_items t e r.new) (sym a ∙ r.gives)
    in
    h k.0 k.1 (subst (λ (z : Timeline). item_at k.0 z.tracks.children ≡ Some k.1) same k.2) k.3

-- ---- the edit at its place, whatever the place is called

at_home : (t : Timeline) (e : Edit) (place : List ℕ) (at number : ℕ) (put : List (ItemOf Listed))
    → IsMiddle t e place at number put → IsMiddle t e (place_of e) at number put
at_home t e place at number put m = record {
  there = refl;
  item = m.item;
  early = m.early;
  within =
      m.within;
  made = m.made;
  few_out = m.few_out;
  few_in = m.few_in;
}

-- the sum that was reckoned
abbrev IsSum : Timeline → List ℕ → ℕ → ℕ → List (ItemOf Listed) → ℕ → Type 0
IsSum t place at number put ticks = (l : Listed) → list_at place t.tracks.children ≡ Some l
    → ticks ≡ capped (ticks_in (replaced at number put (items_of l)))

pub too_long : (t : Timeline) (e : Edit) (place : List ℕ) (at number ticks : ℕ)
    (put : List (ItemOf Listed)) → IsSound t → count t.tracks.children < 2 ^ 32
    → IsMiddle t e place at number put
    → IsSum t place at number put ticks → (has_long put || is_way_long place ticks t) ≡ true
    → IsTooLong t e
too_long t e place at number ticks put s h m = subst
    (λ p. IsSum t p at number put ticks → (has_long put || is_way_long p ticks t) ≡ true
    → IsTooLong t e) m.there home
  where
    home : IsSum t (place_of e) at number put ticks
        → (has_long put || is_way_long (place_of e) ticks t) ≡ true → IsTooLong t e
    home k f =
        let r = ready t e at number put s h (at_home t e place at number put m) in
        elim (or_cases (has_long put) (is_way_long (place_of e) ticks t) f) [
          | inl g ↦ put_long t e at number put r (found put g)
          | inr g ↦ long_edit t e at number put r ((way_test t e at number ticks put r
              (k r.list r.leads)).yes_long g)
        ]

pub not_too_long : (t : Timeline) (e : Edit) (place : List ℕ) (at number ticks : ℕ)
    (put : List (ItemOf Listed)) → IsSound t → count t.tracks.children < 2 ^ 32
    → IsMiddle t e place at number put
    → IsSum t place at number put ticks → (has_long put || is_way_long place ticks t) ≡ false
    → IsTooLong t e → ⊥
not_too_long t e place at number ticks put s h m =
    subst (λ p. IsSum t p at number put ticks → (has_long put || is_way_long p ticks t) ≡ false
    → IsTooLong t e → ⊥) m.there home
  where
    home : IsSum t (place_of e) at number put ticks
        → (has_long put || is_way_long (place_of e) ticks t) ≡ false → IsTooLong t e → ⊥
    home k f =
        let r = ready t e at number put s h (at_home t e place at number put m) in
        let g = or_none (has_long put) (is_way_long (place_of e) ticks t) f in
        not_long_edit t e at number put r
        (everywhere NotLong (place_of e) (listed r.new) t.tracks.children
        (λ q x f. no_fault x (s.faultless.items q x f))
        (everywhere_short r.new (new_short t e at number put r h g.0) r.fit)
        ((way_test t e at number ticks put r (k r.list r.leads)).no_long g.1))

-- ---- too many

abbrev IsCount : Timeline → List ℕ → ℕ → ℕ → List (ItemOf Listed) → ℕ → Type 0
IsCount t place at number put items =
    (l : Listed) → list_at place t.tracks.children ≡ Some l
    → items ≡ capped_count (count (with_at place (listed (replaced at number put (items_of l)))
    t.tracks.children))

over : (n items : ℕ) → items ≡ capped_count n → most_items < items → most_items < n
over n items e h = omega (arith, e, h)

under : (n items : ℕ) → items ≡ capped_count n → items ≤ most_items → n ≤ most_items
under n items e h = omega (arith, e, h)

no_more : (m n : ℕ) → m < n → n ≤ m → ⊥
no_more m n h k = omega (arith, h, k)

pub too_many : (t : Timeline) (e : Edit) (place : List ℕ) (at number items : ℕ)
    (put : List (ItemOf Listed)) → IsSound t → count t.tracks.children < 2 ^ 32
    → IsMiddle t e place at number put
    → IsCount t place at number put items → most_items < items → HasMany t e
too_many t e place at number items put s h m = subst
    (λ p. IsCount t p at number put items → most_items < items → HasMany t e) m.there home
  where
    home : IsCount t (place_of e) at number put items → most_items < items → HasMany t e
    home k f =
        let r = ready t e at number put s h (at_home t e place at number put m) in
        let n : items ≡ capped_count (count (with_at (place_of e) (listed r.new) t.tracks.children))
        = k r.list r.leads ∙ ap (λ l. capped_count
        (count (with_at (place_of e) (listed l) t.tracks.children))) (sym r.is) in (
          with_items t e r.new,
          r.gives,
          over (count
              (with_at (place_of e) (listed r.new) t.tracks.children)) items n f,
        )

pub not_too_many : (t : Timeline) (e : Edit) (place : List ℕ) (at number items : ℕ)
    (put : List (ItemOf Listed)) → IsSound t → count t.tracks.children < 2 ^ 32
    → IsMiddle t e place at number put
    → IsCount t place at number put items → items ≤ most_items → HasMany t e → ⊥
not_too_many t e place at number items put s h m =
    subst (λ p. IsCount t p at number put items → items ≤ most_items → HasMany t e → ⊥) m.there home
  where
    home : IsCount t (place_of e) at number put items → items ≤ most_items → HasMany t e → ⊥
    home k f (z, a, g) =
        let r = ready t e at number put s h (at_home t e place at number put m) in
        let n : items ≡ capped_count (count (with_at (place_of e) (listed r.new) t.tracks.children))
        = k r.list r.leads ∙ ap (λ l. capped_count
        (count (with_at (place_of e) (listed l) t.tracks.children))) (sym r.is) in
        let same : z ≡ with_items t e r.new = same_timeline z (with_items t e r.new)
        (sym a ∙ r.gives) in
        no_more most_items (count (with_at (place_of e) (listed r.new) t.tracks.children))
        (subst (λ (y : Timeline). most_items < count y.tracks.children) same g)
        (under (count (with_at (place_of e) (listed r.new) t.tracks.children)) items n f)

-- ---- what the tests need

pub place_is : (t : Timeline) (e : Edit) (place : List ℕ) (at number : ℕ)
    (put : List (ItemOf Listed)) → IsMiddle t e place at number put → place_fault place t ≡ None
place_is t e place at number put m = subst (λ p. place_fault p t ≡ None) m.there
    (place_none t e m.early)

pub within_list : (t : Timeline) (e : Edit) (place : List ℕ) (at number : ℕ)
    (put : List (ItemOf Listed)) → IsMiddle t e place at number put
    → (l : Listed) → list_at place t.tracks.children ≡ Some l → at + number ≤ length (items_of l)
within_list t e place at number put m l f = subst (λ k. at + number ≤ length k)
    (sym (list_is t e place l m.there f)) m.within

pub few_put : (t : Timeline) (e : Edit) (place : List ℕ) (at number : ℕ)
    (put : List (ItemOf Listed)) → IsSound t → count t.tracks.children < 2 ^ 32
    → IsMiddle t e place at number put → AreFew put
few_put t e place at number put s h m i x f = (all_get Fit put i x
    (put_fit t e at number put (ready t e at number put s h (at_home t e place at number put m)))
    f).few

-- ---- the plan

pub target_is : (p : Patch) (t : Timeline) (l : Listed) → target p t ≡ Some l
    → applied p t ≡ with_list p l t
target_is p t l e = let f : Option Listed → Timeline =
    λ o. elim o [ None ↦ t | Some m ↦ with_list p m t ] in ap f e

abbrev patch : List ℕ → ℕ → ℕ → List (ItemOf Listed) → Patch
patch place at number put = record { place = place; at = at; put = Items number put }

home_plan : (t : Timeline) (e : Edit) (at number : ℕ) (put : List (ItemOf Listed))
    (r : Ready t e at number put) → IsMiddle t e (place_of e) at number put → (IsTooLong t e → ⊥)
    → (HasMany t e → ⊥)
    → IsPlan t e (patch (place_of e) at number put)
home_plan t e at number put r m short few =
    let p = patch (place_of e) at number put in
    let gives : applied p t ≡ with_items t e r.new = target_is p t r.list r.leads
    ∙ ap (with_items t e) (sym r.is) in
    let after : IsAfter t e (applied p t) = record
    { early = r.early; short = short; few = few; made = r.gives ∙ ap Some (sym gives) } in
    record {
      fit = fit_track p t r.track.track r.track.there
          (within_list t e (place_of e) at number put m r.track.track.children r.track.list);
      after = after;
      sound = stays_sound t e (applied p t) r.sound m.item after;
      few_out = m.few_out;
      few_in = m.few_in;
    }

pub planned : (t : Timeline) (e : Edit) (place : List ℕ) (at number : ℕ)
    (put : List (ItemOf Listed)) → IsSound t → count t.tracks.children < 2 ^ 32
    → IsMiddle t e place at number put
    → (IsTooLong t e → ⊥) → (HasMany t e → ⊥) → IsPlan t e
    (record { place = place; at = at; put = Items number put })
planned t e place at number put s h m short few =
    let k = at_home t e place at number put m in
    subst (λ p. IsPlan t e (patch p at number put)) m.there
    (home_plan t e at number put (ready t e at number put s h k) k short few)
