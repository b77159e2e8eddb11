-- The first item without a form in the older family, among items that are looked at one after
-- another.
use Rattle.std.proofs.Common.{◌≡◌, ℕ, ◌+◌, ◌≤◌, List, [], ◌∷◌, Option, Some, None, Result, refl, ap, sym, ◌∙◌, length, slice_get, subst, inl, inr, arith}
use Rattle.std.specs.Prelude.{option_and_then}
use Rattle.std.specs.Result.{OnOk}
use Rattle.std.proofs.lemmas.Result.{on_ok_weaker}
use Rattle.otio_model.specs.declared.compositions.ItemOf.{ItemOf}
use Rattle.otio_model.specs.declared.compositions.ItemOf.TheVariants as I
use Rattle.otio_model.specs.declared.compositions.Listed.{Listed}
use Rattle.otio_model.specs.declared.compositions.StackOf.{StackOf}
use Rattle.otio_model.specs.declared.timelines.Timeline.{Timeline}
use Rattle.otio_model.specs.declared.objects.Object.{Object, out-Object, Timeline as ObjectOfTimeline, Item as ObjectOfItem, Collection as ObjectOfCollection}
use Rattle.otio_model.specs.declared.objects.Object.TheViews.{roll-Object, out-roll-Object}
use Rattle.otio_model.specs.declared.objects.Object.TheOpen.{Object-F}
use Rattle.otio_model.specs.declared.objects.Collection.{Collection, out-Collection}
use Rattle.otio_model.specs.Trees.{items_of, children_of, below}
use Rattle.otio_model.specs.declared.media.Media.{Media}
use Rattle.json_value.specs.declared.Json.{Null}
use Rattle.schema_write.specs.Objects.{medium_json, reference_json}
use Rattle.coord.specs.Soundness.{Precedes}
use Rattle.coord.proofs.Members.{got_below}
use Rattle.coord.proofs.JudgingLemmas.{in_item, split_last}
use Rattle.schema_write.specs.declared.old_faults.OldFault.{OldFault}
use Rattle.schema_write.specs.declared.old_forms.Found.{Found}
use Rattle.schema_write.specs.declared.old_forms.Found.TheVariants.{At, Memory}
use Rattle.schema_write.specs.OldForms.{old_fault_of, held_at, HasOldForm}
use Rattle.schema_write.specs.OldWalk.{Way, AreOld, AreOldTo, IsFirstIn, IsFound, among, IsUnder, into_item, into_items, into_object, into_objects}

-- what a step of a place leads through
then_some : {A B : Type 0} (f : A → Option B) (o : Option A) (y : B)
    → option_and_then f o ≡ Some y → (x : A) × (o ≡ Some x) × (f x ≡ Some y)
then_some f None y e = absurd (cc e)
then_some f (Some x) y e = (x, refl, e)

in_among : {X : Type 0} (into : List ℕ → X → Option (ItemOf Listed)) (xs : List X) (i : ℕ) (x : X)
    (place : List ℕ) → slice_get xs i ≡ Some x → among into xs (i ∷ place) ≡ into place x
in_among into xs i x place e = ap (option_and_then (into place)) e

-- one more thing all of whose items have a form
pub old_next : {X : Type 0} (into : List ℕ → X → Option (ItemOf Listed)) (xs : List X) (i : ℕ)
    (x : X) → slice_get xs i ≡ Some x → AreOld (λ place. into place x) → AreOldTo into i xs
    → AreOldTo into (i + 1) xs
old_next into xs i x e s all = λ j y lt got. elim (split_last i j (omega (arith, lt))) [
  | inl k ↦ all j y k got
  | inr k ↦ let g : slice_get xs i ≡ Some y =
      rw k at got in let same : x ≡ y = cc (e, g) in subst (λ z. AreOld (λ place. into place z)) same s
]

-- and all of them
pub old_all : {X : Type 0} (into : List ℕ → X → Option (ItemOf Listed)) (xs : List X) (i : ℕ)
    → length xs ≤ i → AreOldTo into i xs → AreOld (among into xs)
old_all into xs i h all [] y e = absurd (cc e)
old_all into xs i h all (j ∷ place) y e =
    let t = then_some (into place) (slice_get xs j) y e in
    all j t.0 (omega (arith, h, got_below xs j t.0 t.1)) t.1 place y t.2

under_first : {X : Type 0} (into : List ℕ → X → Option (ItemOf Listed)) (xs : List X) (i : ℕ)
    (x : X) (place : List ℕ) (fault : OldFault) → slice_get xs i ≡ Some x → AreOldTo into i xs
    → IsFirstIn (λ p. into p x) place fault
    → (before : List ℕ) (y : ItemOf Listed) → Precedes before (i ∷ place)
    → among into xs before ≡ Some y → old_fault_of y ≡ None
under_first into xs i x place fault e all f [] y p g = absurd (cc g)
under_first into xs i x place fault e all f (j ∷ q) y (inl k) g =
    let t = then_some (into q) (slice_get xs j) y g in all j t.0 k t.1 q y t.2
under_first into xs i x place fault e all f (j ∷ q) y (inr k) g =
    let h : among into xs (i ∷ q) ≡ Some y = rw k.0 at g in
    f.first q y k.1 (sym (in_among into xs i x q e) ∙ h)

-- what was found in a thing is what is found among them
pub found_under : {X : Type 0} (into : List ℕ → X → Option (ItemOf Listed)) (xs : List X) (i : ℕ)
    (x : X) (found there : Found) → slice_get xs i ≡ Some x → AreOldTo into i xs
    → IsFound (λ p. into p x) found → IsUnder i found there → IsFound (among into xs) there
found_under into xs i x found Memory e all f u = tt
found_under into xs i x Memory (At way fault) e all f u = absurd u
found_under into xs i x (At rest cause) (At way fault) e all f u =
    let g : IsFirstIn (λ p. into p x) rest.items fault =
    subst (IsFirstIn (λ p. into p x) rest.items) u.0 f in
    subst (λ place. IsFirstIn (among into xs) place fault) (sym u.1) (record {
      item = g.item;
      is = in_among into xs i x rest.items e ∙ g.is;
      has = g.has;
      first = under_first into xs i x rest.items fault e all g;
    })

-- an item with children that have a form
pub old_with : (x : ItemOf Listed) (l : Listed) → children_of x ≡ Some l → old_fault_of x ≡ None
    → AreOld (into_items l) → AreOld (into_item x)
old_with x l e n s [] y b = let same : x ≡ y = cc b in subst (λ z. old_fault_of z ≡ None) same n
old_with x l e n s (i ∷ place) y b = s (i ∷ place) y (sym (in_item x l i place e) ∙ b)

-- an item without children
pub old_alone : (x : ItemOf Listed) → children_of x ≡ None → old_fault_of x ≡ None → AreOld (into_item x)
old_alone x e n [] y b = let same : x ≡ y = cc b in subst (λ z. old_fault_of z ≡ None) same n
old_alone x e n (i ∷ place) y b =
    absurd (cc (sym (ap (option_and_then (λ m.
    option_and_then (below place) (slice_get (items_of m) i))) e) ∙ b))

none_before : (p : List ℕ) → Precedes p [] → {P : Type 0} → P
none_before p h = absurd h

-- the item itself has none
pub found_here : (x : ItemOf Listed) (fault : OldFault) → old_fault_of x ≡ Some fault
    → IsFirstIn (λ place. below place x) [] fault
found_here x fault e =
    record { item = x; is = refl; has = e; first = λ before y p. none_before before p }

deeper_first : (x : ItemOf Listed) (l : Listed) (place : List ℕ) (fault : OldFault)
    → children_of x ≡ Some l → old_fault_of x ≡ None
    → IsFirstIn (among below (items_of l)) place fault
    → (before : List ℕ) (y : ItemOf Listed) → Precedes before place → below before x ≡ Some y
    → old_fault_of y ≡ None
deeper_first x l place fault e n f [] y p b =
    let same : x ≡ y = cc b in subst (λ z. old_fault_of z ≡ None) same n
deeper_first x l place fault e n f (j ∷ q) y p b =
    f.first (j ∷ q) y p (sym (in_item x l j q e) ∙ b)

deeper : (x : ItemOf Listed) (l : Listed) (place : List ℕ) (fault : OldFault)
    → children_of x ≡ Some l → old_fault_of x ≡ None
    → IsFirstIn (among below (items_of l)) place fault
    → IsFirstIn (λ place. below place x) place fault
deeper x l [] fault e n f = absurd (cc f.is)
deeper x l (i ∷ place) fault e n f = record {
  item = f.item;
  is = in_item x l i place e ∙ f.is;
  has = f.has;
  first = deeper_first x l (i ∷ place) fault e n f;
}

-- what was found in the children of an item that has a form is what is found there
pub found_with : (x : ItemOf Listed) (l : Listed) (found : Found) → children_of x ≡ Some l
    → old_fault_of x ≡ None → IsFound (into_items l) found → IsFound (into_item x) found
found_with x l Memory e n f = tt
found_with x l (At way fault) e n f = deeper x l way.items fault e n f

-- what places lead to in an object, by what it is
pub timeline_out : (t : Timeline) → out-Object (ObjectOfTimeline t) ≡ Object-F.Timeline t
unfolding roll-Object denote.Hole.Carrier.roll out-Object denote.Hole.Carrier.out
timeline_out t = refl

item_out : (x : ItemOf Listed) → out-Object (ObjectOfItem x) ≡ Object-F.Item x
unfolding roll-Object denote.Hole.Carrier.roll out-Object denote.Hole.Carrier.out
item_out x = refl

collection_out : (c : Collection) → out-Object (ObjectOfCollection c) ≡ Object-F.Collection c
unfolding roll-Object denote.Hole.Carrier.roll
collection_out c = out-roll-Object (Object-F.Collection c)

by_places : (f g : Way) → ((place : List ℕ) → f place ≡ g place) → AreOld f → AreOld g
by_places f g e s = λ place x b. s place x (e place ∙ b)

first_by_places : (f g : Way) → ((place : List ℕ) → f place ≡ g place) → (place : List ℕ)
    (fault : OldFault) → IsFirstIn f place fault → IsFirstIn g place fault
first_by_places f g e place fault a = record {
  item = a.item;
  is = sym (e place) ∙ a.is;
  has = a.has;
  first = λ before y p b. a.first before y p (e before ∙ b);
}

found_by_places : (f g : Way) → ((place : List ℕ) → f place ≡ g place) → (found : Found)
    → IsFound f found → IsFound g found
found_by_places f g e Memory a = tt
found_by_places f g e (At way fault) a = first_by_places f g e way.items fault a

in_timeline : (object : Object) (t : Timeline) → object ≡ ObjectOfTimeline t → (place : List ℕ)
    → below place (I.Stack t.tracks) ≡ held_at place object
in_timeline object t e place = rw (e, timeline_out t) refl

in_item_object : (object : Object) (x : ItemOf Listed) → object ≡ ObjectOfItem x
    → (place : List ℕ) → below place x ≡ held_at place object
in_item_object object x e place = rw (e, item_out x) refl

in_collection : (object : Object) (c : Collection) → object ≡ ObjectOfCollection c
    → (place : List ℕ) → among held_at (out-Collection c).children place ≡ held_at place object
in_collection object c e [] = rw (e, collection_out c) refl
in_collection object c e (i ∷ place) = rw (e, collection_out c) refl

pub old_timeline : (object : Object) (t : Timeline) → object ≡ ObjectOfTimeline t
    → AreOld (into_item (I.Stack t.tracks)) → HasOldForm object
old_timeline object t e s = by_places (λ place. below place (I.Stack t.tracks))
    (λ place. held_at place object) (in_timeline object t e) s

pub old_item : (object : Object) (x : ItemOf Listed) → object ≡ ObjectOfItem x → AreOld (into_item x)
    → HasOldForm object
old_item object x e s =
    by_places (λ place. below place x) (λ place. held_at place object) (in_item_object object x e) s

pub old_collection : (object : Object) (c : Collection) → object ≡ ObjectOfCollection c
    → AreOld (into_objects (out-Collection c).children) → HasOldForm object
old_collection object c e s = by_places (among held_at (out-Collection c).children)
    (λ place. held_at place object) (in_collection object c e) s

pub collection_ok : {A E : Type 0} (r : Result A E) (object : Object) (c : Collection)
    (objects : List Object) → object ≡ ObjectOfCollection c → objects ≡ (out-Collection c).children
    → OnOk r (AreOld (into_objects objects)) → OnOk r (HasOldForm object)
collection_ok r object c objects e is h =
    on_ok_weaker r (λ s. old_collection object c e (subst (λ (xs : List Object). AreOld (into_objects xs)) is s)) h

pub stack_ok : {A E : Type 0} (r : Result A E) (s : StackOf Listed)
    → old_fault_of (I.Stack s) ≡ None → OnOk r (AreOld (into_items s.children))
    → OnOk r (AreOld (into_item (I.Stack s)))
stack_ok r s n h = on_ok_weaker r (old_with (I.Stack s) s.children refl n) h

pub found_timeline : (object : Object) (t : Timeline) (found : Found) → object ≡ ObjectOfTimeline t
    → IsFound (into_item (I.Stack t.tracks)) found → IsFound (into_object object) found
found_timeline object t found e a = found_by_places (λ place. below place (I.Stack t.tracks))
    (λ place. held_at place object) (in_timeline object t e) found a

pub found_item : (object : Object) (x : ItemOf Listed) (found : Found) → object ≡ ObjectOfItem x
    → IsFound (into_item x) found → IsFound (into_object object) found
found_item object x found e a = found_by_places (λ place. below place x)
    (λ place. held_at place object) (in_item_object object x e) found a

pub found_collection : (object : Object) (c : Collection) (found : Found)
    → object ≡ ObjectOfCollection c → IsFound (into_objects (out-Collection c).children) found
    → IsFound (into_object object) found
found_collection object c found e a = found_by_places (among held_at (out-Collection c).children)
    (λ place. held_at place object) (in_collection object c e) found a

-- the one reference of a clip of the first version
pub reference_some : (pairs media : List (List ℕ × Media)) (pair : List ℕ × Media) → pairs ≡ media
    → Some pair ≡ slice_get pairs 0 → medium_json pair.1 ≡ reference_json media
reference_some [] media pair same e = absurd (cc e)
reference_some (m ∷ more) media pair same e =
    let is : pair ≡ m = cc e in ap (λ p. medium_json p.1) is ∙ ap reference_json same

pub reference_none : (pairs media : List (List ℕ × Media)) → pairs ≡ media
    → None ≡ slice_get pairs 0 → Null ≡ reference_json media
reference_none [] media same e = ap reference_json same
reference_none (m ∷ more) media same e = absurd (cc e)
