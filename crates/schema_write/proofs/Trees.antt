-- Children and objects in JSON, one level at a time.
use Rattle.std.proofs.Common.{◌≡◌, ℕ, zero, suc, ◌+◌, ◌≤◌, List, [], ◌∷◌, ◌++◌, length, take, map, Some, slice_get, IfOk, Result, refl, ap, sym, ◌∙◌, subst, add-one}
use Rattle.std.proofs.lemmas.List.{take_all}
use Rattle.json_value.specs.declared.Json.{Json}
use Rattle.otio_model.specs.declared.compositions.ItemOf.{ItemOf}
use Rattle.otio_model.specs.declared.compositions.ItemOf.TheVariants.{Clip, Gap, Transition, Stack, Track}
use Rattle.otio_model.specs.declared.compositions.TrackOf.{TrackOf}
use Rattle.otio_model.specs.declared.compositions.Listed.{Listed}
use Rattle.otio_model.specs.declared.compositions.Listed.TheFolds.{fold-roll-Listed, map-Listed}
use Rattle.otio_model.specs.declared.compositions.Listed.TheViews.{roll-out-Listed}
use Rattle.otio_model.specs.declared.timelines.Timeline.{Timeline}
use Rattle.otio_model.specs.declared.objects.Object.{Object, Timeline as ObjectOfTimeline, Item as ObjectOfItem, Collection as ObjectOfCollection}
use Rattle.otio_model.specs.declared.objects.Object.TheOpen.{Object-F}
use Rattle.otio_model.specs.declared.objects.Object.TheFolds.{fold-roll-Object}
use Rattle.otio_model.specs.declared.objects.Collection.{Collection, fold-Collection, out-Collection}
use Rattle.otio_model.specs.declared.objects.Object.TheFolds.{fold-roll-Collection}
use Rattle.otio_model.specs.declared.objects.Object.TheViews.{roll-out-Collection}
use Rattle.otio_model.specs.Trees.{items_of}
use Rattle.schema_write.specs.Objects.{Style, children_in, children_step, item_by, item_in, track_by, object_in, timeline_in, collection_in, object_step, collection_step}

-- the items of a list, before and after their children are known in JSON
each_item : (style : Style) (xs : List (ItemOf Listed)) → map (item_by style (λ values. values)) (map-Listed Listed (List Json) (children_in style) (record { list = xs })).list ≡ map (item_in style) xs
each_item style [] = refl
each_item style ((Clip c) ∷ xs) = ap (λ l. item_in style (Clip c) ∷ l) (each_item style xs)
each_item style ((Gap g) ∷ xs) = ap (λ l. item_in style (Gap g) ∷ l) (each_item style xs)
each_item style ((Transition t) ∷ xs) = ap (λ l. item_in style (Transition t) ∷ l) (each_item style xs)
each_item style ((Stack s) ∷ xs) = ap (λ l. item_in style (Stack s) ∷ l) (each_item style xs)
each_item style ((Track t) ∷ xs) = ap (λ l. item_in style (Track t) ∷ l) (each_item style xs)

-- children are their items in JSON
pub children_are : (style : Style) (l : Listed) → children_in style l ≡ map (item_in style) (items_of l)
children_are style l = ap (children_in style) (sym (roll-out-Listed l)) ∙ fold-roll-Listed (List Json) (children_step style) (record { list = items_of l }) ∙ each_item style (items_of l)

-- one more value
next_value : {X : Type 0} (f : X → Json) (xs : List X) (i : ℕ) (x : X) → slice_get xs i ≡ Some x → map f (take (suc i) xs) ≡ map f (take i xs) ++ f x ∷ []
next_value f [] zero x h = absurd (cc h)
next_value f [] (suc i) x h = absurd (cc h)
next_value f (y ∷ xs) zero x h = let e : y ≡ x = cc h in ap (λ z. f z ∷ []) e
next_value f (y ∷ xs) (suc i) x h = ap (λ l. f y ∷ l) (next_value f xs i x h)

pub value_added : {X : Type 0} (f : X → Json) (xs : List X) (i : ℕ) (x : X) (now : List Json) (v : Json) → slice_get xs i ≡ Some x → now ≡ map f (take i xs) → v ≡ f x
    → now ++ v ∷ [] ≡ map f (take (i + 1) xs)
value_added f xs i x now v h is e =
    ap (λ l. l ++ v ∷ []) is ∙ ap (λ w. map f (take i xs) ++ w ∷ []) e ∙ sym (next_value f xs i x h) ∙ ap (λ k. map f (take k xs)) (sym (add-one i))

-- and pushed
pub value_pushed : {X : Type 0} (f : X → Json) (xs : List X) (i : ℕ) (x : X) (now new : List Json) (v : Json) → new ≡ now ++ v ∷ [] → slice_get xs i ≡ Some x → now ≡ map f (take i xs) → v ≡ f x
    → new ≡ map f (take (i + 1) xs)
value_pushed f xs i x now new v pushed h is e = pushed ∙ value_added f xs i x now v h is e

-- all children
pub children_done : (style : Style) (l : Listed) (i : ℕ) (values : List Json) → length (items_of l) ≤ i → values ≡ map (item_in style) (take i (items_of l)) → values ≡ children_in style l
children_done style l i values h is = is ∙ ap (map (item_in style)) (take_all i (items_of l) h) ∙ sym (children_are style l)

-- the JSON of an item that is another
pub item_as : (style : Style) {E : Type 0} (r : Result Json E) (x y : ItemOf Listed) → x ≡ y → IfOk r (λ json. json ≡ item_in style x) → IfOk r (λ json. json ≡ item_in style y)
item_as style r x y e h = subst (λ (z : ItemOf Listed). IfOk r (λ json. json ≡ item_in style z)) e h

-- the JSON of a track whose children are known
pub track_as : (style : Style) {E : Type 0} (r : Result Json E) (t : TrackOf Listed) (values : List Json) (x : ItemOf Listed) → values ≡ children_in style t.children → x ≡ Track t
    → IfOk r (λ json. json ≡ track_by style (λ _. values) t) → IfOk r (λ json. json ≡ item_in style x)
track_as style r t values x e is h =
    let known : IfOk r (λ json. json ≡ item_in style (Track t)) = subst (λ (l : List Json). IfOk r (λ json. json ≡ track_by style (λ _. l) t)) e h in
    item_as style r (Track t) x (sym is) known

-- an object, one level at a time
pub object_in-Timeline : (style : Style) (t : Timeline) → object_in style (ObjectOfTimeline t) ≡ timeline_in style t
unfolding Rattle.otio_model.specs.declared.objects.Object.TheViews.roll-Object denote.Hole.Carrier.roll
object_in-Timeline style t = fold-roll-Object Json Json (object_step style) collection_step (Object-F.Timeline t)

pub object_in-Item : (style : Style) (i : ItemOf Listed) → object_in style (ObjectOfItem i) ≡ item_in style i
unfolding Rattle.otio_model.specs.declared.objects.Object.TheViews.roll-Object denote.Hole.Carrier.roll
object_in-Item style i = fold-roll-Object Json Json (object_step style) collection_step (Object-F.Item i)

-- a collection, one level at a time
pub collection_is : (style : Style) (c : Collection) → fold-Collection Json Json (object_step style) collection_step c ≡ collection_in style c
collection_is style c =
    ap (fold-Collection Json Json (object_step style) collection_step) (sym (roll-out-Collection c)) ∙ fold-roll-Collection Json Json (object_step style) collection_step (out-Collection c)

pub object_in-Collection : (style : Style) (c : Collection) → object_in style (ObjectOfCollection c) ≡ collection_in style c
unfolding Rattle.otio_model.specs.declared.objects.Object.TheViews.roll-Object denote.Hole.Carrier.roll
object_in-Collection style c = fold-roll-Object Json Json (object_step style) collection_step (Object-F.Collection c) ∙ collection_is style c

-- the JSON of an object that is another
pub object_as : (style : Style) {E : Type 0} (r : Result Json E) (json : Json) (x y : Object) → object_in style x ≡ json → y ≡ x → IfOk r (λ made. made ≡ json) → IfOk r (λ made. made ≡ object_in style y)
object_as style r json x y e is h = subst (λ (j : Json). IfOk r (λ made. made ≡ j)) (sym e ∙ ap (object_in style) (sym is)) h
