-- Objects counted one by one, and what an item counts.
use Rattle.std.proofs.Common.{◌≡◌, ◌<◌, ◌≤◌, ◌+◌, ℕ, zero, suc, List, [], ◌∷◌, length, get_or, take, add-one, Some, None, refl, ap, arith}
use Rattle.otio_model.specs.declared.compositions.Listed.{Listed}
use Rattle.otio_model.specs.declared.compositions.ItemOf.{ItemOf}
use Rattle.otio_model.specs.declared.compositions.ItemOf.TheVariants as I
use Rattle.otio_model.specs.declared.timelines.Timeline.{Timeline as TimelineRow}
use Rattle.otio_model.specs.declared.objects.Object.{Object, Timeline, Item}
use Rattle.otio_model.specs.declared.objects.Object.TheOpen.{Object-F}
use Rattle.otio_model.specs.declared.objects.Object.TheFolds.{fold-roll-Object}
use Rattle.otio_model.specs.Counts.{count, count_of as count_of_item}
use Rattle.otio_model.specs.Trees.{children_of}
use Rattle.schema_rows.specs.Counts.{count_of, count_object, count_collection}
use Rattle.schema_tab.specs.Objects.{counts_of, object_depth, objects_depth}

pub item_count : (x : ItemOf Listed) → children_of x ≡ None → count_of_item x ≡ 1
item_count (I.Clip c) e = refl
item_count (I.Gap g) e = refl
item_count (I.Transition t) e = refl
item_count (I.Stack s) e = absurd (cc)
item_count (I.Track t) e = absurd (cc)

pub parent_count : (x : ItemOf Listed) (l : Listed) → children_of x ≡ Some l → count_of_item x ≡ count l + 1
parent_count (I.Clip c) l e = absurd (cc)
parent_count (I.Gap g) l e = absurd (cc)
parent_count (I.Transition t) l e = absurd (cc)
parent_count (I.Stack s) l e = let h : s.children ≡ l = cc in ap (λ (k : Listed). count k + 1) h
parent_count (I.Track t) l e = let h : t.children ≡ l = cc in ap (λ (k : Listed). count k + 1) h

-- the objects so far, and one more
pub objects_more : (xs : List Object) (i : ℕ) (x : Object) → i < length xs → x ≡ get_or xs i x
    → (counts_of (take (i + 1) xs) ≡ counts_of (take i xs) + count_of x) × (counts_of (take i xs) + count_of x ≤ counts_of xs) × (object_depth x ≤ objects_depth xs)
objects_more [] i x h e = absurd (omega arith)
objects_more (y ∷ xs) zero x h e = let same : count_of x ≡ count_of y = ap count_of e in let deep : object_depth x ≡ object_depth y = ap object_depth e in (omega (arith, same), omega (arith, same), omega (arith, deep))
objects_more (y ∷ xs) (suc i) x h e =
    let b = objects_more xs i x (omega arith) e in
    let more : counts_of (take (suc i + 1) (y ∷ xs)) ≡ count_of y + counts_of (take (i + 1) xs) = rw (add-one (suc i), add-one i) refl in
    (omega (arith, b.0, more), omega (arith, b.1), omega (arith, b.2))

-- a timeline has the items of its root stack
pub count-Timeline : (t : TimelineRow) → count_of (Timeline t) ≡ count t.tracks.children
unfolding Rattle.otio_model.specs.declared.objects.Object.TheViews.roll-Object denote.Hole.Carrier.roll
count-Timeline t = fold-roll-Object ℕ ℕ count_object count_collection (Object-F.Timeline t)

pub count-Item : (x : ItemOf Listed) → count_of (Item x) ≡ count_of_item x
unfolding Rattle.otio_model.specs.declared.objects.Object.TheViews.roll-Object denote.Hole.Carrier.roll
count-Item x = fold-roll-Object ℕ ℕ count_object count_collection (Object-F.Item x)
