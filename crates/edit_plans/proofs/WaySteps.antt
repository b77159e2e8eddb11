-- One level of the way to a changed track.
use Rattle.std.proofs.Common.{◌≡◌, sym, ap, ◌∙◌, ℕ, ◌+◌, ◌<◌, ◌^◌, List, ◌∷◌, Option}
use Rattle.std.proofs.Common.{Some, None, length, drop, slice_get, subst, arith}
use Rattle.std.specs.Prelude.{option_and_then, IfSome}
use Rattle.otio_model.specs.declared.compositions.ItemOf.{ItemOf}
use Rattle.otio_model.specs.declared.compositions.ItemOf.TheVariants.{Clip, Gap, Transition, Stack}
use Rattle.otio_model.specs.declared.compositions.ItemOf.TheVariants.{Track}
use Rattle.otio_model.specs.declared.compositions.Listed.{Listed}
use Rattle.otio_model.specs.Counts.{count, count_of}
use Rattle.otio_model.specs.Trees.{below, children_of, item_at, items_of}
use Rattle.coord.specs.Soundness.{AreFaultless, IsFaultlessItem}
use Rattle.coord.proofs.Members.{child_few, got_below, next}
use Rattle.edit_plans.specs.Ways.{at_child, at_children, available_with, short_ticks, way_ticks}
use Rattle.edit_plans.proofs.PinLemmas.{past_end}

-- ---- an item and its child

pub below_of : (i : ℕ) (rest : List ℕ) (x : ItemOf Listed) (l : Listed) (y : ItemOf Listed)
    → children_of x ≡ Some l → slice_get (items_of l) i ≡ Some y → below (i ∷ rest) x ≡ below rest y
below_of i rest x l y e f = ap (option_and_then (λ m. option_and_then (below rest)
    (slice_get (items_of m) i))) e ∙ ap (option_and_then (below rest)) f

pub item_from : (i : ℕ) (q : List ℕ) (l : Listed) (y : ItemOf Listed)
    → slice_get (items_of l) i ≡ Some y → item_at (i ∷ q) l ≡ below q y
item_from i q l y e = ap (option_and_then (below q)) e

pub child_sound : (i : ℕ) (x : ItemOf Listed) (l : Listed) (y : ItemOf Listed)
    → children_of x ≡ Some l → slice_get (items_of l) i ≡ Some y → IsFaultlessItem x
    → IsFaultlessItem y
child_sound i x l y e f s place z b = s (i ∷ place) z (below_of i place x l y e f ∙ b)

pub root_sound : (i : ℕ) (l : Listed) (y : ItemOf Listed) → slice_get (items_of l) i ≡ Some y
    → AreFaultless l → IsFaultlessItem y
root_sound i l y e s place z b = s (i ∷ place) z (item_from i place l y e ∙ b)

list_few : (x : ItemOf Listed) (l : Listed) → children_of x ≡ Some l → count_of x < 2 ^ 32
    → count l < 2 ^ 32
list_few (Clip c) l e h = absurd (cc e)
list_few (Gap c) l e h = absurd (cc e)
list_few (Transition c) l e h = absurd (cc e)
list_few (Stack c) l e h = let same : c.children ≡ l = cc e in let k = ap count same in
    omega (arith, h, k)
list_few (Track c) l e h = let same : c.children ≡ l = cc e in let k = ap count same in
    omega (arith, h, k)

pub below_few : (i : ℕ) (x : ItemOf Listed) (l : Listed) (y : ItemOf Listed)
    → children_of x ≡ Some l → slice_get (items_of l) i ≡ Some y → count_of x < 2 ^ 32
    → count_of y < 2 ^ 32
below_few i x l y e f h = child_few l i y f (list_few x l e h)

pub index_there : (i : ℕ) (x : ItemOf Listed) (l : Listed) (y : ItemOf Listed)
    → children_of x ≡ Some l → slice_get (items_of l) i ≡ Some y
    → IfSome (children_of x) (λ m. i < length (items_of m))
index_there i x l y e f = subst (λ o. IfSome o (λ m. i < length (items_of m))) (sym e)
    (got_below (items_of l) i y f)

-- ---- how long the item is

pub way_end : (place : List ℕ) (d sum : ℕ) (x : ItemOf Listed) → None ≡ slice_get place d
    → short_ticks x sum ≡ way_ticks (drop d place) sum x
way_end place d sum x e = sym (ap (λ q. way_ticks q sum x) (past_end place d (sym e)))

-- by the child at the index, or none
pub by_child : (f : ItemOf Listed → Option ℕ) (i : ℕ) (x : ItemOf Listed) (l : Listed)
    (o : Option (ItemOf Listed)) → children_of x ≡ Some l → slice_get (items_of l) i ≡ o
    → at_children f x i (children_of x) ≡ at_child f x i o
by_child f i x l o e g = ap (at_children f x i) e ∙ ap (at_child f x i) g

at_index : (place : List ℕ) (d i sum : ℕ) (x : ItemOf Listed) → Some i ≡ slice_get place d
    → way_ticks (drop d place) sum x
    ≡ at_children (way_ticks (drop (d + 1) place) sum) x i (children_of x)
at_index place d i sum x e = ap (λ q. way_ticks q sum x) (next place d i (sym e))

pub way_none : (place : List ℕ) (d i sum : ℕ) (x : ItemOf Listed) → Some i ≡ slice_get place d
    → children_of x ≡ None → None ≡ way_ticks (drop d place) sum x
way_none place d i sum x e f =
    sym (at_index place d i sum x e ∙ ap (at_children (way_ticks (drop (d + 1) place) sum) x i) f)

pub way_out : (place : List ℕ) (d i sum : ℕ) (x : ItemOf Listed) (l : Listed)
    → Some i ≡ slice_get place d → children_of x ≡ Some l → slice_get (items_of l) i ≡ None
    → None ≡ way_ticks (drop d place) sum x
way_out place d i sum x l e f g =
    sym (at_index place d i sum x e
    ∙ by_child (way_ticks (drop (d + 1) place) sum) i x l None f g)

pub way_in : (place : List ℕ) (d i sum : ℕ) (x : ItemOf Listed) (l : Listed) (y : ItemOf Listed)
    (o : Option ℕ) → Some i ≡ slice_get place d → children_of x ≡ Some l
    → slice_get (items_of l) i ≡ Some y → o ≡ way_ticks (drop (d + 1) place) sum y
    → option_and_then (λ n. short_ticks x (available_with x i n)) o
    ≡ way_ticks (drop d place) sum x
way_in place d i sum x l y o e f g h =
    ap (option_and_then (λ n. short_ticks x (available_with x i n))) h
    ∙ sym (at_index place d i sum x e
    ∙ by_child (way_ticks (drop (d + 1) place) sum) i x l (Some y) f g)
