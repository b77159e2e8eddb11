-- What comes in place of items of a list.
use Rattle.std.proofs.Common.{◌≡◌, refl, sym, subst, ap, ap₂, ◌∙◌, ℤ, ℕ, zero, suc, ◌+◌, ◌≤◌, ◌<◌}
use Rattle.std.proofs.Common.{true, Some, None, List, [], ◌∷◌, ◌++◌}
use Rattle.std.proofs.Common.{take, drop, length, arith, add-one, length-append}
use Rattle.std.specs.Prelude.{option_map, slice_get, IfSome}
use Rattle.tick_time.specs.declared.rates.Rate.{Rate}
use Rattle.otio_model.specs.declared.compositions.ItemOf.{ItemOf}
use Rattle.otio_model.specs.declared.compositions.Listed.{Listed}
use Rattle.edits.specs.Children.{all_made, has_far}
use Rattle.edits.specs.Cuts.{olds}
use Rattle.otio_model.specs.declared.seeks.Seat.{Seat}
use Rattle.otio_model.specs.Edits.{replaced}
use Rattle.edit_trim.specs.Motions.{motion_list}
use Rattle.edit_trim.specs.declared.edge_moves.Motion.TheVariants as W
use Rattle.edits.specs.Edges.{Held, first_changed, first_item, gap_of, last_changed, last_item, one}
use Rattle.edits.specs.Edges.{slipped_item}
use Rattle.edits_law.proofs.Parted.{made_narrow}
use Rattle.edit_plans.proofs.ZoneLemmas.{far_left, far_right, made_both, olds_made}
use Rattle.edit_trim.specs.Changes.{Leaves, changed, parts}
use Rattle.edit_trim.specs.Seats.{IsAt, IsFirst, IsLast, changed_at}
use Rattle.edit_trim.specs.declared.resized_items.Change.{Change}
use Rattle.edit_trim.specs.declared.replacements.Shape.{Shape}
use Rattle.edit_trim.proofs.KeptEdges.{first_at, first_none, last_at, last_none}

-- ---- lists that are made, or not, together

-- ---- others in the place of one item

at_is : (c : Change) (l : List (ItemOf Listed)) (i : ℕ) (x : ItemOf Listed) → slice_get l i ≡ Some x
    → changed_at c l i ≡ olds (take i l) ++ (changed c x ++ olds (drop (i + 1) l))
at_is c l i x e = rw (e, changed_at) refl

pub put_made : (r : Rate) (c : Change) (l : List (ItemOf Listed)) (i : ℕ) (x : ItemOf Listed)
    (p all : List (ItemOf Listed)) → slice_get l i ≡ Some x → all_made r (changed c x) ≡ Some p
    → all ≡ take i l ++ (p ++ drop (i + 1) l) → all_made r (changed_at c l i) ≡ Some all
put_made r c l i x p all e g k =
    ap (all_made r) (at_is c l i x e) ∙ made_narrow r (take i l) (changed c x) (drop (i + 1) l)
    ∙ ap (option_map (λ m. take i l ++ (m ++ drop (i + 1) l))) g ∙ ap Some (sym k)

pub put_far : (c : Change) (l : List (ItemOf Listed)) (i : ℕ) (x : ItemOf Listed)
    → slice_get l i ≡ Some x → has_far (changed c x) ≡ true → has_far (changed_at c l i) ≡ true
put_far c l i x e g = ap has_far (at_is c l i x e)
    ∙ far_right (olds (take i l)) (changed c x ++ olds (drop (i + 1) l))
    (far_left (changed c x) (olds (drop (i + 1) l)) g)

cut_length : {A : Type 0} (l : List A) (i : ℕ) → i < length l
    → length (take i l) + 1 + length (drop (suc i) l) ≤ length l
cut_length [] i h = absurd (omega (arith, h))
cut_length (x ∷ l) zero h = omega (arith)
cut_length (x ∷ l) (suc i) h = let n = cut_length l i (omega (arith, h)) in omega (arith, n)

pub put_few : (l p all : List (ItemOf Listed)) (i : ℕ) → i < length l → length p ≤ 1
    → all ≡ take i l ++ (p ++ drop (i + 1) l) → length all ≤ length l
put_few l p all i h k e =
    let a = ap length e in
    let b = length-append (take i l) (p ++ drop (i + 1) l) in
    let c = length-append p (drop (i + 1) l) in
    let d = ap (λ n. length (drop n l)) (add-one i) in
    let m = cut_length l i h in
    omega (arith, a, b, c, d, m, k)

-- the last item, by its index
pub last_is : (c : Change) (l : List (ItemOf Listed)) (i : ℕ) → IsLast l i
    → last_changed (changed c) l ≡ changed_at c l i
last_is c l i w =
    let k = last_at (changed c) l i w.item w.there w.thing
    (ap (λ n. last_item (drop n l)) (sym (add-one i)) ∙ w.last) in
    k.put ∙ ap (λ n. olds (take i l) ++ (changed c w.item ++ olds (drop n l))) (sym (add-one i))
    ∙ sym (at_is c l i w.item w.there)

pub last_leaves : (c : Change) (l : List (ItemOf Listed)) (i : ℕ) → IsLast l i
    → IfSome (last_item l) (Leaves c) → IfSome (slice_get l i) (Leaves c)
last_leaves c l i w h =
    let k = last_at (changed c) l i w.item w.there w.thing
    (ap (λ n. last_item (drop n l)) (sym (add-one i)) ∙ w.last) in
    subst (λ o. IfSome o (Leaves c)) (k.is ∙ sym w.there) h

pub first_is : (c : Change) (l : List (ItemOf Listed)) (i : ℕ) → IsFirst l i
    → first_changed (changed c) l ≡ changed_at c l i
first_is c l i w =
    let k = first_at (changed c) l i w.item w.there w.thing w.first in
    k.put ∙ ap (λ n. olds (take i l) ++ (changed c w.item ++ olds (drop n l))) (sym (add-one i))
    ∙ sym (at_is c l i w.item w.there)

pub first_leaves : (c : Change) (l : List (ItemOf Listed)) (i : ℕ) → IsFirst l i
    → IfSome (first_item l) (Leaves c) → IfSome (slice_get l i) (Leaves c)
first_leaves c l i w h =
    let k = first_at (changed c) l i w.item w.there w.thing w.first in
    subst (λ o. IfSome o (Leaves c)) (k.is ∙ sym w.there) h

pub last_stays : (r : Rate) (c : Change) (l : List (ItemOf Listed)) → last_item l ≡ None
    → all_made r (last_changed (changed c) l) ≡ Some l
last_stays r c l e = ap (all_made r) (last_none (changed c) l e) ∙ olds_made r l

pub first_stays : (r : Rate) (c : Change) (l : List (ItemOf Listed)) → first_item l ≡ None
    → all_made r (first_changed (changed c) l) ≡ Some l
first_stays r c l e = ap (all_made r) (first_none (changed c) l e) ∙ olds_made r l

-- ---- all the parts

pub parts_made : (r : Rate) (s : Shape) (l : List (ItemOf Listed)) (x : ItemOf Listed)
    (m a b c d e all : List (ItemOf Listed)) → all_made r (last_changed (changed s.before) l)
    ≡ Some a → all_made r (gap_of s.gap_before) ≡ Some b
    → all_made r (changed s.item x) ≡ Some c → all_made r (gap_of s.gap_behind) ≡ Some d
    → all_made r (first_changed (changed s.behind) m) ≡ Some e → all ≡ a ++ (b ++ (c ++ (d ++ e)))
    → all_made r (parts s l x m) ≡ Some all
parts_made r s l x m a b c d e all f g h i j k =
    made_both r (last_changed (changed s.before) l) _ a (b ++ (c ++ (d ++ e))) f
    (made_both r (gap_of s.gap_before) _ b (c ++ (d ++ e)) g
    (made_both r (changed s.item x) _ c (d ++ e) h
    (made_both r (gap_of s.gap_behind) _ d e i j))) ∙ ap Some (sym k)

pub far_before : (s : Shape) (l : List (ItemOf Listed)) (x : ItemOf Listed)
    (m : List (ItemOf Listed)) → has_far (last_changed (changed s.before) l) ≡ true
    → has_far (parts s l x m) ≡ true
far_before s l x m e = far_left (last_changed (changed s.before) l) _ e

pub far_gap_before : (s : Shape) (l : List (ItemOf Listed)) (x : ItemOf Listed)
    (m : List (ItemOf Listed)) → has_far (gap_of s.gap_before) ≡ true
    → has_far (parts s l x m) ≡ true
far_gap_before s l x m e = far_right (last_changed (changed s.before) l) _
    (far_left (gap_of s.gap_before) _ e)

pub far_item : (s : Shape) (l : List (ItemOf Listed)) (x : ItemOf Listed) (m : List (ItemOf Listed))
    → has_far (changed s.item x) ≡ true → has_far (parts s l x m) ≡ true
far_item s l x m e = far_right (last_changed (changed s.before) l) _
    (far_right (gap_of s.gap_before) _ (far_left (changed s.item x) _ e))

pub far_gap_behind : (s : Shape) (l : List (ItemOf Listed)) (x : ItemOf Listed)
    (m : List (ItemOf Listed)) → has_far (gap_of s.gap_behind) ≡ true
    → has_far (parts s l x m) ≡ true
far_gap_behind s l x m e = far_right (last_changed (changed s.before) l) _
    (far_right (gap_of s.gap_before) _ (far_right (changed s.item x) _
    (far_left (gap_of s.gap_behind) _ e)))

pub far_behind : (s : Shape) (l : List (ItemOf Listed)) (x : ItemOf Listed)
    (m : List (ItemOf Listed)) → has_far (first_changed (changed s.behind) m) ≡ true
    → has_far (parts s l x m) ≡ true
far_behind s l x m e = far_right (last_changed (changed s.before) l) _
    (far_right (gap_of s.gap_before) _ (far_right (changed s.item x) _
    (far_right (gap_of s.gap_behind) _ e)))

-- ---- a slip

pub slip_made : (r : Rate) (d : ℤ) (l : List (ItemOf Listed)) (s : Seat) (x : ItemOf Listed)
    (put : List (ItemOf Listed)) → slice_get l s.index ≡ Some x
    → all_made r (one (slipped_item d x)) ≡ Some put
    → (h : Held) → IsAt l s h → all_made r (motion_list (W.Media d) h)
    ≡ Some (replaced s.index 1 put l)
slip_made r d l s x put e g h k =
    let same : x ≡ h.item = cc (sym e ∙ k.item) in
    made_narrow r h.before (one (slipped_item d h.item)) h.behind
    ∙ ap (option_map (λ m. h.before ++ (m ++ h.behind)))
    (ap (λ y. all_made r (one (slipped_item d y))) (sym same) ∙ g)
    ∙ ap₂ (λ p q. Some (p ++ (put ++ q))) k.before k.behind

pub slip_far : (d : ℤ) (l : List (ItemOf Listed)) (s : Seat) (x : ItemOf Listed)
    → slice_get l s.index ≡ Some x → has_far (one (slipped_item d x)) ≡ true
    → (h : Held) → IsAt l s h → has_far (motion_list (W.Media d) h) ≡ true
slip_far d l s x e g h k =
    let same : x ≡ h.item = cc (sym e ∙ k.item) in
    far_right (olds h.before) (one (slipped_item d h.item) ++ olds h.behind)
    (far_left (one (slipped_item d h.item)) (olds h.behind)
    (ap (λ y. has_far (one (slipped_item d y))) (sym same) ∙ g))
