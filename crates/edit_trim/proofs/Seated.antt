-- The held item at its seat.
use Rattle.std.proofs.Common.{◌≡◌, refl, sym, subst, ap, ap₂, ◌∙◌, ℕ, zero, suc, ℤ, Option, Some}
use Rattle.std.proofs.Common.{None, List, [], ◌∷◌, ◌++◌, take, drop, length, add-one}
use Rattle.std.specs.Prelude.{IfSome, slice_get}
use Rattle.otio_model.specs.declared.compositions.ItemOf.{ItemOf}
use Rattle.otio_model.specs.declared.compositions.Listed.{Listed}
use Rattle.otio_model.specs.declared.seeks.Seat.{Seat}
use Rattle.edits.specs.Cuts.{strip}
use Rattle.edits.specs.Edges.{Held, first_item, last_item}
use Rattle.edits.specs.Narrow.{ahead, onward, past_met, up_to_met}
use Rattle.edits_law.proofs.Touched.{ahead_onward, up_past}
use Rattle.edit_trim.specs.Changes.{Leaves}
use Rattle.edit_trim.specs.Seats.{IsAt, LeavesAll}
use Rattle.edit_trim.specs.declared.resized_items.Change.{Change}
use Rattle.edit_trim.specs.declared.replacements.Shape.{Shape}
use Rattle.edit_trim.proofs.KeptEdges.{first_more, first_strip, last_more, last_strip}

split_at : (l : List (ItemOf Listed)) (i : ℕ) (x : ItemOf Listed) → slice_get l i ≡ Some x
    → l ≡ take i l ++ (x ∷ drop (suc i) l)
split_at [] i x e = absurd (cc e)
split_at (y ∷ l) zero x e = let same : y ≡ x = cc e in ap (λ z. z ∷ l) same
split_at (y ∷ l) (suc i) x e = ap (λ m. y ∷ m) (split_at l i x e)

taken : (l : List (ItemOf Listed)) (i : ℕ) (x : ItemOf Listed) → slice_get l i ≡ Some x
    → i ≡ length (take i l)
taken [] i x e = absurd (cc e)
taken (y ∷ l) zero x e = refl
taken (y ∷ l) (suc i) x e = ap suc (taken l i x e)

-- the list in parts
pub parts_are : (l : List (ItemOf Listed)) (s : Seat) (h : Held) → IsAt l s h
    → l ≡ h.before ++ (h.item ∷ h.behind)
parts_are l s h k =
    split_at l s.index h.item k.item
    ∙ ap₂ (λ p q. p ++ (h.item ∷ q)) (sym k.before)
    (ap (λ n. drop n l) (sym (add-one s.index)) ∙ sym k.behind)

pub index_is : (l : List (ItemOf Listed)) (s : Seat) (h : Held) → IsAt l s h
    → s.index ≡ length h.before
index_is l s h k = taken l s.index h.item k.item ∙ ap length (sym k.before)

-- there is one held item
pub one_held : (l : List (ItemOf Listed)) (s : Seat) (h k : Held) → IsAt l s h → IsAt l s k → h ≡ k
one_held l s h k a b =
    let item : h.item ≡ k.item = cc (sym a.item ∙ b.item) in
    ap₂ (λ p q. let r : Held = record { before = p; item = h.item; behind = q } in r)
    (a.before ∙ sym b.before) (a.behind ∙ sym b.behind)
    ∙ ap (λ x. let r : Held = record { before = k.before; item = x; behind = k.behind } in r) item

-- what a side has to leave it leaves of its part that is touched
before_leaves : (c : Change) (m l : List (ItemOf Listed)) (o : Option (ItemOf Listed))
    → last_item l ≡ o → IfSome (last_item (m ++ l)) (Leaves c) → IfSome (last_item l) (Leaves c)
before_leaves c m l None e h = subst (λ q. IfSome q (Leaves c)) (sym e) tt
before_leaves c m l (Some y) e h = subst (λ q. IfSome q (Leaves c)) (last_more m l y e ∙ sym e) h

behind_leaves : (c : Change) (l m : List (ItemOf Listed)) (o : Option (ItemOf Listed))
    → first_item l ≡ o → IfSome (first_item (l ++ m)) (Leaves c) → IfSome (first_item l) (Leaves c)
behind_leaves c l m None e h = subst (λ q. IfSome q (Leaves c)) (sym e) tt
behind_leaves c l m (Some y) e h = subst (λ q. IfSome q (Leaves c)) (first_more l m y e ∙ sym e) h

pub leaves_near : (s : Shape) (h : Held) (a b c d u v w x : ℤ)
    → LeavesAll s h.before h.item h.behind
    → LeavesAll s (strip (onward h.before a b) u v) h.item (strip (up_to_met h.behind c d) w x)
leaves_near s h a b c d u v w x k = record {
  before = subst (λ q. IfSome q (Leaves s.before)) (sym (last_strip (onward h.before a b) u v))
      (before_leaves s.before (ahead h.before a b) (onward h.before a b)
      (last_item (onward h.before a b)) refl
      (subst (λ q. IfSome (last_item q) (Leaves s.before)) (sym (ahead_onward h.before a b))
      k.before));
  item = k.item;
  behind = subst (λ q. IfSome q (Leaves s.behind)) (sym (first_strip (up_to_met h.behind c d) w x))
      (behind_leaves s.behind (up_to_met h.behind c d) (past_met h.behind c d)
      (first_item (up_to_met h.behind c d)) refl
      (subst (λ q. IfSome (first_item q) (Leaves s.behind)) (sym (up_past h.behind c d)) k.behind));
}
