-- The motions of the item at a seat, and whether the items beside it are there.
use Rattle.std.proofs.Common.{◌≡◌, sym, ap, ◌∙◌, ℕ, ◌+◌, ℤ, pos, ◌<ℤ◌, ◌&&◌, ◌||◌, Bool}
use Rattle.std.proofs.Common.{false, Option, Some, List, take, drop}
use Rattle.std.specs.Prelude.{is_none, not, slice_get}
use Rattle.otio_model.specs.declared.compositions.ItemOf.{ItemOf}
use Rattle.otio_model.specs.declared.compositions.Listed.{Listed}
use Rattle.otio_model.specs.declared.seeks.Seat.{Seat}
use Rattle.edits.specs.Children.{ticks}
use Rattle.edits.specs.Edges.{Held, first_item, is_zero, last_item, start}
use Rattle.edit_trim.specs.Motions.{IsMotion}
use Rattle.edit_trim.specs.Seats.{IsAt}
use Rattle.edit_trim.specs.declared.edge_edits.EdgeEdit.{EdgeEdit}
use Rattle.edit_trim.specs.declared.edge_moves.Motion.{Motion}

item_eq : (l : List (ItemOf Listed)) (s : Seat) (x : ItemOf Listed) (h : Held)
    → slice_get l s.index ≡ Some x → IsAt l s h → h.item ≡ x
item_eq l s x h e k = cc (sym k.item ∙ e)

before_eq : (l : List (ItemOf Listed)) (s : Seat) (p : Option (ItemOf Listed)) (h : Held)
    → p ≡ last_item (take s.index l) → IsAt l s h → last_item h.before ≡ p
before_eq l s p h e k = ap last_item k.before ∙ sym e

behind_eq : (l : List (ItemOf Listed)) (s : Seat) (q : Option (ItemOf Listed)) (h : Held)
    → q ≡ first_item (drop (s.index + 1) l) → IsAt l s h → first_item h.behind ≡ q
behind_eq l s q h e k = ap first_item k.behind ∙ sym e

pub item_at : (l : List (ItemOf Listed)) (s : Seat) (x : ItemOf Listed) (f : ℤ) (m : EdgeEdit)
    (o : Motion) → slice_get l s.index ≡ Some x
    → ((n : ℕ) (h : Held) → f ≡ pos n → h.item ≡ x → IsMotion (pos n) m h o)
    → (n : ℕ) (h : Held) → f ≡ pos n → IsAt l s h → pos 0 <ℤ ticks h.item → IsMotion (pos n) m h o
item_at l s x f m o e g n h i k t = g n h i (item_eq l s x h e k)

pub placed_at : (l : List (ItemOf Listed)) (s : Seat) (x : ItemOf Listed) (f : ℤ) (m : EdgeEdit)
    (o : Motion) → slice_get l s.index ≡ Some x
    → ((n : ℕ) (h : Held) → f ≡ pos n → s.start ≡ start h → h.item ≡ x → pos 0 <ℤ ticks h.item
    → IsMotion (pos n) m h o)
    → (n : ℕ) (h : Held) → f ≡ pos n → IsAt l s h → pos 0 <ℤ ticks h.item → IsMotion (pos n) m h o
placed_at l s x f m o e g n h i k t = g n h i k.start (item_eq l s x h e k) t

pub behind_at : (l : List (ItemOf Listed)) (s : Seat) (y : ItemOf Listed) (f : ℤ) (m : EdgeEdit)
    (o : Motion) → Some y ≡ last_item (take s.index l)
    → ((n : ℕ) (h : Held) → f ≡ pos n → s.start ≡ start h → last_item h.before ≡ Some y
    → IsMotion (pos n) m h o)
    → (n : ℕ) (h : Held) → f ≡ pos n → IsAt l s h → pos 0 <ℤ ticks h.item → IsMotion (pos n) m h o
behind_at l s y f m o e g n h i k t = g n h i k.start (before_eq l s (Some y) h e k)

pub between_at : (l : List (ItemOf Listed)) (s : Seat) (p : Option (ItemOf Listed))
    (x : ItemOf Listed) (q : Option (ItemOf Listed)) (f : ℤ) (m : EdgeEdit) (o : Motion)
    → p ≡ last_item (take s.index l) → slice_get l s.index ≡ Some x
    → q ≡ first_item (drop (s.index + 1) l)
    → ((n : ℕ) (h : Held) → f ≡ pos n → s.start ≡ start h → last_item h.before ≡ p → h.item ≡ x
    → first_item h.behind ≡ q → pos 0 <ℤ ticks h.item → IsMotion (pos n) m h o)
    → (n : ℕ) (h : Held) → f ≡ pos n → IsAt l s h → pos 0 <ℤ ticks h.item → IsMotion (pos n) m h o
between_at l s p x q f m o a b c g n h i k t = g n h i k.start (before_eq l s p h a k)
    (item_eq l s x h b k) (behind_eq l s q h c k) t

-- where no edge moves next to which nothing stands
pub neighbours_at : (l : List (ItemOf Listed)) (s : Seat) (p q : Option (ItemOf Listed))
    (head tail : ℤ) (b : Bool) → p ≡ last_item (take s.index l)
    → q ≡ first_item (drop (s.index + 1) l)
    → b ≡ ((not (is_zero head) && is_none p) || (not (is_zero tail) && is_none q)) → b ≡ false
    → (h : Held) → IsAt l s h
    → ((not (is_zero head) && is_none (last_item h.before))
    || (not (is_zero tail) && is_none (first_item h.behind))) ≡ false
neighbours_at l s p q head tail b a c e f h k =
    ap (λ (o : Option (ItemOf Listed)). (not (is_zero head) && is_none o)
    || (not (is_zero tail) && is_none (first_item h.behind))) (before_eq l s p h a k)
    ∙ (ap (λ (o : Option (ItemOf Listed)). (not (is_zero head) && is_none p)
    || (not (is_zero tail) && is_none o)) (behind_eq l s q h c k) ∙ (sym e ∙ f))
