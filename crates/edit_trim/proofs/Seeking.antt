-- The held item that was sought.
use Rattle.std.proofs.Common.{◌≡◌, refl, sym, ap, ◌∙◌, ℕ, zero, suc, ◌<◌, ℤ, pos, ◌≤ℤ◌, ◌<ℤ◌, Some}
use Rattle.std.proofs.Common.{List, [], ◌∷◌, length, arith}
use Rattle.std.specs.Prelude.{slice_get}
use Rattle.std.proofs.lemmas.Int.{ints}
use Rattle.otio_model.specs.declared.compositions.ItemOf.{ItemOf}
use Rattle.otio_model.specs.declared.compositions.Listed.{Listed}
use Rattle.otio_model.specs.declared.seeks.Seat.{Seat}
use Rattle.edits.specs.Children.{ticks}
use Rattle.edits.specs.Edges.{Held, held_at}
use Rattle.edits_law.proofs.Accepted.{found}
use Rattle.edits_law.proofs.Parted.{added_low}
use Rattle.edit_plans.specs.Parts.{IsHeldAt}
use Rattle.edit_trim.specs.Founds.{HasNeighbours, IsFound, IsNoNeighbour, LacksNeighbour}
use Rattle.edit_trim.specs.Motions.{IsMotion}
use Rattle.edit_trim.specs.Seats.{IsAt}
use Rattle.edit_trim.specs.declared.edge_edits.EdgeEdit.{EdgeEdit}
use Rattle.edit_trim.specs.declared.edge_moves.Motion.{Motion}
use Rattle.otio_model.specs.declared.edit_types.EditFault.TheVariants as F

pub at_seat : (l : List (ItemOf Listed)) (w : ℤ) (s : Seat) → (k : IsHeldAt l w s.index s.start)
    → IsAt l s k.held
at_seat l w s k = record { item = k.item; before = k.before; behind = k.behind; start = k.start }

pub index_there : (l : List (ItemOf Listed)) (i : ℕ) (x : ItemOf Listed) → slice_get l i ≡ Some x
    → i < length l
index_there [] i x e = absurd (cc e)
index_there (y ∷ l) zero x e = omega (arith)
index_there (y ∷ l) (suc i) x e = let n = index_there l i x e in omega (arith, n)

pub start_low : (l : List (ItemOf Listed)) (w : ℤ) (s : Seat) → IsHeldAt l w s.index s.start
    → pos 0 ≤ℤ s.start
start_low l w s k = let a = added_low k.held.before in let b = k.start in omega (arith, ints, a, b)

pub start_high : (l : List (ItemOf Listed)) (w : ℤ) (s : Seat) → IsHeldAt l w s.index s.start
    → s.start ≤ℤ w
start_high l w s k = let f = found l w k.held k.there in let a = f.from in let b = k.start in
    omega (arith, ints, a, b)

pub takes_time : (l : List (ItemOf Listed)) (w : ℤ) (s : Seat) → (k : IsHeldAt l w s.index s.start)
    → pos 0 <ℤ ticks k.held.item
takes_time l w s k = let f = found l w k.held k.there in let a = f.from in let b = f.to in
    omega (arith, ints, a, b)

-- an item that is found
pub found_is : (f w v : ℤ) (m : EdgeEdit) (l : List (ItemOf Listed)) (s : Seat) (o : Motion) → w ≡ v
    → IsHeldAt l w s.index s.start
    → ((n : ℕ) (h : Held) → f ≡ pos n → IsAt l s h → pos 0 <ℤ ticks h.item → IsMotion (pos n) m h o)
    → ((h : Held) → IsAt l s h → HasNeighbours m h)
    → (n : ℕ) → f ≡ pos n → IsFound (pos n) m l v s o
found_is f w v m l s o e k motion beside n i = record {
  held = k.held;
  there = ap (held_at l) (sym e) ∙ k.there;
  seat = at_seat l w s k;
  beside = beside k.held (at_seat l w s k);
  motion = motion n k.held i (at_seat l w s k) (takes_time l w s k);
}

pub lacks_is : (w v : ℤ) (m : EdgeEdit) (l : List (ItemOf Listed)) (s : Seat) → w ≡ v
    → IsHeldAt l w s.index s.start → ((h : Held) → IsAt l s h → LacksNeighbour m h)
    → IsNoNeighbour m l v F.NoNeighbour
lacks_is w v m l s e k none = record {
  held = k.held;
  there = ap (held_at l) (sym e)
      ∙ k.there;
  lacks = none k.held (at_seat l w s k);
  is = refl;
}
