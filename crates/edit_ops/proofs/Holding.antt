-- The item that holds an instant.
use Rattle.std.proofs.Common.{◌≡◌, sym, ap, subst, ◌∙◌, ℕ, zero, suc, ◌<◌, ℤ, pos, ◌≤ℤ◌, Bool, true, not, ◌&&◌, List, [], ◌∷◌, None, Some, length, arith}
use Rattle.std.specs.Prelude.{slice_get}
use Rattle.std.proofs.lemmas.Int.{ints}
use Rattle.limits.specs.Limits.{most_ticks}
use Rattle.tick_time.specs.declared.rates.Rate.{Rate}
use Rattle.otio_model.specs.declared.compositions.ItemOf.{ItemOf}
use Rattle.otio_model.specs.declared.compositions.Listed.{Listed}
use Rattle.otio_model.specs.declared.edit_types.Edit.{Edit}
use Rattle.otio_model.specs.declared.edit_types.EditFault.TheVariants as F
use Rattle.otio_model.specs.declared.timelines.Timeline.{Timeline}
use Rattle.edits.specs.After.{at_of, frame_of, list_of, place_of}
use Rattle.edits.specs.Children.{ticks}
use Rattle.edits.specs.Edges.{held_at, is_gap}
use Rattle.edits.specs.Refusals.{asks_item, early_fault, has_no_neighbour, is_empty, is_filled_item, is_phased, is_wrong_speed, pin_fault, test}
use Rattle.edits_law.proofs.Accepted.{found}
use Rattle.edits_law.proofs.Parted.{added_low}
use Rattle.edit_plans.specs.Parts.{IsHeldAt}
use Rattle.edit_ops.specs.Begun.{IsBegun, IsHolding, IsTaken}
use Rattle.edit_ops.proofs.Tests.{begun_tests}

index_of : (l : List (ItemOf Listed)) (i : ℕ) (x : ItemOf Listed) → slice_get l i ≡ Some x
    → i < length l
index_of [] i x e = absurd (cc e)
index_of (y ∷ l) zero x e = omega arith
index_of (y ∷ l) (suc i) x e = let k = index_of l i x e in omega (arith, k)

pub index_held : (l : List (ItemOf Listed)) (w : ℤ) (i : ℕ) (at : ℤ) → IsHeldAt l w i at
    → i < length l
index_held l w i at h = index_of l i h.held.item h.item

pub is_holding : (l : List (ItemOf Listed)) (w v : ℤ) (i : ℕ) (at n : ℤ) (x : ItemOf Listed)
    (gap : Bool) → IsHeldAt l v i at → v ≡ w → slice_get l i ≡ Some x → n ≡ ticks x
    → n ≤ℤ pos most_ticks → gap ≡ is_gap x → IsHolding l w at n gap
is_holding l w v i at n x gap h e f g most b =
    let same : x ≡ h.held.item = cc (sym f ∙ h.item) in
    let around = found l v h.held h.there in
    let from = around.from in let to = around.to in
    let low = added_low h.held.before in
    let starts = h.start in
    let long : n ≡ ticks h.held.item = g ∙ ap ticks same in
    record {
      held = h.held;
      there = ap (held_at l) (sym e) ∙ h.there;
      starts = h.start;
      length = long;
      empty = b ∙ ap is_gap same;
      low = omega (arith, ints, low, starts);
      high = omega (arith, ints, from, starts, e);
      some = omega (arith, ints, from, to, long);
      short = most;
    }

-- nothing holds the instant of an edit that asks for an item there
pub none-fault : (t : Timeline) (p : List ℕ) (at : ℤ) (r : Rate) (w v : ℤ)
    (l : List (ItemOf Listed)) → IsBegun t p at r w
    → ((e : Edit) → place_of e ≡ p → l ≡ list_of t e) → held_at l v ≡ None → v ≡ w
    → (e : Edit) → place_of e ≡ p → at_of e ≡ at → asks_item e ≡ true
    → early_fault t e ≡ Some F.NoItem
none-fault t p at r w v l b f m q e i j k =
    begun_tests t e p at r w None i j b
    (ap (λ y. held_at y w) (sym (f e i)) ∙ ap (held_at l) (sym q) ∙ m)
    ∙ ap (λ b. test (b && true) F.NoItem (test (is_filled_item e None) F.NotGap
    (test (is_empty e) F.Empty (test (has_no_neighbour e None) F.NoNeighbour
    (test (is_wrong_speed e None) F.Speed
    (test (not (is_phased (frame_of t) e (list_of t e))) F.Phase (pin_fault t e))))))) k

-- the item at an index holds it
pub item-is_taken : (t : Timeline) (p : List ℕ) (at : ℤ) (r : Rate) (w v : ℤ) (i : ℕ) (from n : ℤ)
    (x : ItemOf Listed) (gap : Bool) (l : List (ItemOf Listed)) → IsBegun t p at r w
    → ((e : Edit) → place_of e ≡ p → l ≡ list_of t e) → IsHeldAt l v i from → v ≡ w
    → slice_get l i ≡ Some x → n ≡ ticks x → n ≤ℤ pos most_ticks → gap ≡ is_gap x
    → IsTaken t p at r w from n gap
item-is_taken t p at r w v i from n x gap l b f h q g k most o = record {
  begun = b;
  holding = λ e s. subst (λ y. IsHolding y w from n gap) (f e s)
      (is_holding l w v i from n x gap h q g k most o);
}
