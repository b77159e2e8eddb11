-- Which edits of edges are refused at once, and what the others make.
use Rattle.std.proofs.Common.{◌≡◌, refl, sym, ap, ap₂, ◌∙◌, ◌⊎◌, inl, inr, ℕ, ℤ, pos, ◌-ℤ◌, ◌*ℤ◌}
use Rattle.std.proofs.Common.{◌<ℤ◌, ◌≤ℤ◌, true, false, cond, Option, Some, None, List, length}
use Rattle.std.proofs.Common.{arith}
use Rattle.std.specs.Prelude.{int_lt, is_none, option_map}
use Rattle.std.proofs.lemmas.Int.{ints}
use Rattle.otio_model.specs.declared.compositions.ItemOf.{ItemOf}
use Rattle.otio_model.specs.declared.compositions.Listed.{Listed}
use Rattle.otio_model.specs.declared.timelines.Timeline.{Timeline}
use Rattle.otio_model.specs.declared.edit_types.EditFault.{EditFault}
use Rattle.otio_model.specs.declared.edit_types.EditFault.TheVariants as F
use Rattle.edits.specs.After.{at_of, frame_of, list_of, place_of}
use Rattle.edits.specs.Edges.{Held, added, held_at, is_zero}
use Rattle.edits.specs.Edits.{at_held, edited}
use Rattle.edits.specs.Narrow.{touched}
use Rattle.edits.specs.Refusals.{early_fault, has_no_neighbour, list_fault, long, pin_fault}
use Rattle.edits.specs.Refusals.{place_fault, test, unpinned}
use Rattle.edits.specs.Zones.{touches, zone_of}
use Rattle.edits_law.proofs.Accepted.{found}
use Rattle.edit_trim.specs.Asked.{edit_of}
use Rattle.edit_plans.specs.Pins.{pin_by}
use Rattle.edit_trim.specs.Founds.{IsFound, IsNoItem, IsNoNeighbour, motion_touches}
use Rattle.edit_trim.specs.Motions.{growth_of, held_list, held_zone, motion_list}
use Rattle.edit_trim.specs.declared.edge_edits.EdgeEdit.{EdgeEdit}
use Rattle.edit_trim.specs.declared.edge_edits.EdgeEdit.TheVariants as M
use Rattle.edit_trim.specs.declared.edge_moves.Motion.{Motion}
use Rattle.otio_model.specs.declared.seeks.Seat.{Seat}

pub place_is : (place : List ℕ) (at : ℤ) (m : EdgeEdit) → place_of (edit_of place at m) ≡ place
place_is place at (M.Trim head tail) = refl
place_is place at (M.Slip by) = refl
place_is place at (M.Slide by) = refl
place_is place at (M.Ripple head tail) = refl
place_is place at (M.Roll head tail) = refl

at_is : (place : List ℕ) (at : ℤ) (m : EdgeEdit) → at_of (edit_of place at m) ≡ at
at_is place at (M.Trim head tail) = refl
at_is place at (M.Slip by) = refl
at_is place at (M.Slide by) = refl
at_is place at (M.Ripple head tail) = refl
at_is place at (M.Roll head tail) = refl

-- the tests that an edit of edges has
tests_are : (t : Timeline) (place : List ℕ) (at f : ℤ) (m : EdgeEdit) (l : List (ItemOf Listed))
    (h : Option Held)
    → list_fault t (edit_of place at m) f l h
    ≡ test (int_lt at (pos 0)) F.Negative (test (is_none h) F.NoItem
    (test (has_no_neighbour (edit_of place at m) h) F.NoNeighbour
    (pin_fault t (edit_of place at m))))
tests_are t place at f (M.Trim head tail) l h = refl
tests_are t place at f (M.Slip by) l h = refl
tests_are t place at f (M.Slide by) l h = refl
tests_are t place at f (M.Ripple head tail) l h = refl
tests_are t place at f (M.Roll head tail) l h = refl

-- ---- faults

pub place_first : (t : Timeline) (place : List ℕ) (at : ℤ) (m : EdgeEdit) (fault : EditFault)
    → place_fault place t ≡ Some fault → early_fault t (edit_of place at m) ≡ Some fault
place_first t place at m fault e = rw (place_is place at m, e) refl

behind_place : (t : Timeline) (place : List ℕ) (at : ℤ) (m : EdgeEdit) → place_fault place t ≡ None
    → early_fault t (edit_of place at m)
    ≡ list_fault t (edit_of place at m) (frame_of t) (list_of t (edit_of place at m))
    (held_at (list_of t (edit_of place at m)) (at_of (edit_of place at m) *ℤ frame_of t))
behind_place t place at m e = rw (place_is place at m, e) refl

later : (t : Timeline) (place : List ℕ) (at : ℤ) (m : EdgeEdit) (h : Option Held)
    → place_fault place t ≡ None → held_at (list_of t (edit_of place at m)) (at *ℤ frame_of t) ≡ h
    → early_fault t (edit_of place at m)
    ≡ test (int_lt at (pos 0)) F.Negative (test (is_none h) F.NoItem
    (test (has_no_neighbour (edit_of place at m) h) F.NoNeighbour
    (pin_fault t (edit_of place at m))))
later t place at m h e f =
    behind_place t place at m e
    ∙ ap (list_fault t (edit_of place at m) (frame_of t) (list_of t (edit_of place at m)))
    (ap (λ w. held_at (list_of t (edit_of place at m)) (w *ℤ frame_of t)) (at_is place at m) ∙ f)
    ∙ tests_are t place at (frame_of t) m (list_of t (edit_of place at m)) h

pub negative : (t : Timeline) (place : List ℕ) (at : ℤ) (m : EdgeEdit) → place_fault place t ≡ None
    → at <ℤ pos 0 → early_fault t (edit_of place at m) ≡ Some F.Negative
negative t place at m e k =
    let n : int_lt at (pos 0) ≡ true = grind (arith, ints) in
    later t place at m (held_at (list_of t (edit_of place at m)) (at *ℤ frame_of t)) e refl
    ∙ ap (λ b. test b F.Negative (test (is_none (held_at (list_of t (edit_of place at m))
    (at *ℤ frame_of t))) F.NoItem
    (test (has_no_neighbour (edit_of place at m) (held_at (list_of t (edit_of place at m))
    (at *ℤ frame_of t))) F.NoNeighbour (pin_fault t (edit_of place at m))))) n

past_negative : (t : Timeline) (place : List ℕ) (at : ℤ) (m : EdgeEdit) (h : Option Held)
    → place_fault place t ≡ None → pos 0 ≤ℤ at → held_at (list_of t (edit_of place at m))
    (at *ℤ frame_of t) ≡ h
    → early_fault t (edit_of place at m)
    ≡ test (is_none h) F.NoItem (test (has_no_neighbour (edit_of place at m) h) F.NoNeighbour
    (pin_fault t (edit_of place at m)))
past_negative t place at m h e k f =
    let n : int_lt at (pos 0) ≡ false = grind (arith, ints) in
    later t place at m h e f ∙ ap (λ b. test b F.Negative
    (test (is_none h) F.NoItem (test (has_no_neighbour (edit_of place at m) h) F.NoNeighbour
    (pin_fault t (edit_of place at m))))) n

-- what isn't found is refused so
pub lacking : (t : Timeline) (place : List ℕ) (at : ℤ) (m : EdgeEdit) (fault : EditFault)
    → place_fault place t ≡ None → pos 0 ≤ℤ at
    → IsNoItem (list_of t (edit_of place at m)) (at *ℤ frame_of t) fault ⊎ IsNoNeighbour m
    (list_of t (edit_of place at m)) (at *ℤ frame_of t) fault
    → early_fault t (edit_of place at m) ≡ Some fault
lacking t place at m fault e k (inl n) = past_negative t place at m None e k n.none
    ∙ ap Some (sym n.is)
lacking t place at m fault e k (inr n) =
    past_negative t place at m (Some n.held) e k n.there
    ∙ ap (λ b. test b F.NoNeighbour (pin_fault t (edit_of place at m))) (n.lacks place at)
    ∙ ap Some (sym n.is)

-- ---- what is made

edited_is : (f : ℤ) (place : List ℕ) (at : ℤ) (m : EdgeEdit) (l : List (ItemOf Listed)) (h : Held)
    → held_at l (at *ℤ f) ≡ Some h → edited f (edit_of place at m) l ≡ held_list f m h
edited_is f place at (M.Trim head tail) l h e = rw (e, at_held) refl
edited_is f place at (M.Slip by) l h e = rw (e, at_held) refl
edited_is f place at (M.Slide by) l h e = rw (e, at_held) refl
edited_is f place at (M.Ripple head tail) l h e = rw (e, at_held) refl
edited_is f place at (M.Roll head tail) l h e = rw (e, at_held) refl

zone_is : (f : ℤ) (place : List ℕ) (at : ℤ) (m : EdgeEdit) (l : List (ItemOf Listed)) (h : Held)
    → held_at l (at *ℤ f) ≡ Some h → zone_of f (edit_of place at m) l ≡ held_zone f m h
zone_is f place at (M.Trim head tail) l h e = rw (e, zone_of) refl
zone_is f place at (M.Slip by) l h e = refl
zone_is f place at (M.Slide by) l h e = rw (e, zone_of) refl
zone_is f place at (M.Ripple head tail) l h e = rw (e, zone_of) refl
zone_is f place at (M.Roll head tail) l h e = rw (e, zone_of) refl

-- all that is known of an edit that was found
pub record Known (t : Timeline) (place : List ℕ) (at : ℤ) (m : EdgeEdit) (o : Motion) (h : Held) :
    Type 0 where
  pub made : edited (frame_of t) (edit_of place at m) (list_of t (edit_of place at m))
      ≡ motion_list o h
  pub touch : touches (frame_of t) (edit_of place at m) (list_of t (edit_of place at m))
      ≡ motion_touches (list_of t (edit_of place at m)) o
  pub pinned : early_fault t (edit_of place at m) ≡ pin_by (growth_of o) place t

pub known : (t : Timeline) (place : List ℕ) (at : ℤ) (m : EdgeEdit) (s : Seat) (o : Motion)
    → place_fault place t ≡ None → pos 0 ≤ℤ at
    → (k : IsFound (frame_of t) m (list_of t (edit_of place at m)) (at *ℤ frame_of t) s o)
    → Known t place at m o k.held
known t place at m s o e n k =
    let l : List (ItemOf Listed) = list_of t (edit_of place at m) in
    let q = found (list_of t (edit_of place at m)) (at *ℤ frame_of t) k.held k.there in
    let is = edited_is (frame_of t) place at m (list_of t (edit_of place at m)) k.held k.there in
    let grown : long (edited (frame_of t) (edit_of place at m) (list_of t (edit_of place at m)))
    -ℤ added (list_of t (edit_of place at m)) ≡ growth_of o =
    let a = ap long is ∙ k.motion.grows in
    let b = ap added q.parts in
    omega (arith, ints, a, b) in
    record {
      made = is ∙ k.motion.made;
      touch = ap (λ z. elim z [
        | None ↦ 0
        | Some y ↦
            length (touched (list_of t (edit_of place at m)) y.from y.to)
      ])
          (zone_is (frame_of t) place at m (list_of t (edit_of place at m)) k.held k.there
          ∙ k.motion.zone);
      pinned = past_negative t place at m (Some k.held) e n k.there
          ∙ ap (λ b. test b F.NoNeighbour (pin_fault t (edit_of place at m))) (k.beside place at)
          ∙ ap₂ (λ z p. cond (is_zero z) None (option_map F.Unpinned (unpinned p t))) grown
          (place_is place at m);
    }
