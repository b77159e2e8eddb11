-- What is planned, and why an edit is refused.
use Rattle.std.proofs.Common.{◌≡◌, refl, sym, subst, ap, ◌∙◌, ◌⊎◌, inl, ℕ, ◌+◌, ◌≤◌, ℤ, pos, ◌*ℤ◌}
use Rattle.std.proofs.Common.{◌≤ℤ◌, true, Some, None, List, length, FitsSigned, to_z, of_z}
use mir.Syntax.{w64, w128}
use Rattle.std.proofs.lemmas.Int.{to_z-of_z}
use Rattle.tick_time.specs.declared.rates.Rate.{Rate}
use Rattle.tick_time.specs.Rates.{frame}
use Rattle.otio_model.specs.declared.compositions.ItemOf.{ItemOf}
use Rattle.otio_model.specs.declared.compositions.Listed.{Listed}
use Rattle.otio_model.specs.declared.timelines.Timeline.{Timeline}
use Rattle.otio_model.specs.declared.edit_types.Edit.{Edit}
use Rattle.otio_model.specs.declared.edit_types.EditFault.{EditFault}
use Rattle.otio_model.specs.declared.edit_types.EditFault.TheVariants as F
use Rattle.otio_model.specs.declared.seeks.Seat.{Seat}
use Rattle.otio_model.specs.Edits.{replaced}
use Rattle.edits.specs.Children.{all_made, has_far}
use Rattle.edits.specs.After.{frame_of, list_of, place_of, rate_of}
use Rattle.edits.specs.Edges.{Held}
use Rattle.edits.specs.Refusals.{IsRefused, at_once, place_fault, too_long}
use Rattle.edits_law.specs.Editable.{HasEditItem}
use Rattle.edit_plans.specs.declared.retiming.Retiming.{Retiming}
use Rattle.edit_plans.specs.Planned.{IsMiddle, IsRetiming}
use Rattle.edit_trim.specs.declared.edge_planner.Plan.{Plan}
use Rattle.edit_trim.specs.declared.edge_planner.Plan.TheVariants as P
use Rattle.edit_trim.specs.Plans.{IsPlanned, IsPlannedBy}
use Rattle.edit_trim.specs.Retimes.{IsRetimedBy}
use Rattle.edit_trim.specs.Asked.{edit_of}
use Rattle.edit_trim.specs.Founds.{IsFound, IsNoItem, IsNoNeighbour, IsSuited, motion_touches}
use Rattle.edit_plans.specs.Pins.{pin_by}
use Rattle.edit_trim.specs.Motions.{growth_of, motion_list}
use Rattle.edit_trim.specs.Seats.{IsAt}
use Rattle.edit_trim.specs.declared.edge_edits.EdgeEdit.{EdgeEdit}
use Rattle.edit_trim.specs.declared.edge_edits.EdgeEdit.TheVariants as M
use Rattle.edit_trim.specs.declared.edge_moves.Motion.{Motion}
use Rattle.edit_trim.proofs.Early.{known, lacking, place_is}

pub item_is : (place : List ℕ) (at : ℤ) (m : EdgeEdit) → HasEditItem (edit_of place at m)
item_is place at (M.Trim head tail) = tt
item_is place at (M.Slip by) = tt
item_is place at (M.Slide by) = tt
item_is place at (M.Ripple head tail) = tt
item_is place at (M.Roll head tail) = tt

-- the list at the place of an edit
abbrev pub IsListAt : List (ItemOf Listed) → Timeline → List ℕ → Type 0
IsListAt l t place = (e : Edit) → place_of e ≡ place → l ≡ list_of t e

list_is : (t : Timeline) (place : List ℕ) (at : ℤ) (m : EdgeEdit) (l : List (ItemOf Listed))
    → IsListAt l t place → l ≡ list_of t (edit_of place at m)
list_is t place at m l e = e (edit_of place at m) (place_is place at m)

-- what was found, where the record frame and the instant are those that the code hands on
pub found : (t : Timeline) (f count : ℤ) (m : EdgeEdit) (l : List (ItemOf Listed)) (s : Seat)
    (o : Motion) → FitsSigned w128 f → FitsSigned w64 count → f ≡ frame_of t
    → ((n : ℕ) → to_z w128 (of_z w128 f) ≡ pos n
    → IsFound (pos n) m l (to_z w64 (of_z w64 count) *ℤ to_z w128 (of_z w128 f)) s o)
    → IsFound (frame_of t) m l (count *ℤ frame_of t) s o
found t f count m l s o f_fits count_fits e k =
    let first : IsFound (frame_of t) m l (count *ℤ f) s o =
    (simp to_z-of_z at k) (frame (rate_of t).num (rate_of t).den) e in
    subst (λ z. IsFound (frame_of t) m l (count *ℤ z) s o) e first

-- what was found is suited
pub suits : (f w : ℤ) (m : EdgeEdit) (l : List (ItemOf Listed)) (s : Seat) (o : Motion)
    → IsFound f m l w s o → IsSuited l s o
suits f w m l s o k = record { held = k.held; seat = k.seat; suits = k.motion.suits }

-- the middle of what was found
pub middle_is : (t : Timeline) (place : List ℕ) (at g : ℤ) (m : EdgeEdit) (s : Seat) (o : Motion)
    (l put : List (ItemOf Listed)) (r : Rate) (k n : ℕ) → IsListAt l t place → r ≡ rate_of t
    → place_fault place t ≡ None → pos 0 ≤ℤ at → IsFound (frame_of t) m l (at *ℤ frame_of t) s o
    → g ≡ growth_of o → pin_by g place t ≡ None → k + n ≤ length l
    → ((h : Held) → IsAt l s h → all_made r (motion_list o h) ≡ Some (replaced k n put l))
    → n ≤ motion_touches l o + 2 → length put ≤ motion_touches l o + 4
    → IsMiddle t (edit_of place at m) place k n put
middle_is t place at g m s o l put r k n e f p low = subst
    (λ q. IsFound (frame_of t) m q (at *ℤ frame_of t) s o → g ≡ growth_of o
    → pin_by g place t ≡ None → k + n ≤ length q
    → ((h : Held) → IsAt q s h → all_made r (motion_list o h) ≡ Some (replaced k n put q))
    → n ≤ motion_touches q o + 2 → length put ≤ motion_touches q o + 4
    → IsMiddle t (edit_of place at m) place k n put) (sym (list_is t place at m l e))
    (λ w u v inside made out few.
    let q = known t place at m s o p low w in
    record {
      there = place_is place at m;
      item = item_is place at m;
      early = q.pinned ∙ ap (λ z. pin_by z place t) (sym u) ∙ v;
      within = inside;
      made = ap (all_made (rate_of t)) q.made ∙ ap (λ z. all_made z (motion_list o w.held)) (sym f)
          ∙ made w.held w.seat;
      few_out = subst (λ z. n ≤ z + 2) (sym q.touch) out;
      few_in = subst (λ z. length put ≤ z + 4) (sym q.touch) few;
    })

-- the source ranges of what was found
retiming_is : (t : Timeline) (place : List ℕ) (at g : ℤ) (m : EdgeEdit) (s : Seat) (o : Motion)
    (l : List (ItemOf Listed)) (r : Rate) (n : Retiming) → IsListAt l t place → r ≡ rate_of t
    → place_fault place t ≡ None → pos 0 ≤ℤ at → IsFound (frame_of t) m l (at *ℤ frame_of t) s o
    → g ≡ growth_of o → pin_by g place t ≡ None → IsRetimedBy r l s o n
    → IsRetiming t (edit_of place at m) place n.at n.ranges.items
retiming_is t place at g m s o l r n e f p low = subst
    (λ q. IsFound (frame_of t) m q (at *ℤ frame_of t) s o → g ≡ growth_of o
    → pin_by g place t ≡ None → IsRetimedBy r q s o n
    → IsRetiming t (edit_of place at m) place n.at n.ranges.items) (sym (list_is t place at m l e))
    (λ w u v k.
    let q = known t place at m s o p low w in
    record {
      there = place_is place at m;
      item = item_is place at m;
      early = q.pinned ∙ ap (λ z. pin_by z place t) (sym u) ∙ v;
      within = k.within;
      made = ap (all_made (rate_of t)) q.made ∙ ap (λ z. all_made z (motion_list o w.held)) (sym f)
          ∙ k.made w.held w.seat;
      kept = k.kept;
      few = subst (λ z. length n.ranges.items ≤ z + 2) (sym q.touch) k.few;
    })

pub plan_is : (t : Timeline) (place : List ℕ) (at g : ℤ) (m : EdgeEdit) (s : Seat) (o : Motion)
    (l : List (ItemOf Listed)) (r : Rate) (n : Plan) → IsListAt l t place → r ≡ rate_of t
    → place_fault place t ≡ None → pos 0 ≤ℤ at → IsFound (frame_of t) m l (at *ℤ frame_of t) s o
    → g ≡ growth_of o → pin_by g place t ≡ None → IsPlannedBy r l s o n
    → IsPlanned t (edit_of place at m) place n
plan_is t place at g m s o l r (P.Others n) e f p low w u v k = middle_is t place at g m s o l
    n.put.items r n.at n.count e f p low w u v k.within k.made k.count k.few
plan_is t place at g m s o l r (P.Ranges n) e f p low w u v k =
    retiming_is t place at g m s o l r n e f p low w u v k

-- ---- refusals

pub lacks : (t : Timeline) (place : List ℕ) (at f : ℤ) (m : EdgeEdit) (l : List (ItemOf Listed))
    (fault : EditFault) → IsListAt l t place → f ≡ frame_of t → place_fault place t ≡ None
    → pos 0 ≤ℤ at → IsNoItem l (at *ℤ f) fault ⊎ IsNoNeighbour m l (at *ℤ f) fault
    → IsRefused t (edit_of place at m) fault
lacks t place at f m l fault e i p low k =
    at_once (lacking t place at m fault p low (subst
    (λ q. IsNoItem q (at *ℤ frame_of t) fault ⊎ IsNoNeighbour m q (at *ℤ frame_of t) fault)
    (list_is t place at m l e) (subst (λ z. IsNoItem l (at *ℤ z) fault
    ⊎ IsNoNeighbour m l (at *ℤ z) fault) i k)))

pub pins : (t : Timeline) (place : List ℕ) (at g : ℤ) (m : EdgeEdit) (s : Seat) (o : Motion)
    (l : List (ItemOf Listed)) (fault : EditFault) → IsListAt l t place
    → place_fault place t ≡ None → pos 0 ≤ℤ at
    → IsFound (frame_of t) m l (at *ℤ frame_of t) s o → g ≡ growth_of o
    → pin_by g place t ≡ Some fault → IsRefused t (edit_of place at m) fault
pins t place at g m s o l fault e p low w u v =
    let q = known t place at m s o p low (subst (λ z. IsFound (frame_of t) m z (at *ℤ frame_of t) s
    o) (list_is t place at m l e) w) in
    at_once (q.pinned ∙ ap (λ z. pin_by z place t) (sym u) ∙ v)

pub too_far : (t : Timeline) (place : List ℕ) (at g : ℤ) (m : EdgeEdit) (s : Seat) (o : Motion)
    (l : List (ItemOf Listed)) → IsListAt l t place → place_fault place t ≡ None → pos 0 ≤ℤ at
    → IsFound (frame_of t) m l (at *ℤ frame_of t) s o → g ≡ growth_of o → pin_by g place t ≡ None
    → ((h : Held) → IsAt l s h → has_far (motion_list o h) ≡ true)
    → IsRefused t (edit_of place at m) F.TooLong
too_far t place at g m s o l list p low w u v far =
    let e = list_is t place at m l list in
    let f : IsFound (frame_of t) m (list_of t (edit_of place at m)) (at *ℤ frame_of t) s o =
    subst (λ z. IsFound (frame_of t) m z (at *ℤ frame_of t) s o) e w in
    let q = known t place at m s o p low f in
    too_long (q.pinned ∙ ap (λ z. pin_by z place t) (sym u) ∙ v)
    (inl (ap has_far q.made ∙ far f.held (subst (λ z. IsAt z s f.held) (sym e) f.seat))) refl
