-- What the tests of an edit come to, once those before are passed.
use Rattle.std.proofs.Common.{◌≡◌, refl, sym, ap, ◌∙◌, ℕ, ℤ, pos, ◌+ℤ◌, ◌*ℤ◌, Bool, true, false, not, ◌&&◌, List, Option, Some, None}
use Rattle.std.specs.Prelude.{int_lt, is_none}
use Rattle.tick_time.specs.declared.rates.Rate.{Rate}
use Rattle.otio_model.specs.declared.compositions.ItemOf.{ItemOf}
use Rattle.otio_model.specs.declared.compositions.Listed.{Listed}
use Rattle.otio_model.specs.declared.timelines.Timeline.{Timeline}
use Rattle.otio_model.specs.declared.edit_types.Edit.{Edit}
use Rattle.otio_model.specs.declared.edit_types.Edit.TheVariants as A
use Rattle.otio_model.specs.declared.edit_types.EditFault.{EditFault}
use Rattle.otio_model.specs.declared.edit_types.EditFault.TheVariants as F
use Rattle.otio_model.specs.declared.edit_types.FillMode.{FillMode}
use Rattle.otio_model.specs.declared.edit_types.FillMode.TheVariants as M
use Rattle.edits.specs.Children.{ticks, child_ticks}
use Rattle.edits.specs.After.{at_of, frame_of, list_of, place_of}
use Rattle.edits.specs.Edges.{Held, held_at, is_gap, is_zero, start}
use Rattle.edits.specs.Edits.{filling}
use Rattle.edits.specs.Refusals.{asks_item, cuts_ends, cuts_filling, early_fault, first_fault, has_no_neighbour, has_wrong_fit, is_empty, is_filled_item, is_phased, is_wrong_speed, list_fault, pin_fault, place_fault, test}
use Rattle.edit_plans.specs.Filled.{is_wrong}
use Rattle.edit_ops.specs.Begun.{IsBegun}
use Rattle.edit_ops.specs.Zoned.{misfit, phase_by}

-- the tests from the one of the item on
abbrev pub item_tests : Timeline → Edit → ℤ → List (ItemOf Listed) → Option Held → Option EditFault
item_tests t e f l h =
    test (asks_item e && is_none h) F.NoItem
    (test (is_filled_item e h) F.NotGap
    (test (is_empty e) F.Empty
    (test (has_no_neighbour e h) F.NoNeighbour
    (test (is_wrong_speed e h) F.Speed
    (test (not (is_phased f e l)) F.Phase
    (pin_fault t e))))))

-- those with the one of the sign
abbrev list_tests : Timeline → Edit → ℤ → Option EditFault
list_tests t e at = list_fault t e (frame_of t) (list_of t e)
    (held_at (list_of t e) (at *ℤ frame_of t))

pub place_first : (t : Timeline) (e : Edit) (p : List ℕ) (fault : EditFault) → place_of e ≡ p
    → place_fault p t ≡ Some fault → early_fault t e ≡ Some fault
place_first t e p fault a b =
    ap (λ o. first_fault o (list_tests t e (at_of e))) (ap (λ q. place_fault q t) a ∙ b)

place_passed : (t : Timeline) (e : Edit) (p : List ℕ) → place_of e ≡ p → place_fault p t ≡ None
    → early_fault t e ≡ list_tests t e (at_of e)
place_passed t e p a b =
    ap (λ o. first_fault o (list_tests t e (at_of e))) (ap (λ q. place_fault q t) a ∙ b)

abbrev sign_test : Timeline → Edit → ℤ → Bool → Option EditFault
sign_test t e at b = test b F.Negative
    (item_tests t e (frame_of t) (list_of t e) (held_at (list_of t e) (at *ℤ frame_of t)))

pub sign_first : (t : Timeline) (e : Edit) (p : List ℕ) (at : ℤ) → place_of e ≡ p → at_of e ≡ at
    → place_fault p t ≡ None → int_lt at (pos 0) ≡ true → early_fault t e ≡ Some F.Negative
sign_first t e p at a b c d =
    place_passed t e p a c
    ∙ ap (sign_test t e (at_of e)) (ap (λ z. int_lt z (pos 0)) b ∙ d)

sign_passed : (t : Timeline) (e : Edit) (p : List ℕ) (at : ℤ) → place_of e ≡ p → at_of e ≡ at
    → place_fault p t ≡ None → int_lt at (pos 0) ≡ false
    → early_fault t e
    ≡ item_tests t e (frame_of t) (list_of t e) (held_at (list_of t e) (at_of e *ℤ frame_of t))
sign_passed t e p at a b c d =
    place_passed t e p a c
    ∙ ap (sign_test t e (at_of e)) (ap (λ z. int_lt z (pos 0)) b ∙ d)

-- an edit that is begun has these tests left, whatever holds the instant
pub begun_tests : (t : Timeline) (e : Edit) (p : List ℕ) (at : ℤ) (rate : Rate) (instant : ℤ)
    (h : Option Held) → place_of e ≡ p → at_of e ≡ at → IsBegun t p at rate instant
    → held_at (list_of t e) instant ≡ h
    → early_fault t e ≡ item_tests t e (frame_of t) (list_of t e) h
begun_tests t e p at rate instant h a b k m =
    sign_passed t e p at a b k.there k.late
    ∙ ap (λ z. item_tests t e (frame_of t) (list_of t e) (held_at (list_of t e) z))
    (ap (λ z. z *ℤ frame_of t) b ∙ sym k.stands)
    ∙ ap (item_tests t e (frame_of t) (list_of t e)) m

-- ---- fills

not_thrice : (b : Bool) → not (not (not b)) ≡ not b
not_thrice true = refl
not_thrice false = refl

wrong_is : (mode : FillMode) (x : ItemOf Listed) (h : Held)
    → has_wrong_fit mode x (Some h) ≡ is_wrong mode x (ticks h.item)
wrong_is M.Source x h = refl
wrong_is M.Sequence x h = refl
wrong_is M.Fit x h = refl

-- the test of cuts, in two
phase_twice : (a b : Bool) (o : Option EditFault)
    → test (not (a && b)) F.Phase o ≡ phase_by a (phase_by b o)
phase_twice true b o = refl
phase_twice false b o = refl

abbrev fill_ends : Timeline → Edit → FillMode → ItemOf Listed → Held → Bool
fill_ends t e mode x h =
    cuts_ends (list_of t e) (start h) (start h +ℤ child_ticks (filling mode x (ticks h.item)))

-- the tests of a fill, where this item holds the instant
pub fill_tests : (t : Timeline) (p : List ℕ) (at : ℤ) (mode : FillMode) (x : ItemOf Listed)
    (h : Held) → held_at (list_of t (A.Fill p at mode x)) (at *ℤ frame_of t) ≡ Some h
    → item_tests t (A.Fill p at mode x) (frame_of t) (list_of t (A.Fill p at mode x)) (Some h)
    ≡ test (not (is_gap h.item)) F.NotGap (test (is_zero (ticks x)) F.Empty
    (misfit mode x (ticks h.item) (phase_by (fill_ends t (A.Fill p at mode x) mode x h)
    (pin_fault t (A.Fill p at mode x)))))
fill_tests t p at mode x h e =
    let pin : Option EditFault = pin_fault t (A.Fill p at mode x) in
    let whole : Bool = cuts_filling mode x (ticks h.item) in
    let ends : Bool = fill_ends t (A.Fill p at mode x) mode x h in
    let phased : not (is_phased (frame_of t) (A.Fill p at mode x) (list_of t (A.Fill p at mode x)))
    ≡ not (whole && ends) = phase_is in
    ap (λ b. test (not (is_gap h.item)) F.NotGap (test (is_zero (ticks x)) F.Empty
    (test b F.Speed (test (not (is_phased (frame_of t) (A.Fill p at mode x)
    (list_of t (A.Fill p at mode x)))) F.Phase pin)))) (wrong_is mode x h)
    ∙ ap (λ b. test (not (is_gap h.item)) F.NotGap (test (is_zero (ticks x)) F.Empty
    (test (is_wrong mode x (ticks h.item)) F.Speed (test b F.Phase pin)))) phased
    ∙ ap (λ o. test (not (is_gap h.item)) F.NotGap (test (is_zero (ticks x)) F.Empty
    (test (is_wrong mode x (ticks h.item)) F.Speed o))) (phase_twice whole ends pin)
  where
    phase_is : not (is_phased (frame_of t) (A.Fill p at mode x) (list_of t (A.Fill p at mode x)))
        ≡ not (cuts_filling mode x (ticks h.item) && fill_ends t (A.Fill p at mode x) mode x h)
    phase_is = rw e (not_thrice _)
