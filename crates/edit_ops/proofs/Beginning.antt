-- The beginning of each plan.
use Rattle.std.proofs.Common.{◌≡◌, sym, ap, ◌∙◌, ℕ, ℤ, pos, ◌≤ℤ◌, ◌<ℤ◌, ◌*ℤ◌, List, Option, Some, None}
use Rattle.tick_time.specs.declared.rates.Rate.{Rate}
use Rattle.otio_model.specs.declared.timelines.Timeline.{Timeline}
use Rattle.otio_model.specs.declared.edit_types.Edit.{Edit}
use Rattle.otio_model.specs.declared.edit_types.EditFault.{EditFault}
use Rattle.otio_model.specs.declared.edit_types.EditFault.TheVariants as F
use Rattle.edits.specs.After.{at_of, frame_of, place_of, rate_of}
use Rattle.edits.specs.Refusals.{early_fault, place_fault}
use Rattle.pieces.proofs.Tests.{lt_yes, lt_no}
use Rattle.edit_ops.specs.Begun.{IsBegun}
use Rattle.edit_ops.proofs.Tests.{place_first, sign_first}

pub begins : (t : Timeline) (p : List ℕ) (at : ℤ) (o : Option EditFault) (rate : Rate)
    (frame instant : ℤ) → o ≡ place_fault p t → o ≡ None → pos 0 ≤ℤ at → rate ≡ rate_of t
    → frame ≡ frame_of t → instant ≡ at *ℤ frame → pos 0 ≤ℤ instant
    → instant ≤ℤ pos 10000000000000000000000000000000000000 → IsBegun t p at rate instant
begins t p at o rate frame instant a b h r f i low high = record {
  there = sym a ∙ b;
  late = lt_no at (pos 0) h;
  counts = r;
  stands = i ∙ ap (λ z. at *ℤ z) f;
  low = low;
  high = high;
}

pub nowhere : (t : Timeline) (p : List ℕ) (at : ℤ) (o : Option EditFault) (fault : EditFault)
    → o ≡ place_fault p t → o ≡ Some fault → (e : Edit) → place_of e ≡ p → at_of e ≡ at
    → early_fault t e ≡ Some fault
nowhere t p at o fault a b e c d = place_first t e p fault c (sym a ∙ b)

pub negative : (t : Timeline) (p : List ℕ) (at : ℤ) (o : Option EditFault) → o ≡ place_fault p t
    → o ≡ None → at <ℤ pos 0 → (e : Edit) → place_of e ≡ p → at_of e ≡ at
    → early_fault t e ≡ Some F.Negative
negative t p at o a b h e c d = sign_first t e p at c d (sym a ∙ b) (lt_yes at (pos 0) h)

-- ---- as the code counts

pub begins_as : (t : Timeline) (p : List ℕ) (at : ℤ) (o : Option EditFault) (rate : Rate)
    (a f frame instant : ℤ) → o ≡ place_fault p t → o ≡ None → pos 0 ≤ℤ at → rate ≡ rate_of t
    → frame ≡ frame_of t → instant ≡ a *ℤ f → a ≡ at → f ≡ frame → pos 0 ≤ℤ instant
    → instant ≤ℤ pos 10000000000000000000000000000000000000 → IsBegun t p at rate instant
begins_as t p at o rate a f frame instant b c h r g i j k low high =
    begins t p at o rate frame instant b c h r g
    (i ∙ ap (λ z. z *ℤ f) j ∙ ap (λ z. at *ℤ z) k) low high
