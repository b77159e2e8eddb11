-- Timelines that can be edited, and the items of edits.
use Rattle.std.specs.Prelude.{◌≡◌, Bool, true, false, Some}
use Rattle.otio_model.specs.declared.compositions.ItemOf.{ItemOf}
use Rattle.otio_model.specs.declared.compositions.ItemOf.TheVariants.{Clip, Gap, Transition, Stack, Track}
use Rattle.otio_model.specs.declared.compositions.Listed.{Listed}
use Rattle.otio_model.specs.declared.edit_types.Edit.{Edit}
use Rattle.otio_model.specs.declared.edit_types.Edit.TheVariants as A
use Rattle.coord.specs.declared.faults.ItemFault.{ItemFault}
use Rattle.coord.specs.declared.faults.ItemFault.TheVariants.{Long}
use Rattle.coord.specs.Soundness.{fault_of}

abbrev pub is_clip_or_gap : ItemOf Listed → Bool
is_clip_or_gap (Clip c) = true
is_clip_or_gap (Gap g) = true
is_clip_or_gap (Transition t) = false
is_clip_or_gap (Stack k) = false
is_clip_or_gap (Track t) = false

-- a clip or a gap with a length and a speed; whether it is too long is for the edit to say
pub record IsEditItem (x : ItemOf Listed) : Type 0 where
  pub kind : is_clip_or_gap x ≡ true
  pub known : (fault : ItemFault) → fault_of x ≡ Some fault → fault ≡ Long

abbrev pub HasEditItem : Edit → Type 0
HasEditItem (A.Overwrite place at x) = IsEditItem x
HasEditItem (A.Insert place at x) = IsEditItem x
HasEditItem (A.Slice place at) = Unit {0}
HasEditItem (A.Fill place at mode x) = IsEditItem x
HasEditItem (A.Remove place at mode) = Unit {0}
HasEditItem (A.Trim place at head tail) = Unit {0}
HasEditItem (A.Slip place at by) = Unit {0}
HasEditItem (A.Slide place at by) = Unit {0}
HasEditItem (A.Ripple place at head tail) = Unit {0}
HasEditItem (A.Roll place at head tail) = Unit {0}
