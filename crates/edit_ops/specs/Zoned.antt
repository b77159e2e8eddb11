-- An edit of a list, as what it puts between two instants.
use Rattle.std.specs.Prelude.{◌≡◌, ◌≤◌, ◌+ℤ◌, ◌-ℤ◌, ℕ, ℤ, pos, Bool, not, List, [], ◌∷◌, Option, Some, None, length}
use Rattle.std.specs.Int.{int_max}
use Rattle.otio_model.specs.declared.compositions.ItemOf.{ItemOf}
use Rattle.otio_model.specs.declared.compositions.Listed.{Listed}
use Rattle.otio_model.specs.declared.timelines.Timeline.{Timeline}
use Rattle.otio_model.specs.declared.edit_types.Edit.{Edit}
use Rattle.otio_model.specs.declared.edit_types.EditFault.{EditFault}
use Rattle.otio_model.specs.declared.edit_types.EditFault.TheVariants as F
use Rattle.otio_model.specs.declared.edit_types.RemoveMode.{RemoveMode}
use Rattle.otio_model.specs.declared.edit_types.RemoveMode.TheVariants as R
use Rattle.otio_model.specs.declared.edit_types.FillMode.{FillMode}
use Rattle.edits.specs.Children.{Child, all_made, new_gap}
use Rattle.edits.specs.Cuts.{put_between, strip}
use Rattle.edits_law.specs.Editable.{HasEditItem}
use Rattle.edits.specs.After.{frame_of, list_of, place_of, rate_of}
use Rattle.edits.specs.Edits.{edited}
use Rattle.edits.specs.Narrow.{touched}
use Rattle.edits.specs.Refusals.{cuts_ends, cuts_filling, early_fault, long, pin_fault, place_fault, test}
use Rattle.edits.specs.Zones.{touches}
use Rattle.tick_time.specs.declared.rates.Rate.{Rate}
use Rattle.edit_ops.specs.declared.slots.Put.{Put}
use Rattle.edit_ops.specs.declared.slots.Slot.{Slot}
use Rattle.edit_plans.specs.Filled.{is_wrong}
use Rattle.edit_plans.specs.declared.gap_fill.FillFault.{FillFault}
use Rattle.edit_plans.specs.declared.gap_fill.FillFault.TheVariants as G

-- the edit is one of the track at the place, and puts these children, so long, between two
-- instants; these are the items that they are; its tests up to the one of pinned lengths come to
-- this
pub record IsZoned (t : Timeline) (e : Edit) (place : List ℕ) (from to : ℤ) (n : List Child)
    (put : List (ItemOf Listed)) (ticks : ℤ) (early : Option EditFault) : Type 0 where
  pub there : place_of e ≡ place
  pub item : HasEditItem e
  pub tests : early_fault t e ≡ early
  pub edited : edited (frame_of t) e (list_of t e)
      ≡ put_between (strip (list_of t e) from to) from n to
  pub made : all_made (rate_of t) n ≡ Some put
  pub few : length put ≤ 1
  pub long : ticks ≡ long n
  pub touches : touches (frame_of t) e (list_of t e) ≡ length (touched (list_of t e) from to)

-- the place leads to a track, and this is its record rate
pub record IsTrackAt (t : Timeline) (place : List ℕ) (rate : Rate) : Type 0 where
  pub there : place_fault place t ≡ None
  pub counts : rate ≡ rate_of t

-- the edit is one that puts this into a track; its tests up to the one of pinned lengths come to
-- what is early
abbrev pub IsPutBy : Timeline → Put → (Edit → Option EditFault) → Edit → Type 0
IsPutBy t put early e = (n : List Child)
    × IsZoned t e put.place put.slot.from put.slot.to n put.new.items put.slot.ticks (early e)

-- no test refuses the edit up to the one of pinned lengths
abbrev pub unrefused : Edit → Option EditFault
unrefused e = None

-- how much longer a list of so many ticks is with others between two instants
abbrev pub change : ℤ → ℤ → ℤ → ℤ → ℤ
change total from ticks to = ((from +ℤ ticks) +ℤ int_max (pos 0) (total -ℤ to)) -ℤ total

-- the fault of cuts that aren't whole, else another one
abbrev pub phase_by : Bool → Option EditFault → Option EditFault
phase_by whole others = test (not whole) F.Phase others

-- the edit's cuts at both ends, and then the test of pinned lengths
abbrev pub cuts_then : Timeline → Edit → ℤ → ℤ → Option EditFault
cuts_then t e a b = phase_by (cuts_ends (list_of t e) a b) (pin_fault t e)

abbrev pub cut_fault : Timeline → Slot → Edit → Option EditFault
cut_fault t slot e = cuts_then t e slot.from slot.to

-- what comes in place of an item of so many ticks that is removed
abbrev pub in_place : RemoveMode → ℤ → List Child
in_place R.Gap n = new_gap n ∷ []
in_place R.Close n = []

-- and how long it is
abbrev pub in_place_ticks : RemoveMode → ℤ → ℤ
in_place_ticks R.Gap n = n
in_place_ticks R.Close n = pos 0

-- why an item doesn't fill a gap of so many ticks, else another fault
abbrev pub misfit : FillMode → ItemOf Listed → ℤ → Option EditFault → Option EditFault
misfit mode x room others = test (is_wrong mode x room) F.Speed
    (phase_by (cuts_filling mode x room) others)

-- why an item doesn't fill a gap, as the fault of its edit
abbrev pub told : FillFault → EditFault
told G.Speed = F.Speed
told G.Phase = F.Phase
told G.Memory = F.Memory
