-- The wide layout has a column for each reel of a well formed list.
use Rattle.std.proofs.Common.{ℕ, ℤ}
use Rattle.std.specs.Prelude.{All, IfSome}
use Rattle.edl_list.specs.declared.list.Reel.{Reel}
use Rattle.edl_list.specs.declared.list.Reel.TheVariants.{Black, Named}
use Rattle.edl_list.specs.declared.list.Side.{Side}
use Rattle.edl_list.specs.declared.list.Cross.{Cross}
use Rattle.edl_list.specs.declared.list.Cross.TheVariants.{Cut, Dissolve, Wipe}
use Rattle.edl_list.specs.declared.list.Event.{Event}
use Rattle.edl_list.specs.declared.list.EventList.{EventList}
use Rattle.edl_list.specs.Formed.{IsReel, IsCross, IsEvent, IsWellFormed}
use Rattle.edl_list.specs.Labelled.{outgoing}
use Rattle.edl_list.specs.Layouts.{wide_layout, FitsReel, FitsEvent}

reel_fits : (reel : Reel) → IsReel reel → FitsReel wide_layout reel
reel_fits Black h = tt
reel_fits (Named name) h = h.short

cross_fits : (day : ℕ) (rec_in rec_out : ℤ) (cross : Cross) → IsCross day rec_in rec_out cross
    → IfSome (outgoing cross) (λ (side : Side). FitsReel wide_layout side.reel)
cross_fits day rec_in rec_out Cut h = tt
cross_fits day rec_in rec_out (Dissolve frames from) h = reel_fits from.reel h.1.reel
cross_fits day rec_in rec_out (Wipe code frames from) h = reel_fits from.reel h.2.reel

pub event_fits : (day : ℕ) (event : Event) → IsEvent day event → FitsEvent wide_layout event
event_fits day event h = record {
  to = reel_fits event.to.reel h.to.reel;
  from = cross_fits day event.rec_in event.rec_out event.cross h.cross;
}

pub wide_fits : (list : EventList) → IsWellFormed list → All (FitsEvent wide_layout) list.events
wide_fits list w = λ i d less. event_fits _ _ (w.events i d less)
