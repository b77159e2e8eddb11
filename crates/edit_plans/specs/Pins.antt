-- What pins a track, by the number of indexes that lead to the item.
use Rattle.std.specs.Prelude.{ℕ, ℤ, cond, List, Option, None, option_map, take}
use Rattle.otio_model.specs.declared.timelines.Timeline.{Timeline}
use Rattle.otio_model.specs.declared.edit_types.EditFault.{EditFault}
use Rattle.otio_model.specs.declared.edit_types.EditFault.TheVariants as F
use Rattle.edits.specs.Edges.{is_zero}
use Rattle.edits.specs.Refusals.{Free, Pinned, Named, Changes, unpinned}
use Rattle.edit_plans.specs.declared.pinning.Pin.{Pin}
use Rattle.edit_plans.specs.declared.pinning.Pin.TheVariants as P

-- the same with the place of the item that isn't pinned
abbrev pub freedom : List ℕ → Pin → Free
freedom place P.Pinned = Pinned
freedom place (P.Above n) = Named (take n place)
freedom place P.Changes = Changes

-- the fault of a track at a place whose length would change by so many ticks: none where it stays,
-- or where something pins it
abbrev pub pin_by : ℤ → List ℕ → Timeline → Option EditFault
pin_by more place t = cond (is_zero more) None (option_map F.Unpinned (unpinned place t))
