-- The children so far have come.
use Rattle.std.proofs.Common.{◌≡◌, pos}
use Rattle.otio_model.specs.Trees.{items_of}
use Rattle.otio_model.specs.Lengths.{start_of}
use Rattle.edl_conform.specs.declared.child_context.Past.{Past}
use Rattle.edl_conform.specs.Seated.{IsOpenPast}
use Rattle.edl_conform.specs.Stated.{stated_past}
use Rattle.edl_conform.proofs.GiverSteps.{ArePut}
use Rattle.edl_conform.proofs.event_homes.put_spots.Given as goal

abbrev pub invariant-children : goal.invariant-children
invariant-children l =
    let past : Past = record { item = l.past.0; lap = l.past.1.0; low = l.past.1.1.0 } in
    record {
      way : ArePut l.track (items_of l.children) l.index l.start (stated_past past)
          l.initial.spots.items l.spots.items;
      start : l.start ≡ pos (start_of l.children l.index);
      past : IsOpenPast past;
    }
