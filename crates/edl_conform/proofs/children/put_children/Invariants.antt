-- The children so far have come.
use Rattle.std.proofs.Common.{◌≡◌, pos}
use Rattle.otio_model.specs.Trees.{items_of}
use Rattle.otio_model.specs.Lengths.{start_of}
use Rattle.edl_conform.specs.declared.child_context.Past.{Past}
use Rattle.edl_conform.specs.Seated.{IsPast}
use Rattle.edl_conform.specs.Stated.{stated_job, stated_past}
use Rattle.edl_conform.specs.Walk.{IsWalking}
use Rattle.edl_conform.proofs.children.put_children.Given as goal

abbrev pub invariant-children : goal.invariant-children
invariant-children l =
    let past : Past = record { item = l.past.0; lap = l.past.1.0; low = l.past.1.1.0 } in
    record {
      way : IsWalking (stated_job l.job) l.channel (items_of l.children) l.index l.start
          (stated_past past) l.initial.events.items l.events.items;
      start : l.start ≡ pos (start_of l.children l.index);
      past : IsPast l.job.ticks past;
    }
