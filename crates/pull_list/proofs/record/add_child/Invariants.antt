-- The frames that the item shows at the record frames so far were taken in, and the part shows the
-- frames of the item from here on.
use Rattle.std.proofs.Common.{◌≡◌, pos, ◌*ℤ◌}
use Rattle.pull_list.specs.Found.{AddsChild}
use Rattle.pull_list.specs.Parts.{IsPart}
use Rattle.pull_list.proofs.record.add_child.Given as goal

abbrev pub invariant-frames : goal.invariant-frames
invariant-frames l = record {
  groups : l.used.groups ≡ l.initial.used.groups;
  adds : AddsChild l.initial.used.groups l.item l.ticks l.frame l.initial.used.runs.items l.used.runs.items;
  part : IsPart l.item (pos l.frame *ℤ pos l.ticks) l.part;
}
