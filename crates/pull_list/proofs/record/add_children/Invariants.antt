-- The frames that the root children so far show were taken in.
use Rattle.std.proofs.Common.{◌≡◌}
use Rattle.pull_list.proofs.Recording.{AddsRoots}
use Rattle.pull_list.proofs.record.add_children.Given as goal

abbrev pub invariant-children : goal.invariant-children
invariant-children l = record {
  groups : l.used.groups ≡ l.initial.used.groups;
  adds : AddsRoots l.initial.used.groups l.timeline l.ticks l.index l.initial.used.runs.items l.used.runs.items;
}
