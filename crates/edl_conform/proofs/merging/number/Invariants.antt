-- The events so far have their places as lines.
use Rattle.std.proofs.Common.{◌≡◌, ◌+◌, ◌<◌, ℕ, map, get_or}
use Rattle.edl_list.specs.declared.list.Event.{Event}
use Rattle.edl_frames.specs.ChildEvents.{unnumbered}
use Rattle.edl_conform.proofs.merging.number.Given as goal

abbrev pub invariant-events : goal.invariant-events
invariant-events l = record {
  same : map unnumbered l.events ≡ map unnumbered l.initial.events;
  lines : (k : ℕ) (d : Event) → k < l.index → (get_or l.events k d).line ≡ k + 1;
}
