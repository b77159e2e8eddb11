use Rattle.std.proofs.Common.{sym}
use Rattle.coord.proofs.Members.{child_few}
use Rattle.edit_plans.proofs.WaySteps.{root_sound}
use Rattle.edit_plans.proofs.enclosing_items.is_way_long.Goals as goal

pub way_ticks-requires-clause-few : goal.way_ticks-requires-clause-few
way_ticks-requires-clause-few c = child_few c.args.timeline.now.tracks.children c.in-Some.first
    c.in-Some-item.item.now (sym c.in-Some-item.ensures) c.requires.few

pub way_ticks-requires-clause-sound : goal.way_ticks-requires-clause-sound
way_ticks-requires-clause-sound c = root_sound c.in-Some.first c.args.timeline.now.tracks.children
    c.in-Some-item.item.now (sym c.in-Some-item.ensures) c.requires.sound
