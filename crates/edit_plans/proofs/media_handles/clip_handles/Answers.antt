use Rattle.std.proofs.Common.{rules, sym, FitsSigned}
use mir.Syntax.{w64, w128}
use Rattle.std.proofs.lemmas.Int.{to_z-of_z}
use Rattle.edit_plans.proofs.Steps.{room_is}
use Rattle.edit_plans.proofs.media_handles.clip_handles.Goals as goal

pub returns-in-Some-clause-value : goal.returns-in-Some-clause-value
returns-in-Some-clause-value c =
    let f1 : FitsSigned w128 c.start_ticks.result = search rules in
    let f2 : FitsSigned w128 c.sound_ticks.result = search rules in
    let f3 : FitsSigned w64 c.speed.result = search rules in
    room_is c.args.item.now c.in-Clip.clip c.in-Some.media c.start_ticks.result c.sound_ticks.result
    c.speed.result c.handles_in.result c.in-Clip.is (sym c.in-Some.ensures)
    c.start_ticks.ensures.value c.sound_ticks.ensures.value c.speed.ensures.value
    (simp to_z-of_z at c.handles_in.ensures.before) (simp to_z-of_z at c.handles_in.ensures.behind)
