use Rattle.std.proofs.Common.{rules, FitsSigned}
use mir.Syntax.{w128}
use Rattle.std.proofs.lemmas.Int.{to_z-of_z}
use Rattle.otio_model.specs.Trees.{items_of}
use Rattle.edits.specs.After.{frame_of}
use Rattle.edit_trim.proofs.Planning.{found, lacks, pins, plan_is, suits, too_far}
use Rattle.edit_trim.proofs.edge_planner.planned.Goals as goal

pub returns-in-Err-clause-fault : goal.returns-in-Err-clause-fault
returns-in-Err-clause-fault c =
    let at = c.ranges.at in
    let fits : FitsSigned w128 c.frame_at.result = search rules in
    λ _. lacks c.args.timeline.now c.args.place.now c.args.at c.frame_at.result c.args.edges
    (items_of c.track_of-children.result.now) c.in-Err.fault c.track_of-children.ensures.list
    (c.frame_at.ensures.value c.args.timeline.now c.edit_rate-rate.ensures) c.requires.there
    c.requires.low (simp to_z-of_z at c.in-Err.ensures.fault)

pub returns-in-Err-pinned-clause-fault : goal.returns-in-Err-pinned-clause-fault
returns-in-Err-pinned-clause-fault c =
    let w = found c.args.timeline.now c.frame_at.result c.args.at c.args.edges
    (items_of c.track_of-children.result.now) c.in-Ok.found.seat c.in-Ok.found.motion
    (search rules) c.ranges.at
    (c.frame_at.ensures.value c.args.timeline.now c.edit_rate-rate.ensures) c.in-Ok.ensures.found in
    let fits : FitsSigned w128 c.growth.result = search rules in
    λ n. pins c.args.timeline.now c.args.place.now c.args.at c.growth.result c.args.edges
    c.in-Ok.found.seat c.in-Ok.found.motion (items_of c.track_of-children.result.now)
    c.in-Err-pinned.fault c.track_of-children.ensures.list c.requires.there c.requires.low w
    c.growth.ensures ((simp to_z-of_z at c.in-Err-pinned.ensures.fault) n)

pub planned_by-requires-clause-held : goal.planned_by-requires-clause-held
planned_by-requires-clause-held c =
    let w = found c.args.timeline.now c.frame_at.result c.args.at c.args.edges
    (items_of c.track_of-children.result.now) c.in-Ok.found.seat c.in-Ok.found.motion
    (search rules) c.ranges.at
    (c.frame_at.ensures.value c.args.timeline.now c.edit_rate-rate.ensures) c.in-Ok.ensures.found in
    suits (frame_of c.args.timeline.now) _ c.args.edges (items_of c.track_of-children.result.now)
    c.in-Ok.found.seat c.in-Ok.found.motion w

pub returns-in-Ok-planned_by-clause-plan : goal.returns-in-Ok-planned_by-clause-plan
returns-in-Ok-planned_by-clause-plan c =
    let w = found c.args.timeline.now c.frame_at.result c.args.at c.args.edges
    (items_of c.track_of-children.result.now) c.in-Ok.found.seat c.in-Ok.found.motion
    (search rules) c.ranges.at
    (c.frame_at.ensures.value c.args.timeline.now c.edit_rate-rate.ensures) c.in-Ok.ensures.found in
    let fits : FitsSigned w128 c.growth.result = search rules in
    plan_is c.args.timeline.now c.args.place.now c.args.at c.growth.result c.args.edges
    c.in-Ok.found.seat c.in-Ok.found.motion (items_of c.track_of-children.result.now)
    c.edit_rate-rate.result c.in-Ok-planned_by.made c.track_of-children.ensures.list
    c.edit_rate-rate.ensures
    c.requires.there c.requires.low w c.growth.ensures
    (simp to_z-of_z at c.in-Ok-pinned.ensures.ok) c.in-Ok-planned_by.ensures.made

pub returns-in-Err-Range-clause-fault : goal.returns-in-Err-Range-clause-fault
returns-in-Err-Range-clause-fault c =
    let w = found c.args.timeline.now c.frame_at.result c.args.at c.args.edges
    (items_of c.track_of-children.result.now) c.in-Ok.found.seat c.in-Ok.found.motion
    (search rules) c.ranges.at
    (c.frame_at.ensures.value c.args.timeline.now c.edit_rate-rate.ensures) c.in-Ok.ensures.found in
    let fits : FitsSigned w128 c.growth.result = search rules in
    λ _. too_far c.args.timeline.now c.args.place.now c.args.at c.growth.result c.args.edges
    c.in-Ok.found.seat c.in-Ok.found.motion (items_of c.track_of-children.result.now)
    c.track_of-children.ensures.list c.requires.there c.requires.low w c.growth.ensures
    (simp to_z-of_z at c.in-Ok-pinned.ensures.ok)
    (c.in-Err-Range.ensures.far c.in-Err-Range.field-0-is)
