use Rattle.std.proofs.Common.{refl}
use Rattle.std.specs.Option.{option_copied}
use Rattle.edits.specs.After.{rate_of}
use Rattle.edit_script.proofs.CommandLemmas.{edges-left, planned, refusal}
use Rattle.edit_script.proofs.steps.plan.Goals as goal

pub plan_list-requires-clause-item : goal.plan_list-requires-clause-item
plan_list-requires-clause-item c = rw c.in-Ok-Some.field-0-is at c.in-Ok-Some.ensures.item

pub plan_list-requires-clause-group : goal.plan_list-requires-clause-group
plan_list-requires-clause-group c = rw c.in-Ok-Some.field-0-is at c.in-Ok-Some.ensures.group

pub plan_trim-requires-clause-group : goal.plan_trim-requires-clause-group
plan_trim-requires-clause-group c =
    rw c.in-Ok-Some-edge_edit_of.field-0-is at c.in-Ok-Some-edge_edit_of.ensures.group

pub unreachable-requires : goal.unreachable-requires
unreachable-requires c =
    (rw c.in-Ok-None-edge_edit_of.field-0-is at c.in-Ok-None-edge_edit_of.ensures.none)
    (edges-left _ (rw c.in-Ok-None.field-0-is at c.in-Ok-None.ensures.none) c.requires.back
    c.requires.forth)

pub returns-in-Ok-Some-clause-plan : goal.returns-in-Ok-Some-clause-plan
returns-in-Ok-Some-clause-plan c =
    planned (option_copied c.args.media) c.args.act.now c.args.timeline.now c.in-Ok-Some.edit
    c.edit_rate.result c.plan_list.result c.edit_rate.ensures c.requires.listed c.requires.near
    (rw c.in-Ok-Some.field-0-is at c.in-Ok-Some.ensures.edit) c.plan_list.ensures.plan

pub returns-in-Ok-Some-clause-fault : goal.returns-in-Ok-Some-clause-fault
returns-in-Ok-Some-clause-fault c =
    refusal (option_copied c.args.media) c.args.act.now c.args.timeline.now c.in-Ok-Some.edit
    c.edit_rate.result c.plan_list.result c.edit_rate.ensures c.requires.listed c.requires.near
    (rw c.in-Ok-Some.field-0-is at c.in-Ok-Some.ensures.edit) c.plan_list.ensures.fault

pub returns-in-Ok-Some-edge_edit_of-clause-plan : goal.returns-in-Ok-Some-edge_edit_of-clause-plan
returns-in-Ok-Some-edge_edit_of-clause-plan c =
    let e = c.in-Ok-Some-edge_edit_of in
    let r = rate_of c.args.timeline.now in
    planned (option_copied c.args.media) c.args.act.now c.args.timeline.now e.edit r
    c.plan_trim.result refl c.requires.listed c.requires.near
    ((rw e.field-0-is at e.ensures.edit) r (option_copied c.args.media)) c.plan_trim.ensures.plan

pub returns-in-Ok-Some-edge_edit_of-clause-fault : goal.returns-in-Ok-Some-edge_edit_of-clause-fault
returns-in-Ok-Some-edge_edit_of-clause-fault c =
    let e = c.in-Ok-Some-edge_edit_of in
    let r = rate_of c.args.timeline.now in
    refusal (option_copied c.args.media) c.args.act.now c.args.timeline.now e.edit r
    c.plan_trim.result refl c.requires.listed c.requires.near
    ((rw e.field-0-is at e.ensures.edit) r (option_copied c.args.media)) c.plan_trim.ensures.fault
