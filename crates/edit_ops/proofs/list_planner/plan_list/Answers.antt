use Rattle.std.proofs.Common.{FitsSigned, rules}
use mir.Syntax.{w64}
use Rattle.otio_model.specs.declared.edit_types.Edit.TheVariants as A
use Rattle.edit_ops.proofs.Answering.{answer-of_word, answer-shown, item-of_edit}
use Rattle.edit_ops.proofs.list_planner.plan_list.Goals as goal

pub plan_put-requires-clause-item : goal.plan_put-requires-clause-item
plan_put-requires-clause-item c = item-of_edit c.args.edit _ c.in-Overwrite.is c.requires.item

pub returns-in-Overwrite-clause-plan : goal.returns-in-Overwrite-clause-plan
returns-in-Overwrite-clause-plan c =
    let fits : FitsSigned w64 c.in-Overwrite.at = search rules in
    (answer-of_word c.args.timeline.now c.args.edit (λ z. A.Overwrite c.in-Overwrite.place z c.in-Overwrite.item) c.in-Overwrite.at _
    fits c.in-Overwrite.is c.plan_put.ensures).plan

pub returns-in-Overwrite-clause-law : goal.returns-in-Overwrite-clause-law
returns-in-Overwrite-clause-law c =
    let fits : FitsSigned w64 c.in-Overwrite.at = search rules in
    answer-shown c.args.timeline.now c.args.edit _ c.requires.sound c.requires.item
    (answer-of_word c.args.timeline.now c.args.edit (λ z. A.Overwrite c.in-Overwrite.place z c.in-Overwrite.item) c.in-Overwrite.at _
    fits c.in-Overwrite.is c.plan_put.ensures)

pub returns-in-Overwrite-clause-fault : goal.returns-in-Overwrite-clause-fault
returns-in-Overwrite-clause-fault c =
    let fits : FitsSigned w64 c.in-Overwrite.at = search rules in
    (answer-of_word c.args.timeline.now c.args.edit (λ z. A.Overwrite c.in-Overwrite.place z c.in-Overwrite.item) c.in-Overwrite.at _
    fits c.in-Overwrite.is c.plan_put.ensures).fault

pub plan_put-requires-in-Insert-clause-item : goal.plan_put-requires-in-Insert-clause-item
plan_put-requires-in-Insert-clause-item c = item-of_edit c.args.edit _ c.in-Insert.is c.requires.item

pub returns-in-Insert-clause-plan : goal.returns-in-Insert-clause-plan
returns-in-Insert-clause-plan c =
    let fits : FitsSigned w64 c.in-Insert.at = search rules in
    (answer-of_word c.args.timeline.now c.args.edit (λ z. A.Insert c.in-Insert.place z c.in-Insert.item) c.in-Insert.at _
    fits c.in-Insert.is c.plan_put-in-Insert.ensures).plan

pub returns-in-Insert-clause-law : goal.returns-in-Insert-clause-law
returns-in-Insert-clause-law c =
    let fits : FitsSigned w64 c.in-Insert.at = search rules in
    answer-shown c.args.timeline.now c.args.edit _ c.requires.sound c.requires.item
    (answer-of_word c.args.timeline.now c.args.edit (λ z. A.Insert c.in-Insert.place z c.in-Insert.item) c.in-Insert.at _
    fits c.in-Insert.is c.plan_put-in-Insert.ensures)

pub returns-in-Insert-clause-fault : goal.returns-in-Insert-clause-fault
returns-in-Insert-clause-fault c =
    let fits : FitsSigned w64 c.in-Insert.at = search rules in
    (answer-of_word c.args.timeline.now c.args.edit (λ z. A.Insert c.in-Insert.place z c.in-Insert.item) c.in-Insert.at _
    fits c.in-Insert.is c.plan_put-in-Insert.ensures).fault

pub returns-in-Slice-clause-plan : goal.returns-in-Slice-clause-plan
returns-in-Slice-clause-plan c =
    let fits : FitsSigned w64 c.in-Slice.at = search rules in
    (answer-of_word c.args.timeline.now c.args.edit (λ z. A.Slice c.in-Slice.place z) c.in-Slice.at _
    fits c.in-Slice.is c.plan_slice.ensures).plan

pub returns-in-Slice-clause-law : goal.returns-in-Slice-clause-law
returns-in-Slice-clause-law c =
    let fits : FitsSigned w64 c.in-Slice.at = search rules in
    answer-shown c.args.timeline.now c.args.edit _ c.requires.sound c.requires.item
    (answer-of_word c.args.timeline.now c.args.edit (λ z. A.Slice c.in-Slice.place z) c.in-Slice.at _
    fits c.in-Slice.is c.plan_slice.ensures)

pub returns-in-Slice-clause-fault : goal.returns-in-Slice-clause-fault
returns-in-Slice-clause-fault c =
    let fits : FitsSigned w64 c.in-Slice.at = search rules in
    (answer-of_word c.args.timeline.now c.args.edit (λ z. A.Slice c.in-Slice.place z) c.in-Slice.at _
    fits c.in-Slice.is c.plan_slice.ensures).fault

pub plan_fill-requires-clause-item : goal.plan_fill-requires-clause-item
plan_fill-requires-clause-item c = item-of_edit c.args.edit _ c.in-Fill.is c.requires.item

pub returns-in-Fill-clause-plan : goal.returns-in-Fill-clause-plan
returns-in-Fill-clause-plan c =
    let fits : FitsSigned w64 c.in-Fill.at = search rules in
    (answer-of_word c.args.timeline.now c.args.edit (λ z. A.Fill c.in-Fill.place z c.in-Fill.mode c.in-Fill.item) c.in-Fill.at _
    fits c.in-Fill.is c.plan_fill.ensures).plan

pub returns-in-Fill-clause-law : goal.returns-in-Fill-clause-law
returns-in-Fill-clause-law c =
    let fits : FitsSigned w64 c.in-Fill.at = search rules in
    answer-shown c.args.timeline.now c.args.edit _ c.requires.sound c.requires.item
    (answer-of_word c.args.timeline.now c.args.edit (λ z. A.Fill c.in-Fill.place z c.in-Fill.mode c.in-Fill.item) c.in-Fill.at _
    fits c.in-Fill.is c.plan_fill.ensures)

pub returns-in-Fill-clause-fault : goal.returns-in-Fill-clause-fault
returns-in-Fill-clause-fault c =
    let fits : FitsSigned w64 c.in-Fill.at = search rules in
    (answer-of_word c.args.timeline.now c.args.edit (λ z. A.Fill c.in-Fill.place z c.in-Fill.mode c.in-Fill.item) c.in-Fill.at _
    fits c.in-Fill.is c.plan_fill.ensures).fault

pub returns-in-Remove-clause-plan : goal.returns-in-Remove-clause-plan
returns-in-Remove-clause-plan c =
    let fits : FitsSigned w64 c.in-Remove.at = search rules in
    (answer-of_word c.args.timeline.now c.args.edit (λ z. A.Remove c.in-Remove.place z c.in-Remove.mode) c.in-Remove.at _
    fits c.in-Remove.is c.plan_remove.ensures).plan

pub returns-in-Remove-clause-law : goal.returns-in-Remove-clause-law
returns-in-Remove-clause-law c =
    let fits : FitsSigned w64 c.in-Remove.at = search rules in
    answer-shown c.args.timeline.now c.args.edit _ c.requires.sound c.requires.item
    (answer-of_word c.args.timeline.now c.args.edit (λ z. A.Remove c.in-Remove.place z c.in-Remove.mode) c.in-Remove.at _
    fits c.in-Remove.is c.plan_remove.ensures)

pub returns-in-Remove-clause-fault : goal.returns-in-Remove-clause-fault
returns-in-Remove-clause-fault c =
    let fits : FitsSigned w64 c.in-Remove.at = search rules in
    (answer-of_word c.args.timeline.now c.args.edit (λ z. A.Remove c.in-Remove.place z c.in-Remove.mode) c.in-Remove.at _
    fits c.in-Remove.is c.plan_remove.ensures).fault
