use Rattle.std.proofs.Common.{ap, ◌∙◌}
use Rattle.text_lines.specs.Lines.{without_return}
use Rattle.ale_text.proofs.LineByLine.{goes_on, ended_wrong, last_wrong, ends_empty, ends_behind, is_empty, is_some, too_early}
use Rattle.ale_text.proofs.logs.tapes_of.Goals as goal

pub returns-in-Err-clause-fault : goal.returns-in-Err-clause-fault
returns-in-Err-clause-fault c =
    ended_wrong c.args.bytes.now c.lines.rest.now c.strip_return-line.result.now c.lines.number
    c.in-Some.end c.lines.due c.lines.tapes c.in-Err.fault c.requires c.lines.invariant
    c.in-Some.ensures (c.strip_return-line.ensures ∙ ap without_return c.before-in-Some.ensures)
    c.in-Err.ensures.fault

pub lines-preserved : goal.lines-preserved
lines-preserved c =
    goes_on c.args.bytes.now c.lines.rest.now c.after-rest.result.now c.strip_return-line.result.now
    c.lines.number c.in-Some.end c.lines.due c.in-Ok.next c.lines.tapes c.take_line.new.tapes
    c.lines.invariant c.in-Some.ensures (c.strip_return-line.ensures
    ∙ ap without_return c.before-in-Some.ensures) c.after-rest.ensures c.in-Ok.ensures.steps
    c.in-Ok.ensures.kept

pub returns-then-is_empty-clause-log : goal.returns-then-is_empty-clause-log
returns-then-is_empty-clause-log c =
    c.ended.ensures.log c.args.bytes.now
    (ends_empty c.args.bytes.now c.lines.rest.now c.lines.number c.lines.due c.lines.tapes
    c.lines.invariant c.in_default.ensures
    (is_empty c.lines.rest.now _ c.is_empty.ensures c.if-is_empty.true))

pub returns-then-is_empty-clause-fault : goal.returns-then-is_empty-clause-fault
returns-then-is_empty-clause-fault c =
    too_early c.ended.result c.args.bytes.now c.requires (c.ended.ensures.fault c.args.bytes.now
    (ends_empty c.args.bytes.now c.lines.rest.now c.lines.number c.lines.due c.lines.tapes
    c.lines.invariant c.in_default.ensures
    (is_empty c.lines.rest.now _ c.is_empty.ensures c.if-is_empty.true)))

pub returns-in-Ok-take_line-clause-log : goal.returns-in-Ok-take_line-clause-log
returns-in-Ok-take_line-clause-log c =
    c.ended-in-Ok-take_line.ensures.log c.args.bytes.now
    (ends_behind c.args.bytes.now c.lines.rest.now c.lines.number c.lines.due
    c.in-Ok-take_line.next c.lines.tapes c.take_line-2.new.tapes c.lines.invariant
    c.in_default.ensures
    (is_some c.lines.rest.now _ c.is_empty.ensures c.if-is_empty.false)
    c.in-Ok-take_line.ensures.steps)

pub returns-in-Ok-take_line-clause-fault : goal.returns-in-Ok-take_line-clause-fault
returns-in-Ok-take_line-clause-fault c =
    too_early c.ended-in-Ok-take_line.result c.args.bytes.now c.requires
    (c.ended-in-Ok-take_line.ensures.fault c.args.bytes.now
    (ends_behind c.args.bytes.now c.lines.rest.now c.lines.number c.lines.due
    c.in-Ok-take_line.next c.lines.tapes c.take_line-2.new.tapes c.lines.invariant
    c.in_default.ensures
    (is_some c.lines.rest.now _ c.is_empty.ensures c.if-is_empty.false)
    c.in-Ok-take_line.ensures.steps))

pub returns-in-Err-take_line-clause-fault : goal.returns-in-Err-take_line-clause-fault
returns-in-Err-take_line-clause-fault c =
    last_wrong c.args.bytes.now c.lines.rest.now c.lines.number c.lines.due c.lines.tapes
    c.in-Err-take_line.fault c.requires c.lines.invariant c.in_default.ensures
    (is_some c.lines.rest.now _ c.is_empty.ensures c.if-is_empty.false)
    c.in-Err-take_line.ensures.fault
