use Rattle.std.proofs.Common.{ap, ◌∙◌}
use Rattle.text_lines.specs.Lines.{without_return}
use Rattle.edit_script.proofs.LineByLine.{ended_wrong, goes_on, last_wrong, ends}
use Rattle.edit_script.proofs.script.commands_of.Goals as goal

pub returns-in-Err-clause-fault : goal.returns-in-Err-clause-fault
returns-in-Err-clause-fault c =
    ended_wrong c.args.bytes.now c.lines.rest.now c.strip_return.result.now c.lines.number
    c.in-Some.end c.lines.commands.items c.in-Err.fault
    c.requires c.lines.invariant c.in-Some.ensures
    (c.strip_return.ensures ∙ ap without_return c.before-in-Some.ensures) c.in-Err.ensures.fault

pub lines-preserved : goal.lines-preserved
lines-preserved c =
    goes_on c.args.bytes.now c.lines.rest.now c.after-rest.result.now c.strip_return.result.now
    c.lines.number c.in-Some.end c.lines.commands.items c.take_line.new.commands.items
    c.lines.invariant c.in-Some.ensures
    (c.strip_return.ensures ∙ ap without_return c.before-in-Some.ensures) c.after-rest.ensures
    c.in-Ok.ensures.taken

pub returns-in-Ok-take_line-clause-kept : goal.returns-in-Ok-take_line-clause-kept
returns-in-Ok-take_line-clause-kept c =
    ends c.args.bytes.now c.lines.rest.now c.lines.number c.lines.commands.items
    c.take_line-2.new.commands.items
    c.lines.invariant c.in_default.ensures c.in-Ok-take_line.ensures.taken

pub returns-in-Err-take_line-clause-fault : goal.returns-in-Err-take_line-clause-fault
returns-in-Err-take_line-clause-fault c =
    last_wrong c.args.bytes.now c.lines.rest.now c.lines.number c.lines.commands.items
    c.in-Err-take_line.fault
    c.requires c.lines.invariant c.in_default.ensures c.in-Err-take_line.ensures.fault
