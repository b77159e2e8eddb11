use Rattle.edit_script.specs.Scripts.{says}
use Rattle.edit_script.proofs.LineByLine.{took}
use Rattle.edit_script.proofs.script.take_line.Goals as goal

pub returns-in-Ok-Some-clause-taken : goal.returns-in-Ok-Some-clause-taken
returns-in-Ok-Some-clause-taken c =
    took c.keep.result (says c.args.number c.args.line.now) c.args.commands.now.items
    c.keep.new.commands.items c.in-Ok-Some.command
    (rw c.in-Ok-Some.field-0-is at c.in-Ok-Some.ensures.says) c.keep.ensures.next
