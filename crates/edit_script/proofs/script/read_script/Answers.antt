use Rattle.std.proofs.Common.{inr, arith}
use Rattle.edit_script.proofs.LineByLine.{are_few, are_many}
use Rattle.edit_script.proofs.script.read_script.Goals as goal

pub returns-clause-fault : goal.returns-clause-fault
returns-clause-fault c =
    let many = rw c.if-are_few.false at c.are_few.ensures in
    inr (are_many c.args.bytes.now c.in_ok-commands.commands.items (omega arith)
    c.in_ok-commands.ensures.kept (omega arith))

pub returns-then-are_few-clause-script : goal.returns-then-are_few-clause-script
returns-then-are_few-clause-script c =
    let few = rw c.if-are_few.true at c.are_few.ensures in
    are_few c.args.bytes.now c.in_ok-commands.commands.items (omega arith)
    c.in_ok-commands.ensures.kept (omega arith)
