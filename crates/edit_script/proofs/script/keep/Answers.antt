use Rattle.std.proofs.Common.{arith}
use Rattle.edit_script.proofs.LineByLine.{put_last, left_out}
use Rattle.edit_script.proofs.script.keep.Goals as goal

pub returns-then-not-are_few-clause-next : goal.returns-then-not-are_few-clause-next
returns-then-not-are_few-clause-next c =
    let many = rw c.if-not-are_few.true at c.are_few.ensures in
    left_out c.args.commands.now.items c.args.command (omega arith)

pub returns-clause-next : goal.returns-clause-next
returns-clause-next c =
    let few = rw c.if-not-are_few.false at c.are_few.ensures in
    put_last c.args.commands.now.items c.push.new.self.items c.args.command (omega arith)
    c.in_ok-push.ensures.items
