use Rattle.std.proofs.Common.{ap, ◌∙◌, ◌++◌, ◌∷◌, []}
use Rattle.pull_list.proofs.PutRuns.{puts_after, puts_joined}
use Rattle.pull_list.proofs.runs.put_after.Goals as goal

pub returns-then-does_continue : goal.returns-then-does_continue
returns-then-does_continue c =
    puts_joined c.args.runs.now.items c.push.new.self.items c.args.last c.args.run c.joined.result
    c.in_ok-push.ensures.items c.joined.ensures.group c.joined.ensures.first c.joined.ensures.past
    (c.does_continue.ensures c.if-does_continue.true)

pub returns : goal.returns
returns c =
    puts_after (c.args.runs.now.items ++ c.args.last ∷ []) c.push-3.new.self.items c.args.run
    (c.in_ok-push-3.ensures.items ∙ ap (λ xs. xs ++ c.args.run ∷ []) c.in_ok-push-2.ensures.items)
