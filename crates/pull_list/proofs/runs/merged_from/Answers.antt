use Rattle.std.proofs.Common.{◌∷◌, ap, ◌∙◌}
use Rattle.pull_list.proofs.Merging.{join_at, next_at}
use Rattle.pull_list.proofs.runs.merged_from.Goals as goal
use Rattle.pull_list.proofs.runs.merged_from.Goals.{then-touches, else-touches+in_ok-push}

pub runs-preserved : goal.runs-preserved
runs-preserved c =
    let l = c.runs in let more = c.args.more.now in elim c.if-touches.branch [
      | then-touches w ↦
          join_at (c.args.first ∷ more) l.all.items c.if-touches.all.items more l.last
          c.if-touches.last w.joined-last.result l.run-index _ c.runs-test.true l.invariant
          (c.touches.ensures.0 w.if-touches.true)
          w.joined-last.ensures.group w.joined-last.ensures.first w.joined-last.ensures.past
          (ap (λ a. a.items) w.all-is) w.last-is
      | else-touches+in_ok-push w ↦
          next_at (c.args.first ∷ more) l.all.items c.if-touches.all.items more l.last
          c.if-touches.last l.run-index _ c.runs-test.true l.invariant
          (λ h. let k = c.touches.ensures.1 h in let f = w.if-touches.false in cc)
          (ap (λ a. a.items) w.all-is ∙ w.in_ok-push.ensures.items) w.last-is
    ]
