use Rattle.std.proofs.Common.{ap, ◌∙◌, Some}
use Rattle.drill.specs.Acts.{act}
use Rattle.drill.proofs.RoundLemmas.{goes_on}
use Rattle.drill.proofs.edit_loop.run_edit.Goals as goal

pub returns-in-Ok-clause-goes : goal.returns-in-Ok-clause-goes
returns-in-Ok-clause-goes c =
    let x = c.args.random.now.state in
    let frames = c.track_frames-frames.ensures.value in
    goes_on (Some c.args.media.now) x c.act.new.self.state c.in-Ok.act c.args.edited.now.log
    c.try_act.new.log c.args.edited.now.timeline c.try_act.new.timeline c.try_act.result
    (c.in-Ok.ensures.act ∙ ap (λ f. (act f x).act) frames)
    (c.in-Ok.ensures.state ∙ ap (λ f. (act f x).state) frames) c.try_act.ensures.tried
