use Rattle.drill.proofs.MadeClips.{as_start, behind_is}
use Rattle.drill.proofs.clips.start_items.Goals as goal

pub returns-in-Ok-clause-clips : goal.returns-in-Ok-clause-clips
returns-in-Ok-clause-clips c =
    as_start c.args.random.now.state c.in-Ok.made.items c.of.result c.of.ensures
    c.in-Ok.ensures.clips

pub returns-in-Ok-clause-state : goal.returns-in-Ok-clause-state
returns-in-Ok-clause-state c =
    behind_is c.args.random.now.state c.clips.new.random.state c.in-Ok.ensures.state
