use Rattle.edit_script.proofs.Changes.{changed, roomier}
use Rattle.edit_script.proofs.steps.commit.Goals as goal

pub returns-in-Ok-clause-done : goal.returns-in-Ok-clause-done
returns-in-Ok-clause-done c = λ media act i.
    changed media act c.args.log.now c.room_commit.new.self c.commit.new.self c.args.timeline.now
    c.room_commit.new.timeline c.commit.new.timeline c.args.patch c.requires.ready
    c.room_commit.ensures.log c.room_commit.ensures.timeline c.commit.ensures.kept
    c.commit.ensures.state c.commit.ensures.past c.commit.ensures.future i

pub returns-in-Err-clause-same : goal.returns-in-Err-clause-same
returns-in-Err-clause-same c =
    roomier c.args.log.now c.room_commit.new.self c.args.timeline.now c.room_commit.new.timeline
    c.room_commit.ensures.log c.room_commit.ensures.timeline c.requires.ready
