use Rattle.show_prog.proofs.ShowLemmas.{same_kind}
use Rattle.show_prog.proofs.SoundnessFacts.{no_fault}
use Rattle.pull_list.proofs.PartLemmas.{plain_stack, plain_track}
use Rattle.pull_list.proofs.parts.plain_children.Goals as goal

pub has_own_speed-requires : goal.has_own_speed-requires
has_own_speed-requires c = no_fault c.args.item.now c.requires

pub returns-else-ne : goal.returns-else-ne
returns-else-ne c =
    let k = same_kind c.ne.result c.as_str.result.now c.in-Track.track.kind c.args.kind.now c.ne.ensures
    c.if-ne.false c.as_str.ensures in
    plain_track c.args.item.now c.in-Track.track c.args.kind.now c.in-Track.is c.requires
    c.if-not-track.false k (c.has_own_speed.ensures c.if-not-has_own_speed.false)

pub returns-else-not-stack : goal.returns-else-not-stack
returns-else-not-stack c =
    plain_stack c.args.item.now c.in-Stack.stack c.args.kind.now c.in-Stack.is c.requires
    c.if-not-stack.false (c.has_own_speed.ensures c.if-not-has_own_speed.false)
