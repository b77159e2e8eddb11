use Rattle.std.proofs.Common.{take, arith}
use Rattle.otio_model.specs.Trees.{items_of}
use Rattle.coord.proofs.JudgingLemmas.{sound_child}
use Rattle.coord.proofs.Members.{child_few, index_few}
use Rattle.edl_conform.specs.Stated.{stated_job}
use Rattle.edl_conform.proofs.RootSteps.{comes_on, root_stops}
use Rattle.edl_conform.proofs.events_from_tracks.gather.Goals as goal

pub overflow_cast-at : goal.overflow_cast-at
overflow_cast-at c =
    let k = index_few c.args.tracks.now c.tracks.index (omega arith) c.requires.few in
    omega (arith, k)

pub put_root-requires-clause-few : goal.put_root-requires-clause-few
put_root-requires-clause-few c =
    child_few c.args.tracks.now c.tracks.index c.child.result.now c.child.ensures c.requires.few

pub put_root-requires-clause-sound : goal.put_root-requires-clause-sound
put_root-requires-clause-sound c =
    sound_child c.args.tracks.now c.tracks.index c.child.result.now c.child.ensures
    c.requires.sound

pub returns-in-Err-clause-refused : goal.returns-in-Err-clause-refused
returns-in-Err-clause-refused c =
    let items = items_of c.args.tracks.now in
    root_stops (stated_job c.args.job.now) items c.tracks.index c.child.result.now c.tracks.taken
    c.tracks.events.items c.in-Err.fault c.child.ensures c.tracks.invariant
    (c.in-Err.ensures.refused (take c.tracks.index items) c.tracks.invariant.taken_is)

pub tracks-preserved : goal.tracks-preserved
tracks-preserved c =
    let items = items_of c.args.tracks.now in
    comes_on (stated_job c.args.job.now) items c.tracks.index c.child.result.now c.tracks.taken
    c.in-Ok.next c.tracks.events.items c.put_root.new.events.items c.child.ensures
    c.tracks.invariant
    (c.in-Ok.ensures.added (take c.tracks.index items) c.tracks.invariant.taken_is)
