use Rattle.std.proofs.Common.{take, arith}
use Rattle.otio_model.specs.Trees.{items_of}
use Rattle.coord.proofs.JudgingLemmas.{sound_child}
use Rattle.coord.proofs.Members.{child_few, index_few}
use Rattle.edl_conform.proofs.GiverRoots.{puts_more}
use Rattle.edl_conform.proofs.event_homes.givers_of.Goals as goal

pub overflow_cast-index : goal.overflow_cast-index
overflow_cast-index c =
    let k = index_few c.args.tracks.now c.tracks.index (omega arith) c.requires.few in
    omega (arith, k)

pub put_root-requires-clause-few : goal.put_root-requires-clause-few
put_root-requires-clause-few c =
    child_few c.args.tracks.now c.tracks.index c.child.result.now c.child.ensures c.requires.few

pub put_root-requires-clause-sound : goal.put_root-requires-clause-sound
put_root-requires-clause-sound c =
    sound_child c.args.tracks.now c.tracks.index c.child.result.now c.child.ensures
    c.requires.sound

pub tracks-preserved : goal.tracks-preserved
tracks-preserved c =
    let items = items_of c.args.tracks.now in
    puts_more items c.tracks.index c.child.result.now c.tracks.taken _ c.tracks.givers
    c.put_root.new.givers c.child.ensures c.tracks.invariant
    (c.in_ok-taken.ensures (take c.tracks.index items) c.tracks.invariant.counted)
