-- The root children so far have come.
use Rattle.otio_model.specs.Trees.{items_of}
use Rattle.edl_conform.proofs.GiverRoots.{HavePut}
use Rattle.edl_conform.proofs.event_homes.givers_of.Given as goal

abbrev pub invariant-tracks : goal.invariant-tracks
invariant-tracks l = HavePut (items_of l.tracks) l.index l.taken l.givers
