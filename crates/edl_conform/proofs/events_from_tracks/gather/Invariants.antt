-- The root children so far have come.
use Rattle.otio_model.specs.Trees.{items_of}
use Rattle.edl_conform.specs.Stated.{stated_job}
use Rattle.edl_conform.specs.Walk.{HasCome}
use Rattle.edl_conform.proofs.events_from_tracks.gather.Given as goal

abbrev pub invariant-tracks : goal.invariant-tracks
invariant-tracks l =
    HasCome (stated_job l.job) (items_of l.tracks) l.index l.taken l.events.items
